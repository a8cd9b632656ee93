-- Certificates that are printable and whose numbers can be written, part by part.
use Rattle.std.proofs.Common.{◌≡◌, ◌≢◌, ℕ, ◌+◌, ◌⊎◌, inl, inr, true, false, refl, ap, List, [], ◌∷◌, length}
use Rattle.std.specs.Prelude.{All, IsTrue, not, nat_eq}
use Rattle.std.proofs.lemmas.List.Elements.{All-nil, All-cons, All-head, All-tail, All-weaker}
use Rattle.inst_logic.specs.Tree.{Tree}
use Rattle.inst_logic.specs.Clauses.{TreeClause}
use Rattle.inst_logic.specs.WellFormed.{is_constant}
use Rattle.inst_logic.specs.Printing.{is_readable_name}
use Rattle.inst_calculus.specs.Entries.{Entry}
use Rattle.inst_calculus.specs.Steps.{Step}
use Rattle.cert_format.specs.Certificate.{Base, FirstRefutation, GroundLine, Refutation, Saturation, By, Cover, Covered, Certificate, first_refutation, refutation, saturation, covered, base_of}
use Rattle.inst_calculus.specs.Entries.{Origin, input, inst, lemma}
use Rattle.cert_format.specs.Validity.{IsFirstOrigin}
use Rattle.cert_format.specs.LineMachine.{fits_origin}
use Rattle.cert_format.specs.Formats.{is_known}
use Rattle.cert_format.specs.Printable.{IsNumber, HasNumbers, cited_number, IsPrintableClause, IsPrintableBase, IsPrintableStep, ClauseFits, EntryFits, StepFits, BaseFits, ArePrintableTerms, IsPrintableLine, IsPrintableBy, IsPrintableCover, LineFits, ByFits, CoverFits, HasFormat, HasPrintableParts, NumbersFit, IsPrintable}
use Rattle.cert_format.proofs.ClauseForms.{IsWritableClause}

pub record IsWritableEntry (e : Entry) : Type 0 where
  pub clause : IsWritableClause e.clause
  pub origin : HasNumbers e.origin

pub record IsWritableBase (b : Base) : Type 0 where
  pub inputs : All IsWritableClause b.inputs
  pub named : length b.names ≡ length b.inputs
  pub names : All (λ n. IsTrue (is_readable_name n)) b.names
  pub axioms : All IsWritableClause b.axioms
  pub members : All IsWritableEntry b.members
  pub input_count : IsNumber (length b.inputs)
  pub axiom_count : IsNumber (length b.axioms)
  pub member_count : IsNumber (length b.members)

pub record IsWritableStep (s : Step Tree) : Type 0 where
  pub clause : IsWritableClause s.clause
  pub hinted : s.hints ≢ []
  pub hints : All (λ h. IsNumber (cited_number h)) s.hints

pub record IsWritableRefutation (c : FirstRefutation) : Type 0 where
  pub base : IsWritableBase c.base
  pub constant : IsTrue (is_constant c.bot)
  pub bot_name : IsTrue (is_readable_name c.bot.name)
  pub grounds : All IsWritableClause c.grounds
  pub steps : All IsWritableStep c.steps
  pub ground_count : IsNumber (length c.grounds)
  pub step_count : IsNumber (length c.steps)

pub record IsWritableSaturation (c : Saturation) : Type 0 where
  pub base : IsWritableBase c.base
  pub placed : length c.places ≡ length c.base.members
  pub places : All IsNumber c.places

pub record IsWritableLine (g : GroundLine) : Type 0 where
  pub clause : IsWritableClause g.clause
  pub input : IsNumber g.input
  pub terms : ArePrintableTerms g.terms

pub record IsWritableByLines (c : Refutation) : Type 0 where
  pub base : IsWritableBase c.base
  pub constant : IsTrue (is_constant c.bot)
  pub bot_name : IsTrue (is_readable_name c.bot.name)
  pub grounds : All IsWritableLine c.grounds
  pub steps : All IsWritableStep c.steps
  pub ground_count : IsNumber (length c.grounds)
  pub step_count : IsNumber (length c.steps)

pub record IsWritableBy (b : By) : Type 0 where
  pub printable : IsPrintableBy b
  pub numbers : ByFits b

pub record IsWritableCover (v : Cover) : Type 0 where
  pub left : IsNumber v.left
  pub right : IsNumber v.right
  pub clause : IsWritableClause v.clause
  pub by : IsWritableBy v.by

pub record IsWritableCovered (c : Covered) : Type 0 where
  pub saturation : IsWritableSaturation c.saturation
  pub each : length c.shown ≡ length c.saturation.base.inputs + length c.saturation.base.axioms
  pub shown : All IsWritableBy c.shown
  pub covers : All IsWritableCover c.covers
  pub shown_count : IsNumber (length c.shown)
  pub cover_count : IsNumber (length c.covers)

abbrev pub IsWritable : Certificate → Type 0
IsWritable (first_refutation r) = IsWritableRefutation r
IsWritable (refutation r) = IsWritableByLines r
IsWritable (saturation s) = IsWritableSaturation s
IsWritable (covered c) = IsWritableCovered c

-- ---- both facts of each item

both : {A : Type 0} (P Q R : A → Type 0) → ((x : A) → P x → Q x → R x) → (xs : List A) → All P xs → All Q xs → All R xs
both P Q R f [] h k = All-nil R
both P Q R f (x ∷ xs) h k = All-cons R x xs (f x (All-head P x xs h) (All-head Q x xs k)) (both P Q R f xs (All-tail P x xs h) (All-tail Q x xs k))

clause_both : (c : TreeClause) → IsPrintableClause c → ClauseFits c → IsWritableClause c
clause_both c p n = record { printable = p; numbers = n }

clauses_both : (cs : List TreeClause) → All IsPrintableClause cs → All ClauseFits cs → All IsWritableClause cs
clauses_both cs = both IsPrintableClause ClauseFits IsWritableClause clause_both cs

base_both : (b : Base) → IsPrintableBase b → BaseFits b → IsWritableBase b
base_both b p n = record {
  inputs = clauses_both b.inputs p.inputs n.inputs;
  named = p.named;
  names = p.names;
  axioms = clauses_both b.axioms p.axioms n.axioms;
  members = both (λ (e : Entry). IsPrintableClause e.clause) EntryFits IsWritableEntry (λ e q m. record { clause = clause_both e.clause q m.clause; origin = m.origin }) b.members p.members n.members;
  input_count = n.input_count;
  axiom_count = n.axiom_count;
  member_count = n.member_count;
}

pub writable : (c : Certificate) → HasPrintableParts c → NumbersFit c → IsWritable c
writable (first_refutation c) p n = record {
  base = base_both c.base p.base n.base;
  constant = p.constant;
  bot_name = p.bot_name;
  grounds = clauses_both c.grounds p.grounds n.grounds;
  steps = both IsPrintableStep StepFits IsWritableStep (λ s q m. record { clause = clause_both s.clause q.clause m.clause; hinted = q.hinted; hints = m.hints }) c.steps p.steps n.steps;
  ground_count = n.ground_count;
  step_count = n.step_count;
}
writable (refutation c) p n = record {
  base = base_both c.base p.base n.base;
  constant = p.constant;
  bot_name = p.bot_name;
  grounds = both IsPrintableLine LineFits IsWritableLine (λ g q m. record { clause = clause_both g.clause q.clause m.clause; input = m.input; terms = q.terms }) c.grounds p.grounds n.grounds;
  steps = both IsPrintableStep StepFits IsWritableStep (λ s q m. record { clause = clause_both s.clause q.clause m.clause; hinted = q.hinted; hints = m.hints }) c.steps p.steps n.steps;
  ground_count = n.ground_count;
  step_count = n.step_count;
}
writable (saturation c) p n = record { base = base_both c.base p.base n.base; placed = p.placed; places = n.places }
writable (covered c) p n = record {
  saturation = record { base = base_both c.saturation.base p.saturation.base n.saturation.base; placed = p.saturation.placed; places = n.saturation.places };
  each = p.each;
  shown = both IsPrintableBy ByFits IsWritableBy (λ b q m. record { printable = q; numbers = m }) c.shown p.shown n.shown;
  covers = both IsPrintableCover CoverFits IsWritableCover (λ v q m. record { left = m.left; right = m.right; clause = clause_both v.clause q.clause m.clause; by = record { printable = q.by; numbers = m.by } }) c.covers p.covers n.covers;
  shown_count = n.shown_count;
  cover_count = n.cover_count;
}

-- ---- and each of the two

clauses_printable : (cs : List TreeClause) → All IsWritableClause cs → All IsPrintableClause cs
clauses_printable cs h = All-weaker IsWritableClause IsPrintableClause (λ c w. w.printable) cs h

clauses_fit : (cs : List TreeClause) → All IsWritableClause cs → All ClauseFits cs
clauses_fit cs h = All-weaker IsWritableClause ClauseFits (λ c w. w.numbers) cs h

base_printable : (b : Base) → IsWritableBase b → IsPrintableBase b
base_printable b w = record {
  inputs = clauses_printable b.inputs w.inputs;
  named = w.named;
  names = w.names;
  axioms = clauses_printable b.axioms w.axioms;
  members = All-weaker IsWritableEntry (λ (e : Entry). IsPrintableClause e.clause) (λ e v. v.clause.printable) b.members w.members;
}

base_fits : (b : Base) → IsWritableBase b → BaseFits b
base_fits b w = record {
  inputs = clauses_fit b.inputs w.inputs;
  axioms = clauses_fit b.axioms w.axioms;
  members = All-weaker IsWritableEntry EntryFits (λ e v. record { clause = v.clause.numbers; origin = v.origin }) b.members w.members;
  input_count = w.input_count;
  axiom_count = w.axiom_count;
  member_count = w.member_count;
}

steps_printable : (ss : List (Step Tree)) → All IsWritableStep ss → All IsPrintableStep ss
steps_printable ss h = All-weaker IsWritableStep IsPrintableStep (λ s v. record { clause = v.clause.printable; hinted = v.hinted }) ss h

steps_fit : (ss : List (Step Tree)) → All IsWritableStep ss → All StepFits ss
steps_fit ss h = All-weaker IsWritableStep StepFits (λ s v. record { clause = v.clause.numbers; hints = v.hints }) ss h

pub printable : (f : ℕ) (c : Certificate) → HasFormat f c → IsWritable c → IsPrintable f c
printable f (first_refutation c) k w = record {
  known = k;
  parts = record { base = base_printable c.base w.base; constant = w.constant; bot_name = w.bot_name; grounds = clauses_printable c.grounds w.grounds; steps = steps_printable c.steps w.steps };
  numbers = record { base = base_fits c.base w.base; grounds = clauses_fit c.grounds w.grounds; steps = steps_fit c.steps w.steps; ground_count = w.ground_count; step_count = w.step_count };
}
printable f (refutation c) k w = record {
  known = k;
  parts = record {
    base = base_printable c.base w.base;
    constant = w.constant;
    bot_name = w.bot_name;
    grounds = All-weaker IsWritableLine IsPrintableLine (λ g v. record { clause = v.clause.printable; terms = v.terms }) c.grounds w.grounds;
    steps = steps_printable c.steps w.steps;
  };
  numbers = record {
    base = base_fits c.base w.base;
    grounds = All-weaker IsWritableLine LineFits (λ g v. record { clause = v.clause.numbers; input = v.input }) c.grounds w.grounds;
    steps = steps_fit c.steps w.steps;
    ground_count = w.ground_count;
    step_count = w.step_count;
  };
}
printable f (saturation c) k w = record {
  known = k;
  parts = record { base = base_printable c.base w.base; placed = w.placed };
  numbers = record { base = base_fits c.base w.base; places = w.places };
}
printable f (covered c) k w = record {
  known = k;
  parts = record {
    saturation = record { base = base_printable c.saturation.base w.saturation.base; placed = w.saturation.placed };
    each = w.each;
    shown = All-weaker IsWritableBy IsPrintableBy (λ b v. v.printable) c.shown w.shown;
    covers = All-weaker IsWritableCover IsPrintableCover (λ v x. record { clause = x.clause.printable; by = x.by.printable }) c.covers w.covers;
  };
  numbers = record {
    saturation = record { base = base_fits c.saturation.base w.saturation.base; places = w.saturation.places };
    shown = All-weaker IsWritableBy ByFits (λ b v. v.numbers) c.shown w.shown;
    covers = All-weaker IsWritableCover CoverFits (λ v x. record { left = x.left; right = x.right; clause = x.clause.numbers; by = x.by.numbers }) c.covers w.covers;
    shown_count = w.shown_count;
    cover_count = w.cover_count;
  };
}

-- ---- formats

first_origin_fits : (f : ℕ) (o : Origin) → IsFirstOrigin o → fits_origin f o ≡ true
first_origin_fits f (input k) h = refl
first_origin_fits f (inst from place partner other) h = refl
first_origin_fits f (lemma from place partner other keep premises) h = absurd h

later_origin_fits : (f : ℕ) → nat_eq f 1 ≡ false → (o : Origin) → fits_origin f o ≡ true
later_origin_fits f e (input k) = refl
later_origin_fits f e (inst from place partner other) = refl
later_origin_fits f e (lemma from place partner other keep premises) = ap not e

pub later_two : (f : ℕ) → (f ≡ 2) ⊎ (f ≡ 3) → nat_eq f 1 ≡ false
later_two f (inl e) = ap (λ (k : ℕ). nat_eq k 1) e
later_two f (inr e) = ap (λ (k : ℕ). nat_eq k 1) e

abbrev pub OriginsFit : ℕ → List Entry → Type 0
OriginsFit f es = All (λ e. fits_origin f e.origin ≡ true) es

first_origins : (f : ℕ) (es : List Entry) → All (λ e. IsFirstOrigin e.origin) es → OriginsFit f es
first_origins f es h = All-weaker (λ (e : Entry). IsFirstOrigin e.origin) (λ (e : Entry). fits_origin f e.origin ≡ true) (λ e k. first_origin_fits f e.origin k) es h

later_origins : (f : ℕ) → nat_eq f 1 ≡ false → (es : List Entry) → OriginsFit f es
later_origins f e [] = All-nil (λ (x : Entry). fits_origin f x.origin ≡ true)
later_origins f e (x ∷ es) = All-cons (λ (x : Entry). fits_origin f x.origin ≡ true) x es (later_origin_fits f e x.origin) (later_origins f e es)

-- the format has the origins of the members
pub origins_fit : (f : ℕ) (v : Certificate) → HasFormat f v → OriginsFit f (base_of v).members
origins_fit f (first_refutation r) (e, h) = first_origins f r.base.members h
origins_fit f (refutation r) h = later_origins f (later_two f h) r.base.members
origins_fit f (saturation s) (inl (e, h)) = first_origins f s.base.members h
origins_fit f (saturation s) (inr e) = later_origins f (later_two f (inl e)) s.base.members
origins_fit f (covered c) e = later_origins f (later_two f (inr e)) c.saturation.base.members

-- the formats of certificates are read
pub format_is_known : (f : ℕ) (v : Certificate) → HasFormat f v → is_known f ≡ true
format_is_known f (first_refutation r) (e, h) = ap is_known e
format_is_known f (refutation r) (inl e) = ap is_known e
format_is_known f (refutation r) (inr e) = ap is_known e
format_is_known f (saturation s) (inl (e, h)) = ap is_known e
format_is_known f (saturation s) (inr e) = ap is_known e
format_is_known f (covered c) e = ap is_known e
