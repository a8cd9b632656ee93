-- Parts of conclusions: the literals that are kept, and entries that are made of them.
use Rattle.std.proofs.Common.{◌≡◌, ℕ, zero, suc, ◌<◌, ◌≤◌, List, [], ◌∷◌, ◌++◌, inl, refl, sym, ap, ◌∙◌, subst as transport, map, length, arith, Contains, Option, Some, None, true}
use Rattle.std.specs.List.{cons_option}
use Rattle.std.specs.Prelude.{option_map}
use Rattle.std.proofs.lemmas.List.Elements.{filter_map-append}
use Rattle.inst_logic.specs.declared.signed.Signed.{Signed}
use Rattle.inst_logic.specs.Tree.{var}
use Rattle.inst_logic.specs.Clauses.{TreeClause, instance, numbered, order_of, canonical_form, IsCanonical, Subsumes}
use Rattle.inst_logic.specs.Derivations.{at_number}
use Rattle.inst_logic.specs.WellFormed.{IsAtom}
use Rattle.inst_logic.proofs.Formed.{canonical_is_formed}
use Rattle.inst_logic.proofs.ShownLaws.{at_number_contains}
use Rattle.inst_calculus.specs.Parts.{IsProperPart, chosen}
use Rattle.inst_calculus.specs.Saturation.{IsCovered, shorter}
use Rattle.inst_calculus.proofs.CanonicalForms.{canonical_of_canonical}
use Rattle.inst_calculus.proofs.Clauses.{length_instance}
use Rattle.inst_calculus.proofs.Instances.{canonical_subsumes}
use Rattle.inst_calculus.proofs.Membership.{◌∈◌, contains_in, in_contains, all_in, in_all, in_map, in_right}
use Rattle.inst_calculus.proofs.ProperParts.{chosen_literal, from_chosen, part_is_shorter}
use Rattle.inst_calculus.proofs.StepLaws.{at_number_map}
use Rattle.term_bank.specs.Forest.{Forest, Extends, IsClauseOf, IsClauseAt, clause_at, literal_tree, tree_at}
use Rattle.term_bank.proofs.Clauses.{clause_extends}
use Rattle.term_bank.proofs.Growth.{extends_trans}
use Rattle.cert_values.specs.declared.member.Origin.{Origin}
use Rattle.cert_values.specs.Wholes.{IsWholeClause}
use Rattle.instgen_run.specs.declared.state.Run.{Run}
use Rattle.instgen_run.specs.Clauses.{Item, AreEntries, clauses_in}
use Rattle.instgen_run.specs.Loops.{Appends}
use Rattle.instgen_run.specs.Running.{Reads}
use Rattle.instgen_run.proofs.Grown.{whole_at}
use Rattle.instgen_run.proofs.Inferred.{from_clause_at, length_at}

-- Literals at places

pub chosen_push : {X : Type 0} (xs : List X) (ns : List ℕ) (n : ℕ) (x : X) → at_number xs n ≡ Some x → chosen xs (ns ++ n ∷ []) ≡ chosen xs ns ++ x ∷ []
chosen_push {X} xs ns n x e = filter_map-append (at_number xs) ns (n ∷ []) ∙ ap (λ (o : Option X). chosen xs ns ++ cons_option o []) e

pub chosen_map : {A B : Type 0} (f : A → B) (xs : List A) (ns : List ℕ) → chosen (map f xs) ns ≡ map f (chosen xs ns)
chosen_map f xs [] = refl
chosen_map {A} {B} f xs (n ∷ ns) =
    ap (λ (o : Option B). cons_option o (chosen (map f xs) ns)) (at_number_map f xs n) ∙ ap (λ ys. cons_option (option_map f (at_number xs n)) ys) (chosen_map f xs ns) ∙ mapped (at_number xs n) (chosen xs ns)
  where
    mapped : (o : Option A) (ys : List A) → cons_option (option_map f o) (map f ys) ≡ map f (cons_option o ys)
    mapped None ys = refl
    mapped (Some x) ys = refl

-- The part of a clause of the bank in canonical form

pub same_part : (f : Forest) (c : List (Signed ℕ)) (keep : List ℕ) → IsProperPart (length (clause_at f c)) keep → IsProperPart (length c) keep
same_part f c keep h = transport (λ n. IsProperPart n keep) (length_at f c) h

pub same_part_back : (f : Forest) (c : List (Signed ℕ)) (keep : List ℕ) → IsProperPart (length c) keep → IsProperPart (length (clause_at f c)) keep
same_part_back f c keep h = transport (λ n. IsProperPart n keep) (sym (length_at f c)) h

pub kept_whole : (f : Forest) (c : List (Signed ℕ)) (keep : List ℕ) → IsWholeClause f c → IsWholeClause f (chosen c keep)
kept_whole f c keep h = record {
  ids = in_all (λ (l : Signed ℕ). l.atom < length f.trees) (chosen c keep) (λ l i. all_in (λ (l : Signed ℕ). l.atom < length f.trees) c h.ids l (among l i));
  atoms = in_all (λ (l : Signed ℕ). IsAtom (tree_at f l.atom)) (chosen c keep) (λ l i. all_in (λ (l : Signed ℕ). IsAtom (tree_at f l.atom)) c h.atoms l (among l i));
}
  where
    among : (l : Signed ℕ) → l ∈ chosen c keep → l ∈ c
    among l i = let (n, j, e) = from_chosen c keep l i in contains_in l c (at_number_contains c n l e)

module _ (f g : Forest) (c kept d : List (Signed ℕ)) (keep : List ℕ) (is : kept ≡ chosen c keep) (made : IsClauseAt g d (canonical_form (clause_at f kept))) where
  pub part_is : clause_at g d ≡ canonical_form (chosen (clause_at f c) keep)
  part_is = made.1 ∙ ap (λ xs. canonical_form (clause_at f xs)) is ∙ ap canonical_form (sym (chosen_map (literal_tree f) c keep))

  pub part_canonical : IsCanonical (clause_at g d)
  part_canonical = transport IsCanonical (sym made.1) (canonical_of_canonical (clause_at f kept))

  pub part_whole : IsWholeClause f c → IsWholeClause g d
  part_whole h =
      let k : IsWholeClause f kept = transport (IsWholeClause f) (sym is) (kept_whole f c keep h) in
      whole_at g d (canonical_form (clause_at f kept)) made (canonical_is_formed (clause_at f kept) (from_clause_at f kept k.atoms))

-- the part is within the clause
pub part_subsumes : (w : TreeClause) (keep : List ℕ) → Subsumes (canonical_form (chosen w keep)) w
part_subsumes w keep =
    let (s, p) = canonical_subsumes (chosen w keep) in (
      s,
      in_all (Contains w) (instance s (canonical_form (chosen w keep))) (λ l i.
          in_contains l w (chosen_literal w keep l (contains_in l (chosen w keep) (all_in (Contains (chosen w keep)) (instance s (canonical_form (chosen w keep))) p l i)))),
    )

pub part_shorter : (w : TreeClause) (keep : List ℕ) → IsProperPart (length w) keep → length (canonical_form (chosen w keep)) < length w
part_shorter w keep h = let a = part_is_shorter w keep h in let b = length_instance (numbered (order_of (chosen w keep))) (chosen w keep) in omega arith

-- an entry that is the part covers the clause
pub part_covers : (g : Forest) (es : List Item) (e : Item) (w c : TreeClause) (keep : List ℕ) → Contains es e → IsProperPart (length w) keep → clause_at g e.0 ≡ canonical_form (chosen w keep) → length w ≤ length c
    → IsCovered (clauses_in g es) c w
part_covers g es e w c keep i h q le =
    let a = part_shorter w keep h in
    shorter (clause_at g e.0) (in_contains (clause_at g e.0) (clauses_in g es) (in_map (λ (x : Item). clause_at g x.0) e es (contains_in e es i)))
    (transport (λ d. length d < length c) (sym q) (omega arith)) (transport (λ d. Subsumes d w) (sym q) (part_subsumes w keep))

-- a clause of any length
many : ℕ → TreeClause
many zero = []
many (suc n) = record { positive = true; atom = var 0 } ∷ many n

length_many : (n : ℕ) → length (many n) ≡ n
unfolding many
length_many zero = refl
length_many (suc n) = ap suc (length_many n)

module _ (f g : Forest) (x : Extends f g) (es : List Item) (entries : AreEntries f es) (c d : List (Signed ℕ)) (keep : List ℕ) (len : ℕ) (proper : IsProperPart (length (clause_at f c)) keep)
    (is : clause_at g d ≡ canonical_form (chosen (clause_at f c) keep)) (short : length c ≤ len) where
  -- it is no entry, where these do not cover the clause
  pub part_new : ((b : TreeClause) → length b ≡ len → ¬ IsCovered (clauses_in f es) b (clause_at f c)) → (e : Item) → Contains es e → ¬ (e.0 ≡ d)
  part_new uncovered e i q =
      let ids = all_in (λ (y : Item). IsClauseOf f y.0) es entries.ids e (contains_in e es i) in
      let same : clause_at f e.0 ≡ canonical_form (chosen (clause_at f c) keep) = sym (clause_extends f g x e.0 ids) ∙ ap (clause_at g) q ∙ is in
      let a = length_at f c in
      let b = length_many len in
      uncovered (many len) (length_many len) (part_covers f es e (clause_at f c) (many len) keep i proper same (omega arith))

  pub part_bounded : (longest : ℕ) → length c ≤ longest → length d ≤ longest
  part_bounded longest le =
      let a : length (clause_at g d) ≡ length (canonical_form (chosen (clause_at f c) keep)) = ap length is in
      let b = part_shorter (clause_at f c) keep proper in
      omega (arith, a, b, length_at g d, length_at f c)

-- appended, it covers the clause
pub appended_covers : (f h : Forest) (es later : List Item) (c d : List (Signed ℕ)) (o : Origin) (keep : List ℕ) (b : TreeClause) → IsProperPart (length (clause_at f c)) keep
    → clause_at h d ≡ canonical_form (chosen (clause_at f c) keep) → length c ≤ length b → later ≡ es ++ (d, o) ∷ [] → IsCovered (clauses_in h later) b (clause_at f c)
appended_covers f h es later c d o keep b proper is short q =
    let a = length_at f c in
    part_covers h later (d, o) (clause_at f c) b keep (in_contains (d, o) later (transport (λ xs. (d, o) ∈ xs) (sym q) (in_right (d, o) es ((d, o) ∷ []) (inl refl)))) proper is (omega arith)

-- Appending after the bank grew

pub appends_after_read : {S I C : Type 0} (old mid new : Run S I C) (l m : Option ℕ) (d : List (Signed ℕ)) (o : Origin) → Reads old mid → mid.bindings ≡ old.bindings → l ≡ m
    → Appends (record mid { left = l }) new d o → Appends (record old { left = m }) new d o
appends_after_read {S} {I} {C} old mid new l m d o reads same left h = go (transport (λ r. Appends (record r { left = l }) new d o) reads.rest h)
  where
    read : Run S I C
    read = record old { entries = record old.entries { bank = mid.entries.bank }; bindings = mid.bindings }

    go : Appends (record read { left = l }) new d o → Appends (record old { left = m }) new d o
    go k = record {
      bank = extends_trans old.entries.bank mid.entries.bank new.entries.bank reads.bank k.bank;
      entry = k.entry;
      log = k.log;
      waits = k.waits;
      ready = k.ready;
      valuation = k.valuation;
      bot = k.bot;
      atoms = k.atoms;
      literals = k.literals;
      selection = k.selection;
      held = k.held;
      left = k.left ∙ left;
      bindings = k.bindings ∙ same;
      longest = k.longest;
    }
