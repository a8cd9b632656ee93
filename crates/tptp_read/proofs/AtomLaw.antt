-- Each text reads as one ground atom or has a fault, never both, and in one way.
use Rattle.std.proofs.Common.{◌≡◌, ℕ, zero, suc, ◌<◌, ◌≤◌, List, [], ◌∷◌, Bool, true, false, length, Option, Some, None, refl, sym, ap, subst, ◌∙◌, inl, inr, arith}
use Rattle.std.specs.Prelude.{◌⊎◌}
use Rattle.std.proofs.lemmas.Bool.{cases_lt}
use Rattle.inst_logic.specs.Tree.{Tree}
use Rattle.inst_logic.specs.declared.signed.Signed.{Signed}
use Rattle.tptp_read.specs.Stream.{Tok, IsDone}
use Rattle.tptp_read.specs.declared.statement.Which.TheVariants.{Nesting, Arity}
use Rattle.tptp_read.specs.Lexemes.{Begins}
use Rattle.tptp_read.specs.Grammar.{Simple}
use Rattle.tptp_read.specs.Meaning.{from_simple, literal_of, first_feature, wrote_wide, syntax_fault, feature, limit}
use Rattle.tptp_read.specs.ParseClause.{simple_at}
use Rattle.tptp_read.specs.Atoms.{AreTokens, HasNoTokens, nesting_within, is_plain_atom, has_variable, IsAtomForm, no_tokens, too_deep, no_atom, refused_feature, too_wide, AtomOutcome, reads, faulty, HasAtom, IsDecidedAtom}
use Rattle.tptp_read.proofs.AllTokens.{same_next, same_tokens}
use Rattle.tptp_read.proofs.AtomForms.{atom_again, same_read, plain_one}
use Rattle.tptp_read.proofs.ItemLaws.{simple_spelled}
use Rattle.tptp_read.proofs.Nexts.{next, is_next, next_is, next_shorter, done_none, done_or}
use Rattle.inst_logic.proofs.Booleans.{not_both}
use Rattle.inst_logic.proofs.Outcomes.{not_some_and_none}

same_all : (text : List ℕ) (ts us : List Tok) → AreTokens text ts → AreTokens text us → ts ≡ us
same_all text ts us a b = (same_tokens ts us text a.rest b.rest a.begins (done_none a.rest a.done) b.begins (done_none b.rest b.done)).0

-- ---- the tokens, or none

abbrev Tokens : List ℕ → Type 0
Tokens text = ((ts : List Tok) × AreTokens text ts) ⊎ HasNoTokens text

first_tokens : (text : List ℕ) (z : Tok × List ℕ) → next text ≡ Some z → Tokens z.1 → Tokens text
first_tokens text z e (inl found) = inl (z.0 ∷ found.0, record { rest = found.1.rest; begins = (z.1, is_next text z e, found.1.begins); done = found.1.done })
first_tokens text z e (inr none) = inr no
  where
    no : HasNoTokens text
    no [] a = not_some_and_none z (next text) e (ap next a.begins ∙ done_none a.rest a.done)
    no (t ∷ ts) a =
        let same = same_next text t z.0 a.begins.0 z.1 a.begins.1 (is_next text z e) in
        none ts (record { rest = a.rest; begins = subst (λ (x : List ℕ). Begins x ts a.rest) same.1 a.begins.2; done = a.done })

last_tokens : (text : List ℕ) → next text ≡ None → (IsDone text ⊎ (IsDone text → ⊥)) → Tokens text
last_tokens text e (inl done) = inl ([], record { rest = text; begins = refl; done = done })
last_tokens text e (inr left) = inr no
  where
    no : HasNoTokens text
    no [] a = left (subst (λ (x : List ℕ). IsDone x) (sym a.begins) a.done)
    no (t ∷ ts) a = not_some_and_none (t, a.begins.0) (next text) (next_is text t a.begins.0 a.begins.1) e

either_tokens : (text : List ℕ) → ((z : Tok × List ℕ) → next text ≡ Some z → Tokens z.1) → (o : Option (Tok × List ℕ)) → next text ≡ o → Tokens text
either_tokens text later None e = last_tokens text e (done_or text)
either_tokens text later (Some z) e = first_tokens text z e (later z e)

tokens_or : (n : ℕ) (text : List ℕ) → length text < n → Tokens text
tokens_or zero text le = absurd (omega arith)
tokens_or (suc n) text le = either_tokens text (λ z e. let less = next_shorter text z.0 z.1 (is_next text z e) in tokens_or n z.1 (omega (arith, less, le))) (next text) refl

-- ---- the form, or none

abbrev Form : List Tok → Type 0
Form ts = ((a : Simple) × IsAtomForm ts a) ⊎ ((a : Simple) → ¬ IsAtomForm ts a)

abbrev read_to : Simple → List Tok → Simple × List Tok
read_to s us = (s, us)

whole_form : (ts : List Tok) (s : Simple) → simple_at (length ts) ts ≡ Some (read_to s []) → (plain : Bool) → is_plain_atom s ≡ plain → (variable : Bool) → has_variable ts ≡ variable → Form ts
whole_form ts s e true p false v = let spelled = simple_spelled (length ts) ts (read_to s []) e in inl (s, record { spelled = sym spelled.0; fits = spelled.1; plain = p; variable_free = v })
whole_form ts s e true p true v = inr (λ a f. not_both (has_variable ts) v f.variable_free)
whole_form ts s e false p variable v = inr (λ a f. not_both (is_plain_atom a) f.plain (ap is_plain_atom (sym (same_read ts [] s a e f).0) ∙ p))

form_or : (ts : List Tok) → Form ts
form_or ts = known (simple_at (length ts) ts) refl
  where
    known : (o : Option (Simple × List Tok)) → simple_at (length ts) ts ≡ o → Form ts
    known None e = inr (λ a f. not_some_and_none (read_to a []) (simple_at (length ts) ts) (atom_again ts a f) e)
    known (Some (s, [])) e = whole_form ts s e (is_plain_atom s) refl (has_variable ts) refl
    known (Some (s, u ∷ us)) e = inr (λ a f. let nil = (same_read ts (u ∷ us) s a e f).1 in absurd (cc))

same_form : (ts us : List Tok) (a b : Simple) → ts ≡ us → IsAtomForm ts a → IsAtomForm us b → a ≡ b
same_form ts us a b same f g = (same_read ts [] a b (atom_again ts a f) (subst (λ (x : List Tok). IsAtomForm x b) (sym same) g)).0

one_literal : (c : List (Signed Tree)) → length c ≡ 1 → (l : Signed Tree) × (c ≡ l ∷ [])
one_literal [] e = absurd cc
one_literal (l ∷ []) e = (l, refl)
one_literal (l ∷ m ∷ c) e = absurd (omega arith)

-- ---- one outcome

no_tokens_only : (text : List ℕ) → HasNoTokens text → (o : AtomOutcome) → HasAtom text o → o ≡ faulty syntax_fault
no_tokens_only text none (reads l) r = absurd (none r.tokens r.are_tokens)
no_tokens_only text none (faulty e) (no_tokens n is) = ap faulty is
no_tokens_only text none (faulty e) (too_deep us a d is) = absurd (none us a)
no_tokens_only text none (faulty e) (no_atom us a d n is) = absurd (none us a)
no_tokens_only text none (faulty e) (refused_feature us a d b f w h is) = absurd (none us a)
no_tokens_only text none (faulty e) (too_wide us a d b f w h is) = absurd (none us a)

module _ (text : List ℕ) (ts : List Tok) (t : AreTokens text ts) where
  nested : (us : List Tok) → AreTokens text us → nesting_within ts ≡ nesting_within us
  nested us a = ap nesting_within (same_all text ts us t a)

  deep_only : 257 ≤ nesting_within ts → (o : AtomOutcome) → HasAtom text o → o ≡ faulty (limit Nesting)
  deep_only deep (reads l) r = absurd (omega (arith, deep, r.flat, nested r.tokens r.are_tokens))
  deep_only deep (faulty e) (no_tokens n is) = absurd (n ts t)
  deep_only deep (faulty e) (too_deep us a d is) = ap faulty is
  deep_only deep (faulty e) (no_atom us a d n is) = absurd (omega (arith, deep, d, nested us a))
  deep_only deep (faulty e) (refused_feature us a d b f w h is) = absurd (omega (arith, deep, d, nested us a))
  deep_only deep (faulty e) (too_wide us a d b f n h is) = absurd (omega (arith, deep, d, nested us a))

  form_at : (us : List Tok) (b : Simple) → AreTokens text us → IsAtomForm us b → IsAtomForm ts b
  form_at us b a f = subst (λ (x : List Tok). IsAtomForm x b) (sym (same_all text ts us t a)) f

  module _ (flat : nesting_within ts < 257) where
    no_form_only : ((a : Simple) → ¬ IsAtomForm ts a) → (o : AtomOutcome) → HasAtom text o → o ≡ faulty syntax_fault
    no_form_only none (reads l) r = absurd (none r.form (form_at r.tokens r.form r.are_tokens r.is_form))
    no_form_only none (faulty e) (no_tokens n is) = absurd (n ts t)
    no_form_only none (faulty e) (too_deep us a d is) = absurd (omega (arith, flat, d, nested us a))
    no_form_only none (faulty e) (no_atom us a d n is) = ap faulty is
    no_form_only none (faulty e) (refused_feature us a d b f w h is) = absurd (none b (form_at us b a f))
    no_form_only none (faulty e) (too_wide us a d b f n h is) = absurd (none b (form_at us b a f))

    module _ (s : Simple) (f : IsAtomForm ts s) where
      featured : (us : List Tok) → AreTokens text us → first_feature ts ≡ first_feature us
      featured us a = ap first_feature (same_all text ts us t a)

      same_simple : (us : List Tok) (b : Simple) → AreTokens text us → IsAtomForm us b → s ≡ b
      same_simple us b a g = same_form ts us s b (same_all text ts us t a) f g

      feature_only : (w : List ℕ) → first_feature ts ≡ Some w → (o : AtomOutcome) → HasAtom text o → o ≡ faulty (feature w)
      feature_only w some (reads l) r = not_some_and_none w (first_feature ts) some (featured r.tokens r.are_tokens ∙ r.no_feature)
      feature_only w some (faulty e) (no_tokens n is) = absurd (n ts t)
      feature_only w some (faulty e) (too_deep us a d is) = absurd (omega (arith, flat, d, nested us a))
      feature_only w some (faulty e) (no_atom us a d n is) = absurd (n s (subst (λ (x : List Tok). IsAtomForm x s) (same_all text ts us t a) f))
      feature_only w some (faulty e) (refused_feature us a d b g v h is) = let same : w ≡ v = some_same w v (sym some ∙ featured us a ∙ h) in ap faulty (is ∙ ap feature (sym same))
        where
          some_same : (x y : List ℕ) → ◌≡◌ {A = Option (List ℕ)} (Some x) (Some y) → x ≡ y
          some_same x y e = cc
      feature_only w some (faulty e) (too_wide us a d b g n h is) = not_some_and_none w (first_feature ts) some (featured us a ∙ n)

      module _ (none : first_feature ts ≡ None) where
        wide_only : wrote_wide (from_simple s) ≡ true → (o : AtomOutcome) → HasAtom text o → o ≡ faulty (limit Arity)
        wide_only wide (reads l) r = not_both (wrote_wide (from_simple s)) wide (ap (λ x. wrote_wide (from_simple x)) (same_simple r.tokens r.form r.are_tokens r.is_form) ∙ r.narrow)
        wide_only wide (faulty e) (no_tokens n is) = absurd (n ts t)
        wide_only wide (faulty e) (too_deep us a d is) = absurd (omega (arith, flat, d, nested us a))
        wide_only wide (faulty e) (no_atom us a d n is) = absurd (n s (subst (λ (x : List Tok). IsAtomForm x s) (same_all text ts us t a) f))
        wide_only wide (faulty e) (refused_feature us a d b g w h is) = not_some_and_none w (first_feature ts) (featured us a ∙ h) none
        wide_only wide (faulty e) (too_wide us a d b g n h is) = ap faulty is

        reads_only : (l : Signed Tree) → wrote_wide (from_simple s) ≡ false → literal_of [] (from_simple s) ≡ l ∷ [] → (o : AtomOutcome) → HasAtom text o → o ≡ reads l
        reads_only l narrow value (reads m) r =
            let same : ◌≡◌ {A = List (Signed Tree)} (m ∷ []) (l ∷ []) = sym r.value ∙ ap (λ x. literal_of [] (from_simple x)) (sym (same_simple r.tokens r.form r.are_tokens r.is_form)) ∙ value in
            let here : m ≡ l = cc in
            ap reads here
        reads_only l narrow value (faulty e) (no_tokens n is) = absurd (n ts t)
        reads_only l narrow value (faulty e) (too_deep us a d is) = absurd (omega (arith, flat, d, nested us a))
        reads_only l narrow value (faulty e) (no_atom us a d n is) = absurd (n s (subst (λ (x : List Tok). IsAtomForm x s) (same_all text ts us t a) f))
        reads_only l narrow value (faulty e) (refused_feature us a d b g w h is) = not_some_and_none w (first_feature ts) (featured us a ∙ h) none
        reads_only l narrow value (faulty e) (too_wide us a d b g n h is) = not_both (wrote_wide (from_simple s)) (ap (λ x. wrote_wide (from_simple x)) (same_simple us b a g) ∙ h) narrow

        narrow_or : (wide : Bool) → wrote_wide (from_simple s) ≡ wide → IsDecidedAtom text
        narrow_or true wide = record { outcome = faulty (limit Arity); holds = too_wide ts t flat s f none wide refl; only = wide_only wide }
        narrow_or false narrow =
            let l = one_literal (literal_of [] (from_simple s)) (plain_one s f.plain) in
            record {
              outcome = reads l.0;
              holds = record { tokens = ts; are_tokens = t; flat = flat; form = s; is_form = f; no_feature = none; narrow = narrow; value = l.1 };
              only = reads_only l.0 narrow l.1;
            }

      feature_or : (o : Option (List ℕ)) → first_feature ts ≡ o → IsDecidedAtom text
      feature_or (Some w) e = record { outcome = faulty (feature w); holds = refused_feature ts t flat s f w e refl; only = feature_only w e }
      feature_or None e = narrow_or e (wrote_wide (from_simple s)) refl

    by_form : Form ts → IsDecidedAtom text
    by_form (inl (s, f)) = feature_or s f (first_feature ts) refl
    by_form (inr none) = record { outcome = faulty syntax_fault; holds = no_atom ts t flat none refl; only = no_form_only none }

  by_depth : (257 ≤ nesting_within ts) ⊎ (nesting_within ts < 257) → IsDecidedAtom text
  by_depth (inl deep) = record { outcome = faulty (limit Nesting); holds = too_deep ts t deep refl; only = deep_only deep }
  by_depth (inr flat) = by_form flat (form_or ts)

by_tokens : (text : List ℕ) → Tokens text → IsDecidedAtom text
by_tokens text (inl (ts, t)) = by_depth text ts t (either (cases_lt (nesting_within ts) 257))
  where
    either : (nesting_within ts < 257) ⊎ (257 ≤ nesting_within ts) → (257 ≤ nesting_within ts) ⊎ (nesting_within ts < 257)
    either (inl less) = inr less
    either (inr more) = inl more
by_tokens text (inr none) = record { outcome = faulty syntax_fault; holds = no_tokens none refl; only = no_tokens_only text none }

pub one_atom : (text : List ℕ) → IsDecidedAtom text
one_atom text = by_tokens text (tokens_or (suc (length text)) text (omega arith))
