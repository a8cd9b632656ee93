-- Each conclusion may be appended whole, or a part of it may.
use Rattle.std.proofs.Common.{◌≡◌, ℕ, suc, ◌+◌, ◌<◌, ◌≤◌, List, [], ◌∷◌, ◌++◌, ◌⊎◌, inl, inr, refl, sym, ap, ap₂, ◌∙◌, subst as transport, length, length-append, append_assoc, arith, Some}
use Rattle.std.specs.List.{range_with_len, cons_option}
use Rattle.std.specs.Prelude.{slice_get}
use Rattle.inst_logic.specs.declared.symbol.Sym.{Sym}
use Rattle.inst_logic.specs.Derivations.{at_number}
use Rattle.inst_logic.specs.Clauses.{TreeClause, canonical_form}
use Rattle.inst_calculus.specs.Entries.{inst, lemma, Entry, entry_clauses}
use Rattle.inst_calculus.specs.Parts.{chosen}
use Rattle.inst_calculus.specs.Lemmas.{IsLemma, IsIrreducible}
use Rattle.inst_calculus.proofs.Membership.{in_all}
use Rattle.inst_calculus.proofs.Distinct.{length_map}
use Rattle.inst_calculus.proofs.LemmaDecision.{irreducible_or_part}
use Rattle.inst_machine.specs.Machine.{State, Concludes, ConcludesPart, Appends, infer, part}
use Rattle.inst_calculus.proofs.MadeLists.{from_range}

item_between : {A : Type 0} (before : List A) (x : A) (xs : List A) → slice_get (before ++ x ∷ xs) (length before) ≡ Some x
item_between [] x xs = refl
item_between (y ∷ before) x xs = item_between before x xs

-- the numbers of all items choose them all
all_chosen : {A : Type 0} (before xs : List A) (n : ℕ) → n ≡ suc (length before) → chosen (before ++ xs) (range_with_len n (length xs)) ≡ xs
all_chosen before [] n e = refl
all_chosen before (x ∷ xs) n e =
    ap₂ (λ o ys. cons_option o ys) (ap (at_number (before ++ x ∷ xs)) e ∙ item_between before x xs)
    (ap (λ ys. chosen ys (range_with_len (n + 1) (length xs))) (sym (append_assoc before (x ∷ []) xs))
    ∙ all_chosen (before ++ x ∷ []) xs (n + 1) (let l = length-append before (x ∷ []) in omega arith))

pub whole_or_part : (bot : Sym) (s : State) (from place partner other : ℕ) (c : TreeClause) → Concludes bot s from place partner other c
    → Appends bot s (inst from place partner other) c ⊎ ((keep : List ℕ) × (premises : List ℕ) × (d : TreeClause) × Appends bot s (lemma from place partner other keep premises) d)
whole_or_part bot s from place partner other c q = elim (irreducible_or_part c (entry_clauses s.entries)) [
  | inl n ↦ inl (infer q n)
  | inr (keep, proper, implied) ↦ inr (
    keep,
    range_with_len 1 (length (entry_clauses s.entries)),
    canonical_form (chosen c keep),
    part (record {
      whole = c;
      concludes = q;
      part = proper;
      named = in_all (λ n. (0 < n) × (n ≤ length s.entries)) (range_with_len 1 (length (entry_clauses s.entries))) (λ n i.
          let (l, m) = from_range 1 (length (entry_clauses s.entries)) n i in
          let k = length_map (λ (e : Entry). e.clause) s.entries in
          (omega arith, omega arith));
      implied = transport (λ es. IsLemma es (chosen c keep)) (sym (all_chosen [] (entry_clauses s.entries) 1 refl)) implied;
      canonical = refl;
    }),
  )
]

pub appended_whole : (bot : Sym) (s : State) (from place partner other : ℕ) (c : TreeClause) → Appends bot s (inst from place partner other) c
    → Concludes bot s from place partner other c × IsIrreducible (entry_clauses s.entries) c
appended_whole bot s from place partner other c (infer q n) = (q, n)

pub appended_part : (bot : Sym) (s : State) (from place partner other : ℕ) (keep premises : List ℕ) (c : TreeClause) → Appends bot s (lemma from place partner other keep premises) c
    → ConcludesPart bot s from place partner other keep premises c
appended_part bot s from place partner other keep premises c (part q) = q
