-- What is read of the tokens behind the header: the clauses that they spell, or their refusal.
use Rattle.std.proofs.Common.{◌≡◌, ◌≢◌, ◌⊎◌, ℕ, ◌≤◌, ◌==◌, List, [], ◌∷◌, ◌++◌, All, length, Option, None, Some, Result, Ok, Err, nat_lt, refl, ap, sym, inl, inr, ◌∙◌}
use Rattle.std.proofs.lemmas.Bool.{cases_Bool, eqb-true, eqb-false, eq-eqb}
use Rattle.std.proofs.lemmas.List.Elements.{All-nil, All-cons, All-head, All-tail}
use Rattle.inst_logic.specs.declared.signed.Signed.{Signed}
use Rattle.dimacs_front.specs.Lines.{Placed}
use Rattle.dimacs_front.specs.Numbers.{mark_of}
use Rattle.dimacs_front.specs.Form.{within, judged, fault_or, first_fault, marks, parts, whole, unless_fault, clauses_in, with_count}
use Rattle.dimacs_front.specs.Dimacs.{SpellsLiteral, SpellsClauses}
use Rattle.dimacs_front.specs.Refusals.{IsInPlace, IsOutOfPlace, IsClauseRefusal, out_of_place, above_variables, within_clause, other_count}
use Rattle.dimacs_front.specs.declared.error.DimacsError.{DimacsError}
use Rattle.dimacs_front.specs.declared.error.DimacsError.TheVariants.{Syntax, Range}
use Rattle.dimacs_front.specs.declared.header.Header.{Header}
use Rattle.dimacs_front.specs.declared.numbers.Mark.{Mark}
use Rattle.dimacs_front.specs.declared.numbers.Mark.TheVariants.{End, Literal}
use Rattle.dimacs_front.specs.declared.cnf.Cnf.{Cnf}
use Rattle.dimacs_front.proofs.Spelling.{not_lt, spelled_literal, literal_spells, end_spells}
use Rattle.dimacs_front.proofs.SpelledClauses.{differ, judged_behind, end_judged, literal_judged, says, AreRead, clauses_read, tokens_spell}
use Rattle.dimacs_front.proofs.Headers.{same_error, not_above}

-- a token and what it is judged to be

place_judged : (h : Header) (t : Placed) → IsInPlace h t → (m : Mark) × (judged h t ≡ Ok m)
place_judged h t (n, inl e) = (End, end_judged h t n e)
place_judged h t (n, inr (l, s, below)) = (Literal l, literal_judged h t l n s below)

judged_place : (h : Header) (t : Placed) (m : Mark) → judged h t ≡ Ok m → IsInPlace h t
judged_place h t End e = let s = says h t End e in (s.behind, inl (end_spells t.text s.mark))
judged_place h t (Literal l) e = let s = says h t (Literal l) e in (s.behind, inr (l, literal_spells l t.text s.mark, s.below l refl))

unmarked : (w : List ℕ) → w ≢ 48 ∷ [] → ((l : Signed ℕ) → ¬ SpellsLiteral l w) → mark_of w ≡ None
unmarked w z n = go (mark_of w) refl
  where
    go : (o : Option Mark) → mark_of w ≡ o → mark_of w ≡ None
    go None e = e
    go (Some End) e = absurd (z (end_spells w e))
    go (Some (Literal l)) e = absurd (n l (literal_spells l w e))

misplaced_judged : (h : Header) (t : Placed) → IsOutOfPlace h t → judged h t ≡ Err (Syntax t.line)
misplaced_judged h t (inl e) = let b = eq-eqb t.line h.line e in rw b refl
misplaced_judged h t (inr (z, n)) = elim (cases_Bool (t.line == h.line)) [ inl b ↦ rw b refl | inr b ↦ rw b (ap (within h.vars t.line) (unmarked t.text z n)) ]

above_judged : (h : Header) (t : Placed) (l : Signed ℕ) → t.line ≢ h.line → SpellsLiteral l t.text → h.vars ≤ l.atom → judged h t ≡ Err (Range t.line)
above_judged h t l n s above = judged_behind h t n ∙ ap (within h.vars t.line) (spelled_literal l t.text s) ∙ (let b = not_above l.atom h.vars above in rw b refl)

-- a token that is refused, with its cause
abbrev IsFault : Header → Placed → DimacsError → Type 0
IsFault h t e = (IsOutOfPlace h t × (e ≡ Syntax t.line)) ⊎ ((t.line ≢ h.line) × (l : Signed ℕ) × SpellsLiteral l t.text × (h.vars ≤ l.atom) × (e ≡ Range t.line))

judged_fault : (h : Header) (t : Placed) (e : DimacsError) → judged h t ≡ Err e → IsFault h t e
judged_fault h t e f = elim (cases_Bool (t.line == h.line)) [
  | inl b ↦ inl (inl (eqb-true t.line h.line b), sym (same_error (Syntax t.line) e (rw b at f)))
  | inr b ↦ go (mark_of t.text) refl (rw b at f) (eqb-false t.line h.line b)
]
  where
    go : (o : Option Mark) → mark_of t.text ≡ o → within h.vars t.line o ≡ Err e → t.line ≢ h.line → IsFault h t e
    go None k g n =
        inl (
          inr (
            λ z. let j : Some End ≡ None = sym (ap mark_of z) ∙ k in cc,
            λ l s. let j : Some (Literal l) ≡ None = sym (spelled_literal l t.text s) ∙ k in cc,
          ),
          sym (same_error (Syntax t.line) e g),
        )
    go (Some End) k g n = absurd (let j : Ok End ≡ Err e = g in cc)
    go (Some (Literal l)) k g n = elim (cases_Bool (nat_lt l.atom h.vars)) [
      | inl c ↦ absurd (let j : Ok (Literal l) ≡ Err e = rw c at g in cc)
      | inr c ↦ inr (n, l, literal_spells l t.text k, not_lt l.atom h.vars c, sym (same_error (Range t.line) e (rw c at g)))
    ]

-- the first token that is refused

fault_behind : (h : Header) (before : List Placed) (t : Placed) (us : List Placed) (e : DimacsError) → All (IsInPlace h) before → judged h t ≡ Err e → first_fault h (before ++ t ∷ us) ≡ Some e
fault_behind h [] t us e a j = rw j refl
fault_behind h (b ∷ bs) t us e a j =
    let (m, k) = place_judged h b (All-head (IsInPlace h) b bs a) in
    rw k (fault_behind h bs t us e (All-tail (IsInPlace h) b bs a) j)

no_fault : (h : Header) (ts : List Placed) → All (IsInPlace h) ts → first_fault h ts ≡ None
no_fault h [] a = refl
no_fault h (t ∷ ts) a =
    let (m, k) = place_judged h t (All-head (IsInPlace h) t ts a) in
    rw k (no_fault h ts (All-tail (IsInPlace h) t ts a))

all_behind : (h : Header) (ts : List Placed) → All (IsInPlace h) ts → All (λ t. t.line ≢ h.line) ts
all_behind h [] a = All-nil (λ t. t.line ≢ h.line)
all_behind h (t ∷ ts) a = All-cons (λ t. t.line ≢ h.line) t ts (All-head (IsInPlace h) t ts a).0 (all_behind h ts (All-tail (IsInPlace h) t ts a))

-- the refused token with those before it
record FaultAt (h : Header) (ts : List Placed) (e : DimacsError) : Type 0 where
  before : List Placed
  token : Placed
  others : List Placed
  all : ts ≡ before ++ token ∷ others
  places : All (IsInPlace h) before
  fault : judged h token ≡ Err e

fault_at : (h : Header) (ts : List Placed) (e : DimacsError) → first_fault h ts ≡ Some e → FaultAt h ts e
fault_at h [] e f = absurd (let g : None ≡ Some e = f in cc)
fault_at h (t ∷ ts) e f = go (judged h t) refl f (fault_at h ts e)
  where
    go : (r : Result Mark DimacsError) → judged h t ≡ r → fault_or r (first_fault h ts) ≡ Some e → (first_fault h ts ≡ Some e → FaultAt h ts e) → FaultAt h (t ∷ ts) e
    go (Err x) j g later = record { before = []; token = t; others = ts; all = refl; places = All-nil (IsInPlace h); fault = j ∙ ap Err (let same : Some x ≡ Some e = g in cc) }
    go (Ok m) j g later =
        let w = later g in
        record { before = t ∷ w.before; token = w.token; others = w.others; all = ap (λ us. t ∷ us) w.all; places = All-cons (IsInPlace h) t w.before (judged_place h t m j) w.places; fault = w.fault }

all_in_place : (h : Header) (ts : List Placed) → first_fault h ts ≡ None → All (IsInPlace h) ts
all_in_place h [] f = All-nil (IsInPlace h)
all_in_place h (t ∷ ts) f = go (judged h t) refl f (all_in_place h ts)
  where
    go : (r : Result Mark DimacsError) → judged h t ≡ r → fault_or r (first_fault h ts) ≡ None → (first_fault h ts ≡ None → All (IsInPlace h) ts) → All (IsInPlace h) (t ∷ ts)
    go (Err x) j g later = absurd (let k : Some x ≡ None = g in cc)
    go (Ok m) j g later = All-cons (IsInPlace h) t ts (judged_place h t m j) (later g)

-- clauses

clauses_found : (end : ℕ) (h : Header) (ts : List Placed) (clauses : List (List (Signed ℕ))) → AreRead h ts clauses → clauses_in end h ts ≡ Ok clauses
clauses_found end h ts clauses r =
    ap (λ f. unless_fault f (whole end (parts [] (marks h ts)).ended (parts [] (marks h ts)).rest)) r.fault
    ∙ ap (λ e. whole end e (parts [] (marks h ts)).rest) r.ended
    ∙ ap (whole end clauses) r.left

spelled_found : (end : ℕ) (h : Header) (ts : List Placed) (clauses : List (List (Signed ℕ))) → All (λ t. t.line ≢ h.line) ts → SpellsClauses h.vars ts clauses → clauses_in end h ts ≡ Ok clauses
spelled_found end h ts clauses a s = clauses_found end h ts clauses (clauses_read h ts clauses a s)

pub counted_clauses : (end : ℕ) (h : Header) (ts : List Placed) (cnf : Cnf) → h.vars ≡ cnf.vars → h.count ≡ length cnf.clauses → All (λ t. t.line ≢ h.line) ts → SpellsClauses h.vars ts cnf.clauses
    → with_count h (clauses_in end h ts) ≡ Ok cnf
counted_clauses end h ts cnf v c a s =
    ap (with_count h) (spelled_found end h ts cnf.clauses a s)
    ∙ (let q = eq-eqb (length cnf.clauses) h.count (sym c) in rw q (ap (λ n. Ok (record { vars = n; clauses = cnf.clauses })) v))

pub clauses_refused : (end : ℕ) (h : Header) (ts : List Placed) (e : DimacsError) → IsClauseRefusal end h ts e → with_count h (clauses_in end h ts) ≡ Err e
clauses_refused end h ts e (out_of_place before t us q a o r) =
    let f : first_fault h ts ≡ Some e = ap (first_fault h) q ∙ fault_behind h before t us (Syntax t.line) a (misplaced_judged h t o) ∙ ap Some (sym r) in
    ap (λ x. with_count h (unless_fault x (whole end (parts [] (marks h ts)).ended (parts [] (marks h ts)).rest))) f
clauses_refused end h ts e (above_variables before t us q a n l s above r) =
    let f : first_fault h ts ≡ Some e = ap (first_fault h) q ∙ fault_behind h before t us (Range t.line) a (above_judged h t l n s above) ∙ ap Some (sym r) in
    ap (λ x. with_count h (unless_fault x (whole end (parts [] (marks h ts)).ended (parts [] (marks h ts)).rest))) f
clauses_refused end h ts e (within_clause a n r) =
    let f = no_fault h ts a in
    ap (λ x. with_count h (unless_fault x (whole end (parts [] (marks h ts)).ended (parts [] (marks h ts)).rest))) f ∙ go (parts [] (marks h ts)).rest refl
  where
    go : (left : List (Signed ℕ)) → (parts [] (marks h ts)).rest ≡ left → with_count h (whole end (parts [] (marks h ts)).ended left) ≡ Err e
    go [] k = absurd (n (parts [] (marks h ts)).ended (tokens_spell h ts (no_fault h ts a) k).0)
    go (l ∷ ls) k = ap Err (sym r)
clauses_refused end h ts e (other_count a clauses s n r) =
    ap (with_count h) (spelled_found end h ts clauses a s) ∙ (let q = differ (length clauses) h.count n in rw q (ap Err (sym r)))

-- the clauses behind the header, as many as it says
pub record HasClauses (h : Header) (ts : List Placed) (cnf : Cnf) : Type 0 where
  pub vars_is : h.vars ≡ cnf.vars
  pub count_is : h.count ≡ length cnf.clauses
  pub behind : All (λ t. t.line ≢ h.line) ts
  pub clauses : SpellsClauses h.vars ts cnf.clauses

abbrev pub ClauseOutcome : ℕ → Header → List Placed → Result Cnf DimacsError → Type 0
ClauseOutcome end h ts (Ok cnf) = HasClauses h ts cnf
ClauseOutcome end h ts (Err e) = IsClauseRefusal end h ts e

fault_outcome : (end : ℕ) (h : Header) (ts : List Placed) (e : DimacsError) → first_fault h ts ≡ Some e → IsClauseRefusal end h ts e
fault_outcome end h ts e f =
    let w = fault_at h ts e f in
    elim (judged_fault h w.token e w.fault) [
      | inl (o, r) ↦ out_of_place w.before w.token w.others w.all w.places o r
      | inr (n, l, s, above, r) ↦ above_variables w.before w.token w.others w.all w.places n l s above r
    ]

whole_outcome : (end : ℕ) (h : Header) (ts : List Placed) → first_fault h ts ≡ None → (left : List (Signed ℕ)) → (parts [] (marks h ts)).rest ≡ left → ClauseOutcome end h ts (with_count h (whole end (parts [] (marks h ts)).ended left))
whole_outcome end h ts f [] k =
    let clauses = (parts [] (marks h ts)).ended in
    let s = tokens_spell h ts f k in
    elim (cases_Bool (length clauses == h.count)) [
      | inl b ↦ rw b (record { vars_is = refl; count_is = sym (eqb-true (length clauses) h.count b); behind = s.1; clauses = s.0 })
      | inr b ↦ rw b (other_count s.1 clauses s.0 (eqb-false (length clauses) h.count b) refl)
    ]
whole_outcome end h ts f (l ∷ ls) k =
    let places = all_in_place h ts f in
    within_clause places (λ clauses s. let r = clauses_read h ts clauses (all_behind h ts places) s in let j : l ∷ ls ≡ [] = sym k ∙ r.left in cc) refl

pub clause_outcome : (end : ℕ) (h : Header) (ts : List Placed) → ClauseOutcome end h ts (with_count h (clauses_in end h ts))
clause_outcome end h ts = go (first_fault h ts) refl
  where
    go : (o : Option DimacsError) → first_fault h ts ≡ o → ClauseOutcome end h ts (with_count h (unless_fault o (whole end (parts [] (marks h ts)).ended (parts [] (marks h ts)).rest)))
    go None f = whole_outcome end h ts f (parts [] (marks h ts)).rest refl
    go (Some e) f = fault_outcome end h ts e f
