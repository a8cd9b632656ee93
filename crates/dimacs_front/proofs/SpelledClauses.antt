-- The clauses that tokens spell are those that are read from them.
use Rattle.std.proofs.Common.{◌≡◌, ◌≢◌, ◌⊎◌, ℕ, ◌<◌, ◌==◌, false, List, [], ◌∷◌, ◌++◌, All, Option, None, Some, Result, Ok, Err, nat_lt, refl, ap, sym, subst, inl, inr, ◌∙◌, append_assoc}
use Rattle.std.proofs.lemmas.Bool.{cases_Bool, eqb-true, eqb-false, ltb-true, lt-ltb}
use Rattle.std.proofs.lemmas.List.{append-nil}
use Rattle.std.proofs.lemmas.List.Elements.{All-nil, All-cons, All-head, All-tail}
use Rattle.inst_logic.specs.declared.signed.Signed.{Signed}
use Rattle.dimacs_front.specs.Lines.{Placed}
use Rattle.dimacs_front.specs.Numbers.{mark_of}
use Rattle.dimacs_front.specs.Form.{within, judged, first_fault, marks, parts}
use Rattle.dimacs_front.specs.Dimacs.{SpellsLiteral, SpellsClause, SpellsClauses}
use Rattle.dimacs_front.specs.declared.error.DimacsError.{DimacsError}
use Rattle.dimacs_front.specs.declared.error.DimacsError.TheVariants.{Syntax, Range}
use Rattle.dimacs_front.specs.declared.header.Header.{Header}
use Rattle.dimacs_front.specs.declared.numbers.Mark.{Mark}
use Rattle.dimacs_front.specs.declared.numbers.Mark.TheVariants.{End, Literal}
use Rattle.dimacs_front.proofs.Spelling.{spelled_literal, literal_spells, end_spells}

pub differ : (a b : ℕ) → a ≢ b → (a == b) ≡ false
differ a b n = elim (cases_Bool (a == b)) [ inl e ↦ absurd (n (eqb-true a b e)) | inr e ↦ e ]

-- a token behind the header's line is judged by its mark
pub judged_behind : (h : Header) (t : Placed) → t.line ≢ h.line → judged h t ≡ within h.vars t.line (mark_of t.text)
judged_behind h t n = let e = differ t.line h.line n in rw e refl

pub end_judged : (h : Header) (t : Placed) → t.line ≢ h.line → t.text ≡ 48 ∷ [] → judged h t ≡ Ok End
end_judged h t n e = judged_behind h t n ∙ ap (λ w. within h.vars t.line (mark_of w)) e

within_literal : (vars line : ℕ) (l : Signed ℕ) → l.atom < vars → within vars line (Some (Literal l)) ≡ Ok (Literal l)
within_literal vars line l lt = let e = lt-ltb l.atom vars lt in rw e refl

pub literal_judged : (h : Header) (t : Placed) (l : Signed ℕ) → t.line ≢ h.line → SpellsLiteral l t.text → l.atom < h.vars → judged h t ≡ Ok (Literal l)
literal_judged h t l n s lt = judged_behind h t n ∙ ap (within h.vars t.line) (spelled_literal l t.text s) ∙ within_literal h.vars t.line l lt

-- what is read of tokens whose front spells a clause
record Reads (h : Header) (before clause : List (Signed ℕ)) (ts rest : List Placed) : Type 0 where
  fault : first_fault h ts ≡ first_fault h rest
  ended : (parts before (marks h ts)).ended ≡ (before ++ clause) ∷ (parts [] (marks h rest)).ended
  left : (parts before (marks h ts)).rest ≡ (parts [] (marks h rest)).rest
  behind : All (λ t. t.line ≢ h.line) rest

clause_read : (h : Header) (before clause : List (Signed ℕ)) (ts rest : List Placed) → All (λ t. t.line ≢ h.line) ts → SpellsClause h.vars ts clause rest → Reads h before clause ts rest
clause_read h before clause [] rest a s = absurd s
clause_read h before [] (t ∷ ts) rest a (e, same) =
    let j = end_judged h t (All-head (λ t. t.line ≢ h.line) t ts a) e in
    subst (λ r. Reads h before [] (t ∷ ts) r) same (record {
      fault = rw j refl;
      ended = rw j (ap (λ c. c ∷ (parts [] (marks h ts)).ended) (sym (append-nil before)));
      left = rw j refl;
      behind = All-tail (λ t. t.line ≢ h.line) t ts a;
    })
clause_read h before (l ∷ clause) (t ∷ ts) rest a (s, lt, more) =
    let j = literal_judged h t l (All-head (λ t. t.line ≢ h.line) t ts a) s lt in
    let r = clause_read h (before ++ l ∷ []) clause ts rest (All-tail (λ t. t.line ≢ h.line) t ts a) more in
    record {
      fault = rw j (r.fault);
      ended = rw j (r.ended ∙ ap (λ c. c ∷ (parts [] (marks h rest)).ended) (append_assoc before (l ∷ []) clause));
      left = rw j (r.left);
      behind = r.behind;
    }

-- the tokens have no fault, and these clauses, of which the last is ended
pub record AreRead (h : Header) (ts : List Placed) (clauses : List (List (Signed ℕ))) : Type 0 where
  pub fault : first_fault h ts ≡ None
  pub ended : (parts [] (marks h ts)).ended ≡ clauses
  pub left : (parts [] (marks h ts)).rest ≡ []

pub clauses_read : (h : Header) (ts : List Placed) (clauses : List (List (Signed ℕ))) → All (λ t. t.line ≢ h.line) ts → SpellsClauses h.vars ts clauses → AreRead h ts clauses
clauses_read h ts [] a e = subst (λ us. AreRead h us []) (sym e) (record { fault = refl; ended = refl; left = refl })
clauses_read h ts (c ∷ cs) a (rest, s, more) =
    let r = clause_read h [] c ts rest a s in
    let q = clauses_read h rest cs r.behind more in
    record {
      fault = r.fault ∙ q.fault;
      ended = r.ended ∙ ap (λ ds. c ∷ ds) q.ended;
      left = r.left ∙ q.left;
    }

-- what the marks of a token without a fault say
pub record Says (h : Header) (t : Placed) (m : Mark) : Type 0 where
  pub is : judged h t ≡ Ok m
  pub behind : t.line ≢ h.line
  pub mark : mark_of t.text ≡ Some m
  pub below : (l : Signed ℕ) → m ≡ Literal l → l.atom < h.vars

says_within : (vars line : ℕ) (o : Option Mark) (m : Mark) → within vars line o ≡ Ok m → (o ≡ Some m) × ((l : Signed ℕ) → m ≡ Literal l → l.atom < vars)
says_within vars line None m e = absurd (let f : Err (Syntax line) ≡ Ok m = e in cc)
says_within vars line (Some End) m e = (ap Some (let f : Ok End ≡ Ok m = e in cc), λ l q. absurd (let f : Ok End ≡ Ok m = e in cc))
says_within vars line (Some (Literal k)) m e = elim (cases_Bool (nat_lt k.atom vars)) [
  | inl t ↦ let f : Ok (Literal k) ≡ Ok m = rw t at e in
      (ap Some (cc), λ l q. let same : k ≡ l = cc in subst (λ (x : Signed ℕ). x.atom < vars) same (ltb-true k.atom vars t))
  | inr t ↦ absurd (let f : Err (Range line) ≡ Ok m = rw t at e in cc)
]

pub says : (h : Header) (t : Placed) (m : Mark) → judged h t ≡ Ok m → Says h t m
says h t m e = elim (cases_Bool (t.line == h.line)) [
  | inl q ↦ absurd (let f : Err (Syntax t.line) ≡ Ok m = rw q at e in cc)
  | inr q ↦ let w = says_within h.vars t.line (mark_of t.text) m (rw q at e) in
      record { is = e; behind = eqb-false t.line h.line q; mark = w.0; below = w.1 }
]

-- the tokens are none, and nothing was before them; or a clause is spelled at their front, and other clauses behind it
Spelled : ℕ → List (Signed ℕ) → List Placed → List (List (Signed ℕ)) → Type 0
Spelled vars before ts ended =
    ((ts ≡ []) × (before ≡ []) × (ended ≡ []))
    ⊎ ((c : List (Signed ℕ)) × (rest : List Placed) × (cs : List (List (Signed ℕ))) × (ended ≡ (before ++ c) ∷ cs) × SpellsClause vars ts c rest × SpellsClauses vars rest cs)

from_none : (vars : ℕ) (ts : List Placed) (ended : List (List (Signed ℕ))) → Spelled vars [] ts ended → SpellsClauses vars ts ended
unfolding Spelled
from_none vars ts ended (inl (e, b, d)) = rw d e
from_none vars ts ended (inr (c, rest, cs, e, s, more)) = subst (SpellsClauses vars ts) (sym e) (rest, s, more)

push_is_some : {X : Type 0} (xs : List X) (x : X) → xs ++ x ∷ [] ≢ []
push_is_some [] x e = cc
push_is_some (y ∷ xs) x e = cc

spelled_from : (h : Header) (before : List (Signed ℕ)) (ts : List Placed) → first_fault h ts ≡ None → (parts before (marks h ts)).rest ≡ [] → Spelled h.vars before ts (parts before (marks h ts)).ended × All (λ t. t.line ≢ h.line) ts
unfolding Spelled
spelled_from h before [] f e = (inl (refl, e, refl), All-nil (λ t. t.line ≢ h.line))
spelled_from h before (t ∷ ts) f e = go (judged h t) refl (λ b. spelled_from h b ts)
  where
    go : (r : Result Mark DimacsError) → judged h t ≡ r → ((b : List (Signed ℕ)) → first_fault h ts ≡ None → (parts b (marks h ts)).rest ≡ [] → Spelled h.vars b ts (parts b (marks h ts)).ended × All (λ t. t.line ≢ h.line) ts)
        → Spelled h.vars before (t ∷ ts) (parts before (marks h (t ∷ ts))).ended × All (λ t. t.line ≢ h.line) (t ∷ ts)
    go (Err x) j later = absurd (let g : Some x ≡ None = rw j at f in cc)
    go (Ok End) j later =
        let u = says h t End j in
        let i = later [] (rw j at f) (rw j at e) in
        rw j (
          inr ([], ts, (parts [] (marks h ts)).ended, ap (λ c. c ∷ (parts [] (marks h ts)).ended) (sym (append-nil before)), (end_spells t.text u.mark, refl), from_none h.vars ts (parts [] (marks h ts)).ended i.0),
          All-cons (λ t. t.line ≢ h.line) t ts u.behind i.1,
        )
    go (Ok (Literal l)) j later =
        let u = says h t (Literal l) j in
        let i = later (before ++ l ∷ []) (rw j at f) (rw j at e) in
        rw j (
          elim (i.0) [
            | inl (n, b, d) ↦ absurd (push_is_some before l b)
            | inr (c, rest, cs, q, s, more) ↦ inr (l ∷ c, rest, cs, q ∙ ap (λ d. d ∷ cs) (append_assoc before (l ∷ []) c), (literal_spells l t.text u.mark, u.below l refl, s), more)
          ],
          All-cons (λ t. t.line ≢ h.line) t ts u.behind i.1,
        )

-- what is read of tokens is what they spell
pub tokens_spell : (h : Header) (ts : List Placed) → first_fault h ts ≡ None → (parts [] (marks h ts)).rest ≡ [] → SpellsClauses h.vars ts (parts [] (marks h ts)).ended × All (λ t. t.line ≢ h.line) ts
tokens_spell h ts f e = let p = spelled_from h [] ts f e in (from_none h.vars ts (parts [] (marks h ts)).ended p.0, p.1)
