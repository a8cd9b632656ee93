-- A text is read as a formula exactly where the relation of the form holds between them, and else has exactly one refusal.
use Rattle.std.proofs.Common.{◌≡◌, ◌≢◌, ◌⊎◌, ℕ, ◌≤◌, true, false, List, [], ◌∷◌, All, arith, Result, Ok, Err, nat_lt, refl, ap, sym, subst, inl, inr, ◌∙◌}
use Rattle.std.specs.Prelude.{count_by, IfOk, IfErr}
use Rattle.std.proofs.lemmas.Bool.{cases_Bool}
use Rattle.std.proofs.lemmas.List.Elements.{All-head}
use Rattle.qbf_logic.specs.declared.quant.Quant.{Quant}
use Rattle.qbf_logic.specs.Translation.{measure}
use Rattle.dimacs_front.specs.Lines.{Placed, tokens, end_line}
use Rattle.dimacs_front.specs.Form.{header, clauses_in, with_count, IsRead}
use Rattle.dimacs_front.specs.Dimacs.{SpellsClauses, HasHeader, header_for, IsDimacs}
use Rattle.dimacs_front.specs.Quantified.{behind_line, Quantified, quantified, within_limits, with_prefix, matrix_behind, formula_behind, formula_in}
use Rattle.dimacs_front.specs.Qdimacs.{nothing, HasPrefix, IsWithinLimits, IsQdimacs}
use Rattle.dimacs_front.specs.FormulaRefusals.{IsFormulaRefusal, of_header, of_prefix, of_clauses, above_limits, IsFormulaRefusedFor}
use Rattle.dimacs_front.specs.declared.error.DimacsError.{DimacsError}
use Rattle.dimacs_front.specs.declared.error.DimacsError.TheVariants.{Syntax, Range, Count, Limit, Twice, Memory}
use Rattle.dimacs_front.specs.declared.header.Header.{Header}
use Rattle.dimacs_front.specs.declared.cnf.Cnf.{Cnf}
use Rattle.dimacs_front.specs.declared.cnf.Qbf.{Qbf}
use Rattle.dimacs_front.proofs.Spelling.{not_lt}
use Rattle.dimacs_front.proofs.Headers.{same_error, not_above, header_read, behind_header, header_found, header_refused, header_refusal}
use Rattle.dimacs_front.proofs.ClauseRefusals.{counted_clauses, clauses_refused, ClauseOutcome, clause_outcome}
use Rattle.dimacs_front.proofs.QuantifierLaws.{clauses_go_on, prefix_read, prefix_refused, PrefixOutcome, prefix_outcome}

-- what is spelled is read

formula_by_header : (text : List ℕ) (h : Header) (body : List Placed) → HasHeader (tokens text) h body → formula_in text ≡ matrix_behind (end_line text) h (quantified h.vars (behind_line h.line) [] body)
formula_by_header text h body d =
    ap (formula_behind (end_line text) (tokens text)) (header_read (end_line text) (tokens text) h body d)
    ∙ ap (λ us. matrix_behind (end_line text) h (quantified h.vars (behind_line h.line) [] us)) (behind_header (tokens text) h body d)

formula_by_prefix : (text : List ℕ) (h : Header) (body rest : List Placed) (prefix : List Quant) → HasHeader (tokens text) h body → HasPrefix h body prefix rest
    → formula_in text ≡ with_prefix prefix (with_count h (clauses_in (end_line text) h rest))
formula_by_prefix text h body rest prefix d p = formula_by_header text h body d ∙ ap (matrix_behind (end_line text) h) (prefix_read h body prefix rest p)

formula_by_clauses : (text : List ℕ) (line : ℕ) (q : Qbf) (body rest : List Placed) → HasHeader (tokens text) (header_for line q.matrix) body → HasPrefix (header_for line q.matrix) body q.prefix rest → All (λ t. t.line ≢ line) rest
    → SpellsClauses q.matrix.vars rest q.matrix.clauses → formula_in text ≡ within_limits q
formula_by_clauses text line q body rest d p behind c =
    let h = header_for line q.matrix in
    formula_by_prefix text h body rest q.prefix d p ∙ ap (with_prefix q.prefix) (counted_clauses (end_line text) h rest q.matrix refl refl behind c)

pub qdimacs_is_read : (text : List ℕ) (q : Qbf) → IsQdimacs text q → formula_in text ≡ Ok q
qdimacs_is_read text q d =
    formula_by_clauses text d.line q d.body d.rest d.header d.prefix d.behind d.clauses
    ∙ (let a = not_above 1024 (count_by (λ (r : Quant). r.all) q.prefix) d.within.few in
    let b = not_above 10000000 (measure q.prefix q.matrix.clauses) d.within.small in
    rw (a, b) refl)

above_is_limit : (q : Qbf) → ¬ IsWithinLimits q → within_limits q ≡ Err Limit
above_is_limit q n = elim (cases_Bool (nat_lt 1024 (count_by (λ (r : Quant). r.all) q.prefix))) [
  | inl a ↦ rw a refl
  | inr a ↦ elim (cases_Bool (nat_lt 10000000 (measure q.prefix q.matrix.clauses))) [
    | inl b ↦ rw (a, b) refl
    | inr b ↦ absurd (n (record { few = not_lt 1024 (count_by (λ (r : Quant). r.all) q.prefix) a; small = not_lt 10000000 (measure q.prefix q.matrix.clauses) b }))
  ]
]

pub refusal_is_read : (text : List ℕ) (e : DimacsError) → IsFormulaRefusal text e → formula_in text ≡ Err e
refusal_is_read text e (of_header r) = ap (formula_behind (end_line text) (tokens text)) (header_refused (end_line text) (tokens text) e r)
refusal_is_read text e (of_prefix h body d r) = formula_by_header text h body d ∙ ap (matrix_behind (end_line text) h) (prefix_refused h body e r)
refusal_is_read text e (of_clauses h body rest prefix d p r) = formula_by_prefix text h body rest prefix d p ∙ ap (with_prefix prefix) (clauses_refused (end_line text) h rest e r)
refusal_is_read text e (above_limits line q body rest d p behind c n r) = formula_by_clauses text line q body rest d p behind c ∙ above_is_limit q n ∙ ap Err (sym r)

-- what is read is spelled

abbrev Outcome : List ℕ → Result Qbf DimacsError → Type 0
Outcome text (Ok q) = IsQdimacs text q
Outcome text (Err e) = IsFormulaRefusal text e

limits_outcome : (text : List ℕ) (line : ℕ) (q : Qbf) (body rest : List Placed) → HasHeader (tokens text) (header_for line q.matrix) body → HasPrefix (header_for line q.matrix) body q.prefix rest → All (λ t. t.line ≢ line) rest
    → SpellsClauses q.matrix.vars rest q.matrix.clauses → Outcome text (within_limits q)
limits_outcome text line q body rest d p behind c = elim (cases_Bool (nat_lt 1024 (count_by (λ (r : Quant). r.all) q.prefix))) [
  | inl a ↦ rw a (above_limits line q body rest d p behind c (λ w. let f : true ≡ false = sym a ∙ not_above 1024 (count_by (λ (r : Quant). r.all) q.prefix) w.few in cc) refl)
  | inr a ↦ elim (cases_Bool (nat_lt 10000000 (measure q.prefix q.matrix.clauses))) [
    | inl b ↦ rw (a, b) (above_limits line q body rest d p behind c (λ w. let f : true ≡ false = sym b ∙ not_above 10000000 (measure q.prefix q.matrix.clauses) w.small in cc) refl)
    | inr b ↦ rw (a, b) (record {
      line = line;
      body = body;
      rest = rest;
      header = d;
      prefix = p;
      behind = behind;
      clauses = c;
      within = record { few = not_lt 1024 (count_by (λ (r : Quant). r.all) q.prefix) a; small = not_lt 10000000 (measure q.prefix q.matrix.clauses) b };
    })
  ]
]

clauses_outcome : (text : List ℕ) (h : Header) (body rest : List Placed) (prefix : List Quant) → HasHeader (tokens text) h body → HasPrefix h body prefix rest → (r : Result Cnf DimacsError) → ClauseOutcome (end_line text) h rest r
    → Outcome text (with_prefix prefix r)
clauses_outcome text h body rest prefix d p (Ok cnf) c =
    let whole : h ≡ header_for h.line cnf = ap (λ n. record { line = h.line; vars = n; count = h.count }) c.vars_is ∙ ap (λ n. record { line = h.line; vars = cnf.vars; count = n }) c.count_is in
    limits_outcome text h.line (record { prefix = prefix; matrix = cnf }) body rest (subst (λ x. HasHeader (tokens text) x body) whole d) (subst (λ x. HasPrefix x body prefix rest) whole p) c.behind
    (subst (λ n. SpellsClauses n rest cnf.clauses) c.vars_is c.clauses)
clauses_outcome text h body rest prefix d p (Err e) c = of_clauses h body rest prefix d p c

body_outcome : (text : List ℕ) (h : Header) (body : List Placed) → HasHeader (tokens text) h body → (r : Result Quantified DimacsError) → PrefixOutcome h body r → Outcome text (matrix_behind (end_line text) h r)
body_outcome text h body d (Ok q) p = clauses_outcome text h body q.rest q.prefix d p (with_count h (clauses_in (end_line text) h q.rest)) (clause_outcome (end_line text) h q.rest)
body_outcome text h body d (Err e) p = of_prefix h body d p

outcome : (text : List ℕ) → Outcome text (formula_in text)
outcome text = go (header (end_line text) (tokens text)) refl
  where
    go : (r : Result Header DimacsError) → header (end_line text) (tokens text) ≡ r → Outcome text (formula_behind (end_line text) (tokens text) r)
    go (Err e) k = of_header (header_refusal (end_line text) (tokens text) e k)
    go (Ok h) k =
        let (body, d) = header_found (end_line text) (tokens text) h k in
        subst (λ us. Outcome text (matrix_behind (end_line text) h (quantified h.vars (behind_line h.line) [] us))) (sym (behind_header (tokens text) h body d))
        (body_outcome text h body d (quantified h.vars (behind_line h.line) [] body) (prefix_outcome h body))

pub read_is_qdimacs : (text : List ℕ) (q : Qbf) → formula_in text ≡ Ok q → IsQdimacs text q
read_is_qdimacs text q e = subst (Outcome text) e (outcome text)

pub read_is_refusal : (text : List ℕ) (e : DimacsError) → formula_in text ≡ Err e → IsFormulaRefusal text e
read_is_refusal text e f = subst (Outcome text) f (outcome text)

pub read_or_refused : (text : List ℕ) → ((q : Qbf) × IsQdimacs text q) ⊎ ((e : DimacsError) × IsFormulaRefusal text e)
read_or_refused text = go (formula_in text) (outcome text)
  where
    go : (r : Result Qbf DimacsError) → Outcome text r → ((q : Qbf) × IsQdimacs text q) ⊎ ((e : DimacsError) × IsFormulaRefusal text e)
    go (Ok q) o = inl (q, o)
    go (Err e) o = inr (e, o)

pub not_both : (text : List ℕ) (q : Qbf) (e : DimacsError) → IsQdimacs text q → ¬ IsFormulaRefusal text e
not_both text q e d r = let f : Ok q ≡ Err e = sym (qdimacs_is_read text q d) ∙ refusal_is_read text e r in cc

pub one_refusal : (text : List ℕ) (d e : DimacsError) → IsFormulaRefusal text d → IsFormulaRefusal text e → d ≡ e
one_refusal text d e r s = same_error {A = Qbf} d e (sym (refusal_is_read text d r) ∙ refusal_is_read text e s)

-- what an answer says that is what was to be read

pub qdimacs_of : (text : List ℕ) (r : Result Qbf DimacsError) → IsRead (formula_in text) r → IfOk r (IsQdimacs text)
qdimacs_of text (Ok q) i = read_is_qdimacs text q i
qdimacs_of text (Err e) i = tt

pub refusal_of : (text : List ℕ) (r : Result Qbf DimacsError) → IsRead (formula_in text) r → IfErr r (IsFormulaRefusedFor text)
refusal_of text (Ok q) i = tt
refusal_of text (Err (Syntax line)) i = read_is_refusal text (Syntax line) i
refusal_of text (Err (Range line)) i = read_is_refusal text (Range line) i
refusal_of text (Err (Count found)) i = read_is_refusal text (Count found) i
refusal_of text (Err Limit) i = read_is_refusal text Limit i
refusal_of text (Err (Twice line)) i = read_is_refusal text (Twice line) i
refusal_of text (Err Memory) i = tt

-- clauses alone are a formula without quantifiers

pub clauses_alone : (text : List ℕ) (cnf : Cnf) → IsDimacs text cnf → measure [] cnf.clauses ≤ 10000000 → IsQdimacs text (record { prefix = []; matrix = cnf })
clauses_alone text cnf d small =
    let first : (t : Placed) (us : List Placed) → d.rest ≡ t ∷ us → t.line ≢ d.line = λ t us e. All-head (λ (u : Placed). u.line ≢ d.line) t us (subst (All (λ (u : Placed). u.line ≢ d.line)) e d.behind) in
    record {
      line = d.line;
      body = d.rest;
      rest = d.rest;
      header = d.header;
      prefix = record { last_line = d.line; quantifiers = nothing; ends = clauses_go_on d.line cnf.vars d.rest cnf.clauses first d.clauses };
      behind = d.behind;
      clauses = d.clauses;
      within = record { few = omega arith; small = small };
    }

pub one_formula : (text : List ℕ) (p q : Qbf) → IsQdimacs text p → IsQdimacs text q → p ≡ q
one_formula text p q h k = let a = qdimacs_is_read text p h in let b = qdimacs_is_read text q k in cc
