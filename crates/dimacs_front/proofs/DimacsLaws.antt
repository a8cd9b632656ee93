-- A text is read as clauses exactly where the relation of the form holds between them, and else has exactly one refusal.
use Rattle.std.proofs.Common.{◌≡◌, ◌≢◌, ◌⊎◌, ℕ, List, Result, Ok, Err, refl, ap, sym, subst, inl, inr, ◌∙◌}
use Rattle.std.specs.Prelude.{IfOk, IfErr}
use Rattle.dimacs_front.specs.Lines.{Placed, tokens, end_line}
use Rattle.dimacs_front.specs.Form.{header, clauses_in, with_count, reading_by, reading, IsRead}
use Rattle.dimacs_front.specs.Dimacs.{SpellsClauses, HasHeader, header_for, IsDimacs}
use Rattle.dimacs_front.specs.Refusals.{IsHeaderRefusal, no_header, no_variables, too_many_variables, no_count, IsClauseRefusal, out_of_place, above_variables, within_clause, other_count, IsRefusal, of_header, of_clauses, IsRefusedFor}
use Rattle.dimacs_front.specs.declared.error.DimacsError.{DimacsError}
use Rattle.dimacs_front.specs.declared.error.DimacsError.TheVariants.{Syntax, Range, Count, Limit, Twice, Memory}
use Rattle.dimacs_front.specs.declared.header.Header.{Header}
use Rattle.dimacs_front.specs.declared.cnf.Cnf.{Cnf}
use Rattle.dimacs_front.proofs.Headers.{same_error, header_read, behind_header, header_found, header_refused, header_refusal}
use Rattle.dimacs_front.proofs.ClauseRefusals.{counted_clauses, clauses_refused, ClauseOutcome, clause_outcome}

-- what is spelled is read

reading_behind : (text : List ℕ) (h : Header) (rest : List Placed) → HasHeader (tokens text) h rest → reading text ≡ with_count h (clauses_in (end_line text) h rest)
reading_behind text h rest d =
    ap (reading_by (end_line text) (tokens text)) (header_read (end_line text) (tokens text) h rest d)
    ∙ ap (λ us. with_count h (clauses_in (end_line text) h us)) (behind_header (tokens text) h rest d)

pub dimacs_is_read : (text : List ℕ) (cnf : Cnf) → IsDimacs text cnf → reading text ≡ Ok cnf
dimacs_is_read text cnf d =
    let h = header_for d.line cnf in
    reading_behind text h d.rest d.header ∙ counted_clauses (end_line text) h d.rest cnf refl refl d.behind d.clauses

pub refusal_is_read : (text : List ℕ) (e : DimacsError) → IsRefusal text e → reading text ≡ Err e
refusal_is_read text e (of_header r) = ap (reading_by (end_line text) (tokens text)) (header_refused (end_line text) (tokens text) e r)
refusal_is_read text e (of_clauses h rest d r) = reading_behind text h rest d ∙ clauses_refused (end_line text) h rest e r

-- what is read is spelled

abbrev Outcome : List ℕ → Result Cnf DimacsError → Type 0
Outcome text (Ok cnf) = IsDimacs text cnf
Outcome text (Err e) = IsRefusal text e

clauses_outcome : (text : List ℕ) (h : Header) (rest : List Placed) → HasHeader (tokens text) h rest → (r : Result Cnf DimacsError) → ClauseOutcome (end_line text) h rest r → Outcome text r
clauses_outcome text h rest d (Ok cnf) c =
    let whole : h ≡ header_for h.line cnf = ap (λ n. record { line = h.line; vars = n; count = h.count }) c.vars_is ∙ ap (λ n. record { line = h.line; vars = cnf.vars; count = n }) c.count_is in
    record { line = h.line; rest = rest; header = subst (λ x. HasHeader (tokens text) x rest) whole d; behind = c.behind; clauses = subst (λ n. SpellsClauses n rest cnf.clauses) c.vars_is c.clauses }
clauses_outcome text h rest d (Err e) c = of_clauses h rest d c

outcome : (text : List ℕ) → Outcome text (reading text)
outcome text = go (header (end_line text) (tokens text)) refl
  where
    go : (r : Result Header DimacsError) → header (end_line text) (tokens text) ≡ r → Outcome text (reading_by (end_line text) (tokens text) r)
    go (Err e) k = of_header (header_refusal (end_line text) (tokens text) e k)
    go (Ok h) k =
        let (rest, d) = header_found (end_line text) (tokens text) h k in
        let r = with_count h (clauses_in (end_line text) h rest) in
        subst (λ us. Outcome text (with_count h (clauses_in (end_line text) h us))) (sym (behind_header (tokens text) h rest d)) (clauses_outcome text h rest d r (clause_outcome (end_line text) h rest))

pub read_is_dimacs : (text : List ℕ) (cnf : Cnf) → reading text ≡ Ok cnf → IsDimacs text cnf
read_is_dimacs text cnf e = subst (Outcome text) e (outcome text)

pub read_is_refusal : (text : List ℕ) (e : DimacsError) → reading text ≡ Err e → IsRefusal text e
read_is_refusal text e f = subst (Outcome text) f (outcome text)

pub read_or_refused : (text : List ℕ) → ((cnf : Cnf) × IsDimacs text cnf) ⊎ ((e : DimacsError) × IsRefusal text e)
read_or_refused text = go (reading text) (outcome text)
  where
    go : (r : Result Cnf DimacsError) → Outcome text r → ((cnf : Cnf) × IsDimacs text cnf) ⊎ ((e : DimacsError) × IsRefusal text e)
    go (Ok cnf) o = inl (cnf, o)
    go (Err e) o = inr (e, o)

pub not_both : (text : List ℕ) (cnf : Cnf) (e : DimacsError) → IsDimacs text cnf → ¬ IsRefusal text e
not_both text cnf e d r = let f : Ok cnf ≡ Err e = sym (dimacs_is_read text cnf d) ∙ refusal_is_read text e r in cc

pub one_refusal : (text : List ℕ) (d e : DimacsError) → IsRefusal text d → IsRefusal text e → d ≡ e
one_refusal text d e r s = same_error {A = Cnf} d e (sym (refusal_is_read text d r) ∙ refusal_is_read text e s)

-- the form has no quantifiers, so no variable is refused as quantified twice

header_never : (end : ℕ) (ts : List Placed) (e : DimacsError) (line : ℕ) → IsHeaderRefusal end ts e → e ≡ Twice line → ⊥
header_never end ts e line (no_header q r) s = cc
header_never end ts e line (no_variables t us q n r) s = cc
header_never end ts e line (too_many_variables t us q v m d a r) s = cc
header_never end ts e line (no_count t us q v m d l n r) s = cc

clauses_never : (end : ℕ) (h : Header) (ts : List Placed) (e : DimacsError) (line : ℕ) → IsClauseRefusal end h ts e → e ≡ Twice line → ⊥
clauses_never end h ts e line (out_of_place b t us q a o r) s = cc
clauses_never end h ts e line (above_variables b t us q a n l k m r) s = cc
clauses_never end h ts e line (within_clause a n r) s = cc
clauses_never end h ts e line (other_count a cs k n r) s = cc

pub never_twice : (text : List ℕ) (line : ℕ) → ¬ IsRefusal text (Twice line)
never_twice text line (of_header r) = header_never (end_line text) (tokens text) (Twice line) line r refl
never_twice text line (of_clauses h rest d r) = clauses_never (end_line text) h rest (Twice line) line r refl

-- what an answer says that is what was to be read

pub dimacs_of : (text : List ℕ) (r : Result Cnf DimacsError) → IsRead (reading text) r → IfOk r (IsDimacs text)
dimacs_of text (Ok cnf) i = read_is_dimacs text cnf i
dimacs_of text (Err e) i = tt

pub refusal_of : (text : List ℕ) (r : Result Cnf DimacsError) → IsRead (reading text) r → IfErr r (IsRefusedFor text)
refusal_of text (Ok cnf) i = tt
refusal_of text (Err (Syntax line)) i = read_is_refusal text (Syntax line) i
refusal_of text (Err (Range line)) i = read_is_refusal text (Range line) i
refusal_of text (Err (Count found)) i = read_is_refusal text (Count found) i
refusal_of text (Err Limit) i = read_is_refusal text Limit i
refusal_of text (Err (Twice line)) i = read_is_refusal text (Twice line) i
refusal_of text (Err Memory) i = tt

pub never_twice_of : (text : List ℕ) (r : Result Cnf DimacsError) → IsRead (reading text) r → (line : ℕ) → r ≢ Err (Twice line)
never_twice_of text r i line e = never_twice text line (read_is_refusal text (Twice line) (subst (IsRead (reading text)) e i))

pub one_cnf : (text : List ℕ) (c d : Cnf) → IsDimacs text c → IsDimacs text d → c ≡ d
one_cnf text c d h k = let p = dimacs_is_read text c h in let q = dimacs_is_read text d k in cc
