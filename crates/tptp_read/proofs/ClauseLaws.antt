-- Literals: what is read is spelled so, and what is spelled so is read.
use Rattle.std.proofs.Common.{◌≡◌, ℕ, zero, suc, ◌+◌, ◌≤◌, max, true, false, cond, List, ◌∷◌, Some, None, refl, ap, subst, ◌∙◌, inl, inr, arith}
use Rattle.std.specs.Prelude.{◌&&◌}
use Rattle.tptp_read.specs.declared.kind.TokenKind.{TokenKind}
use Rattle.tptp_read.specs.declared.kind.TokenKind.TheVariants.{LowerWord, Variable, DollarWord, QuotedWord, DistinctObject, Integer, Rational, Real, Punctuation}
use Rattle.tptp_read.specs.Stream.{Tok}
use Rattle.tptp_read.specs.Lexemes.{mark, is_punctuation, is_head, is_plain}
use Rattle.tptp_read.specs.Grammar.{Written, single, applied, term, term_fits, terms_fit, is_atom, Negated, no_atom, no_equation, in_parens, negated_text, negated_fits}
use Rattle.tptp_read.specs.Parse.{◌>>=◌, Reads, begins_with, behind, term_at}
use Rattle.tptp_read.specs.ParseClause.{is_unequal, negated_with, negated_at}
use Rattle.tptp_read.proofs.ParseLaws.{depth, both_true, and_both, bind_some, chosen, some_is, begins_is, term_again, term_spelled}

pub plain_is_no_mark : (k : TokenKind) → is_plain k ≡ true → is_punctuation k ≡ false
plain_is_no_mark Punctuation e = absurd cc
plain_is_no_mark LowerWord e = refl
plain_is_no_mark Variable e = refl
plain_is_no_mark DollarWord e = refl
plain_is_no_mark QuotedWord e = refl
plain_is_no_mark DistinctObject e = refl
plain_is_no_mark Integer e = refl
plain_is_no_mark Rational e = refl
plain_is_no_mark Real e = refl

pub head_is_no_mark : (k : TokenKind) → is_head k ≡ true → is_punctuation k ≡ false
head_is_no_mark Punctuation e = absurd cc
head_is_no_mark LowerWord e = refl
head_is_no_mark DollarWord e = refl
head_is_no_mark QuotedWord e = refl
head_is_no_mark Variable e = refl
head_is_no_mark DistinctObject e = refl
head_is_no_mark Integer e = refl
head_is_no_mark Rational e = refl
head_is_no_mark Real e = refl

-- a term begins with no mark
pub no_mark : (b : ℕ) (t : Written) (rest : List Tok) → term_fits t ≡ true → begins_with b (term t rest) ≡ false
no_mark b (single t) rest fits = rw (plain_is_no_mark t.kind fits) refl
no_mark b (applied f t ts) rest fits = rw (head_is_no_mark f.kind (both_true (is_head f.kind) (term_fits t && terms_fit ts) fits).0) refl

-- what may follow a literal: no parenthesis opens, and no equation goes on
pub record Follows (rest : List Tok) : Type 0 where
  pub opens : begins_with 40 rest ≡ false
  pub equals : begins_with 61 rest ≡ false
  pub differs : is_unequal rest ≡ false

abbrev pub negated_depth : Negated → ℕ
negated_depth (no_atom t) = depth t
negated_depth (no_equation t u) = max (depth t) (depth u)
negated_depth (in_parens n) = negated_depth n + 1

no_atom_again : (p : Reads Negated) (d : ℕ) (t : Written) (rest : List Tok) → Follows rest → is_atom t ≡ true → term_fits t ≡ true → depth t ≤ d → negated_with p d (term t rest) ≡ Some (no_atom t, rest)
unfolding negated_with
no_atom_again p d t rest follows at fits le = rw (no_mark 40 t rest fits, term_again t d rest le fits follows.opens, follows.equals, at) refl

no_equation_again : (p : Reads Negated) (d : ℕ) (t u : Written) (rest : List Tok) → Follows rest → term_fits t ≡ true → term_fits u ≡ true → depth t ≤ d → depth u ≤ d → negated_with p d (term t (mark 61 ∷ term u rest)) ≡ Some (no_equation t u, rest)
unfolding negated_with
no_equation_again p d t u rest follows fits fits' le le' = rw (no_mark 40 t (mark 61 ∷ term u rest) fits, term_again t d (mark 61 ∷ term u rest) le fits refl, term_again u d rest le' fits' follows.opens) refl

in_parens_again : (p : Reads Negated) (d : ℕ) (n : Negated) (rest : List Tok) → p (negated_text n (mark 41 ∷ rest)) ≡ Some (n, mark 41 ∷ rest) → negated_with p d (negated_text (in_parens n) rest) ≡ Some (in_parens n, rest)
unfolding negated_with
in_parens_again p d n rest e = rw e refl

closed : (rest : List Tok) → Follows (mark 41 ∷ rest)
closed rest = record { opens = refl; equals = refl; differs = refl }

pub negated_again : (n : Negated) (m d : ℕ) (rest : List Tok) → Follows rest → negated_fits n ≡ true → negated_depth n ≤ m → negated_depth n ≤ d → negated_at m d (negated_text n rest) ≡ Some (n, rest)
unfolding negated_at
negated_again (no_atom t) zero d rest follows fits le le' = let b = both_true (is_atom t) (term_fits t) fits in no_atom_again _ d t rest follows b.0 b.1 le'
negated_again (no_atom t) (suc m) d rest follows fits le le' = let b = both_true (is_atom t) (term_fits t) fits in no_atom_again _ d t rest follows b.0 b.1 le'
negated_again (no_equation t u) zero d rest follows fits le le' = let b = both_true (term_fits t) (term_fits u) fits in no_equation_again _ d t u rest follows b.0 b.1 (omega arith) (omega arith)
negated_again (no_equation t u) (suc m) d rest follows fits le le' = let b = both_true (term_fits t) (term_fits u) fits in no_equation_again _ d t u rest follows b.0 b.1 (omega arith) (omega arith)
negated_again (in_parens n) zero d rest follows fits le le' = absurd (omega arith)
negated_again (in_parens n) (suc m) d rest follows fits le le' = in_parens_again (negated_at m d) d n rest (negated_again n m d (mark 41 ∷ rest) (closed rest) fits (omega arith) (omega arith))

abbrev pub IsNegatedAnd : List Tok → Negated × List Tok → Type 0
IsNegatedAnd ts z = (ts ≡ negated_text z.0 z.1) × (negated_fits z.0 ≡ true)

negated_spelled_with : (p : Reads Negated) → ((ts : List Tok) (z : Negated × List Tok) → p ts ≡ Some z → IsNegatedAnd ts z) → (d : ℕ) (ts : List Tok) (z : Negated × List Tok) → negated_with p d ts ≡ Some z → IsNegatedAnd ts z
unfolding negated_with
negated_spelled_with p exact d ts z e =
    elim (chosen (begins_with 40 ts) (p (behind ts) >>= λ n. cond (begins_with 41 n.1) (Some (in_parens n.0, behind n.1)) None) (term_at d ts >>= λ t. cond (begins_with 61 t.1) (term_at d (behind t.1) >>= λ u. Some (no_equation t.0 u.0, u.1)) (cond (is_atom t.0) (Some (no_atom t.0, t.1)) None)) (Some z) e) [
      | inl w ↦
          let a = bind_some (p (behind ts)) (λ n. cond (begins_with 41 n.1) (Some (in_parens n.0, behind n.1)) None) z w.1 in
          let inner = exact (behind ts) a.0 a.1 in
          elim (chosen (begins_with 41 a.0.1) (Some (in_parens a.0.0, behind a.0.1)) None (Some z) a.2) [
            | inl v ↦ subst (IsNegatedAnd ts) (some_is (in_parens a.0.0, behind a.0.1) z v.1) (begins_is 40 ts w.0 ∙ ap (λ us. mark 40 ∷ us) (inner.0 ∙ ap (λ us. negated_text a.0.0 us) (begins_is 41 a.0.1 v.0)), inner.1)
            | inr v ↦ absurd cc
          ]
      | inr w ↦
          let a = bind_some (term_at d ts) (λ t. cond (begins_with 61 t.1) (term_at d (behind t.1) >>= λ u. Some (no_equation t.0 u.0, u.1)) (cond (is_atom t.0) (Some (no_atom t.0, t.1)) None)) z w.1 in
          let left = term_spelled d ts a.0 a.1 in
          elim (chosen (begins_with 61 a.0.1) (term_at d (behind a.0.1) >>= λ u. Some (no_equation a.0.0 u.0, u.1)) (cond (is_atom a.0.0) (Some (no_atom a.0.0, a.0.1)) None) (Some z) a.2) [
            | inl v ↦
                let b = bind_some (term_at d (behind a.0.1)) (λ u. Some (no_equation a.0.0 u.0, u.1)) z v.1 in
                let right = term_spelled d (behind a.0.1) b.0 b.1 in
                subst (IsNegatedAnd ts) (some_is (no_equation a.0.0 b.0.0, b.0.1) z b.2) (left.0 ∙ ap (λ us. term a.0.0 us) (begins_is 61 a.0.1 v.0 ∙ ap (λ us. mark 61 ∷ us) right.0), and_both (term_fits a.0.0) (term_fits b.0.0) left.1 right.1)
            | inr v ↦ elim (chosen (is_atom a.0.0) (Some (no_atom a.0.0, a.0.1)) None (Some z) v.1) [
              | inl u ↦ subst (IsNegatedAnd ts) (some_is (no_atom a.0.0, a.0.1) z u.1) (left.0, and_both (is_atom a.0.0) (term_fits a.0.0) u.0 left.1)
              | inr u ↦ absurd cc
            ]
          ]
    ]

pub negated_spelled : (m d : ℕ) (ts : List Tok) (z : Negated × List Tok) → negated_at m d ts ≡ Some z → IsNegatedAnd ts z
unfolding negated_at
negated_spelled zero d ts z e = negated_spelled_with (λ us. None) (λ us y h. absurd cc) d ts z e
negated_spelled (suc m) d ts z e = negated_spelled_with (negated_at m d) (negated_spelled m d) d ts z e
