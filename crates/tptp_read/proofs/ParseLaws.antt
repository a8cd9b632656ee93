-- What is read is spelled so, and what is spelled so is read.
use Rattle.std.proofs.Common.{◌≡◌, ℕ, zero, suc, ◌+◌, ◌≤◌, max, Bool, true, false, cond, List, [], ◌∷◌, length, Option, Some, None, refl, sym, ap, subst, ◌∙◌, inl, inr, arith}
use Rattle.std.specs.Prelude.{◌&&◌, ◌⊎◌}
use Rattle.std.specs.Str.{bytes_eq}
use Rattle.std.proofs.lemmas.Slice.Eq.{bytes_eq-Decides}
use Rattle.tptp_read.specs.declared.kind.TokenKind.{TokenKind}
use Rattle.tptp_read.specs.declared.kind.TokenKind.TheVariants.{LowerWord, Variable, DollarWord, QuotedWord, DistinctObject, Integer, Rational, Real, Punctuation}
use Rattle.tptp_read.specs.Stream.{Tok}
use Rattle.tptp_read.specs.Lexemes.{mark, is_punctuation, is_mark_token, is_head, is_plain}
use Rattle.tptp_read.specs.Grammar.{Written, single, applied, Writtens, none, more, term, terms, term_fits, terms_fit}
use Rattle.tptp_read.specs.Parse.{◌>>=◌, Reads, begins_with, behind, many_at, writtens, applied_at, term_with, term_at}
pub use Rattle.inst_logic.proofs.Booleans.{both_true, and_both, right_false as and_false}

-- ---- what is spelled so is read

-- how many parentheses are open at once
abbrev mutual
  pub depth : Written → ℕ
  depth (single t) = 0
  depth (applied f t ts) = max (depth t) (depths ts) + 1

  pub depths : Writtens → ℕ
  depths none = 0
  depths (more t ts) = max (depth t) (depths ts)

abbrev pub listed : Writtens → List Written
listed none = []
listed (more t ts) = t ∷ listed ts

writtens_listed : (ts : Writtens) → writtens (listed ts) ≡ ts
writtens_listed none = refl
writtens_listed (more t ts) = ap (λ us. more t us) (writtens_listed ts)

-- how many tokens there are at least
mutual
  pub term_len : (t : Written) (rest : List Tok) → length rest + 1 ≤ length (term t rest)
  term_len (single t) rest = omega arith
  term_len (applied f t ts) rest =
      let a = term_len t (terms ts (mark 41 ∷ rest)) in
      let b = terms_len ts (mark 41 ∷ rest) in
      omega (arith, a, b)

  terms_len : (ts : Writtens) (rest : List Tok) → length rest + length (listed ts) ≤ length (terms ts rest)
  terms_len none rest = omega arith
  terms_len (more t ts) rest =
      let a = term_len t (terms ts rest) in
      let b = terms_len ts rest in
      omega (arith, a, b)

-- behind a term no parenthesis opens
no_open : (ts : Writtens) (rest : List Tok) → begins_with 40 (terms ts (mark 41 ∷ rest)) ≡ false
no_open none rest = refl
no_open (more t ts) rest = refl

plain_again : (p : Reads Written) (t : Tok) (rest : List Tok) → is_plain t.kind ≡ true → begins_with 40 rest ≡ false → term_with p (t ∷ rest) ≡ Some (single t, rest)
unfolding term_with
plain_again p t rest fits follows = rw (and_false (is_head t.kind) (begins_with 40 rest) follows, fits) refl

applied_again : (p : Reads Written) (f : Tok) (t : Written) (ts : Writtens) (rest : List Tok) → is_head f.kind ≡ true
    → p (term t (terms ts (mark 41 ∷ rest))) ≡ Some (t, terms ts (mark 41 ∷ rest))
    → many_at 44 p (length (terms ts (mark 41 ∷ rest))) (terms ts (mark 41 ∷ rest)) ≡ Some (listed ts, mark 41 ∷ rest)
    → term_with p (term (applied f t ts) rest) ≡ Some (applied f t ts, rest)
unfolding term_with applied_at
applied_again p f t ts rest head first others = rw (head, first, others, writtens_listed ts) refl

many_stops : (p : Reads Written) (n : ℕ) (rest : List Tok) → many_at 44 p n (mark 41 ∷ rest) ≡ Some ([], mark 41 ∷ rest)
unfolding many_at
many_stops p zero rest = refl
many_stops p (suc n) rest = refl

many_goes_on : (p : Reads Written) (n : ℕ) (t : Written) (ts : Writtens) (rest : List Tok)
    → p (term t (terms ts (mark 41 ∷ rest))) ≡ Some (t, terms ts (mark 41 ∷ rest))
    → many_at 44 p n (terms ts (mark 41 ∷ rest)) ≡ Some (listed ts, mark 41 ∷ rest)
    → many_at 44 p (suc n) (terms (more t ts) (mark 41 ∷ rest)) ≡ Some (listed (more t ts), mark 41 ∷ rest)
unfolding many_at
many_goes_on p n t ts rest first others = rw (first, others) refl

pub at_depth : (d : ℕ) (ts : List Tok) → term_at (suc d) ts ≡ term_with (term_at d) ts
unfolding term_at
at_depth d ts = refl

pub at_zero : (ts : List Tok) → term_at zero ts ≡ term_with (λ us. None) ts
unfolding term_at
at_zero ts = refl

mutual
  pub term_again : (t : Written) (d : ℕ) (rest : List Tok) → depth t ≤ d → term_fits t ≡ true → begins_with 40 rest ≡ false → term_at d (term t rest) ≡ Some (t, rest)
  term_again (single t) zero rest le fits follows = at_zero (t ∷ rest) ∙ plain_again _ t rest fits follows
  term_again (single t) (suc d) rest le fits follows = at_depth d (t ∷ rest) ∙ plain_again _ t rest fits follows
  term_again (applied f t ts) zero rest le fits follows = absurd (omega arith)
  term_again (applied f t ts) (suc d) rest le fits follows =
      let f1 = both_true (is_head f.kind) (term_fits t && terms_fit ts) fits in
      let f2 = both_true (term_fits t) (terms_fit ts) f1.1 in
      at_depth d (term (applied f t ts) rest) ∙ applied_again (term_at d) f t ts rest f1.0
      (term_again t d (terms ts (mark 41 ∷ rest)) (omega arith) f2.0 (no_open ts rest))
      (terms_again ts d (length (terms ts (mark 41 ∷ rest))) rest (omega arith) f2.1 (omega (arith, terms_len ts (mark 41 ∷ rest))))

  terms_again : (ts : Writtens) (d n : ℕ) (rest : List Tok) → depths ts ≤ d → terms_fit ts ≡ true → length (listed ts) ≤ n → many_at 44 (term_at d) n (terms ts (mark 41 ∷ rest)) ≡ Some (listed ts, mark 41 ∷ rest)
  terms_again none d n rest le fits enough = many_stops (term_at d) n rest
  terms_again (more t ts) d zero rest le fits enough = absurd (omega arith)
  terms_again (more t ts) d (suc n) rest le fits enough =
      let f2 = both_true (term_fits t) (terms_fit ts) fits in
      many_goes_on (term_at d) n t ts rest (term_again t d (terms ts (mark 41 ∷ rest)) (omega arith) f2.0 (no_open ts rest)) (terms_again ts d n rest (omega arith) f2.1 (omega arith))

-- ---- what is read is spelled so

-- the value of a step that did not fail
pub bind_some : {A B : Type 0} (r : Option A) (f : A → Option B) (y : B) → (r >>= f) ≡ Some y → (x : A) × (r ≡ Some x) × (f x ≡ Some y)
bind_some (Some x) f y e = (x, refl, e)
bind_some None f y e = absurd cc

-- a test that chose
pub chosen : {A : Type 0} (b : Bool) (x y z : A) → cond b x y ≡ z → ((b ≡ true) × (x ≡ z)) ⊎ ((b ≡ false) × (y ≡ z))
chosen true x y z e = inl (refl, e)
chosen false x y z e = inr (refl, e)

pub punctuation_is : (k : TokenKind) → is_punctuation k ≡ true → k ≡ Punctuation
punctuation_is Punctuation e = refl
punctuation_is LowerWord e = absurd cc
punctuation_is Variable e = absurd cc
punctuation_is DollarWord e = absurd cc
punctuation_is QuotedWord e = absurd cc
punctuation_is DistinctObject e = absurd cc
punctuation_is Integer e = absurd cc
punctuation_is Rational e = absurd cc
punctuation_is Real e = absurd cc

pub mark_is : (b : ℕ) (t : Tok) → is_mark_token b t ≡ true → t ≡ mark b
mark_is b t e =
    let both = both_true (is_punctuation t.kind) (bytes_eq t.text (b ∷ [])) e in
    let k = punctuation_is t.kind both.0 in
    let x = (bytes_eq-Decides t.text (b ∷ [])).0 both.1 in
    λ i. record { kind = k i; text = x i }

pub begins_is : (b : ℕ) (ts : List Tok) → begins_with b ts ≡ true → ts ≡ mark b ∷ behind ts
begins_is b [] e = absurd cc
begins_is b (t ∷ ts) e = ap (λ u. u ∷ ts) (mark_is b t e)

abbrev pub done : {A : Type 0} → A → Option A
done x = Some x

pub some_is : {A : Type 0} (x y : A) → done x ≡ done y → x ≡ y
some_is x y e = cc

-- the tokens are those of the term, and what follows
abbrev pub IsTermAnd : List Tok → Written × List Tok → Type 0
IsTermAnd ts z = (ts ≡ term z.0 z.1) × (term_fits z.0 ≡ true)

abbrev pub AreTermsAnd : List Tok → List Written × List Tok → Type 0
AreTermsAnd ts z = (ts ≡ terms (writtens z.0) z.1) × (terms_fit (writtens z.0) ≡ true)

-- a way to read whose values are spelled so
abbrev pub IsExact : Reads Written → Type 0
IsExact p = (ts : List Tok) (z : Written × List Tok) → p ts ≡ Some z → IsTermAnd ts z

many_spelled : (p : Reads Written) → IsExact p → (n : ℕ) (ts : List Tok) (z : List Written × List Tok) → many_at 44 p n ts ≡ Some z → AreTermsAnd ts z
unfolding many_at
many_spelled p exact zero ts z e = subst (AreTermsAnd ts) (some_is ([], ts) z e) (refl, refl)
many_spelled p exact (suc n) ts z e =
    elim (chosen (begins_with 44 ts) (p (behind ts) >>= λ x. many_at 44 p n x.1 >>= λ xs. Some (x.0 ∷ xs.0, xs.1)) (Some ([], ts)) (Some z) e) [
      | inl w ↦
          let a = bind_some (p (behind ts)) (λ x. many_at 44 p n x.1 >>= λ xs. Some (x.0 ∷ xs.0, xs.1)) z w.1 in
          let b = bind_some (many_at 44 p n a.0.1) (λ xs. Some (a.0.0 ∷ xs.0, xs.1)) z a.2 in
          let first = exact (behind ts) a.0 a.1 in
          let others = many_spelled p exact n a.0.1 b.0 b.1 in
          let spelled : ts ≡ mark 44 ∷ term a.0.0 (terms (writtens b.0.0) b.0.1) = begins_is 44 ts w.0 ∙ ap (λ us. mark 44 ∷ us) (first.0 ∙ ap (λ us. term a.0.0 us) others.0) in
          subst (AreTermsAnd ts) (some_is (a.0.0 ∷ b.0.0, b.0.1) z b.2) (spelled, and_both (term_fits a.0.0) (terms_fit (writtens b.0.0)) first.1 others.1)
      | inr w ↦ subst (AreTermsAnd ts) (some_is ([], ts) z w.1) (refl, refl)
    ]

applied_spelled : (p : Reads Written) → IsExact p → (f : Tok) (ts us : List Tok) (z : Written × List Tok) → is_head f.kind ≡ true → ts ≡ mark 40 ∷ us → applied_at p f us ≡ Some z → IsTermAnd (f ∷ ts) z
unfolding applied_at
applied_spelled p exact f ts us z head opened e =
    let a = bind_some (p us) (λ t. many_at 44 p (length t.1) t.1 >>= λ vs. cond (begins_with 41 vs.1) (Some (applied f t.0 (writtens vs.0), behind vs.1)) None) z e in
    let b = bind_some (many_at 44 p (length a.0.1) a.0.1) (λ vs. cond (begins_with 41 vs.1) (Some (applied f a.0.0 (writtens vs.0), behind vs.1)) None) z a.2 in
    let first = exact us a.0 a.1 in
    let others = many_spelled p exact (length a.0.1) a.0.1 b.0 b.1 in
    elim (chosen (begins_with 41 b.0.1) (Some (applied f a.0.0 (writtens b.0.0), behind b.0.1)) None (Some z) b.2) [
      | inl w ↦
          let spelled : f ∷ ts ≡ f ∷ mark 40 ∷ term a.0.0 (terms (writtens b.0.0) (mark 41 ∷ behind b.0.1)) =
          ap (λ vs. f ∷ vs) (opened ∙ ap (λ vs. mark 40 ∷ vs) (first.0 ∙ ap (λ vs. term a.0.0 vs) (others.0 ∙ ap (λ vs. terms (writtens b.0.0) vs) (begins_is 41 b.0.1 w.0)))) in
          subst (IsTermAnd (f ∷ ts)) (some_is (applied f a.0.0 (writtens b.0.0), behind b.0.1) z w.1) (spelled, and_both (is_head f.kind) (term_fits a.0.0 && terms_fit (writtens b.0.0)) head (and_both (term_fits a.0.0) (terms_fit (writtens b.0.0)) first.1 others.1))
      | inr w ↦ absurd cc
    ]

term_spelled_with : (p : Reads Written) → IsExact p → IsExact (term_with p)
unfolding term_with
term_spelled_with p exact [] z e = absurd cc
term_spelled_with p exact (t ∷ ts) z e =
    elim (chosen (is_head t.kind && begins_with 40 ts) (applied_at p t (behind ts)) (cond (is_plain t.kind) (Some (single t, ts)) None) (Some z) e) [
      | inl w ↦
          let both = both_true (is_head t.kind) (begins_with 40 ts) w.0 in
          applied_spelled p exact t ts (behind ts) z both.0 (begins_is 40 ts both.1) w.1
      | inr w ↦ elim (chosen (is_plain t.kind) (Some (single t, ts)) None (Some z) w.1) [
        | inl v ↦ subst (IsTermAnd (t ∷ ts)) (some_is (single t, ts) z v.1) (refl, v.0)
        | inr v ↦ absurd cc
      ]
    ]

pub term_spelled : (d : ℕ) → IsExact (term_at d)
term_spelled zero ts z e = term_spelled_with (λ us. None) (λ us y h. absurd cc) ts z (sym (at_zero ts) ∙ e)
term_spelled (suc d) ts z e = term_spelled_with (term_at d) (term_spelled d) ts z (sym (at_depth d ts) ∙ e)
