-- Lists with a mark before each item.
use Rattle.std.proofs.Common.{◌≡◌, ℕ, zero, suc, ◌≤◌, Bool, true, false, List, [], ◌∷◌, length, Some, refl, ap, subst, ◌∙◌, inl, inr, arith}
use Rattle.std.specs.Prelude.{◌&&◌}
use Rattle.tptp_read.specs.Stream.{Tok}
use Rattle.tptp_read.specs.Lexemes.{mark}
use Rattle.tptp_read.specs.Parse.{◌>>=◌, Reads, begins_with, behind, many_at}
use Rattle.tptp_read.proofs.ParseLaws.{and_both, bind_some, chosen, some_is, begins_is}

module _ {A : Type 0} (b : ℕ) (spell : A → List Tok → List Tok) (fits : A → Bool) where
  abbrev pub spell_all : List A → List Tok → List Tok
  spell_all [] rest = rest
  spell_all (x ∷ xs) rest = mark b ∷ spell x (spell_all xs rest)

  abbrev pub all_fit : List A → Bool
  all_fit [] = true
  all_fit (x ∷ xs) = fits x && all_fit xs

  abbrev pub IsAnd : List Tok → A × List Tok → Type 0
  IsAnd ts z = (ts ≡ spell z.0 z.1) × (fits z.0 ≡ true)

  abbrev pub AreAnd : List Tok → List A × List Tok → Type 0
  AreAnd ts z = (ts ≡ spell_all z.0 z.1) × (all_fit z.0 ≡ true)

  pub spelled_many : (p : Reads A) → ((ts : List Tok) (z : A × List Tok) → p ts ≡ Some z → IsAnd ts z) → (n : ℕ) (ts : List Tok) (z : List A × List Tok) → many_at b p n ts ≡ Some z → AreAnd ts z
  unfolding many_at
  spelled_many p exact zero ts z e = subst (AreAnd ts) (some_is ([], ts) z e) (refl, refl)
  spelled_many p exact (suc n) ts z e =
      elim (chosen (begins_with b ts) (p (behind ts) >>= λ x. many_at b p n x.1 >>= λ xs. Some (x.0 ∷ xs.0, xs.1)) (Some ([], ts)) (Some z) e) [
        | inl w ↦
            let a = bind_some (p (behind ts)) (λ x. many_at b p n x.1 >>= λ xs. Some (x.0 ∷ xs.0, xs.1)) z w.1 in
            let c = bind_some (many_at b p n a.0.1) (λ xs. Some (a.0.0 ∷ xs.0, xs.1)) z a.2 in
            let first = exact (behind ts) a.0 a.1 in
            let others = spelled_many p exact n a.0.1 c.0 c.1 in
            let spelled : ts ≡ mark b ∷ spell a.0.0 (spell_all c.0.0 c.0.1) = begins_is b ts w.0 ∙ ap (λ us. mark b ∷ us) (first.0 ∙ ap (λ us. spell a.0.0 us) others.0) in
            subst (AreAnd ts) (some_is (a.0.0 ∷ c.0.0, c.0.1) z c.2) (spelled, and_both (fits a.0.0) (all_fit c.0.0) first.1 others.1)
        | inr w ↦ subst (AreAnd ts) (some_is ([], ts) z w.1) (refl, refl)
      ]

  -- each is read again, whatever may follow it
  module _ (Follow : List Tok → Type 0) (after_mark : (r : List Tok) → Follow (mark b ∷ r)) (is_mark : (r : List Tok) → begins_with b (mark b ∷ r) ≡ true) where
    abbrev pub AllAgain : Reads A → List A → Type 0
    AllAgain p [] = Unit {0}
    AllAgain p (x ∷ xs) = ((r : List Tok) → Follow r → p (spell x r) ≡ Some (x, r)) × AllAgain p xs

    pub follows_all : (xs : List A) (rest : List Tok) → Follow rest → Follow (spell_all xs rest)
    follows_all [] rest f = f
    follows_all (x ∷ xs) rest f = after_mark (spell x (spell_all xs rest))

    pub many_again : (p : Reads A) (n : ℕ) (xs : List A) (rest : List Tok) → Follow rest → begins_with b rest ≡ false → length xs ≤ n → AllAgain p xs → many_at b p n (spell_all xs rest) ≡ Some (xs, rest)
    unfolding many_at
    many_again p zero [] rest f other le all = refl
    many_again p zero (x ∷ xs) rest f other le all = absurd (omega arith)
    many_again p (suc n) [] rest f other le all = rw other refl
    many_again p (suc n) (x ∷ xs) rest f other le all = rw (is_mark (spell x (spell_all xs rest)), all.0 (spell_all xs rest) (follows_all xs rest f), many_again p n xs rest f other (omega arith) all.1) refl
