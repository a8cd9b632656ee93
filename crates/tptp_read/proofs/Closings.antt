-- Text between quotes: what is found is spelled so, and what is spelled so is found.
use Rattle.std.proofs.Common.{◌≡◌, ℕ, ◌+◌, Bool, true, false, List, [], ◌∷◌, ◌++◌, length, Option, Some, None, refl, sym, ap, arith}
use Rattle.std.specs.Prelude.{◌&&◌, ◌||◌, ◌==◌, not, IsTrue}
use Rattle.std.specs.Option.{option_map}
use Rattle.std.proofs.lemmas.Bool.{eqb-true, eq-eqb, cond_both}
use Rattle.tptp_read.specs.Bytes.{is_printed, closing}
use Rattle.tptp_read.specs.Table.{are_items}
use Rattle.tptp_read.proofs.TokenFronts.{both_true, and_true}

-- items, the mark, and what follows
pub record Closed (mark : ℕ) (escaped : Bool) (bs : List ℕ) (n : ℕ) : Type 0 where
  pub items : List ℕ
  pub rest : List ℕ
  pub whole : bs ≡ items ++ mark ∷ rest
  pub len : length items + 1 ≡ n
  pub are : IsTrue (are_items mark escaped items)

abbrev pub IsClosed : ℕ → Bool → List ℕ → Option ℕ → Type 0
IsClosed mark escaped bs None = Unit {0}
IsClosed mark escaped bs (Some n) = Closed mark escaped bs n

more : (mark b : ℕ) (escaped next : Bool) (bs : List ℕ) (o : Option ℕ) → ((items : List ℕ) → IsTrue (are_items mark next items) → IsTrue (are_items mark escaped (b ∷ items))) → IsClosed mark next bs o → IsClosed mark escaped (b ∷ bs) (option_map (λ n. n + 1) o)
more mark b escaped next bs None step h = tt
more mark b escaped next bs (Some n) step h = record { items = b ∷ h.items; rest = h.rest; whole = ap (λ (xs : List ℕ). b ∷ xs) h.whole; len = omega (arith, h.len); are = step h.items h.are }

at_mark : (mark b : ℕ) (bs : List ℕ) → b ≡ mark → Closed mark false (b ∷ bs) 1
at_mark mark b bs e = record { items = []; rest = bs; whole = ap (λ (x : ℕ). x ∷ bs) e; len = refl; are = refl }

not_false : (t : Bool) → t ≡ false → IsTrue (not t)
not_false true e = sym e
not_false false e = refl

pub closing_front : (mark : ℕ) (escaped : Bool) (bs : List ℕ) → IsClosed mark escaped bs (closing mark escaped bs)
closing_front mark escaped [] = tt
closing_front mark true (b ∷ bs) =
    cond_both (b == mark || b == 92) (option_map (λ n. n + 1) (closing mark false bs)) None (IsClosed mark true (b ∷ bs))
    (λ e. more mark b true false bs (closing mark false bs) (λ items k. and_true _ _ e k) (closing_front mark false bs))
    (λ e. tt)
closing_front mark false (b ∷ bs) =
    cond_both (b == mark) (Some 1) _ (IsClosed mark false (b ∷ bs))
    (λ e. at_mark mark b bs (eqb-true b mark e))
    (λ other. cond_both (is_printed b) (option_map (λ n. n + 1) (closing mark (b == 92) bs)) None (IsClosed mark false (b ∷ bs))
    (λ printed. more mark b false (b == 92) bs (closing mark (b == 92) bs) (λ items k. and_true (is_printed b) _ printed (and_true (not (b == mark)) _ (not_false (b == mark) other) k)) (closing_front mark (b == 92) bs))
    (λ e. tt))

is_not : (t : Bool) → IsTrue (not t) → t ≡ false
is_not true e = absurd cc
is_not false e = refl

pub closing_found : (mark : ℕ) (escaped : Bool) (items rest : List ℕ) → IsTrue (are_items mark escaped items) → closing mark escaped (items ++ mark ∷ rest) ≡ Some (length items + 1)
closing_found mark true [] rest are = absurd cc
closing_found mark false [] rest are = rw (eq-eqb mark mark refl) refl
closing_found mark true (b ∷ bs) rest are =
    let both = both_true (b == mark || b == 92) (are_items mark false bs) are in
    let h = closing_found mark false bs rest both.1 in
    rw (both.0, h) (ap (λ (n : ℕ). Some n) (omega arith))
closing_found mark false (b ∷ bs) rest are =
    let both = both_true (is_printed b) (not (b == mark) && are_items mark (b == 92) bs) are in
    let two = both_true (not (b == mark)) (are_items mark (b == 92) bs) both.1 in
    let other = is_not (b == mark) two.0 in
    let h = closing_found mark (b == 92) bs rest two.1 in
    rw (other, both.0, h) (ap (λ (n : ℕ). Some n) (omega arith))
