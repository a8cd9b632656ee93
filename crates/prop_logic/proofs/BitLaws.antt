-- One bit of a word.
use Rattle.std.proofs.Common.{◌≡◌, ◌≢◌, ℕ, ◌+◌, ◌*◌, ◌%◌, ◌^◌, ◌<◌, ap, ◌∙◌, arith}
use Rattle.std.specs.Prelude.{bit_or, max}
use Rattle.std.specs.Int.{bit_at}
use Rattle.std.specs.Int.Bits.{bit_xor}
use Rattle.std.proofs.lemmas.Nat.{one_shl}
use Rattle.std.proofs.lemmas.Nat.Bits.{bit_at_or, bit_at_xor, bit_at-pow_same, bit_at-pow_other, bit_at-lt}

pub set_here : (word bit : ℕ) → bit < 64 → bit_at (bit_or word (1 * 2 ^ bit % 2 ^ 64)) bit ≡ 1
set_here word bit h =
    let m : bit_at (2 ^ bit) bit ≡ 1 = bit_at-pow_same bit in
    ap (λ x. bit_at (bit_or word x) bit) (one_shl bit 64 h) ∙ bit_at_or word (2 ^ bit) bit ∙ ap (max (bit_at word bit)) m ∙ top (bit_at word bit) (bit_at-lt word bit)
  where
    top : (n : ℕ) → n < 2 → max n 1 ≡ 1
    top n h = grind arith

pub set_other : (word bit i : ℕ) → bit < 64 → i ≢ bit → bit_at (bit_or word (1 * 2 ^ bit % 2 ^ 64)) i ≡ bit_at word i
set_other word bit i h other =
    ap (λ x. bit_at (bit_or word x) i) (one_shl bit 64 h) ∙ bit_at_or word (2 ^ bit) i ∙ ap (max (bit_at word i)) (bit_at-pow_other bit i other) ∙ top (bit_at word i)
  where
    top : (n : ℕ) → max n 0 ≡ n
    top n = grind arith

pub flip_here : (word bit : ℕ) → bit < 64 → bit_at word bit ≡ 1 → bit_at (bit_xor word (1 * 2 ^ bit % 2 ^ 64)) bit ≡ 0
flip_here word bit h one =
    ap (λ x. bit_at (bit_xor word x) bit) (one_shl bit 64 h) ∙ bit_at_xor word (2 ^ bit) bit ∙ ap (λ x. (x + bit_at (2 ^ bit) bit) % 2) one ∙ ap (λ x. (1 + x) % 2) (bit_at-pow_same bit)

pub flip_other : (word bit i : ℕ) → bit < 64 → i ≢ bit → bit_at (bit_xor word (1 * 2 ^ bit % 2 ^ 64)) i ≡ bit_at word i
flip_other word bit i h other =
    ap (λ x. bit_at (bit_xor word x) i) (one_shl bit 64 h) ∙ bit_at_xor word (2 ^ bit) i ∙ ap (λ x. (bit_at word i + x) % 2) (bit_at-pow_other bit i other) ∙ low (bit_at word i) (bit_at-lt word i)
  where
    low : (n : ℕ) → n < 2 → (n + 0) % 2 ≡ n
    low n h = grind arith
