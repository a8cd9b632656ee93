-- What was packed is read again.
use Rattle.std.proofs.Common.{◌≡◌, ℕ, ◌+◌, ◌/◌, ◌%◌, ◌<◌, ◌^◌, Bool, true, false, cond, Some, ap₂, arith}
use Rattle.std.specs.Prelude.{◌==◌}
use Rattle.std.proofs.lemmas.Bool.{ne_eqb}
use Rattle.inst_logic.specs.declared.signed.Signed.{Signed}
use Rattle.cdcl_trail.specs.declared.watch.WatchedPair.{WatchedPair}
use Rattle.cdcl_trail.specs.Packed.{literal_of, pair_at_slots}
use Rattle.cdcl_trail.specs.Watch.{slot_of}

pub literal_again : (positive : Bool) (a : ℕ) → literal_of (a + a + cond positive 1 0) ≡ record { positive = positive; atom = a }
literal_again true a =
    let low : (a + a + 1) % 2 ≡ 1 = omega arith in
    let half : (a + a + 1) / 2 ≡ a = omega arith in
    ap₂ (λ (m : ℕ) (n : ℕ). record { positive = m == 1; atom = n }) low half
literal_again false a =
    let low : (a + a + 0) % 2 ≡ 0 = omega arith in
    let half : (a + a + 0) / 2 ≡ a = omega arith in
    ap₂ (λ (m : ℕ) (n : ℕ). record { positive = m == 1; atom = n }) low half

pub pair_again : (p : WatchedPair) → slot_of p.first + 1 < 2 ^ 32 → pair_at_slots (slot_of p.first) (slot_of p.second) ≡ Some p
pair_again p low =
    let some : (slot_of p.first == 4294967295) ≡ false = ne_eqb (slot_of p.first) 4294967295 (λ same. absurd (omega (arith, low, same))) in
    rw some (ap₂ (λ (a : Signed ℕ) (b : Signed ℕ). Some (record { first = a; second = b })) (literal_again p.first.positive p.first.atom) (literal_again p.second.positive p.second.atom))
