use Rattle.std.proofs.Common.{◌≡◌, ◌+◌, ◌*◌, ◌-◌, ◌<◌, suc, true, length, take, drop, get_or, refl, ap, ◌∙◌, sym, arith}
use Rattle.std.specs.Char.{is_ascii_digit}
use Rattle.cert_format.specs.Digits.{value}
use Rattle.cert_format.specs.Runs.{run}
use Rattle.cert_items.proofs.Digits.{run_next, next_below, first_below, tens_fit, value_next}
use Rattle.cert_items.proofs.number.first_digits.Goals as goal
use Rattle.cert_items.proofs.number.first_digits.Goals.{After-from}

pub loop-len-init : goal.loop-len-init
loop-len-init c = record { in_range = omega arith; total = omega arith; value_is = refl; small = first_below }

below_ten : (c : After-from) → c.from.result < 10
below_ten c = let b = c.if-is_ascii_digit.ensures.cases in omega (arith, b, c.from.ensures)

pub overflow_mul-n : goal.overflow_mul-n
overflow_mul-n c =
    let next = next_below c.loop-len.n c.loop-len.len 0 c.loop-len.invariant.small (omega arith) in
    let fits = tens_fit (c.loop-len.n * 10 + 0) (c.loop-len.len + 1) next (omega (arith, c.loop-len-test.true, c.min-most.ensures)) in
    omega (arith, fits)

pub overflow_add-n : goal.overflow_add-n
overflow_add-n c =
    let next = next_below c.loop-len.n c.loop-len.len c.from.result c.loop-len.invariant.small (below_ten c) in
    let fits = tens_fit (c.loop-len.n * 10 + c.from.result) (c.loop-len.len + 1) next (omega (arith, c.loop-len-test.true, c.min-most.ensures)) in
    omega (arith, fits)

pub loop-len-preserved : goal.loop-len-preserved
loop-len-preserved c =
    let bytes = c.args.bytes.now in
    let len = c.loop-len.len in
    let inside : len < length bytes = omega (arith, c.loop-len-test.true, c.min-most.ensures) in
    let digit : is_ascii_digit (get_or bytes len 0) ≡ true = sym c.is_ascii_digit.ensures.value ∙ c.if-is_ascii_digit.true in
    let on : suc len ≡ len + 1 = omega arith in
    let far : run is_ascii_digit (drop len bytes) ≡ 1 + run is_ascii_digit (drop (len + 1) bytes) = run_next bytes len inside digit ∙ ap (λ k. 1 + run is_ascii_digit (drop k bytes)) on in
    let next : value 0 (take (len + 1) bytes) ≡ value 0 (take len bytes) * 10 + (get_or bytes len 0 - 48) = ap (λ k. value 0 (take k bytes)) (sym on) ∙ value_next bytes len 0 inside in
    record {
      in_range = omega (arith, c.loop-len-test.true);
      total = omega (arith, far, c.loop-len.invariant.total);
      value_is = omega (arith, next, c.loop-len.invariant.value_is, c.from.ensures);
      small = next_below c.loop-len.n len c.from.result c.loop-len.invariant.small (below_ten c);
    }
