use Rattle.std.proofs.Common.{◌≡◌, ◌+◌, ◌*◌, ◌-◌, ◌<◌, ◌≤◌, ◌^◌, suc, true, length, take, drop, get_or, ap, ◌∙◌, sym, arith}
use Rattle.std.specs.Char.{is_ascii_digit}
use Rattle.cert_format.specs.Digits.{value}
use Rattle.cert_format.specs.Runs.{run}
use Rattle.cert_items.proofs.Digits.{value_take, value_next, run_next}
use Rattle.cert_items.proofs.Reading.{none_if}
use Rattle.cert_items.proofs.number.digits_value.Goals as goal

pub returns-in_err-n-clause-none : goal.returns-in_err-n-clause-none
returns-in_err-n-clause-none c =
    let bytes = c.args.bytes.now in
    let len = c.loop-len.len in
    let inside : len < length bytes = omega (arith, c.loop-len-test.true) in
    let digit : is_ascii_digit (get_or bytes len 0) ≡ true = sym c.is_ascii_digit.ensures.value ∙ c.if-is_ascii_digit.true in
    let far = run_next bytes len inside digit in
    let more = value_take bytes (suc len) (run is_ascii_digit bytes) 0 (omega (arith, far, c.loop-len.invariant.total)) in
    none_if _ (2 ^ 64 ≤ value 0 (take (run is_ascii_digit bytes) bytes)) (omega (arith, more, value_next bytes len 0 inside, c.loop-len.invariant.value_is, c.in_err-n.ensures.none))

pub loop-len-preserved : goal.loop-len-preserved
loop-len-preserved c =
    let bytes = c.args.bytes.now in
    let len = c.loop-len.len in
    let inside : len < length bytes = omega (arith, c.loop-len-test.true) in
    let digit : is_ascii_digit (get_or bytes len 0) ≡ true = sym c.is_ascii_digit.ensures.value ∙ c.if-is_ascii_digit.true in
    let on : suc len ≡ len + 1 = omega arith in
    let far : run is_ascii_digit (drop len bytes) ≡ 1 + run is_ascii_digit (drop (len + 1) bytes) = run_next bytes len inside digit ∙ ap (λ k. 1 + run is_ascii_digit (drop k bytes)) on in
    let next : value 0 (take (len + 1) bytes) ≡ value 0 (take len bytes) * 10 + (get_or bytes len 0 - 48) = ap (λ k. value 0 (take k bytes)) (sym on) ∙ value_next bytes len 0 inside in
    record {
      in_range = omega (arith, inside);
      total = omega (arith, far, c.loop-len.invariant.total);
      value_is = omega (arith, next, c.loop-len.invariant.value_is, c.in_ok-n.ensures.some);
      fits = c.in_ok-n.ensures.fits;
    }
