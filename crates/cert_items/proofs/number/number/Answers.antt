use Rattle.std.proofs.Common.{take, drop, refl}
use Rattle.std.specs.Char.{is_ascii_digit}
use Rattle.cert_format.specs.Runs.{run}
use Rattle.cert_format.proofs.Digits.{split_of, none_small}
use Rattle.cert_items.proofs.Reading.{none_if}
use Rattle.cert_items.proofs.number.number.Goals as goal

pub returns-in_err-n-clause-none : goal.returns-in_err-n-clause-none
returns-in_err-n-clause-none c =
    let bytes = c.args.bytes.now in
    let count = run is_ascii_digit bytes in
    none_if _ _ (none_small bytes (take count bytes) (drop count bytes) (split_of bytes (take count bytes) (drop count bytes) count refl refl refl) c.in_err-n.ensures.none)
