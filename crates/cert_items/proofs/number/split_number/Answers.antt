use Rattle.std.proofs.Common.{ap, ◌∙◌, sym}
use Rattle.cert_format.specs.Digits.{value}
use Rattle.cert_format.proofs.Digits.{split_of, found, none_plain}
use Rattle.cert_items.proofs.number.split_number.Goals as goal

pub returns-then-not-is_plain-clause-none : goal.returns-then-not-is_plain-clause-none
returns-then-not-is_plain-clause-none c =
    none_plain c.args.bytes.now c.split_at.result.0.now c.split_at.result.1.now
    (split_of c.args.bytes.now c.split_at.result.0.now c.split_at.result.1.now c.args.len c.requires.count c.split_at.ensures.front c.split_at.ensures.back)
    cc

pub returns-clause-some : goal.returns-clause-some
returns-clause-some c =
    found c.args.bytes.now c.split_at.result.0.now c.split_at.result.1.now c.args.n c.requires.fits
    (split_of c.args.bytes.now c.split_at.result.0.now c.split_at.result.1.now c.args.len c.requires.count c.split_at.ensures.front c.split_at.ensures.back)
    (cc) (c.requires.value ∙ ap (value 0) (sym c.split_at.ensures.front))
