use Rattle.term_bank.specs.Forest.{tree_at}
use Rattle.saturation_cert.specs.Truths.{level}
use Rattle.saturation_cert.proofs.Walks.{true_by, by_true}
use Rattle.saturation_cert.proofs.truth_test.truth_test_over.Goals as goal

pub returns : goal.returns
returns g c =
    let cert = c.args.cert.now in
    let a = tree_at cert.base.bank c.args.atom in
    let ps = g.I.PartnerIndex.pairs c.args.positive.now in
    let qs = g.I.PartnerIndex.pairs c.args.negative.now in (
      λ t. true_by cert c.requires.testable.whole a ps qs (level c.in_ok-heaviest_positive.heaviest_positive) (level c.in_ok-heaviest_negative.heaviest_negative) c.requires.positive c.requires.negative c.in_ok-heaviest_positive.ensures c.in_ok-heaviest_negative.ensures (c.exceeds.ensures.0 t),
      λ any. c.exceeds.ensures.1 (by_true cert c.requires.testable.whole a ps qs (level c.in_ok-heaviest_positive.heaviest_positive) (level c.in_ok-heaviest_negative.heaviest_negative) c.requires.positive c.requires.negative c.in_ok-heaviest_positive.ensures c.in_ok-heaviest_negative.ensures any),
    )
