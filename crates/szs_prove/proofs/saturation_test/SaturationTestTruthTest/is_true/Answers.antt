use Rattle.szs_prove.proofs.GrownTests.{ground_atom, ready_after, ready_read, truth_told}
use Rattle.szs_prove.proofs.saturation_test.SaturationTestTruthTest.is_true.Goals as goal

pub returns-in_err-id-clause-ready : goal.returns-in_err-id-clause-ready
returns-in_err-id-clause-ready c =
    ready_after c.args.self.now.cert.now c.atom-id.new.self c.cert.result.now c.args.self.now.positive.now c.args.self.now.negative.now c.requires.ready c.atom-id.ensures.kept c.cert.ensures.whole c.cert.ensures.is c.distinct.ensures

pub truth_in-requires-clause-placed : goal.truth_in-requires-clause-placed
truth_in-requires-clause-placed c =
    (ready_read c.args.self.now.cert.now c.atom-id.new.self c.cert.result.now c.args.self.now.positive.now c.args.self.now.negative.now c.requires.ready c.atom-id.ensures.kept c.cert.ensures.whole c.cert.ensures.is c.distinct.ensures).placed

pub truth_in-requires-clause-atom : goal.truth_in-requires-clause-atom
truth_in-requires-clause-atom c = ground_atom c.atom-id.new.self c.cert.result.now c.in_ok-id.field-0 _ c.cert.ensures.is c.in_ok-id.ensures.at c.requires.formed c.requires.variable_free

pub truth_in-requires-clause-positive_fits : goal.truth_in-requires-clause-positive_fits
truth_in-requires-clause-positive_fits c =
    (ready_read c.args.self.now.cert.now c.atom-id.new.self c.cert.result.now c.args.self.now.positive.now c.args.self.now.negative.now c.requires.ready c.atom-id.ensures.kept c.cert.ensures.whole c.cert.ensures.is c.distinct.ensures).positive_fits

pub truth_in-requires-clause-negative_fits : goal.truth_in-requires-clause-negative_fits
truth_in-requires-clause-negative_fits c =
    (ready_read c.args.self.now.cert.now c.atom-id.new.self c.cert.result.now c.args.self.now.positive.now c.args.self.now.negative.now c.requires.ready c.atom-id.ensures.kept c.cert.ensures.whole c.cert.ensures.is c.distinct.ensures).negative_fits

pub truth_in-requires-clause-positive : goal.truth_in-requires-clause-positive
truth_in-requires-clause-positive c =
    (ready_read c.args.self.now.cert.now c.atom-id.new.self c.cert.result.now c.args.self.now.positive.now c.args.self.now.negative.now c.requires.ready c.atom-id.ensures.kept c.cert.ensures.whole c.cert.ensures.is c.distinct.ensures).positives

pub truth_in-requires-clause-negative : goal.truth_in-requires-clause-negative
truth_in-requires-clause-negative c =
    (ready_read c.args.self.now.cert.now c.atom-id.new.self c.cert.result.now c.args.self.now.positive.now c.args.self.now.negative.now c.requires.ready c.atom-id.ensures.kept c.cert.ensures.whole c.cert.ensures.is c.distinct.ensures).negatives

pub returns-clause-truth : goal.returns-clause-truth
returns-clause-truth c =
    truth_told c.args.self.now.cert.now c.atom-id.new.self c.cert.result.now c.in_ok-id.field-0 _ c.cert.ensures.is c.atom-id.ensures.same c.in_ok-id.ensures.at c.truth_in.result c.truth_in.ensures

pub returns-clause-ready : goal.returns-clause-ready
returns-clause-ready c =
    ready_after c.args.self.now.cert.now c.atom-id.new.self c.cert.result.now c.args.self.now.positive.now c.args.self.now.negative.now c.requires.ready c.atom-id.ensures.kept c.cert.ensures.whole c.cert.ensures.is c.distinct.ensures
