use Rattle.cert_check.proofs.Refutations.{first_whole}
use Rattle.cert_check.proofs.GroundMembers.{canonical_members}
use Rattle.cert_check.proofs.first.check_grounds.Goals as goal

pub first_wrong_ground-requires-clause-canonical : goal.first_wrong_ground-requires-clause-canonical
first_wrong_ground-requires-clause-canonical c = canonical_members c.args.cert.now.base (λ n e at. (c.requires.members n e at).1)

pub first_wrong_ground-requires-clause-grounds : goal.first_wrong_ground-requires-clause-grounds
first_wrong_ground-requires-clause-grounds c i d within = (c.requires.whole.grounds i d within).ids

pub returns-clause-whole : goal.returns-clause-whole
returns-clause-whole c = first_whole c.args.cert.now c.first_wrong_ground.new.base c.requires.whole c.first_wrong_ground.ensures.kept c.first_wrong_ground.ensures.whole
