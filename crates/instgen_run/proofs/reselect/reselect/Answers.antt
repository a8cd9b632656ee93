use Rattle.instgen_run.proofs.Withdrawn.{reselected_orderly, reselected_selectable, reselected_under_way}
use Rattle.instgen_run.proofs.reselect.reselect.Goals as goal

pub returns-clause-orderly : goal.returns-clause-orderly
returns-clause-orderly g c =
    let (clause, at, choice) = c.choice_of-chosen.ensures in
    reselected_orderly g.S.Solver.atoms g.I.PartnerIndex.pairs g.I.PartnerIndex.fits c.args.run.now c.withdraw.new.run c.withdraw.new.partners c.in_ok-withdraw.ensures.rest c.args.v.now c.args.n
    c.choice_of-chosen.result.place c.choice_of-chosen.result.atom clause c.requires.selectable c.requires.within at choice c.select.new.self c.in_ok-select.ensures c.in_ok-withdraw.ensures.orderly c.in_ok-withdraw.ensures.absent

pub returns-clause-selectable : goal.returns-clause-selectable
returns-clause-selectable g c =
    let (clause, at, choice) = c.choice_of-chosen.ensures in
    reselected_selectable g.S.Solver.atoms g.I.PartnerIndex.pairs g.I.PartnerIndex.fits c.args.run.now c.withdraw.new.run c.withdraw.new.partners c.in_ok-withdraw.ensures.rest c.args.v.now c.args.n
    c.choice_of-chosen.result.place c.choice_of-chosen.result.atom clause c.requires.selectable c.requires.within at choice c.select.new.self c.in_ok-select.ensures

pub returns-clause-chosen : goal.returns-clause-chosen
returns-clause-chosen g c =
    let (clause, at, choice) = c.choice_of-chosen.ensures in
    reselected_under_way g.S.Solver.atoms g.I.PartnerIndex.pairs g.I.PartnerIndex.fits c.args.run.now c.withdraw.new.run c.withdraw.new.partners c.in_ok-withdraw.ensures.rest c.args.v.now c.args.n
    c.choice_of-chosen.result.place c.choice_of-chosen.result.atom clause c.requires.selectable c.requires.within at choice c.select.new.self c.in_ok-select.ensures
