use Rattle.std.proofs.Common.{refl}
use Rattle.global_subs.proofs.MoveLaws.{kept_notes, kept_again}
use Rattle.global_subs.proofs.repair.settle.Goals as goal

pub returns-in_ok-add-in-Some-2-clause-kept : goal.returns-in_ok-add-in-Some-2-clause-kept
returns-in_ok-add-in-Some-2-clause-kept c =
    let k = c.make_true.ensures.kept in
    let loose = c.make_true.new.witnesses.loose.items in
    kept_again c.args.clauses.now c.make_true.new.witnesses.notes c.add.new.self c.make_true.new.witnesses.values c.make_true.new.witnesses.values loose loose k c.add.ensures.len refl
    (kept_notes c.args.clauses.now c.make_true.new.witnesses.notes c.add.new.self c.make_true.new.witnesses.values loose c.add.ensures.keeps k.each)
