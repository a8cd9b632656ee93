use Rattle.std.proofs.Common.{◌≡◌, refl, sym, subst, ◌∙◌}
use Rattle.global_subs.specs.Keeping.{AreWitnessed, IsWitnessedAt}
use Rattle.global_subs.proofs.MoveLaws.{kept_again}
use Rattle.global_subs.proofs.RepairLaws.{first_same, front_first, front_some, first_settled}
use Rattle.global_subs.proofs.repair.settle_first.Goals as goal

pub returns-clause-kept : goal.returns-clause-kept
returns-clause-kept c =
    let clauses = c.args.clauses.now in
    let notes = c.settle.new.witnesses.notes in
    let values = c.settle.new.witnesses.values in
    let before = c.args.witnesses.now.loose.items in
    let loose = c.settle.new.witnesses.loose.items in
    let front = c.settle.ensures.loose in
    let x = c.swap_remove.result in
    let k = c.index-k.result.now in
    let same : x ≡ k = c.swap_remove.ensures.value ∙ front_first before loose front x c.requires.some ∙ first_same before x k c.requires.some ∙ sym c.index-k.ensures in
    let noted = subst (IsWitnessedAt clauses notes values) (sym same) (c.in_ok-settle.ensures.noted c.if-not-branch.false) in
    kept_again clauses notes notes values values loose c.swap_remove.new.self.items c.settle.ensures.kept refl refl
    (subst (AreWitnessed clauses notes values) (sym c.swap_remove.ensures.items)
    (first_settled clauses notes values loose x (front_some before loose front c.requires.some) c.swap_remove.ensures.value noted c.settle.ensures.kept.each))
