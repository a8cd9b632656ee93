use Rattle.std.proofs.Common.{◌≡◌, length, get_or, ap, subst, ◌∙◌, arith}
use Rattle.ground_abs.proofs.Numbered.{grows_on}
use Rattle.global_subs.specs.Notes.{numbers_at}
use Rattle.global_subs.specs.Keeping.{IsPlaced}
use Rattle.global_subs.proofs.ValueLaws.{all_passed}
use Rattle.global_subs.proofs.RepairLaws.{placed_more}
use Rattle.global_subs.proofs.force.place_all.Goals as goal

pub returns-in_err-place-clause-loose : goal.returns-in_err-place-clause-loose
returns-in_err-place-clause-loose c = grows_on c.args.loose.now.items c.loop-i.loose.items c.place.new.loose.items c.loop-i.invariant.loose c.place.ensures.loose

pub loop-i-preserved : goal.loop-i-preserved
loop-i-preserved c =
    let one = c.in_ok-place.ensures in
    let before = c.loop-i.invariant in
    let old = numbers_at c.args.notes.now c.args.from in
    let read : get_or c.at.result.now c.loop-i.i 0 ≡ get_or old c.loop-i.i 0 = ap (λ xs. get_or xs c.loop-i.i 0) (c.at.ensures ∙ before.same) in record {
      len = one.len ∙ before.len;
      keeps = λ l n h. one.keeps l n (before.keeps l n h);
      same = one.others c.args.from c.requires.untrue ∙ before.same;
      loose = grows_on c.args.loose.now.items c.loop-i.loose.items c.place.new.loose.items before.loose one.loose;
      placed = placed_more c.args.clauses.now c.loop-i.notes c.place.new.notes c.args.values.now c.loop-i.loose.items c.place.new.loose.items old c.loop-i.i 0
          (omega (arith, c.loop-i-test.true, ap length c.at-i-end.ensures)) one.keeps one.loose before.placed
          (subst (IsPlaced c.args.clauses.now c.place.new.notes c.args.values.now c.place.new.loose.items) read one.placed);
    }

pub returns-clause-placed : goal.returns-clause-placed
returns-clause-placed c =
    all_passed (IsPlaced c.args.clauses.now c.loop-i.notes c.args.values.now c.loop-i.loose.items) (numbers_at c.args.notes.now c.args.from) c.loop-i.i (omega (arith, c.loop-i-test.false, ap length c.at-i-end.ensures)) c.loop-i.invariant.placed
