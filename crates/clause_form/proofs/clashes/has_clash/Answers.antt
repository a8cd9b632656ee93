use Rattle.std.proofs.Common.{ℕ, ◌<◌, length, arith, sym, subst, ap₂}
use Rattle.unify_core.specs.Lists.{◌∈◌}
use Rattle.unify_core.specs.Meeting.{Meeting, meetings}
use Rattle.unify_core.proofs.Lists.{∈-get_or}
use Rattle.clause_form.proofs.Fixed.{meet_at}
use Rattle.clause_form.proofs.clashes.has_clash.Goals as goal

pub is_fixed_else-requires : goal.is_fixed_else-requires
is_fixed_else-requires c =
    let within : c.loop-i.i < length c.args.xs.now = omega arith in
    c.requires.within c.index-xs-i.result (rw c.index-xs-i.is (∈-get_or c.args.xs.now c.loop-i.i c.index-xs-i.result within))

pub returns-then-is_fixed_else : goal.returns-then-is_fixed_else
returns-then-is_fixed_else c _ =
    let x = c.index-xs-i.result in
    let y = c.index-ys-i.result in
    let there = meet_at c.args.xs.now c.args.ys.now c.loop-i.i x y (omega arith) (omega arith) in
    let met = subst (λ (m : Meeting). m ∈ meetings c.args.xs.now c.args.ys.now) (sym (ap₂ (λ (a b : ℕ). (a, b)) c.index-xs-i.is c.index-ys-i.is)) there in
    ((x, y), met, c.is_fixed_else.ensures.ground c.if-is_fixed_else.true, c.is_fixed_else.ensures.other c.if-is_fixed_else.true)
