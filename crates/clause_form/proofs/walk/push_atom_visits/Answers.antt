use Rattle.std.proofs.Common.{arith, sym, ℕ, ◌-◌, map}
use Rattle.std.proofs.lemmas.List.{get_or-map}
use Rattle.inst_logic.specs.declared.signed.Signed.{Signed}
use Rattle.inst_calculus.proofs.Distinct.{length_map}
use Rattle.clause_form.proofs.Stacks.{one_visit}
use Rattle.clause_form.proofs.walk.push_atom_visits.Goals as goal

pub loop-i-preserved : goal.loop-i-preserved
loop-i-preserved c =
    let atom = λ (l : Signed ℕ). l.atom in
    let long = length_map atom c.args.literals.now in
    one_visit c.args.side (map atom c.args.literals.now) c.args.steps.now.items c.loop-i.steps.items c.push.new.self.items c.loop-i.i _ (omega arith) (omega arith)
    (sym (get_or-map atom c.args.literals.now (c.loop-i.i - 1) c.index-literals-i.result _ (omega arith))) c.loop-i.invariant c.in_ok-push.ensures.items
