use Rattle.std.proofs.Common.{ℕ, ◌<◌, get_or, false, sym, ap, ◌∙◌, subst}
use Rattle.inst_logic.specs.declared.signed.Signed.{Signed}
use Rattle.prop_logic.proofs.ListLaws.{All-slice_get}
use Rattle.cdcl_core.proofs.EntryLaws.{entry_at}
use Rattle.cdcl_core.proofs.analysis.literal_at.Goals as goal

pub returns-clause-atom : goal.returns-clause-atom
returns-clause-atom c =
    let t = c.args.trail.now.trail in
    let d : Signed ℕ = record { positive = false; atom = 0 } in
    let f = entry_at t.entries c.args.place d c.requires in
    subst (λ l. l.atom < t.atoms) (sym (ap (λ xs. get_or xs c.args.place d) c.assigned-literals.ensures.literals ∙ f.2))
    (All-slice_get (λ e. e.lit.atom < t.atoms) t.entries c.assigned-literals.ensures.trail.atoms_below c.args.place f.0 f.1)
