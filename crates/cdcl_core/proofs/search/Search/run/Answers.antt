use Rattle.std.proofs.Common.{ap, ◌∙◌}
use Rattle.cdcl_core.proofs.search.Search.run.Goals as goal

pub loop-self-preserved-then-is_due : goal.loop-self-preserved-then-is_due
loop-self-preserved-then-is_due c =
    let b = c.restart.ensures.back in
    let i = c.loop-self.invariant in
    record {
      search = b.search c.args.assumptions.now i.search;
      same = record { atoms = ap (λ t. t.atoms) b.back ∙ i.same.atoms; added = b.added ∙ i.same.added };
    }
