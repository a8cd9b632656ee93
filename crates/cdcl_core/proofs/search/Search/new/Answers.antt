use Rattle.std.proofs.Common.{ap}
use Rattle.cdcl_core.specs.declared.search.Search.{Search}
use Rattle.cdcl_core.proofs.KeptLaws.{new_kept}
use Rattle.cdcl_core.proofs.search.Search.new.Goals as goal

pub returns-clause-kept : goal.returns-clause-kept
returns-clause-kept c =
    let s : Search = record { alloc = c.args.alloc; log = c.new.result; clauses = c.new-2.result; trail = c.new-3.result; learned = c.new-4.result; seen = c.new-5.result; activity = c.new-6.result; phases = c.new-7.result; next = 0; assumed = 0; checked = 0; copied = 0; settings = c.args.settings } in
    new_kept s c.new.ensures.added c.new.ensures.steps c.new-2.ensures (ap (λ t. t.entries) c.new-3.ensures.trail) (ap (λ t. t.atoms) c.new-3.ensures.trail) c.new-5.ensures c.new-7.ensures.values c.new-7.ensures.saved c.new-3.ensures.attached
