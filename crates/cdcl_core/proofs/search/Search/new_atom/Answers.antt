use Rattle.std.proofs.Common.{◌≡◌, ℕ, false, refl, List, Option}
use Rattle.cdcl_trail.specs.Trail.{with_atom}
use Rattle.cdcl_core.specs.declared.search.Search.{Search}
use Rattle.cdcl_core.specs.Search.{IsKept}
use Rattle.inst_logic.specs.declared.signed.Signed.{Signed}
use Rattle.cdcl_trail.specs.Attached.{AreAttached}
use Rattle.cdcl_core.proofs.KeptLaws.{atom_kept}
use Rattle.cdcl_core.proofs.BackLaws.{both_ok}
use Rattle.cdcl_core.proofs.search.Search.new_atom.Goals as goal

pub returns-clause-kept : goal.returns-clause-kept
returns-clause-kept c =
    let old = c.args.self.now in
    let new : Search = record old { trail = c.grow-4.new.self; activity = c.grow.new.self; seen = c.grow-2.new.self; phases = c.grow-3.new.self } in
    both_ok c.grow-4.result ((old.trail.trail.spent ≡ false) × (c.grow-4.new.self.trail ≡ with_atom old.trail.trail)) ((clauses : List (Option (List (Signed ℕ)))) → AreAttached old.trail clauses → AreAttached c.grow-4.new.self clauses) (IsKept new)
    (λ e a. atom_kept old new c.args.self.now.settings.first_value e.1 a refl refl c.in_ok-grow-2.ensures c.in_ok-grow-3.ensures.values c.grow-3.ensures.saved c.requires.kept) c.grow-4.ensures.ok c.grow-4.ensures.attached
