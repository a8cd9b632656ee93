use Rattle.std.proofs.Common.{◌≡◌}
use Rattle.std.specs.Prelude.{filter}
use Rattle.std.specs.List.{list_any}
use Rattle.std.specs.Str.{bytes_eq}
use Rattle.tptp_load.proofs.stated.clauses_named_in.Given as goal

abbrev pub invariant-loop-stated : goal.invariant-loop-stated
invariant-loop-stated l = l.all.items ≡ filter (λ s. list_any (bytes_eq s.name) l.set.keys) l.yielded
