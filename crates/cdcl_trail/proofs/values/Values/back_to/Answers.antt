use Rattle.std.proofs.Common.{sym, ◌∙◌, refl}
use Rattle.cdcl_trail.specs.Values.{entries_of}
use Rattle.cdcl_trail.proofs.ValuesLaws.{up_to_all}
use Rattle.cdcl_trail.proofs.values.Values.back_to.Goals as goal

pub returns-clause-entries : goal.returns-clause-entries
returns-clause-entries c = sym (up_to_all (entries_of c.loop-self.self) c.args.level (c.loop-self-test.ensures.rest refl)) ∙ c.loop-self.invariant.up_to
