use Rattle.std.proofs.Common.{ap, ◌∙◌}
use Rattle.cdcl_trail.specs.Clauses.{clause_number}
use Rattle.cdcl_trail.proofs.ClausesLaws.{by_number}
use Rattle.cdcl_trail.proofs.clauses.Clauses.get.Goals as goal

pub returns : goal.returns
returns c = c.get.ensures ∙ by_number c.self.inside.clauses.slots c.args.n c.if-n-eq0.false ∙ ap (λ s. clause_number s c.args.n) c.self.view_is
