use Rattle.std.proofs.Common.{◌∙◌, ap, map}
use Rattle.inst_logic.specs.LiteralView.{literal}
use Rattle.szs_prove.proofs.sub_problem.copied_clause.Goals as goal

pub returns : goal.returns
returns c = c.from.ensures ∙ (ap (map literal) (c.in_ok-literals.ensures.items_if_clones_equal (λ x y h. h)) ∙ c.as_slice.ensures)
