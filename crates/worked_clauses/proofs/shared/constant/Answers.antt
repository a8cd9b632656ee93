use Rattle.std.proofs.Common.{sym, subst}
use Rattle.inst_logic.specs.Tree.{app, none}
use Rattle.inst_logic.specs.WellFormed.{IsTerm}
use Rattle.inst_logic.proofs.Outcomes.{if_ok}
use Rattle.worked_clauses.proofs.Formed.{term_formed, constant_is_term}
use Rattle.worked_clauses.proofs.shared.constant.Goals as goal

pub returns : goal.returns
returns c =
    let built = constant_is_term c.in_ok-a.a c.in_ok-a.ensures.kind c.in_ok-a.ensures.arity in
    record {
      formed = c.app.ensures.formed c.requires (term_formed (app c.in_ok-a.a none) built);
      term = if_ok _ _ c.app.result c.app.ensures.at (λ id at. (at.0, subst IsTerm (sym at.1) built));
    }
