use Rattle.std.proofs.Common.{sym, subst}
use Rattle.inst_logic.specs.Tree.{app, none, more}
use Rattle.inst_logic.specs.WellFormed.{IsTerm}
use Rattle.term_bank.specs.Forest.{tree_at}
use Rattle.inst_logic.proofs.Outcomes.{if_ok}
use Rattle.worked_clauses.proofs.Formed.{term_formed, twice_is_term}
use Rattle.worked_clauses.proofs.shared.twice.Goals as goal

pub returns : goal.returns
returns c =
    let t = tree_at c.args.bank.now c.args.t in
    let built = twice_is_term c.args.f.now t c.requires.kind c.requires.arity c.requires.term.1 in
    record {
      formed = c.app.ensures.formed c.requires.formed (term_formed (app c.args.f.now (more t (more t none))) built);
      term = if_ok _ _ c.app.result c.app.ensures.at (λ id at. (at.0, subst IsTerm (sym at.1) built));
    }
