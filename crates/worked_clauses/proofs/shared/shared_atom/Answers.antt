use Rattle.std.proofs.Common.{sym, subst}
use Rattle.inst_logic.specs.Tree.{app, none, more}
use Rattle.inst_logic.specs.WellFormed.{IsAtom}
use Rattle.term_bank.specs.Forest.{tree_at}
use Rattle.inst_logic.proofs.Outcomes.{if_ok}
use Rattle.worked_clauses.proofs.Formed.{atom_formed, once_is_atom}
use Rattle.worked_clauses.proofs.shared.shared_atom.Goals as goal

pub returns : goal.returns
returns c =
    let here = c.in_ok-term.ensures.term in
    let t = tree_at c.doubled.new.bank c.in_ok-term.term in
    let built = once_is_atom c.in_ok-p.p t c.in_ok-p.ensures.kind c.in_ok-p.ensures.arity here.1 in
    record {
      formed = c.app.ensures.formed c.doubled.ensures.formed (atom_formed (app c.in_ok-p.p (more t none)) built);
      atom = if_ok _ _ c.app.result c.app.ensures.at (λ id at. (at.0, subst IsAtom (sym at.1) built));
    }
