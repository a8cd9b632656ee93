use Rattle.std.proofs.Common.{◌∙◌, ap, refl, arith}
use Rattle.std.proofs.lemmas.List.{map_more}
use Rattle.inst_logic.specs.LiteralView.{literal}
use Rattle.inst_logic.specs.WellFormed.{clause_is_formed}
use Rattle.term_bank.proofs.Growth.{extends_trans}
use Rattle.term_bank.proofs.Clauses.{clause_pushed, clause_within, literal_formed}
use Rattle.term_bank.proofs.intern.interned_clause.Goals as goal

pub returns-in_err-atom-clause-formed : goal.returns-in_err-atom-clause-formed
returns-in_err-atom-clause-formed c old new =
    c.interned_atom.ensures.formed (c.loop-l.invariant.formed old new) (literal_formed c.as_slice-l-items.result.now c.loop-l.l-index c.l-item.result (omega arith) c.l-item.is (ap clause_is_formed c.as_slice-l-items.ensures ∙ new))

pub returns-in_err-push-clause-formed : goal.returns-in_err-push-clause-formed
returns-in_err-push-clause-formed c old new =
    c.interned_atom.ensures.formed (c.loop-l.invariant.formed old new) (literal_formed c.as_slice-l-items.result.now c.loop-l.l-index c.l-item.result (omega arith) c.l-item.is (ap clause_is_formed c.as_slice-l-items.ensures ∙ new))

pub loop-l-preserved : goal.loop-l-preserved
loop-l-preserved c =
    let pushed = c.in_ok-push.ensures.ok in
    let at = c.in_ok-atom.ensures.at in
    let next = c.interned_atom.new.bank in
    record {
      within = rw pushed (clause_within c.loop-l.bank next c.interned_atom.ensures.extends c.loop-l.ids _ c.loop-l.invariant.within at.0);
      at = rw pushed (clause_pushed c.loop-l.bank next c.interned_atom.ensures.extends c.loop-l.ids _ (literal c.l-item.result) c.loop-l.invariant.within refl at.1
          ∙ rw (c.loop-l.invariant.at, map_more literal c.as_slice-l-items.result.now c.loop-l.l-index c.l-item.result (omega arith)) (rw (← c.l-item.is) refl));
      extends = extends_trans c.args.bank.now c.loop-l.bank next c.loop-l.invariant.extends c.interned_atom.ensures.extends;
      formed = λ old new. c.interned_atom.ensures.formed (c.loop-l.invariant.formed old new) (literal_formed c.as_slice-l-items.result.now c.loop-l.l-index c.l-item.result (omega arith) c.l-item.is (ap clause_is_formed c.as_slice-l-items.ensures ∙ new));
      unspent = c.in_ok-atom.ensures.unspent;
      empty = c.in_ok-atom.ensures.empty;
    }
