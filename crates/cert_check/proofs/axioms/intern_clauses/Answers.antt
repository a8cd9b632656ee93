use Rattle.std.proofs.Common.{◌<◌, length, arith, ap, sym, ◌∙◌, subst, map}
use Rattle.std.specs.Prelude.{All}
use Rattle.inst_logic.specs.WellFormed.{AreFormedClauses}
use Rattle.term_bank.specs.Forest.{IsClauseOf, clause_at}
use Rattle.term_bank.proofs.Growth.{extends_trans}
use Rattle.term_bank.proofs.Clauses.{formed_at}
use Rattle.cert_check.proofs.Interning.{one_more_at, one_more_in}
use Rattle.cert_check.proofs.axioms.intern_clauses.Goals as goal

pub loop-c-preserved : goal.loop-c-preserved
loop-c-preserved c =
    let g = c.clause.new.self in
    let items = c.as_slice-c-items.result.now in
    let within : c.loop-c.c-index < length items = omega arith in
    let formed = subst AreFormedClauses (sym c.as_slice-c-items.ensures) c.requires.clauses in
    let more = one_more_at c.loop-c.bank g c.clause.ensures.extends c.loop-c.ids c.in_ok-clause.field-0 items c.loop-c.c-index c.c-item.result
    c.loop-c.invariant.ids c.loop-c.invariant.at within c.c-item.is c.in_ok-clause.ensures.at.1 in
    record {
      at = ap (map (clause_at g)) c.in_ok-push.ensures.ok ∙ more;
      ids = subst (All (IsClauseOf g)) (sym c.in_ok-push.ensures.ok) (one_more_in c.loop-c.bank g c.clause.ensures.extends c.loop-c.ids c.in_ok-clause.field-0 c.loop-c.invariant.ids c.in_ok-clause.ensures.at.0);
      extends = extends_trans c.args.bank.now c.loop-c.bank g c.loop-c.invariant.extends c.clause.ensures.extends;
      formed = c.clause.ensures.formed c.loop-c.invariant.formed (formed_at items c.loop-c.c-index c.c-item.result formed within c.c-item.is);
    }
