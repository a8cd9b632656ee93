use Rattle.std.proofs.Common.{◌<◌, ◌+◌, length, arith, sym, subst, take, List, ℕ}
use Rattle.inst_logic.specs.declared.signed.Signed.{Signed}
use Rattle.inst_logic.specs.WellFormed.{AreFormedClauses}
use Rattle.term_bank.proofs.Growth.{extends_trans}
use Rattle.instgen_loop.specs.Starting.{AreGiven}
use Rattle.term_bank.proofs.Clauses.{formed_at}
use Rattle.instgen_loop.proofs.FirstEntries.{one_more_given}
use Rattle.instgen_loop.proofs.start.intern_clauses.Goals as goal

pub loop-c-preserved : goal.loop-c-preserved
loop-c-preserved c =
    let g = c.clause.new.self in
    let items = c.as_slice-c-items.result.now in
    let within : c.loop-c.c-index < length items = omega arith in
    let formed = formed_at items c.loop-c.c-index c.c-item.result (subst AreFormedClauses (sym c.as_slice-c-items.ensures) c.requires.clauses) within c.c-item.is in
    let ids = c.in_ok-literals.literals in
    let at = c.in_ok-literals.ensures.at in
    record {
      given = subst (λ (cs : List (List (Signed ℕ))). AreGiven g cs (take (c.loop-c.c-index + 1) items)) (sym c.in_ok-push.ensures.ok)
          (one_more_given c.loop-c.bank g c.clause.ensures.extends c.loop-c.ids ids items c.loop-c.c-index c.c-item.result c.loop-c.invariant.given within c.c-item.is at formed);
      extends = extends_trans c.args.bank.now c.loop-c.bank g c.loop-c.invariant.extends c.clause.ensures.extends;
      formed = c.clause.ensures.formed c.loop-c.invariant.formed formed;
    }
