use Rattle.std.proofs.Common.{◌∙◌, rules}
use Rattle.term_bank.proofs.Growth.{extends_trans}
use Rattle.term_index.proofs.Came.{kept}
use Rattle.worked_index.proofs.partners.partners_of.Goals as goal

pub loop-item-preserved : goal.loop-item-preserved
loop-item-preserved g c =
    let before = c.loop-item.invariant.2 in
    let turn = rw (c.in-Some.is, c.in_ok-entry.was) at c.next.ensures.steps in (
      search rules,
      tt,
      record {
        fresh = turn.1.1;
        same = turn.0 ∙ before.same;
        extends = extends_trans c.args.bank.now c.loop-item.bank c.var.new.self before.extends c.var.ensures.extends;
        fits = g.met.I.PartnerIndex.grown_fits c.loop-item.bank c.var.new.self c.args.index.now c.var.ensures.extends before.fits;
        all = λ p stored stands. kept _ _ c.in_ok-entry.entry c.loop-item.entries.items c.push.new.self.items turn.1.2 c.in_ok-push.ensures.items p (before.all p stored stands);
      },
    )
