use Rattle.std.proofs.Common.{◌∙◌, sym, ap, subst}
use Rattle.std.proofs.lemmas.Result.{IfOk-weaker}
use Rattle.term_bank.specs.Forest.{AreDistinct}
use Rattle.cert_values.specs.declared.certificate.Refutation.{Refutation}
use Rattle.instgen_loop.specs.declared.hand_over.Remains.{Remains}
use Rattle.instgen_loop.specs.Derived.{IsDerived}
use Rattle.instgen_loop.specs.Outcomes.{IsRefutedRun}
use Rattle.instgen_loop.specs.Refuting.{base_from}
use Rattle.instgen_loop.specs.ShownRuns.{IsMadeOf}
use Rattle.instgen_loop.proofs.Refutations.{refuted_run}
use Rattle.instgen_loop.proofs.refuted.refutation_of.Goals as goal

pub returns-in-Ok : goal.returns-in-Ok
returns-in-Ok g c =
    let clauses = c.args.p.now.clauses in
    let names = c.args.p.now.names in
    let journal = c.args.journal.now in
    let r = c.shown_of.new.run in
    let s = c.in-Ok.shown in
    let h = c.in-Ok.ensures.shown in
    let once = subst (λ (m : Remains). AreDistinct m.bank.trees) (sym h.same) h.distinct in
    let derived = subst (λ (m : Remains). IsDerived (record r { remains = m }) s.grounds) (sym h.same) h.derived in
    record {
      refutation = IfOk-weaker c.made_of.result (IsMadeOf names r.remains s) (λ x. IsRefutedRun clauses names x journal) (λ x made.
          let same = sym (made.bot ∙ h.bot) in
          let base = ap (base_from names) h.same ∙ sym made.base in
          subst (λ (y : Refutation). IsRefutedRun clauses names y journal)
          (λ i. record { base = base i; bot = same i; grounds = sym made.grounds i; steps = sym (made.steps ∙ h.steps) i })
          (refuted_run clauses names h.before r journal h.refuted once s.grounds h.lines derived h.numbers h.numbered)) c.made_of.ensures;
    }
