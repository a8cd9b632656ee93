use Rattle.std.proofs.Common.{◌≡◌, ◌≤◌, length, refl, sym, subst, suc, true}
use Rattle.std.specs.Prelude.{IfOk}
use Rattle.cert_values.specs.Values.{covered_of, saturation_of}
use Rattle.cert_check.specs.DueSteps.{AreCompared, GivesPair}
use Rattle.cert_check.specs.declared.compare.Progress.{Progress}
use Rattle.cert_check.proofs.compare.compare_pair.Goals as goal

pub returns-then-pass_made-clause-counted : goal.returns-then-pass_made-clause-counted
returns-then-pass_made-clause-counted c = (c.pass_made.ensures.yes c.if-pass_made.true).counted

pub returns-then-pass_made-clause-proper : goal.returns-then-pass_made-clause-proper
returns-then-pass_made-clause-proper c = ((λ t. (c.pass_made.ensures.yes c.if-pass_made.true).proper), (λ h. refl))

pub returns-then-pass_made-clause-gives : goal.returns-then-pass_made-clause-gives
returns-then-pass_made-clause-gives c e = (c.pass_made.ensures.yes c.if-pass_made.true).gives

pub compare_unified-requires-clause-counted : goal.compare_unified-requires-clause-counted
compare_unified-requires-clause-counted c = subst (λ (p : Progress). p.count ≤ length c.args.cert.now.covers) (sym (c.pass_made.ensures.no c.if-pass_made.false)) c.requires.counted

pub returns-clause-gives : goal.returns-clause-gives
returns-clause-gives c =
    let old = c.args.cert.now in
    subst
    (λ (p : Progress). IfOk c.compare_unified.result (λ r. r ≡ true → GivesPair (saturation_of old.cert) (suc c.args.i) (suc c.args.j) (AreCompared (covered_of old) p) (AreCompared (covered_of old) c.compare_unified.new.progress)))
    (c.pass_made.ensures.no c.if-pass_made.false) c.compare_unified.ensures.gives
