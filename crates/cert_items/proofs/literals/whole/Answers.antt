use Rattle.std.proofs.Common.{subst}
use Rattle.cert_items.specs.declared.literals.Root.{Root}
use Rattle.cert_items.specs.Roots.{IsRoot, IsRootAt}
use Rattle.cert_items.proofs.Formed.{applied_formed}
use Rattle.std.proofs.lemmas.Result.{IfOk-weaker}
use Rattle.cert_items.proofs.Roots.{variable_term, application_term}
use Rattle.cert_items.proofs.literals.whole.Goals as goal

pub returns-in-Application-clause-at : goal.returns-in-Application-clause-at
returns-in-Application-clause-at c bytes rest a =
    let b = subst (λ (r : Root). IsRootAt c.args.bank.now r c.args.ids.now bytes rest) c.in-Application.is a in
    IfOk-weaker c.apply.result _ _ (λ id made. application_term c.args.bank.now c.apply.new.bank id c.in-Application.name.now c.args.ids.now bytes rest b made) c.apply.ensures.at

pub returns-in-Variable-clause-at : goal.returns-in-Variable-clause-at
returns-in-Variable-clause-at c bytes rest a =
    let b = subst (λ (r : Root). IsRootAt c.args.bank.now r c.args.ids.now bytes rest) c.in-Variable.is a in
    IfOk-weaker c.var.result _ _ (λ id made. variable_term c.var.new.self id _ bytes rest b made) c.var.ensures.at

pub returns-in-Application-clause-grows : goal.returns-in-Application-clause-grows
returns-in-Application-clause-grows c =
    let b = subst (λ (r : Root). IsRoot c.args.bank.now r c.args.ids.now) c.in-Application.is c.requires in
    (c.apply.ensures.extends, λ old. c.apply.ensures.formed old (λ n. applied_formed c.args.bank.now c.args.ids.now n b.2))
