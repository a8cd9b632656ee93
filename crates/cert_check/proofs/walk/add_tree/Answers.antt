use Rattle.std.proofs.Common.{◌≡◌, List, [], ◌∷◌, ◌++◌, ap, ◌∙◌, subst}
use Rattle.std.specs.Prelude.{reverse}
use Rattle.std.proofs.lemmas.List.{reverse-append}
use Rattle.term_bank.specs.Forest.{tree_at}
use Rattle.cert_check.specs.SymbolSteps.{Leads, with_symbols}
use Rattle.cert_check.specs.declared.walk.Step.{Step}
use Rattle.cert_check.specs.declared.walk.Step.TheVariants.{Close}
use Rattle.cert_check.proofs.SymbolWalk.{one_more_closed}
use Rattle.cert_check.proofs.walk.add_tree.Goals as goal

pub loop-step-preserved : goal.loop-step-preserved
loop-step-preserved c =
    let f = c.args.bank.now in
    let found = c.loop-step.found.keys in
    let rest = c.pop.new.self.items in
    let id = c.in-Close.done in
    let steps : reverse c.loop-step.steps.items ≡ Close id ∷ reverse rest =
    ap reverse (c.in-Some.ensures.items ∙ ap (λ (s : Step). rest ++ s ∷ []) c.in-Close.is) ∙ reverse-append rest (Close id ∷ []) in
    let leads = subst (λ (ss : List Step). Leads f ss found (with_symbols c.args.found.now.keys (tree_at f c.args.id))) steps c.loop-step.invariant.leads in
    record {
      leads = leads.1;
      closed = one_more_closed f found c.loop-step.closed.keys c.insert.new.self.keys id c.loop-step.invariant.closed leads.0 c.in_ok-insert-in-Close.ensures.keys;
    }
