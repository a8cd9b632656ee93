use Rattle.std.proofs.Common.{◌≡◌, List, [], ◌∷◌, ◌++◌, ap, sym, ◌∙◌, map, arith, subst}
use Rattle.std.specs.Prelude.{reverse}
use Rattle.std.proofs.lemmas.List.{reverse-append}
use Rattle.inst_logic.specs.declared.symbol.Sym.{Sym}
use Rattle.cert_check.specs.SymbolSteps.{AreClosed, Leads, steps_size}
use Rattle.cert_check.specs.declared.walk.Step.{Step}
use Rattle.cert_check.specs.declared.walk.Step.TheVariants.{Visit, Close}
use Rattle.cert_check.proofs.SymbolWalk.{closed_grown, opened_leads, opened_size, passed_size, visit_closed}
use Rattle.cert_check.proofs.walk.visit.Goals as goal

pub returns-then-contains-clause-leads : goal.returns-then-contains-clause-leads
returns-then-contains-clause-leads c end h =
    visit_closed c.args.bank.now c.args.found.now.keys c.args.closed.now.keys c.args.id (reverse c.args.steps.now.items) end c.requires.closed (sym c.contains.ensures ∙ c.if-contains.true) h

pub returns-then-contains-clause-size : goal.returns-then-contains-clause-size
returns-then-contains-clause-size c = passed_size c.args.bank.now c.args.id (reverse c.args.steps.now.items)

pub returns-in_ok-push_visits-in-Some-clause-leads : goal.returns-in_ok-push_visits-in-Some-clause-leads
returns-in_ok-push_visits-in-Some-clause-leads c end h =
    let f = c.args.bank.now in
    let rest = reverse c.args.steps.now.items in
    let ids = c.args-in-Some.result.now in
    let steps : reverse c.push_visits.new.steps.items ≡ map Visit ids ++ Close c.args.id ∷ rest =
    c.in_ok-push_visits-in-Some.ensures
    ∙ ap (λ (ss : List Step). map Visit ids ++ ss) (ap reverse c.in_ok-push-in-Some.ensures.items ∙ reverse-append c.args.steps.now.items (Close c.args.id ∷ [])) in
    let opened = opened_leads f c.args.id ids c.in-Some.s.now rest (sym c.in-Some.ensures) c.args-in-Some.ensures.trees c.args.found.now.keys end c.args-in-Some.ensures.smaller h in
    subst (λ (ss : List Step). Leads f ss c.note.new.found.keys end) (sym steps) (subst (λ (xs : List Sym). Leads f (map Visit ids ++ Close c.args.id ∷ rest) xs end) (sym c.in_ok-note-in-Some.ensures) opened)

pub returns-in_ok-push_visits-in-Some-clause-closed : goal.returns-in_ok-push_visits-in-Some-clause-closed
returns-in_ok-push_visits-in-Some-clause-closed c =
    subst (λ (xs : List Sym). AreClosed c.args.bank.now xs c.args.closed.now.keys) (sym c.in_ok-note-in-Some.ensures)
    (closed_grown c.args.bank.now c.args.found.now.keys c.in-Some.s.now c.args.closed.now.keys c.requires.closed)

pub returns-in_ok-push_visits-in-Some-clause-size : goal.returns-in_ok-push_visits-in-Some-clause-size
returns-in_ok-push_visits-in-Some-clause-size c =
    let f = c.args.bank.now in
    let rest = reverse c.args.steps.now.items in
    let ids = c.args-in-Some.result.now in
    let steps : reverse c.push_visits.new.steps.items ≡ map Visit ids ++ Close c.args.id ∷ rest =
    c.in_ok-push_visits-in-Some.ensures
    ∙ ap (λ (ss : List Step). map Visit ids ++ ss) (ap reverse c.in_ok-push-in-Some.ensures.items ∙ reverse-append c.args.steps.now.items (Close c.args.id ∷ [])) in
    let size = opened_size f c.args.id ids c.in-Some.s.now rest (sym c.in-Some.ensures) c.args-in-Some.ensures.trees in
    let same = ap (steps_size f) steps in
    omega (arith, size, same)
