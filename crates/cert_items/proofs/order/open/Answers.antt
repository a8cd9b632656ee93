use Rattle.std.proofs.Common.{◌≡◌, ◌≤◌, ◌+◌, ◌∷◌, List, ℕ, true, sym, subst}
use Rattle.std.specs.Prelude.{reverse}
use Rattle.cert_items.specs.Orders.{in_order, ids_vars, ids_size}
use Rattle.cert_items.proofs.Orders.{opened, opened_size}
use Rattle.cert_items.proofs.order.open.Goals as goal

pub returns-in_ok-push_ids-in-App-clause-order : goal.returns-in_ok-push_ids-in-App-clause-order
returns-in_ok-push_ids-in-App-clause-order c h =
    opened c.args.bank.now c.args.met c.args.id c.in-App.args.now (reverse c.args.left.now.items) _ c.in-App.ensures.0 (subst (λ (ids : List ℕ). in_order c.args.met (ids_vars c.args.bank.now ids) ≡ true) c.in_ok-push_ids-in-App.ensures h)

pub returns-in_ok-push_ids-in-App-clause-size : goal.returns-in_ok-push_ids-in-App-clause-size
returns-in_ok-push_ids-in-App-clause-size c =
    subst (λ (ids : List ℕ). ids_size c.args.bank.now ids + 1 ≤ ids_size c.args.bank.now (c.args.id ∷ reverse c.args.left.now.items)) (sym c.in_ok-push_ids-in-App.ensures)
    (opened_size c.args.bank.now c.args.id c.in-App.args.now (reverse c.args.left.now.items) _ c.in-App.ensures.0)
