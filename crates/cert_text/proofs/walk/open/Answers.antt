use Rattle.std.proofs.Common.{ℕ, ◌-◌, ◌<◌, length, List, take, drop, subst, sym, arith}
use Rattle.std.proofs.lemmas.List.{take_rest}
use Rattle.std.proofs.lemmas.Bool.Decides.{nat_tests}
use Rattle.cert_text.proofs.Writing.{IsPushed, opened}
use Rattle.cert_text.proofs.walk.open.Goals as goal

pub returns-clause-text : goal.returns-clause-text
returns-clause-text c =
    let q = c.in_ok-push_steps.ensures in
    let some : 0 < length c.args.ids.now = grind (arith, nat_tests) in
    let pushed : IsPushed c.args.bank.now c.args.steps.now.items c.push_steps.new.steps.items (take (length c.args.ids.now - 1) (drop 1 c.args.ids.now)) = record { text = q.text; size = q.size; steps = q.steps } in
    let p = subst (λ (ids : List ℕ). IsPushed c.args.bank.now c.args.steps.now.items c.push_steps.new.steps.items ids) (take_rest c.args.ids.now 1) pushed in
    let within = subst (λ (i : ℕ). i < length c.args.bank.now.trees) (sym c.index-ids-0.is) (c.requires.ids 0 c.index-ids-0.result some) in
    (opened c.args.bank.now c.args.text.now.items c.push_bytes.new.text.items c.args.steps.now.items c.push_steps.new.steps.items c.push.new.self.items c.args.ids.now c.index-ids-0.result c.in_ok-push_bytes.ensures p c.in_ok-push.ensures.items some c.index-ids-0.is within c.requires.steps).text

pub returns-clause-size : goal.returns-clause-size
returns-clause-size c =
    let q = c.in_ok-push_steps.ensures in
    let some : 0 < length c.args.ids.now = grind (arith, nat_tests) in
    let pushed : IsPushed c.args.bank.now c.args.steps.now.items c.push_steps.new.steps.items (take (length c.args.ids.now - 1) (drop 1 c.args.ids.now)) = record { text = q.text; size = q.size; steps = q.steps } in
    let p = subst (λ (ids : List ℕ). IsPushed c.args.bank.now c.args.steps.now.items c.push_steps.new.steps.items ids) (take_rest c.args.ids.now 1) pushed in
    let within = subst (λ (i : ℕ). i < length c.args.bank.now.trees) (sym c.index-ids-0.is) (c.requires.ids 0 c.index-ids-0.result some) in
    (opened c.args.bank.now c.args.text.now.items c.push_bytes.new.text.items c.args.steps.now.items c.push_steps.new.steps.items c.push.new.self.items c.args.ids.now c.index-ids-0.result c.in_ok-push_bytes.ensures p c.in_ok-push.ensures.items some c.index-ids-0.is within c.requires.steps).size

pub returns-clause-steps : goal.returns-clause-steps
returns-clause-steps c =
    let q = c.in_ok-push_steps.ensures in
    let some : 0 < length c.args.ids.now = grind (arith, nat_tests) in
    let pushed : IsPushed c.args.bank.now c.args.steps.now.items c.push_steps.new.steps.items (take (length c.args.ids.now - 1) (drop 1 c.args.ids.now)) = record { text = q.text; size = q.size; steps = q.steps } in
    let p = subst (λ (ids : List ℕ). IsPushed c.args.bank.now c.args.steps.now.items c.push_steps.new.steps.items ids) (take_rest c.args.ids.now 1) pushed in
    let within = subst (λ (i : ℕ). i < length c.args.bank.now.trees) (sym c.index-ids-0.is) (c.requires.ids 0 c.index-ids-0.result some) in
    (opened c.args.bank.now c.args.text.now.items c.push_bytes.new.text.items c.args.steps.now.items c.push_steps.new.steps.items c.push.new.self.items c.args.ids.now c.index-ids-0.result c.in_ok-push_bytes.ensures p c.in_ok-push.ensures.items some c.index-ids-0.is within c.requires.steps).steps
