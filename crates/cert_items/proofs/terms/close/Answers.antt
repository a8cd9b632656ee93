use Rattle.std.proofs.Common.{◌∙◌, ◌++◌, ◌∷◌, [], List, ℕ, drop, map, refl, sym, ap, arith, subst}
use Rattle.inst_logic.specs.declared.symbol.Kind.TheVariants.{Function}
use Rattle.term_bank.specs.Forest.{tree_at}
use Rattle.cert_items.specs.declared.terms.Open.{Open}
use Rattle.cert_items.specs.Reading.{IsRead, IsApplied}
use Rattle.cert_items.proofs.Reading.{closing, closing_args, closing_start, within_front, closed}
use Rattle.cert_items.proofs.Formed.{closing_formed}
use Rattle.cert_items.proofs.terms.close.Goals as goal

pub split_at-requires : goal.split_at-requires
split_at-requires c =
    let k = closing c.args.bank.now c.args.text.now c.pop.new.self.items c.in-Some.open c.args.ids.now.items _ c.args.rest.now (subst (λ (os : List Open). IsRead c.args.bank.now c.args.text.now os c.args.ids.now.items (41 ∷ c.args.rest.now)) c.in-Some.ensures.items c.requires) refl in
    let n = closing_start c.args.bank.now c.args.text.now c.pop.new.self.items c.in-Some.open c.args.ids.now.items c.args.rest.now k in
    omega (arith, n, c.as_slice.ensures.len, c.args.ids.now.ok)

pub apply-requires-clause-name : goal.apply-requires-clause-name
apply-requires-clause-name c =
    let k = closing c.args.bank.now c.args.text.now c.pop.new.self.items c.in-Some.open c.args.ids.now.items _ c.args.rest.now (subst (λ (os : List Open). IsRead c.args.bank.now c.args.text.now os c.args.ids.now.items (41 ∷ c.args.rest.now)) c.in-Some.ensures.items c.requires) refl in
    k.name

pub returns-clause-some : goal.returns-clause-some
returns-clause-some c =
    let k = closing c.args.bank.now c.args.text.now c.pop.new.self.items c.in-Some.open c.args.ids.now.items _ c.args.rest.now (subst (λ (os : List Open). IsRead c.args.bank.now c.args.text.now os c.args.ids.now.items (41 ∷ c.args.rest.now)) c.in-Some.ensures.items c.requires) refl in
    let args = c.split_at.ensures.back ∙ ap (drop c.in-Some.open.start) c.as_slice.ensures.value in
    let front = c.in_ok-push.ensures.items ∙ ap (λ (ids : List ℕ). ids ++ c.in_ok-id.id ∷ []) c.truncate.ensures.items in
    let applied = subst (λ (ids : List ℕ). IsApplied c.apply.new.bank c.in_ok-id.id Function c.in-Some.open.name.now (map (tree_at c.args.bank.now) ids)) args c.in_ok-id.ensures.at in
    let r = closed c.args.bank.now c.apply.new.bank c.args.text.now c.pop.new.self.items c.in-Some.open c.args.ids.now.items c.in_ok-id.id c.args.rest.now k (within_front c.args.bank.now c.args.ids.now.items c.in-Some.open.start c.requires.within) c.apply.ensures.extends applied in
    subst (λ (ids : List ℕ). IsRead c.apply.new.bank c.args.text.now c.pop.new.self.items ids c.args.rest.now) (sym front) r

pub returns-in_err-id-clause-grows : goal.returns-in_err-id-clause-grows
returns-in_err-id-clause-grows c =
    let k = closing c.args.bank.now c.args.text.now c.pop.new.self.items c.in-Some.open c.args.ids.now.items _ c.args.rest.now (subst (λ (os : List Open). IsRead c.args.bank.now c.args.text.now os c.args.ids.now.items (41 ∷ c.args.rest.now)) c.in-Some.ensures.items c.requires) refl in
    let args = c.split_at.ensures.back ∙ ap (drop c.in-Some.open.start) c.as_slice.ensures.value in
    (c.apply.ensures.extends, λ old. c.apply.ensures.formed old (closing_formed c.args.bank.now c.args.text.now c.pop.new.self.items c.in-Some.open c.args.ids.now.items _ c.args.rest.now k (ap (map (tree_at c.args.bank.now)) args ∙ closing_args c.args.bank.now c.args.text.now c.pop.new.self.items c.in-Some.open c.args.ids.now.items c.args.rest.now k)))

pub returns-in_err-push-clause-grows : goal.returns-in_err-push-clause-grows
returns-in_err-push-clause-grows c =
    let k = closing c.args.bank.now c.args.text.now c.pop.new.self.items c.in-Some.open c.args.ids.now.items _ c.args.rest.now (subst (λ (os : List Open). IsRead c.args.bank.now c.args.text.now os c.args.ids.now.items (41 ∷ c.args.rest.now)) c.in-Some.ensures.items c.requires) refl in
    let args = c.split_at.ensures.back ∙ ap (drop c.in-Some.open.start) c.as_slice.ensures.value in
    (c.apply.ensures.extends, λ old. c.apply.ensures.formed old (closing_formed c.args.bank.now c.args.text.now c.pop.new.self.items c.in-Some.open c.args.ids.now.items _ c.args.rest.now k (ap (map (tree_at c.args.bank.now)) args ∙ closing_args c.args.bank.now c.args.text.now c.pop.new.self.items c.in-Some.open c.args.ids.now.items c.args.rest.now k)))

pub returns-clause-grows : goal.returns-clause-grows
returns-clause-grows c =
    let k = closing c.args.bank.now c.args.text.now c.pop.new.self.items c.in-Some.open c.args.ids.now.items _ c.args.rest.now (subst (λ (os : List Open). IsRead c.args.bank.now c.args.text.now os c.args.ids.now.items (41 ∷ c.args.rest.now)) c.in-Some.ensures.items c.requires) refl in
    let args = c.split_at.ensures.back ∙ ap (drop c.in-Some.open.start) c.as_slice.ensures.value in
    (c.apply.ensures.extends, λ old. c.apply.ensures.formed old (closing_formed c.args.bank.now c.args.text.now c.pop.new.self.items c.in-Some.open c.args.ids.now.items _ c.args.rest.now k (ap (map (tree_at c.args.bank.now)) args ∙ closing_args c.args.bank.now c.args.text.now c.pop.new.self.items c.in-Some.open c.args.ids.now.items c.args.rest.now k)))
