use Rattle.std.proofs.Common.{◌≡◌, ◌<◌, ◌++◌, ◌∷◌, [], ℕ, List, ap, sym, subst, length, reverse, arith}
use Rattle.term_index.specs.Left.{IsDescent, Enters, Closes, left_size, AreLeftNumbered}
use Rattle.term_index.proofs.DescentLaws.{descent_on}
use Rattle.term_index.proofs.LeftLaws.{smaller_left, numbered_on}
use Rattle.term_index.proofs.descent.pass.Goals as goal

pub returns-clause-descent : goal.returns-clause-descent
returns-clause-descent c =
    let f = c.args.bank.now in
    let rest = c.args.descent.now.left.items in
    let args = c.args-2.result.now in
    let before = c.args.descent.now.opened.items in
    let after = c.close.new.opened.items in
    let old = c.args.descent.now.closed.items in
    let new = c.close.new.closed.items in
    let h : c.len-height.result ≡ length rest = omega (arith, c.len-height.ensures, c.args.descent.now.left.ok.0) in
    let e = c.in_ok-push_args.ensures in
    let k : c.len-left.result ≡ length (rest ++ reverse args) = omega (arith, c.len-left.ensures, c.push_args.new.left.ok.0, ap length e) in
    let mid = c.enter.new.opened.items in
    let near = c.enter.new.closed.items in
    let enters = subst (λ (n : ℕ). Enters before mid old near c.args.node c.args.next n) h c.in_ok-enter.ensures.enters in
    let closes = subst (λ (n : ℕ). Closes mid after near new c.args.next n) k c.in_ok-close.ensures.closes in
    λ es all d child. subst (λ (xs : List ℕ). IsDescent f es all c.args.next xs after new) (sym e)
    (descent_on f es all c.args.node c.args.next c.args.id rest args before after old new d c.requires.below child c.args-2.ensures.trees c.args-2.ensures.smaller mid near enters c.in_ok-enter.ensures.sorted closes)

pub returns-clause-smaller : goal.returns-clause-smaller
returns-clause-smaller c =
    let f = c.args.bank.now in
    let rest = c.args.descent.now.left.items in
    subst (λ (xs : List ℕ). left_size f xs < left_size f (rest ++ c.args.id ∷ [])) (sym c.in_ok-push_args.ensures) (smaller_left f c.args.id rest c.args-2.result.now c.args-2.ensures.trees)

pub returns-clause-numbered : goal.returns-clause-numbered
returns-clause-numbered c = λ known h.
    numbered_on c.args.bank.now c.args.id c.args.descent.now.left.items c.args-2.result.now c.args-2.ensures.trees known (subst (AreLeftNumbered c.args.bank.now) c.in_ok-push_args.ensures h)
