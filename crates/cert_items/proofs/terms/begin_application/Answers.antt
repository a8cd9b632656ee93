use Rattle.std.proofs.Common.{refl, ◌++◌, List, ℕ, sym, ap, arith, subst}
use Rattle.cert_items.specs.declared.terms.Open.{Open}
use Rattle.cert_items.specs.Reading.{IsDue, IsRead}
use Rattle.cert_items.proofs.Reading.{open_application, done_constant}
use Rattle.cert_format.proofs.Spelling.{ends_both}
use Rattle.cert_items.proofs.terms.begin_application.Goals as goal

pub returns-in_ok-push-in-Some-clause-state : goal.returns-in_ok-push-in-Some-clause-state
returns-in_ok-push-in-Some-clause-state c bytes d =
    subst (λ (os : List Open). IsDue c.args.bank.now bytes os c.args.ids.now.items c.in-Some.rest.now) (sym c.in_ok-push-in-Some.ensures.items)
    (open_application c.args.bank.now bytes c.args.opens.now.items c.args.ids.now.items _ _ c.args.name.now c.in-Some.rest.now d (ap (λ (xs : List ℕ). c.args.name.now ++ xs) c.in-Some.ensures.some) c.requires.name refl (omega (arith, c.len-start.ensures, c.args.ids.now.ok)))

pub returns-in_ok-push-in-None-clause-state : goal.returns-in_ok-push-in-None-clause-state
returns-in_ok-push-in-None-clause-state c bytes d =
    subst (λ (ids : List ℕ). IsRead c.apply.new.bank bytes c.args.opens.now.items ids c.args.after.now) (sym c.in_ok-push-in-None.ensures.items)
    (done_constant c.args.bank.now c.apply.new.bank bytes c.args.opens.now.items c.args.ids.now.items c.in_ok-id-in-None.id c.args.name.now c.args.after.now d (ends_both c.args.after.now c.requires.ends c.in-None.ensures.none) c.apply.ensures.extends c.in_ok-id-in-None.ensures.at)
