use Rattle.std.proofs.Common.{◌≡◌, true, ◌∷◌, List, ℕ, sym, ap, subst}
use Rattle.inst_logic.specs.Tree.{var}
use Rattle.cert_items.specs.Reading.{IsRead}
use Rattle.cert_format.specs.Runs.{Ends}
use Rattle.cert_format.specs.Spelling.{is_printable, goes_on}
use Rattle.cert_format.proofs.Spelling.{no_number, number_goes_on, small_number}
use Rattle.cert_items.proofs.Reading.{done_term}
use Rattle.cert_items.proofs.terms.begin_variable.Goals as goal

pub returns-in_default-clause-none : goal.returns-in_default-clause-none
returns-in_default-clause-none c = no_number c.args.digits.now c.in_default.ensures.none

pub returns-then-goes_on-clause-none : goal.returns-then-goes_on-clause-none
returns-then-goes_on-clause-none c = number_goes_on c.args.digits.now c.in-Some.n c.in-Some.rest.now c.in-Some.ensures.fits c.in-Some.ensures.some.0 c.in-Some.ensures.some.1 cc

pub returns-clause-some : goal.returns-clause-some
returns-clause-some c bytes d =
    let text = ap (λ (xs : List ℕ). 88 ∷ xs) c.in-Some.ensures.some.0 in
    let small : is_printable (var c.in-Some.n) ≡ true = small_number c.in-Some.n c.in-Some.ensures.fits in
    let ends : Ends goes_on c.in-Some.rest.now = cc in
    subst (λ (ids : List ℕ). IsRead c.var.new.self bytes c.args.opens.now ids c.in-Some.rest.now) (sym c.in_ok-push.ensures.items)
    (done_term c.args.bank.now c.var.new.self bytes c.args.opens.now c.args.ids.now.items c.in_ok-id.id (var c.in-Some.n) _ c.in-Some.rest.now d text ends small c.var.ensures.grows.0 c.in_ok-id.ensures.at)
