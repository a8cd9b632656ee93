use Rattle.std.proofs.Common.{◌≡◌, ◌∙◌, ◌++◌, List, ℕ, sym, Option, None, IfNone, Bor, ap, subst}
use Rattle.cert_items.specs.Reading.{NoTerms}
use Rattle.cert_format.proofs.Spelling.{number_goes_on}
use Rattle.cert_items.proofs.Roots.{no_arguments}
use Rattle.cert_items.proofs.literals.head.Goals as goal

pub returns-then-goes_on-clause-none : goal.returns-then-goes_on-clause-none
returns-then-goes_on-clause-none c t rest p f e =
    number_goes_on c.in-Some.digits.now c.in-Some-number.n c.in-Some-number.rest.now c.in-Some-number.ensures.fits c.in-Some-number.ensures.some.0 c.in-Some-number.ensures.some.1 (cc) t rest p f (sym c.in-Some.ensures.some ∙ e)

none_is : (r : Option (Bor (List ℕ))) (P : Type 0) → r ≡ None → IfNone r P → P
none_is r P e h = subst (λ (x : Option (Bor (List ℕ))). IfNone x P) e h

pub returns-in_default-2-clause-none : goal.returns-in_default-2-clause-none
returns-in_default-2-clause-none c =
    no_arguments c.args.bytes.now c.in-Some-name.name.now c.in-Some-mark.inner.now c.in-Some-name.ensures.some.1 (c.in-Some-name.ensures.some.0 ∙ ap (λ (xs : List ℕ). c.in-Some-name.name.now ++ xs) c.in-Some-mark.ensures.some)
    (none_is c.in_ok-rest.field-0 (NoTerms c.in-Some-mark.inner.now 41) c.in_default-2.is c.in_ok-rest.ensures.none)
