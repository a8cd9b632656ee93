use Rattle.std.proofs.Common.{◌≡◌, length, [], ◌∷◌, List, ℕ, Bor, arith, subst}
use Rattle.cert_items.specs.declared.terms.Open.{Open}
use Rattle.cert_items.specs.Reading.{IsRead}
use Rattle.std.proofs.lemmas.Bool.Decides.{nat_tests}
use Rattle.cert_items.proofs.Reading.{is_read, some_weaker, ended}
use Rattle.cert_items.proofs.terms.terms.Goals as goal
use Rattle.std.proofs.lemmas.List.{nil_from_length}

pub returns-clause-some : goal.returns-clause-some
returns-clause-some c =
    let l = c.loop-due in
    let r = is_read l.due l.bank c.args.text.now l.opens.items l.ids.items l.rest.now c.if-due.false l.invariant.state in
    let o = l.opens.ok in
    let n : length l.opens.items ≡ 0 = grind (arith, nat_tests) in
    let z : l.opens.items ≡ [] = nil_from_length l.opens.items n in
    some_weaker c.mark.result (λ (x : Bor (List ℕ)). l.rest.now ≡ c.args.close ∷ x.now) _ (λ x e. ended l.bank c.args.text.now l.ids.items l.rest.now x.now c.args.close (subst (λ (os : List Open). IsRead l.bank c.args.text.now os l.ids.items l.rest.now) z r) e) c.mark.ensures.some
