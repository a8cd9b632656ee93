use Rattle.std.proofs.Common.{◌≡◌, length, arith, ap, sym, ◌∙◌, vec_len}
use Rattle.std.proofs.lemmas.List.{length-map}
use Rattle.proof_log.specs.Marks.{room}
use Rattle.proof_log.proofs.Stamps.{none_stamped, none_stamped_filled}
use Rattle.proof_log.proofs.marks.Marks.clear.Goals as goal

pub returns-then-self-lt18446744073709551615-clause-positive :
    goal.returns-then-self-lt18446744073709551615-clause-positive
returns-then-self-lt18446744073709551615-clause-positive c =
    none_stamped c.self.inside.positive.items c.self.inside.present _ _ c.self.invariant.positive_below (omega arith) (ap room (sym c.self.view_is) ∙ simp length-map)

pub returns-then-self-lt18446744073709551615-clause-negative :
    goal.returns-then-self-lt18446744073709551615-clause-negative
returns-then-self-lt18446744073709551615-clause-negative c =
    none_stamped c.self.inside.negative.items c.self.inside.present _ _ c.self.invariant.negative_below (omega arith) (ap room (sym c.self.view_is) ∙ simp length-map c.self.invariant.same_room)

pub returns-else-self-lt18446744073709551615-clause-positive :
    goal.returns-else-self-lt18446744073709551615-clause-positive
returns-else-self-lt18446744073709551615-clause-positive c =
    let same : room c.args.self.now ≡ length c.self.inside.positive.items = ap room (sym c.self.view_is) ∙ simp length-map in
    none_stamped_filled c.fill.new.self.items (vec_len c.self.inside.positive) _ _ (c.fill.ensures.items (λ y h. h)) (omega (arith, c.self.inside.positive.ok.0)) (omega arith)

pub returns-else-self-lt18446744073709551615-clause-negative :
    goal.returns-else-self-lt18446744073709551615-clause-negative
returns-else-self-lt18446744073709551615-clause-negative c =
    let same : room c.args.self.now ≡ length c.self.inside.negative.items = ap room (sym c.self.view_is) ∙ simp length-map c.self.invariant.same_room in
    none_stamped_filled c.fill-else-self-lt18446744073709551615.new.self.items (vec_len c.self.inside.negative) _ _ (c.fill-else-self-lt18446744073709551615.ensures.items (λ y h. h)) (omega (arith, c.self.inside.negative.ok.0)) (omega arith)
