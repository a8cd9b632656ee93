use Rattle.std.proofs.Common.{◌≡◌, ◌++◌, ◌∷◌, [], subst, sym, ◌∙◌, arith}
use Rattle.term_index.specs.Left.{IsSorted}
use Rattle.term_index.proofs.DescentLaws.{closes_more, front_sorted, below_last}
use Rattle.term_index.proofs.descent.close.Goals as goal

pub returns-then-last-height-clause-below : goal.returns-then-last-height-clause-below
returns-then-last-height-clause-below c =
    let before = c.loop-last.opened.items in
    let front = c.loop-last.invariant.closes.front in
    below_last c.push.new.self.items c.pop.new.self.items c.in-Some.last c.args.height c.in_ok-push.ensures.items
    (subst IsSorted (c.in-Some.ensures.items ∙ sym c.in_ok-push.ensures.items) (front_sorted c.args.opened.now.items before front.0 front.1 c.requires))
    (omega (arith, c.if-last-height.true))

pub loop-last-preserved : goal.loop-last-preserved
loop-last-preserved c = record {
  closes = closes_more c.args.opened.now.items c.loop-last.opened.items c.pop.new.self.items c.in-Some.last c.args.closed.now.items c.loop-last.closed.items c.push-in-Some.new.self.items c.args.node c.args.height
      c.in-Some.ensures.items
      (subst (λ m. c.push-in-Some.new.self.items ≡ c.loop-last.closed.items ++ record { begin = c.in-Some.last.begin; end = m } ∷ []) c.in_ok-short.ensures.same c.in_ok-push-2.ensures.items) (omega (arith, c.if-last-height.false)) c.loop-last.invariant.closes;
}
