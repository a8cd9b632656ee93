use Rattle.std.proofs.Common.{◌<◌, ap, ◌∙◌, sym, subst}
use Rattle.std.proofs.lemmas.Option.{get_or_from_slice_get}
use Rattle.ground_abs.specs.Numbers.{named}
use Rattle.instgen_loop.proofs.Grounding.{one_more_literal}
use Rattle.instgen_loop.proofs.steps.ground_clause.Goals as goal

pub loop-i-preserved : goal.loop-i-preserved
loop-i-preserved c = record {
  same = c.in_ok-add_literal.ensures.same;
  made = one_more_literal c.args.abstraction.now.ids c.args.literals.now c.loop-i.seen.keys c.add_literal.new.seen.keys c.loop-i.i c.at.result c.named_literal-literal.result
      (subst (λ n. c.loop-i.i < n) c.len-i-end.ensures c.loop-i-test.true)
      (c.named_literal-literal.ensures ∙ ap (named c.args.abstraction.now.ids) (sym (get_or_from_slice_get c.args.literals.now c.loop-i.i c.at.result c.at.result c.at.ensures)))
      c.loop-i.invariant.made c.in_ok-add_literal.ensures.added;
}
