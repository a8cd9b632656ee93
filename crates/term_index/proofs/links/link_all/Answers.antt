use Rattle.std.proofs.Common.{◌∙◌, take, sym, subst, get_or}
use Rattle.std.proofs.lemmas.List.{take_more}
use Rattle.term_index.specs.declared.node.Span.{Span}
use Rattle.term_index.specs.Lists.{ListsAll}
use Rattle.term_index.proofs.Linking.{lists_more}
use Rattle.term_index.proofs.links.link_all.Goals as goal

no_span : Span
no_span = record { begin = 0; end = 0 }

pub loop-span-preserved : goal.loop-span-preserved
unfolding no_span
loop-span-preserved c =
    let i = c.loop-span.span-index in
    let xs = c.args.added.now in
    record {
      listed = c.in_ok-link.ensures.listed;
      all = subst (λ ys. ListsAll c.args.nodes.now.items ys c.link.new.nodes.items) (sym (take_more xs i no_span c.loop-span-test.true))
          (lists_more c.args.nodes.now.items c.loop-span.nodes.items c.link.new.nodes.items (take i xs) (get_or xs i no_span)
          c.loop-span.invariant.all c.in_ok-link.ensures.sound c.in_ok-link.ensures.there c.in_ok-link.ensures.kept);
      len = c.link.ensures.len ∙ c.loop-span.invariant.len;
      pairs = λ n. c.link.ensures.pairs n ∙ c.loop-span.invariant.pairs n;
    }
