use Rattle.std.proofs.Common.{◌≡◌, ◌∙◌, ◌<◌, ◌++◌, ◌∷◌, [], sym, arith, ap, length, subst, List, length-append}
use Rattle.term_index.specs.declared.query.QueryNode.{QueryNode}
use Rattle.term_index.specs.Copies.{id_of, CopiesSome}
use Rattle.term_index.proofs.CopyLaws.{copy_whole, copy_on, args_on, front_on, ids_longer, root_on, few_ids, ids_bound, id_within}
use Rattle.term_index.proofs.query.build_query.Goals as goal

pub loop-next-smaller : goal.loop-next-smaller
loop-next-smaller c =
    let few = few_ids c.loop-next.ids (length c.args.bank.now.trees) c.len.ensures.unique c.loop-next.invariant.ids in
    omega (arith, few, c.loop-next-test.true, c.len.ensures.len)

pub loop-next-preserved : goal.loop-next-preserved
loop-next-preserved c =
    let f = c.args.bank.now in
    let i = c.loop-next.invariant in
    let ids = c.loop-next.ids in
    let last = c.copy_args.new.ids in
    let nodes = c.loop-next.nodes.items in
    let args = c.loop-next.args.items in
    let numbers = c.copy_args.new.numbers.items in
    let given = c.args-in-loop-next.result.now in
    let copies = c.in_ok-copy_args.ensures in
    let pushed = c.in_ok-push-2.ensures.items in
    let longer = ids_longer ids last args numbers given copies in
    let room : length nodes < length ids = omega (arith, c.loop-next-test.true, c.len.ensures.len, i.place) in
    let here : c.id_at-id.result ≡ id_of ids (length nodes) = c.id_at-id.ensures ∙ ap (id_of ids) i.place in
    let first : c.len-in-loop-next.result ≡ length args = omega (arith, c.len-in-loop-next.ensures, c.loop-next.args.ok.0) in
    record {
      place = omega (arith, i.place, ap length pushed, length-append nodes (record { label = c.in_ok-label_at.field-0; first = c.len-in-loop-next.result } ∷ []));
      so_far = omega (arith, longer, room, i.place);
      ids = ids_bound f ids last args numbers given c.id_at-id.result (id_within f ids (length nodes) c.id_at-id.result i.ids room here) copies i.ids c.args-in-loop-next.ensures.smaller;
      some = omega (arith, longer, i.some);
      root = root_on ids last args numbers given copies i.some ∙ i.root;
      copies = subst (λ (xs : List QueryNode). CopiesSome f last (record { nodes = xs; args = numbers })) (sym (pushed ∙ ap (λ n. nodes ++ record { label = c.in_ok-label_at.field-0; first = n } ∷ []) first))
          (copy_on f ids last nodes args numbers given c.id_at-id.result c.in_ok-label_at.field-0 i.copies i.args here room c.in_ok-label_at.ensures.label c.in_ok-label_at.ensures.known copies c.args-in-loop-next.ensures.trees);
      args = args_on ids last args numbers given copies i.args;
      front = front_on ids last args numbers given copies i.front;
    }

pub returns : goal.returns
returns c =
    let i = c.loop-next.invariant in
    copy_whole c.args.bank.now c.args.query c.loop-next.ids (record { nodes = c.loop-next.nodes.items; args = c.loop-next.args.items }) i.copies (omega (arith, i.place, i.so_far, c.loop-next-test.false, c.len.ensures.len)) i.args i.some i.root i.front
