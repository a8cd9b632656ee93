use Rattle.std.proofs.Common.{◌≡◌, ◌+◌, ◌++◌, ◌∷◌, [], ap, sym, ◌∙◌, take, length, get_or, Some, arith}
use Rattle.std.specs.Prelude.{slice_get}
use Rattle.std.proofs.lemmas.List.{take_more}
use Rattle.std.proofs.lemmas.Option.{slice_get-get_or}
use Rattle.inst_logic.specs.Substitution.{subst_literal}
use Rattle.inst_calculus.proofs.Distinct.{length_map}
use Rattle.term_bank.specs.Forest.{clause_at, literal_tree, tree_at}
use Rattle.instgen_loop.specs.PartTerms.{renumbering}
use Rattle.instgen_loop.proofs.PartTermLaws.{one_more_bound, renumbered_at}
use Rattle.instgen_loop.proofs.part_terms.bind_all.Goals as goal

pub unreachable-requires : goal.unreachable-requires
unreachable-requires c =
    let f = c.args.bank.now in
    let kept = c.args.kept.now in
    let part = c.args.part.now in
    let i = c.loop-i.i in
    let l = get_or kept i c.index-kept-i.result in
    let m = get_or part i c.index-part-i.result in
    let same : length part ≡ length kept =
    sym (length_map (literal_tree f) part) ∙ ap length c.requires.renumbered ∙ length_map (subst_literal (renumbering f kept)) (clause_at f kept) ∙ length_map (literal_tree f) kept in
    let l_at : slice_get kept i ≡ Some l = slice_get-get_or kept i c.index-kept-i.result (omega arith) in
    let m_at : slice_get part i ≡ Some m = slice_get-get_or part i c.index-part-i.result (omega (arith, same)) in
    c.in_ok-match_onto.ensures.no c.if-not-branch.true (renumbering f kept) c.loop-i.invariant.agrees (renumbered_at f kept part i l m c.requires.renumbered l_at m_at)

pub loop-i-preserved : goal.loop-i-preserved
loop-i-preserved c =
    let f = c.args.bank.now in
    let kept = c.args.kept.now in
    let part = c.args.part.now in
    let i = c.loop-i.i in
    let l = get_or kept i c.index-kept-i.result in
    let m = get_or part i c.index-part-i.result in
    let same : length part ≡ length kept =
    sym (length_map (literal_tree f) part) ∙ ap length c.requires.renumbered ∙ length_map (subst_literal (renumbering f kept)) (clause_at f kept) ∙ length_map (literal_tree f) kept in
    let l_at : slice_get kept i ≡ Some l = slice_get-get_or kept i c.index-kept-i.result (omega arith) in
    let m_at : slice_get part i ≡ Some m = slice_get-get_or part i c.index-part-i.result (omega (arith, same)) in
    let more : take (i + 1) kept ≡ take i kept ++ l ∷ [] = take_more kept i c.index-kept-i.result (omega arith) in
    one_more_bound f (renumbering f kept) (take i kept) (take (i + 1) kept) l c.loop-i.bindings.entries c.match_onto.new.self.entries (tree_at f m.atom) c.loop-i.invariant
    (c.in_ok-match_onto.ensures.yes c.if-not-branch.false) (renumbered_at f kept part i l m c.requires.renumbered l_at m_at) more
