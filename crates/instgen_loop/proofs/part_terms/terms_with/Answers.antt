use Rattle.std.proofs.Common.{◌≡◌, ◌∙◌, ap, sym, subst, length, map, List}
use Rattle.std.proofs.lemmas.Result.{IfOk-weaker}
use Rattle.inst_logic.specs.declared.signed.Signed.{Signed}
use Rattle.inst_logic.specs.declared.symbol.Sym.{Sym}
use Rattle.inst_logic.specs.Tree.{app, none}
use Rattle.inst_logic.specs.Clauses.{canonical_form, numbered, order_of, IsCanonical}
use Rattle.inst_logic.specs.Substitution.{subst_literal}
use Rattle.inst_calculus.specs.Parts.{chosen}
use Rattle.inst_calculus.specs.Unrolling.{part_terms}
use Rattle.term_bank.specs.Forest.{AreIds, IsClauseOf, clause_at, literal_tree, tree_at}
use Rattle.term_bank.proofs.Clauses.{clause_extends, clause_of_extends}
use Rattle.clause_form.specs.Conclusions.{AreTermIds}
use Rattle.instgen_loop.specs.PartTerms.{AreBoundTerms}
use Rattle.instgen_run.proofs.Parted.{chosen_map, kept_whole, same_part_back}
use Rattle.instgen_loop.proofs.PartTermLaws.{part_renumbered, terms_are, ids_are, plain_are}
use Rattle.instgen_loop.proofs.part_terms.terms_with.Goals as goal

pub canonical-requires : goal.canonical-requires
canonical-requires c =
    let f = c.args.bank.now in
    let is : c.in_ok-kept.kept ≡ chosen c.args.part.now.whole.now c.args.part.now.keep.now = c.in_ok-kept.ensures ∙ ap (λ (x : List (Signed _)). chosen x c.args.part.now.keep.now) c.as_slice.ensures in
    subst (IsClauseOf f) (sym is) (kept_whole f c.args.part.now.whole.now c.args.part.now.keep.now c.requires.whole).ids

pub bind_all-requires-clause-kept : goal.bind_all-requires-clause-kept
bind_all-requires-clause-kept c =
    let f = c.args.bank.now in
    let h = c.canonical.new.bank in
    let whole = c.args.part.now.whole.now in
    let keep = c.args.part.now.keep.now in
    let kept = c.as_slice-2.result.now in
    let is : kept ≡ chosen whole keep = c.as_slice-2.ensures ∙ c.in_ok-kept.ensures ∙ ap (λ (x : List (Signed _)). chosen x keep) c.as_slice.ensures in
    let inside : IsClauseOf f kept = subst (IsClauseOf f) (sym is) (kept_whole f whole keep c.requires.whole).ids in
    clause_of_extends f h c.in_ok-canonical_part.ensures.extends kept inside

pub bind_all-requires-clause-renumbered : goal.bind_all-requires-clause-renumbered
bind_all-requires-clause-renumbered c =
    let f = c.args.bank.now in
    let h = c.canonical.new.bank in
    let whole = c.args.part.now.whole.now in
    let keep = c.args.part.now.keep.now in
    let kept = c.as_slice-2.result.now in
    let is : kept ≡ chosen whole keep = c.as_slice-2.ensures ∙ c.in_ok-kept.ensures ∙ ap (λ (x : List (Signed _)). chosen x keep) c.as_slice.ensures in
    let inside : IsClauseOf f kept = subst (IsClauseOf f) (sym is) (kept_whole f whole keep c.requires.whole).ids in
    let there : clause_at h kept ≡ chosen (clause_at f whole) keep = clause_extends f h c.in_ok-canonical_part.ensures.extends kept inside ∙ ap (clause_at f) is ∙ sym (chosen_map (literal_tree f) whole keep) in
    let before : clause_at f c.in_ok-kept.kept ≡ chosen (clause_at f whole) keep = ap (clause_at f) (sym c.as_slice-2.ensures ∙ is) ∙ sym (chosen_map (literal_tree f) whole keep) in
    ap (clause_at h) c.as_slice-3.ensures ∙ c.in_ok-canonical_part.ensures.canonical.1 ∙ ap canonical_form before
    ∙ part_renumbered (clause_at f whole) keep c.requires.canonical (same_part_back f whole keep c.requires.keep)
    ∙ ap (λ k. map (subst_literal (numbered (order_of k))) k) (sym there)

pub count_of-requires-clause-canonical : goal.count_of-requires-clause-canonical
count_of-requires-clause-canonical c =
    subst IsCanonical (sym (clause_extends c.args.bank.now c.canonical.new.bank c.in_ok-canonical_part.ensures.extends c.args.part.now.whole.now c.requires.whole.ids)) c.requires.canonical

pub returns-clause-ids : goal.returns-clause-ids
returns-clause-ids c =
    let f = c.args.bank.now in
    let h = c.canonical.new.bank in
    let whole = c.args.part.now.whole.now in
    let keep = c.args.part.now.keep.now in
    let kept = c.as_slice-2.result.now in
    let is : kept ≡ chosen whole keep = c.as_slice-2.ensures ∙ c.in_ok-kept.ensures ∙ ap (λ (x : List (Signed _)). chosen x keep) c.as_slice.ensures in
    let inside : IsClauseOf f kept = subst (IsClauseOf f) (sym is) (kept_whole f whole keep c.requires.whole).ids in
    let there : clause_at h kept ≡ chosen (clause_at f whole) keep = clause_extends f h c.in_ok-canonical_part.ensures.extends kept inside ∙ ap (clause_at f) is ∙ sym (chosen_map (literal_tree f) whole keep) in
    IfOk-weaker c.bound_terms.result (AreBoundTerms c.bind_all.new.bindings.entries c.args.constant c.in_ok-count.count) (AreIds h)
    (λ ids terms. ids_are f h c.in_ok-canonical_part.ensures.extends whole kept keep c.bind_all.new.bindings.entries c.args.constant c.in_ok-count.count ids c.requires.canonical there c.in_ok-bind_all.ensures.bound
    (c.in_ok-count.ensures ∙ ap (λ k. length (order_of k)) (clause_extends f h c.in_ok-canonical_part.ensures.extends whole c.requires.whole.ids)) terms c.requires.constant.0) c.bound_terms.ensures

pub returns-clause-plain : goal.returns-clause-plain
returns-clause-plain c =
    let f = c.args.bank.now in
    let h = c.canonical.new.bank in
    let whole = c.args.part.now.whole.now in
    let keep = c.args.part.now.keep.now in
    let kept = c.as_slice-2.result.now in
    let is : kept ≡ chosen whole keep = c.as_slice-2.ensures ∙ c.in_ok-kept.ensures ∙ ap (λ (x : List (Signed _)). chosen x keep) c.as_slice.ensures in
    let inside : IsClauseOf f kept = subst (IsClauseOf f) (sym is) (kept_whole f whole keep c.requires.whole).ids in
    let there : clause_at h kept ≡ chosen (clause_at f whole) keep = clause_extends f h c.in_ok-canonical_part.ensures.extends kept inside ∙ ap (clause_at f) is ∙ sym (chosen_map (literal_tree f) whole keep) in
    IfOk-weaker c.bound_terms.result (AreBoundTerms c.bind_all.new.bindings.entries c.args.constant c.in_ok-count.count) (AreTermIds h)
    (λ ids terms. plain_are f h c.in_ok-canonical_part.ensures.extends whole kept keep c.bind_all.new.bindings.entries c.args.constant c.in_ok-count.count ids c.requires.canonical there c.in_ok-bind_all.ensures.bound
    (c.in_ok-count.ensures ∙ ap (λ k. length (order_of k)) (clause_extends f h c.in_ok-canonical_part.ensures.extends whole c.requires.whole.ids)) terms c.requires.constant.0 c.requires.constant.1) c.bound_terms.ensures

pub returns-clause-terms : goal.returns-clause-terms
returns-clause-terms c =
    let f = c.args.bank.now in
    let h = c.canonical.new.bank in
    let whole = c.args.part.now.whole.now in
    let keep = c.args.part.now.keep.now in
    let kept = c.as_slice-2.result.now in
    let is : kept ≡ chosen whole keep = c.as_slice-2.ensures ∙ c.in_ok-kept.ensures ∙ ap (λ (x : List (Signed _)). chosen x keep) c.as_slice.ensures in
    let inside : IsClauseOf f kept = subst (IsClauseOf f) (sym is) (kept_whole f whole keep c.requires.whole).ids in
    let there : clause_at h kept ≡ chosen (clause_at f whole) keep = clause_extends f h c.in_ok-canonical_part.ensures.extends kept inside ∙ ap (clause_at f) is ∙ sym (chosen_map (literal_tree f) whole keep) in
    IfOk-weaker c.bound_terms.result (AreBoundTerms c.bind_all.new.bindings.entries c.args.constant c.in_ok-count.count)
    (λ ids. (bot : Sym) → tree_at f c.args.constant ≡ app bot none → map (tree_at h) ids ≡ part_terms bot (clause_at f whole) (chosen (clause_at f whole) keep))
    (λ ids terms. terms_are f h c.in_ok-canonical_part.ensures.extends whole kept keep c.bind_all.new.bindings.entries c.args.constant c.in_ok-count.count ids c.requires.canonical there c.in_ok-bind_all.ensures.bound
    (c.in_ok-count.ensures ∙ ap (λ k. length (order_of k)) (clause_extends f h c.in_ok-canonical_part.ensures.extends whole c.requires.whole.ids)) terms c.requires.constant.0) c.bound_terms.ensures
