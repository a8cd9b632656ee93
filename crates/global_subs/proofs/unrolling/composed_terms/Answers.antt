use Rattle.std.proofs.Common.{List, ℕ, ◌∷◌, [], ◌++◌, map, refl, sym, subst, ap, ◌∙◌}
use Rattle.std.specs.Prelude.{All}
use Rattle.inst_logic.specs.Substitution.{subst as apply}
use Rattle.term_bank.specs.Forest.{AreIds, IsTermIn, no_symbol, tree_at}
use Rattle.clause_form.specs.Conclusions.{AreTermIds}
use Rattle.clause_form.specs.Walks.{listed}
use Rattle.global_subs.proofs.TaskLaws.{terms_in}
use Rattle.global_subs.proofs.TermLaws.{but_last, entry_terms, has_terms_later, last_task, term_ids, terms_in as plain_terms}
use Rattle.global_subs.proofs.unrolling.composed_terms.Goals as goal

pub terms_under-requires-clause-list : goal.terms_under-requires-clause-list
terms_under-requires-clause-list c =
    let f = c.args.bank.now in
    let how = c.requires.how in
    subst (AreIds f) (sym c.as_slice.ensures)
    (subst (AreIds f) how.2 (terms_in f f no_symbol c.args.unrolling.now.made.now c.requires.unrolling.entries c.args.task.now c.requires.task how.0 how.1 how.0.how refl))

pub returns-clause-trees : goal.returns-clause-trees
returns-clause-trees c =
    let f = c.args.bank.now in
    c.in_ok-composed.ensures.trees
    ∙ ap (λ (ts : List ℕ). map (apply (listed f ts)) (map (tree_at f) c.as_slice.result.now)) c.as_slice-2.ensures
    ∙ ap (λ (ts : List ℕ). map (apply (listed f c.args.task.now.terms)) (map (tree_at f) ts)) c.as_slice.ensures

pub returns-clause-terms : goal.returns-clause-terms
returns-clause-terms c = λ tasks h.
    let f = c.args.bank.now in
    let g = c.terms_under.new.bank in
    let made = c.args.unrolling.now.made.now in
    let task = c.args.task.now in
    let how = c.requires.how in
    let under : AreTermIds f c.as_slice-2.result.now = subst (AreTermIds f) (sym c.as_slice-2.ensures) (term_ids f task.terms (last_task f made tasks task h)) in
    let list : AreTermIds f c.as_slice.result.now = subst (AreTermIds f) (sym c.as_slice.ensures)
    (term_ids f c.args.terms.now (subst (All (IsTermIn f)) how.2 (entry_terms f made (tasks ++ task ∷ []) task.entry how.0 h how.1))) in (
      has_terms_later f g c.terms_under.ensures.extends (c.terms_under.ensures.formed h.formed under) made tasks (but_last f made tasks task h),
      plain_terms g c.in_ok-composed.composed.items c.in_ok-composed.ensures.ids (c.in_ok-composed.ensures.terms list under),
    )
