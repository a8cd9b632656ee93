use Rattle.std.proofs.Common.{sym, subst, ◌∙◌}
use Rattle.core_min.specs.Cores.{ArePlaces, HasRefutation, clauses_at}
use Rattle.core_min.specs.Verdicts.{IsCited}
use Rattle.szs_prove.proofs.SubProblems.{all_cited, some_places}
use Rattle.szs_prove.proofs.sub_lists.SubLists.refuted_places.Goals as goal

pub is_refuted-requires : goal.is_refuted-requires
is_refuted-requires c =
    subst (ArePlaces c.args.self.now.clauses) (sym c.as_slice.ensures.value)
    (some_places c.args.self.now.clauses c.args.places.now c.requires.places c.in_ok-some.some.items c.in_ok-some.ensures.rising c.in_ok-some.ensures.within)

pub returns-then-branch : goal.returns-then-branch
returns-then-branch c =
    subst (IsCited c.args.self.now.clauses c.args.places.now) (sym c.from.ensures) (record {
      rising = c.in_ok-some.ensures.rising;
      within = c.in_ok-some.ensures.within;
      refuted = subst (λ xs. HasRefutation (clauses_at c.args.self.now.clauses xs)) c.as_slice.ensures.value (c.in_ok-is_refuted.ensures c.if-branch.true);
    })

pub returns : goal.returns
returns c = subst (IsCited c.args.self.now.clauses c.args.places.now) (sym (c.from-2.ensures ∙ c.in_ok-all.ensures.items)) (all_cited c.args.self.now.clauses c.args.places.now c.requires.places c.requires.refuted)
