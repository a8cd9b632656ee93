use Rattle.std.proofs.Common.{◌∙◌, ap, sym, subst, [], ◌∷◌, ◌++◌, replicate}
use Rattle.std.proofs.lemmas.Option.{slice_get_within, get_or_from_slice_get}
use Rattle.core_min.specs.Verdicts.{IsCited}
use Rattle.worked_models.proofs.EmptyClauseLists.{cited_first}
use Rattle.worked_models.proofs.cores.EmptyClausesSubListTest.decide.Goals as goal

pub returns-in_ok-push-in-Some-clause-verdict : goal.returns-in_ok-push-in-Some-clause-verdict
returns-in_ok-push-in-Some-clause-verdict c =
    let p = c.in-Some.place.now in
    let places = c.args.places.now in
    let first = sym c.in-Some.ensures.value in
    let made = c.in_ok-push-in-Some.ensures.ok ∙ ap (λ xs. xs ++ p ∷ []) c.new-cited.ensures in
    subst (IsCited (replicate c.args.self.now.count []) places) (sym made)
    (cited_first c.args.self.now.count p places c.requires (0, slice_get_within places 0 p first, get_or_from_slice_get places 0 p p first))
