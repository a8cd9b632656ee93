use Rattle.std.proofs.Common.{ℕ, false, get_or, inl, inr, refl, sym, ap, ◌∙◌}
use Rattle.std.specs.Prelude.{is_some}
use Rattle.std.proofs.lemmas.Option.{slice_get-get_or}
use Rattle.std.proofs.lemmas.Bool.{false≢true}
use Rattle.inst_logic.specs.declared.signed.Signed.{Signed}
use Rattle.prop_logic.proofs.ListLaws.{Contains-slice_get}
use Rattle.cdcl_core.specs.declared.search.Search.{Search}
use Rattle.cdcl_core.proofs.StepLaws.{unset_of, decided_kept, decided_advances, assumed_search}
use Rattle.cdcl_core.proofs.EndLaws.{true_or_false}
use Rattle.cdcl_core.proofs.GoLaws.{none_of}
use Rattle.cdcl_core.proofs.search.Search.assume_one.Goals as goal

pub refute-requires-clause-refuted : goal.refute-requires-clause-refuted
refute-requires-clause-refuted c =
    let t = c.args.self.now.trail.trail in
    let xs = c.args.assumptions.now in
    let d : Signed ℕ = record { positive = false; atom = 0 } in
    let l = get_or xs c.args.place d in
    let at = slice_get-get_or xs c.args.place d c.requires.place in
    elim (true_or_false t l (λ e. false≢true (sym (ap is_some (c.level_of.ensures ∙ e)) ∙ sym c.is_some.ensures ∙ c.if-is_some.true))) [
      | inl true_one ↦ absurd (c.requires.not_true l at true_one)
      | inr false_one ↦ false_one
    ]

pub decide-requires-clause-unset : goal.decide-requires-clause-unset
decide-requires-clause-unset c =
    let xs = c.args.assumptions.now in
    let d : Signed ℕ = record { positive = false; atom = 0 } in
    unset_of c.args.self.now.trail.trail.entries (get_or xs c.args.place d).atom (sym c.level_of.ensures ∙ none_of c.level_of.result (sym c.is_some.ensures ∙ c.if-is_some.false))

pub returns-clause-goes : goal.returns-clause-goes
returns-clause-goes c =
    let old = c.args.self.now in
    let xs = c.args.assumptions.now in
    let d : Signed ℕ = record { positive = false; atom = 0 } in
    let l = get_or xs c.args.place d in
    let new : Search = record old { trail = c.decide.new.self; assumed = c.level-self.result; checked = c.args.place } in
    let kept = decided_kept old new l c.decide.ensures.trail c.decide.ensures.attached refl refl refl refl c.requires.search.kept in
    let inside = Contains-slice_get xs c.args.place l (slice_get-get_or xs c.args.place d c.requires.place) in
    (assumed_search xs old new l c.args.place c.requires.trail c.decide.ensures.trail kept c.level-self.ensures refl inside c.requires.level c.requires.before c.requires.search, decided_advances old new l c.requires.trail c.decide.ensures.trail refl)
