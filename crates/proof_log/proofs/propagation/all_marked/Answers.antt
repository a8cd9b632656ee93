use Rattle.std.proofs.Common.{ℕ, false, refl, sym, ◌∙◌, subst}
use Rattle.std.specs.Prelude.{All, Contains}
use Rattle.std.proofs.lemmas.List.{take_all}
use Rattle.std.proofs.lemmas.List.Elements.{All-more}
use Rattle.std.proofs.lemmas.Bool.{false≢true}
use Rattle.inst_logic.specs.declared.signed.Signed.{Signed}
use Rattle.proof_log.proofs.MarkedSets.{marked_in, unmarked_out}
use Rattle.proof_log.proofs.propagation.all_marked.Goals as goal

pub loop-lit-preserved : goal.loop-lit-preserved
loop-lit-preserved c = λ F h.
    let d : Signed ℕ = record { atom = 0; positive = false } in
    All-more (Contains F) c.args.clause.now c.loop-lit.lit-index d c.loop-lit-test.true (c.loop-lit.invariant F h)
    (marked_in c.args.marks.now F _ h (c.requires c.loop-lit.lit-index d c.loop-lit-test.true) (sym c.contains.ensures ∙ c.if-not-contains.false))

pub returns : goal.returns
returns c = λ F h. (
  λ _. subst (λ xs. All (Contains F) xs) (take_all c.loop-lit.lit-index c.args.clause.now c.loop-lit-test.false) (c.loop-lit.invariant F h),
  λ _. refl,
)

pub returns-then-not-contains : goal.returns-then-not-contains
returns-then-not-contains c = λ F h.
    let d : Signed ℕ = record { atom = 0; positive = false } in (
      λ e. absurd (false≢true e),
      λ a. absurd (unmarked_out c.args.marks.now F _ h (c.requires c.loop-lit.lit-index d c.loop-lit-test.true) (sym c.contains.ensures ∙ c.if-not-contains.true) (a c.loop-lit.lit-index d c.loop-lit-test.true)),
    )
