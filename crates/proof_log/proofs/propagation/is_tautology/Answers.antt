use Rattle.std.proofs.Common.{ℕ, false, get_or, refl, sym, ap, ◌∙◌, subst}
use Rattle.std.specs.Prelude.{All, Contains}
use Rattle.std.proofs.lemmas.List.{take_all}
use Rattle.std.proofs.lemmas.List.Elements.{All-more, Contains-get_or, All-contains}
use Rattle.std.proofs.lemmas.Bool.{false≢true}
use Rattle.inst_logic.specs.declared.signed.Signed.{Signed}
use Rattle.inst_logic.specs.Signed.{complement}
use Rattle.inst_logic.specs.Signed.{complement}
use Rattle.proof_log.specs.Marks.{is_marked}
use Rattle.proof_log.proofs.MarkedSets.{marked_in, unmarked_out}
use Rattle.proof_log.proofs.propagation.is_tautology.Goals as goal

pub loop-lit-preserved : goal.loop-lit-preserved
loop-lit-preserved c =
    let d : Signed ℕ = record { atom = 0; positive = false } in
    All-more (λ m. ¬ Contains c.args.clause.now (complement m)) c.args.clause.now c.loop-lit.lit-index d c.loop-lit-test.true c.loop-lit.invariant
    (unmarked_out c.args.marks.now c.args.clause.now _ c.requires.marked (c.requires.atoms c.loop-lit.lit-index d c.loop-lit-test.true) (ap (is_marked c.args.marks.now) (sym c.complement.ensures) ∙ sym c.contains.ensures ∙ c.if-contains.false))

pub returns : goal.returns
returns c =
    let none = subst (λ xs. All (λ m. ¬ Contains c.args.clause.now (complement m)) xs) (take_all c.loop-lit.lit-index c.args.clause.now c.loop-lit-test.false) c.loop-lit.invariant in (
      λ e. absurd (false≢true e),
      λ p. absurd (All-contains (λ m. ¬ Contains c.args.clause.now (complement m)) c.args.clause.now p.0 none p.1 p.2),
    )

pub returns-then-contains : goal.returns-then-contains
returns-then-contains c =
    let d : Signed ℕ = record { atom = 0; positive = false } in
    let l = get_or c.args.clause.now c.loop-lit.lit-index d in (
      λ _. (
        l,
        Contains-get_or c.args.clause.now c.loop-lit.lit-index d c.loop-lit-test.true,
        marked_in c.args.marks.now c.args.clause.now (complement l) c.requires.marked (c.requires.atoms c.loop-lit.lit-index d c.loop-lit-test.true) (ap (is_marked c.args.marks.now) (sym c.complement.ensures) ∙ sym c.contains.ensures ∙ c.if-contains.true),
      ),
      λ _. refl,
    )
