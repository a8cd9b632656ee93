use Rattle.std.proofs.Common.{ℕ, subst}
use Rattle.std.specs.Prelude.{MatchOption}
use Rattle.std.specs.Result.{IfOk}
use Rattle.term_index.specs.declared.label.Label.{Label}
use Rattle.term_index.specs.Paths.{IsChild}
use Rattle.term_index.proofs.LabelLaws.{no_child}
use Rattle.term_index.proofs.paths.step.Goals as goal

pub returns-in-Err : goal.returns-in-Err
returns-in-Err c = no_child c.args.edges.now.keys c.args.from _ c.requires.short c.in-Err.ensures.long

pub returns-in-Ok : goal.returns-in-Ok
returns-in-Ok c =
    let es = c.args.edges.now.keys in
    subst (λ (l : Label). IfOk c.child.result (λ r. MatchOption r ((k : ℕ) → ¬ (IsChild es c.args.from l k)) (λ k. IsChild es c.args.from l k))) c.in-Ok.ensures.label c.child.ensures.some
