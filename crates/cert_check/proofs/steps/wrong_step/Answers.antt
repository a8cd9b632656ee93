use Rattle.std.proofs.Common.{ℕ, List, length, sym, ◌∙◌, subst, map}
use Rattle.prop_logic.specs.Literal.{AllAtomsBelow, StepsBelow}
use Rattle.prop_logic.specs.declared.literal.Step.{Step}
use Rattle.term_bank.specs.Forest.{clause_at}
use Rattle.cert_values.specs.Values.{step_of}
use Rattle.cert_check.specs.Firsts.{IsFirstWrongOf}
use Rattle.cert_check.specs.Numbered.{IsRightNumber, numbered_step}
use Rattle.cert_check.specs.Stages.{IsRightStepNumber}
use Rattle.cert_check.proofs.Differences.{first_same}
use Rattle.cert_check.proofs.ShownTrees.{right_number, right_tree, steps_below}
use Rattle.cert_check.proofs.steps.wrong_step.Goals as goal

pub with_room-requires-clause-given : goal.with_room-requires-clause-given
with_room-requires-clause-given c = subst (λ (n : ℕ). AllAtomsBelow n c.args.given.now) (sym c.len.ensures.len) c.requires.given

pub with_room-requires-clause-derivation : goal.with_room-requires-clause-derivation
with_room-requires-clause-derivation c =
    let f = c.args.bank.now in
    subst (λ (n : ℕ). StepsBelow n c.in_ok-derivation.derivation) (sym c.len.ensures.len)
    (subst (λ (ss : List Step). StepsBelow (length f.trees) ss) (sym c.in_ok-derivation.ensures) (steps_below f c.args.steps.now c.requires.steps))

pub first_wrong-requires-clause-given : goal.first_wrong-requires-clause-given
first_wrong-requires-clause-given c = subst (λ (n : ℕ). AllAtomsBelow n c.args.given.now) (sym (c.in_ok-checker.ensures ∙ c.len.ensures.len)) c.requires.given

pub first_wrong-requires-clause-derivation : goal.first_wrong-requires-clause-derivation
first_wrong-requires-clause-derivation c =
    let f = c.args.bank.now in
    subst (λ (n : ℕ). StepsBelow n c.in_ok-derivation.derivation) (sym (c.in_ok-checker.ensures ∙ c.len.ensures.len))
    (subst (λ (ss : List Step). StepsBelow (length f.trees) ss) (sym c.in_ok-derivation.ensures) (steps_below f c.args.steps.now c.requires.steps))

pub returns : goal.returns
returns c =
    let f = c.args.bank.now in
    let gs = c.args.given.now in
    let ss = c.args.steps.now in
    first_same (IsRightNumber gs (map numbered_step ss)) (IsRightStepNumber (map (clause_at f) gs) (map (step_of f) ss))
    (right_number f gs ss c.requires.given c.requires.steps c.len.ensures.distinct) (right_tree f gs ss c.requires.given c.requires.steps c.len.ensures.distinct) c.first_wrong.result
    (subst (λ (xs : List Step). IsFirstWrongOf (IsRightNumber gs xs) c.first_wrong.result) c.in_ok-derivation.ensures c.first_wrong.ensures)
