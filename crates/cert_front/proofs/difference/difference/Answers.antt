use Rattle.std.proofs.Common.{sym, subst, Bor}
use Rattle.std.specs.Prelude.{Option, IfOk, option_copied}
use Rattle.std.proofs.lemmas.Result.{IfOk-weaker}
use Rattle.inst_logic.specs.declared.clause.Problem.{Problem}
use Rattle.term_bank.proofs.Growth.{extends_itself}
use Rattle.cert_values.specs.Values.{base_of}
use Rattle.cert_front.specs.Judgements.{IsDifference}
use Rattle.cert_front.proofs.Differing.{whole_ids, difference_of}
use Rattle.cert_front.proofs.Grown.{base_whole, keeps_grown}
use Rattle.cert_front.proofs.difference.difference.Goals as goal

pub first_difference-requires-clause-inputs : goal.first_difference-requires-clause-inputs
first_difference-requires-clause-inputs c = whole_ids c.args.base.now.bank c.args.base.now.inputs c.requires.whole.inputs

pub first_difference-requires-clause-clauses : goal.first_difference-requires-clause-clauses
first_difference-requires-clause-clauses c = c.requires.problem c.in-Some.p c.in-Some.is

pub returns-in-Some-clause-kept : goal.returns-in-Some-clause-kept
returns-in-Some-clause-kept c = keeps_grown c.args.base.now c.first_difference.new.bank c.first_difference.ensures.extends

pub returns-in-Some-clause-whole : goal.returns-in-Some-clause-whole
returns-in-Some-clause-whole c =
    let whole = base_whole c.args.base.now c.first_difference.new.bank c.requires.whole c.first_difference.ensures.extends c.first_difference.ensures.formed in
    IfOk-weaker c.first_difference.result _ _ (λ _ _. whole) c.first_difference.ensures.first

pub returns-in-Some-clause-first : goal.returns-in-Some-clause-first
returns-in-Some-clause-first c =
    let there = IfOk-weaker c.first_difference.result _ _ (λ r h. difference_of c.in-Some.p.now (base_of c.args.base.now) r h) c.first_difference.ensures.first in
    subst (λ (o : Option (Bor Problem)). IfOk c.first_difference.result (IsDifference (option_copied o) (base_of c.args.base.now))) (sym c.in-Some.is) there

pub returns-in-None-clause-kept : goal.returns-in-None-clause-kept
returns-in-None-clause-kept c = keeps_grown c.args.base.now c.args.base.now.bank (extends_itself c.args.base.now.bank)
