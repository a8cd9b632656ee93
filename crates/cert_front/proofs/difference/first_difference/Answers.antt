use Rattle.std.proofs.Common.{◌≤◌, length, refl, arith, sym, ◌∙◌, below_more}
use Rattle.term_bank.proofs.Growth.{extends_trans}
use Rattle.cert_front.proofs.Differing.{all_grown, same_there, first_at, none_differs, not_true}
use Rattle.cert_front.proofs.difference.first_difference.Goals as goal

pub same_at-requires-clause-inputs : goal.same_at-requires-clause-inputs
same_at-requires-clause-inputs c = all_grown c.args.bank.now c.loop-i.bank c.loop-i.invariant.extends c.args.inputs.now c.requires.inputs

pub loop-i-preserved : goal.loop-i-preserved
loop-i-preserved c =
    let here = same_there c.args.bank.now c.loop-i.bank c.loop-i.invariant.extends c.args.inputs.now c.requires.inputs c.loop-i.i in
    record {
      extends = extends_trans c.args.bank.now c.loop-i.bank c.same_at.new.bank c.loop-i.invariant.extends c.same_at.ensures.extends;
      formed = c.same_at.ensures.formed;
      before = below_more _ _ c.loop-i.invariant.before (sym here ∙ c.in_ok-same.ensures.same.0 c.if-not-same.false);
    }

pub returns-then-not-same-clause-first : goal.returns-then-not-same-clause-first
returns-then-not-same-clause-first c =
    let here = same_there c.args.bank.now c.loop-i.bank c.loop-i.invariant.extends c.args.inputs.now c.requires.inputs c.loop-i.i in
    first_at c.args.bank.now c.args.inputs.now c.args.clauses.now c.loop-i.i c.loop-i.invariant.before
    (λ e. not_true c.in_ok-same.same c.in_ok-same.same refl c.if-not-same.true (c.in_ok-same.ensures.same.1 (here ∙ e)))

pub returns-clause-first : goal.returns-clause-first
returns-clause-first c =
    let all : length c.args.inputs.now ≤ c.loop-i.i = omega arith in
    let both : length c.args.clauses.now ≤ c.loop-i.i = omega arith in
    none_differs c.args.bank.now c.args.inputs.now c.args.clauses.now c.loop-i.i all both c.loop-i.invariant.before
