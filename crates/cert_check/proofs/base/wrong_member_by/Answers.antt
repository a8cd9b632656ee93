use Rattle.std.proofs.Common.{ℕ, ◌+◌, arith, below_more, refl, sym, subst}
use Rattle.cert_format.specs.Certificate as format
use Rattle.cert_format.specs.Validity.{IsRightAxiom}
use Rattle.cert_values.specs.Values.{base_of}
use Rattle.cert_check.specs.Stages.{IsAllowedMember}
use Rattle.cert_check.proofs.Bases.{base_same}
use Rattle.cert_check.proofs.Passing.{all_allowed}
use Rattle.cert_check.proofs.Refutations.{keeps_trans, not_true}
use Rattle.cert_check.proofs.base.wrong_member_by.Goals as goal

pub is_allowed-requires-clause-axioms : goal.is_allowed-requires-clause-axioms
is_allowed-requires-clause-axioms c =
    let same = base_same c.args.base.now c.loop-i.base c.requires.whole c.loop-i.invariant.kept in
    subst (λ (b : format.Base). (n : ℕ) → IsRightAxiom b n) (sym same) c.requires.axioms

pub returns-then-not-branch-clause-first : goal.returns-then-not-branch-clause-first
returns-then-not-branch-clause-first c =
    let same = base_same c.args.base.now c.loop-i.base c.requires.whole c.loop-i.invariant.kept in
    record {
      applies = λ h. not_true c.in_ok-is_allowed.field-0 c.in_ok-is_allowed.field-0 refl c.if-not-branch.true
          (c.in_ok-is_allowed.ensures.allowed.1 (subst (λ (d : format.Base). IsAllowedMember c.args.lemmas d (c.loop-i.i + 1)) (sym same) h));
      before = c.loop-i.invariant.right;
    }

pub loop-i-preserved : goal.loop-i-preserved
loop-i-preserved c =
    let b = base_of c.args.base.now in
    let same = base_same c.args.base.now c.loop-i.base c.requires.whole c.loop-i.invariant.kept in
    record {
      kept = keeps_trans c.args.base.now c.loop-i.base c.is_allowed.new.base c.loop-i.invariant.kept c.is_allowed.ensures.kept;
      whole = c.in_ok-is_allowed.ensures.whole;
      right = below_more (IsAllowedMember c.args.lemmas b) (c.loop-i.i + 1) c.loop-i.invariant.right
          (subst (λ (d : format.Base). IsAllowedMember c.args.lemmas d (c.loop-i.i + 1)) same (c.in_ok-is_allowed.ensures.allowed.0 c.if-not-branch.false));
    }

pub returns-clause-first : goal.returns-clause-first
returns-clause-first c = all_allowed c.args.lemmas c.args.base.now c.loop-i.i (omega arith) c.loop-i.invariant.right

pub returns-then-not-branch-clause-kept : goal.returns-then-not-branch-clause-kept
returns-then-not-branch-clause-kept c = keeps_trans c.args.base.now c.loop-i.base c.is_allowed.new.base c.loop-i.invariant.kept c.is_allowed.ensures.kept
