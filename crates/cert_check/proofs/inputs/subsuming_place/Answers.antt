use Rattle.std.proofs.Common.{◌≡◌, ◌<◌, ◌≤◌, ◌∙◌, length, sym, subst, true, false, below_more, arith}
use Rattle.std.specs.List.{HoldsAt}
use Rattle.std.proofs.lemmas.List.{get_or_default}
use Rattle.inst_logic.specs.Clauses.{Subsumes}
use Rattle.term_bank.specs.Forest.{clause_at}
use Rattle.cert_values.specs.declared.member.Member.{Member}
use Rattle.cert_check.proofs.InputScans.{none_any}
use Rattle.cert_check.proofs.inputs.subsuming_place.Goals as goal

pub returns-then-branch-clause-some : goal.returns-then-branch-clause-some
returns-then-branch-clause-some c =
    let ms = c.args.members.now in
    let within : c.loop-i.i < length ms = omega arith in
    record {
      within = within;
      holds = λ d. subst (λ (m : Member). Subsumes (clause_at c.args.bank.now m.clause) (clause_at c.args.bank.now c.args.c.now)) (get_or_default ms c.loop-i.i c.index-members-i.result d within) (c.in_ok-subsumes.ensures.0 c.if-branch.true);
    }

pub loop-i-preserved : goal.loop-i-preserved
loop-i-preserved c =
    let ms = c.args.members.now in
    let within : c.loop-i.i < length ms = omega arith in
    below_more (λ k. HoldsAt (λ (m : Member). ¬ (Subsumes (clause_at c.args.bank.now m.clause) (clause_at c.args.bank.now c.args.c.now))) ms k) c.loop-i.i c.loop-i.invariant
    (λ d s.
    let here = subst (λ (m : Member). Subsumes (clause_at c.args.bank.now m.clause) (clause_at c.args.bank.now c.args.c.now)) (get_or_default ms c.loop-i.i d c.index-members-i.result within) s in
    let t : false ≡ true = sym c.if-branch.false ∙ c.in_ok-subsumes.ensures.1 here in cc)

pub returns-clause-none : goal.returns-clause-none
returns-clause-none c any =
    let past : length c.args.members.now ≤ c.loop-i.i = omega arith in
    none_any (λ (m : Member). Subsumes (clause_at c.args.bank.now m.clause) (clause_at c.args.bank.now c.args.c.now)) c.args.members.now c.loop-i.i c.loop-i.invariant past any
