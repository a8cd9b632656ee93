use Rattle.std.proofs.Common.{◌<◌, length, subst, arith}
use Rattle.std.proofs.lemmas.List.{get_or_default}
use Rattle.inst_logic.specs.Clauses.{Subsumes}
use Rattle.term_bank.specs.Forest.{clause_at}
use Rattle.cert_values.specs.declared.member.Member.{Member}
use Rattle.cert_check.proofs.inputs.subsuming_place_from.Goals as goal

pub returns-then-branch-clause-some : goal.returns-then-branch-clause-some
returns-then-branch-clause-some c =
    let ms = c.args.members.now in
    let within : c.in-Some.i < length ms = omega arith in
    record {
      within = within;
      holds = λ d. subst (λ (m : Member). Subsumes (clause_at c.args.bank.now m.clause) (clause_at c.args.bank.now c.args.c.now)) (get_or_default ms c.in-Some.i c.index-members-i.result d within) (c.in_ok-subsumes.ensures.0 c.if-branch.true);
    }
