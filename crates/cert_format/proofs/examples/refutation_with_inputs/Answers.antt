use Rattle.std.proofs.Common.{refl}
use Rattle.inst_logic.specs.Tree.{var}
use Rattle.inst_logic.specs.Substitution.{Substitution, followed_by}
use Rattle.inst_logic.specs.Clauses.{instance}
use Rattle.inst_logic.specs.Examples.{p, constant_c, yes, no, binding}
use Rattle.inst_calculus.specs.Abstraction.{grounding}
use Rattle.inst_calculus.specs.Entries.{input, inst}
use Rattle.inst_calculus.specs.Examples.{entry, p_always, not_p_c, p_c, bot}
use Rattle.inst_calculus.proofs.ShortLists.{each_number}
use Rattle.inst_calculus.proofs.Turns.{instance_unifier}
use Rattle.cert_format.specs.Certificate.{Base, GroundLine}
use Rattle.cert_format.specs.Upgrades.{behind_numbers, LeadsTo, by_input, by_instance, GivesTerms}
use Rattle.cert_format.specs.Examples.{instance_refutation, one_step, lined_refutation}
use Rattle.cert_format.proofs.examples.refutation_with_inputs.Goals as goal

abbrev base : Base
base = (instance_refutation (one_step 2 3)).base

abbrev behind : Substitution
behind = followed_by binding.left (behind_numbers (instance binding.left p_always) (grounding bot))

first_input : (t : Substitution) → LeadsTo base 1 (behind_numbers p_always t) 1 t
first_input t = by_input 1 t (entry p_always (input 1)) p_always refl refl refl (λ v. refl)

third : LeadsTo base 1 (behind_numbers p_always behind) 3 (grounding bot)
third = by_instance 3 (grounding bot) (entry p_c (inst 1 1 2 1)) (entry p_always (input 1)) (entry not_p_c (input 2)) 1 1 2 1 (yes (p (var 0))) (no (p constant_c)) binding
    refl refl refl refl refl refl instance_unifier (first_input behind)

pub returns : goal.returns
returns c = record {
  base = refl;
  bot = refl;
  steps = refl;
  clauses = refl;
  origins = λ n g i. each_number (λ m (x : GroundLine). GivesTerms base bot m x.input x.terms) lined_refutation.grounds (
    record { clause = p_always; clause_at = refl; unifier = behind_numbers p_always (grounding bot); leads = first_input (grounding bot); are = refl },
    (
      record { clause = not_p_c; clause_at = refl; unifier = behind_numbers not_p_c (grounding bot); leads = by_input 2 (grounding bot) (entry not_p_c (input 2)) not_p_c refl refl refl (λ v. refl); are = refl },
      (record { clause = p_always; clause_at = refl; unifier = behind_numbers p_always behind; leads = third; are = refl }, tt),
    ),
  ) n g i;
}
