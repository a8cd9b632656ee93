use Rattle.std.proofs.Common.{◌∙◌, ap, arith, length, subst}
use Rattle.std.specs.Prelude.{Some}
use Rattle.std.proofs.lemmas.List.Elements.{All-nil}
use Rattle.inst_logic.specs.Truth.{IsTrueLiteral}
use Rattle.prop_logic.specs.Valuation.{IsHeld}
use Rattle.dimacs_front.specs.Checked.{Checked, IsChecked}
use Rattle.dimacs_front.specs.Texts.{unsatisfiable_text}
use Rattle.dimacs_front.proofs.answers.derivation_text.Goals as goal

pub returns : goal.returns
returns c =
    let clauses = c.args.cnf.now.clauses in
    let same : IsChecked clauses c.args.derivation (Some c.in-Some.derivation) = subst (IsChecked clauses c.args.derivation) c.in-Some.is c.in_ok-derivation.ensures in
    record {
      none = λ values m. c.requires.refutes.none values (record { clauses_true = m.clauses_true; assumptions_true = All-nil (IsTrueLiteral (IsHeld values)) });
      derivation = c.args.derivation;
      hinted = c.requires.refutes.hinted (λ t. omega (arith, t.1.1));
      shown = c.requires.refutes.shown;
      last = c.requires.refutes.last;
      is = c.from.ensures ∙ c.in_ok-text-in-Some.ensures ∙ ap (λ (d : Checked). unsatisfiable_text (length d.clauses) d.steps) same;
    }
