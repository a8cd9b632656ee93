use Rattle.std.proofs.Common.{◌∙◌}
use Rattle.dimacs_front.proofs.Models.{clauses_along}
use Rattle.dimacs_front.proofs.answers.valuation_text.Goals as goal

pub returns : goal.returns
returns c =
    let text = rw c.as_slice.ensures.value at c.in_ok-text.ensures in
    record {
      values = c.in_ok-values.values.items;
      model = record {
        all = c.in_ok-values.ensures.len;
        clauses_true = clauses_along c.args.cnf.now.vars c.args.valuation.now c.in_ok-values.values.items (record { same = c.in_ok-values.ensures.same }) c.args.cnf.now.clauses c.requires.below c.requires.satisfies.makes_true.clauses_true;
      };
      is = c.from.ensures ∙ text;
    }
