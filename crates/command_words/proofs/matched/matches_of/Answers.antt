use Rattle.std.proofs.Common.{◌∙◌}
use Rattle.command_words.proofs.Parses.{refused, taken, given_value}
use Rattle.command_words.proofs.matched.matches_of.Goals as goal

pub returns-in-Ok-clause-taken : goal.returns-in-Ok-clause-taken
returns-in-Ok-clause-taken c = taken _ _ (c.in-Ok.ensures.kinds c.requires)

pub returns-in-Ok-clause-values : goal.returns-in-Ok-clause-values
returns-in-Ok-clause-values c = given_value _ _ c.in-Ok.matches c.requires c.in-Ok.ensures.matches

pub returns : goal.returns
returns c = record {
  taken = refused _ _ c.in-Err.error (c.in-Err.ensures.kinds c.requires) (λ e. c.in_default.not-OutOfMemory (c.kind.ensures ∙ e));
  values = tt;
}
