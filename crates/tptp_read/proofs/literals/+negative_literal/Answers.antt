use Rattle.std.proofs.Common.{◌∙◌, drop, sym, subst}
use Rattle.tptp_read.specs.Grammar.{Negated}
use Rattle.tptp_read.specs.Meaning.{from_negated}
use Rattle.tptp_read.specs.LexemeView.{toks, texts, Gives}
use Rattle.tptp_read.specs.Shapes.{seen, shape, shape_of}
use Rattle.tptp_read.proofs.PlainLaws.{no_parenthesis}
use Rattle.tptp_read.proofs.literals.+negative_literal.Goals as goal

pub returns-then-not-stands_at-clause-is : goal.returns-then-not-stands_at-clause-is
returns-then-not-stands_at-clause-is t c =
    let whole = no_parenthesis c.args.nesting c.args.depth (toks (drop c.args.at c.args.reader.now.tokens.now)) (sym c.stands_at.ensures.is ∙ c.if-not-stands_at.true) in
    subst (λ r. Gives (λ x. (shape x.0, toks (drop x.1 c.args.reader.now.tokens.now))) c.negated_atomic.result (seen (λ (n : Negated). shape_of (texts c.args.reader.now.vars.now.keys) (from_negated n)) r)) (sym whole) c.negated_atomic.ensures.is
