use Rattle.std.proofs.Common.{◌∙◌, drop, sym, subst}
use Rattle.tptp_read.specs.Grammar.{Simple}
use Rattle.tptp_read.specs.Meaning.{from_simple}
use Rattle.tptp_read.specs.LexemeView.{toks, texts, Gives}
use Rattle.tptp_read.specs.Shapes.{seen, shape, shape_of}
use Rattle.tptp_read.proofs.PlainLaws.{no_negation}
use Rattle.tptp_read.proofs.literals.literal.Goals as goal

pub returns-clause-is : goal.returns-clause-is
returns-clause-is c =
    let whole = no_negation c.args.depth (toks (drop c.args.at c.args.reader.now.tokens.now)) (sym c.stands_at.ensures.is ∙ c.if-stands_at.false) in
    subst (λ r. Gives (λ x. (shape x.0, toks (drop x.1 c.args.reader.now.tokens.now))) c.simple_atomic.result (seen (λ (n : Simple). shape_of (texts c.args.reader.now.vars.now.keys) (from_simple n)) r)) (sym whole) c.simple_atomic.ensures.is
