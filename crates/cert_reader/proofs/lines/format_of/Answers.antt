use Rattle.std.proofs.Common.{◌∙◌, refl, sym}
use Rattle.cert_reader.proofs.FormatWords.{one_digits, two_digits, three_digits, no_known_word}
use Rattle.cert_reader.proofs.lines.format_of.Goals as goal

pub returns-then-is_digit-clause-some : goal.returns-then-is_digit-clause-some
returns-then-is_digit-clause-some c = (c.is_digit.ensures.yes c.if-is_digit.true ∙ sym one_digits, refl)

pub returns-then-is_digit-2-clause-some : goal.returns-then-is_digit-2-clause-some
returns-then-is_digit-2-clause-some c = (c.is_digit-else-is_digit.ensures.yes c.if-is_digit-2.true ∙ sym two_digits, refl)

pub returns-then-is_digit-3-clause-some : goal.returns-then-is_digit-3-clause-some
returns-then-is_digit-3-clause-some c = (c.is_digit-else-is_digit-2.ensures.yes c.if-is_digit-3.true ∙ sym three_digits, refl)

pub returns-else-is_digit-3-clause-none : goal.returns-else-is_digit-3-clause-none
returns-else-is_digit-3-clause-none c =
    no_known_word c.args.digits.now (c.is_digit.ensures.no c.if-is_digit.false) (c.is_digit-else-is_digit.ensures.no c.if-is_digit-2.false) (c.is_digit-else-is_digit-2.ensures.no c.if-is_digit-3.false)
