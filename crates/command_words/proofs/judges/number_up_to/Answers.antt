use Rattle.std.proofs.Common.{arith}
use Rattle.std.specs.declared.num.ParseIntError.{ParseIntError}
use Rattle.command_words.proofs.Numerals.{refused_is_no_number}
use Rattle.command_words.proofs.judges.number_up_to.Goals as goal

pub returns-in-Err : goal.returns-in-Err
returns-in-Err c = refused_is_no_number ParseIntError c.args.word.now c.args.most c.args.greatest c.in-Err.field-0 c.in-Err.ensures.value.0 (omega arith)
