use Rattle.std.proofs.Common.{◌+◌, ◌++◌, ◌∙◌, refl, sym, ap, arith}
use Rattle.std.proofs.lemmas.List.{append-nil}
use Rattle.cert_format.specs.Lines.{input_line}
use Rattle.term_bank.specs.Forest.{clause_at}
use Rattle.cert_values.specs.Wholes.{IsWholeClause}
use Rattle.cert_values.proofs.EachItem.{each_item}
use Rattle.cert_text.proofs.Pieces.{paired_end}
use Rattle.cert_text.proofs.listing.push_inputs.Goals as goal

pub push_input-requires : goal.push_input-requires
push_input-requires c = (each_item (IsWholeClause c.args.bank.now) c.args.clauses.now c.args.clauses.now c.loop-i.i c.index-clauses-i.result c.requires refl (omega arith) c.index-clauses-i.is).ids

pub returns : goal.returns
returns c =
    sym (append-nil c.loop-i.pen)
    ∙ sym (ap (λ t. c.loop-i.pen ++ t) (paired_end input_line (clause_at c.args.bank.now) (c.loop-i.i + 1) c.loop-i.i c.args.clauses.now c.args.names.now (omega arith)))
    ∙ c.loop-i.invariant
