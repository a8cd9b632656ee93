use Rattle.std.proofs.Common.{◌<◌, [], sym, ap, ◌∙◌, length, get_or, arith}
use Rattle.std.specs.Str.{bytes_eq}
use Rattle.inst_logic.specs.Lists.{with_item}
use Rattle.tptp_read.specs.declared.kind.TokenKind.TheVariants.{LowerWord}
use Rattle.tptp_read.specs.declared.lexeme.Lexeme.{Lexeme}
use Rattle.tptp_read.specs.LexemeView.{texts}
use Rattle.tptp_read.proofs.NameSets.{one_more_variable, no_more_variable}
use Rattle.tptp_read.proofs.numbers.variables_of.Goals as goal
use Rattle.tptp_read.proofs.numbers.variables_of.Goals.{then-is_variable+in_ok-note, else-is_variable}

abbrev other : Lexeme
other = record { kind = LowerWord; text = record { ref_ptr = (0, 0); now = [] } }

pub loop-l-preserved : goal.loop-l-preserved
loop-l-preserved c =
    let lt : c.loop-l.l-index < length c.args.tokens.now = omega arith in
    elim c.if-is_variable.branch [
      | then-is_variable+in_ok-note w ↦
          ap (λ s. texts s.keys) w.seen-is ∙ w.in_ok-note.ensures ∙ (λ i. with_item bytes_eq (c.loop-l.invariant i) (get_or c.args.tokens.now c.loop-l.l-index other).text.now)
          ∙ one_more_variable c.args.tokens.now c.loop-l.l-index other lt (sym c.is_variable.ensures ∙ w.if-is_variable.true)
      | else-is_variable w ↦
          ap (λ s. texts s.keys) w.seen-is ∙ c.loop-l.invariant
          ∙ no_more_variable c.args.tokens.now c.loop-l.l-index other lt (sym c.is_variable.ensures ∙ w.if-is_variable.false)
    ]
