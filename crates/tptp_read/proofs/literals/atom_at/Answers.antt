use Rattle.std.proofs.Common.{◌∙◌, ◌+◌, drop, get_or, sym, ap, arith}
use Rattle.tptp_read.specs.Parse.{term_at}
use Rattle.tptp_read.specs.LexemeView.{tok, toks}
use Rattle.tptp_read.proofs.Reading.{other, toks_at, toks_end, term_none}
use Rattle.tptp_read.proofs.AtomLaws.{atom_of}
use Rattle.tptp_read.proofs.literals.atom_at.Goals as goal

pub returns-then-at-tokens : goal.returns-then-at-tokens
returns-then-at-tokens c = λ d z e. let none = term_none d (toks (drop c.args.at c.args.tokens.now)) (toks_end c.args.tokens.now c.args.at c.if-at-tokens.true) in absurd cc

pub returns : goal.returns
returns c = λ d z e.
    let ls = c.args.tokens.now in
    let at = c.args.at in
    let cut = toks_at ls at other (omega arith) in
    c.is_head.ensures ∙ atom_of d (tok (get_or ls at other)) (toks (drop (at + 1) ls)) z (ap (term_at d) (sym cut) ∙ e)
