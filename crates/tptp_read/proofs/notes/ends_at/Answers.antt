use Rattle.std.proofs.Common.{sym, ◌∙◌}
use Rattle.tptp_read.proofs.Places.{tail_at, no_tail_close, no_tail_stop}
use Rattle.tptp_read.proofs.notes.ends_at.Goals as goal

pub returns-then-not-stands_at : goal.returns-then-not-stands_at
returns-then-not-stands_at c = no_tail_close c.args.tokens.now c.args.at (sym c.stands_at.ensures.is ∙ c.if-not-stands_at.true)

pub returns-then-not-stands_at-2 : goal.returns-then-not-stands_at-2
returns-then-not-stands_at-2 c = no_tail_stop c.args.tokens.now c.args.at (sym c.stands_at.ensures.is ∙ c.if-not-stands_at.false) (sym c.stands_at-2.ensures.is ∙ c.if-not-stands_at-2.true)

pub returns : goal.returns
returns c =
    let within = c.stands_at-2.ensures.within c.if-not-stands_at-2.false in
    tail_at c.args.tokens.now c.args.at (sym c.stands_at.ensures.is ∙ c.if-not-stands_at.false) (sym c.stands_at-2.ensures.is ∙ c.if-not-stands_at-2.false) within
