use Rattle.std.proofs.Common.{◌≡◌, ◌∷◌, ◌+◌, drop, get_or, sym, ap, ◌∙◌, arith}
use Rattle.tptp_read.specs.LexemeView.{tok, toks}
use Rattle.tptp_read.specs.Selected.{starts}
use Rattle.tptp_read.specs.Grammar.{is_name}
use Rattle.tptp_read.proofs.Places.{behind_toks, toks_at, other}
use Rattle.tptp_read.proofs.Includes.{names_on, names_off, names_done}
use Rattle.tptp_read.proofs.include.selection.Goals as goal

pub returns-then-not-name_at-clause-is : goal.returns-then-not-name_at-clause-is
returns-then-not-name_at-clause-is c =
    let ls = c.args.tokens.now in
    let next = c.loop-alloc.next in
    names_off c.loop-alloc.names (toks (drop next ls)) _ (sym c.stands_at.ensures.is ∙ c.loop-alloc-test.true) (ap (starts is_name) (behind_toks next ls) ∙ sym c.name_at.ensures.is ∙ c.if-not-name_at.true) c.loop-alloc.invariant.total

pub loop-alloc-preserved : goal.loop-alloc-preserved
loop-alloc-preserved c =
    let ls = c.args.tokens.now in
    let next = c.loop-alloc.next in
    let lt = c.name_at.ensures.within c.if-not-name_at.false in
    let at = toks_at ls (next + 1) other lt in
    let two : next + 1 + 1 ≡ next + 2 = omega arith in
    let behind_is = behind_toks next ls ∙ at ∙ ap (λ i. tok (get_or ls (next + 1) other) ∷ toks (drop i ls)) two in
    let named = ap (starts is_name) (sym at) ∙ sym c.name_at.ensures.is ∙ c.if-not-name_at.false in
    let total = names_on c.loop-alloc.names (tok (get_or ls (next + 1) other)) (toks (drop next ls)) (toks (drop (next + 2) ls)) _ (sym c.stands_at.ensures.is ∙ c.loop-alloc-test.true) behind_is named c.loop-alloc.invariant.total in
    record {
      in_range = (omega (arith, c.loop-alloc.invariant.in_range.0), λ le. omega (arith, lt));
      total = rw (c.in_ok-push-2.ensures.ok, c.in_ok-name-2.ensures) total;
    }

pub returns-clause-is : goal.returns-clause-is
returns-clause-is c = names_done c.loop-alloc.names (toks (drop c.loop-alloc.next c.args.tokens.now)) _ (sym c.stands_at.ensures.is ∙ c.loop-alloc-test.false) c.loop-alloc.invariant.total
