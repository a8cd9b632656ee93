use Rattle.std.proofs.Common.{◌≡◌, ◌+◌, Some, drop, get_or, false, sym, ap, ◌∙◌, arith}
use Rattle.std.specs.Prelude.{◌&&◌}
use Rattle.tptp_read.specs.Lexemes.{is_head}
use Rattle.tptp_read.specs.Parse.{begins_with}
use Rattle.tptp_read.specs.LexemeView.{tok, toks}
use Rattle.tptp_read.specs.Skim.{after_general, after_thing, after_listing, after_bracket}
use Rattle.tptp_read.proofs.ParseLaws.{and_false}
use Rattle.tptp_read.proofs.Places.{behind_toks, toks_at, toks_end, other}
use Rattle.tptp_read.proofs.Skimming.{general_bracket, general_none, general_one, general_more, bracket_empty, bracket_filled, listing_none, listing_some, listing_shut, listing_open, listing_on, listing_off, thing_calls, thing_token, thing_other, no_thing}
use Rattle.tptp_read.proofs.general.+general.Goals as goal
use Rattle.tptp_read.proofs.general.+general.Goals.{thing-else-is_head-via-then-is_head+else-stands_at, thing-else-is_head-via-else-is_head}
use Rattle.inst_logic.proofs.Booleans.{left_false}

pub general-returns-then-stands_at-clause-is : goal.general-returns-then-stands_at-clause-is
general-returns-then-stands_at-clause-is t c =
    let ls = c.args.tokens.now in
    let next = c.loop-at.next in
    c.bracket.ensures.is ∙ ap after_bracket (sym (behind_toks next ls)) ∙ sym (general_bracket (toks (drop next ls)) (sym c.stands_at.ensures.is ∙ c.if-stands_at.true)) ∙ c.loop-at.invariant.total

pub listing-returns-then-stands_at-clause-is : goal.listing-returns-then-stands_at-clause-is
listing-returns-then-stands_at-clause-is t c =
    let ls = c.args.tokens.now in
    let next = c.loop-next.next in
    ap (λ us. Some us) (sym (behind_toks next ls)) ∙ listing_shut c.args.close (toks (drop next ls)) _ (sym c.stands_at.ensures.is ∙ c.loop-next-test.false) (sym c.stands_at-2.ensures.is ∙ c.if-stands_at.true) c.loop-next.invariant.total

pub listing-returns-else-stands_at-clause-is : goal.listing-returns-else-stands_at-clause-is
listing-returns-else-stands_at-clause-is t c =
    let ls = c.args.tokens.now in
    let next = c.loop-next.next in
    listing_open c.args.close (toks (drop next ls)) _ (sym c.stands_at.ensures.is ∙ c.loop-next-test.false) (sym c.stands_at-2.ensures.is ∙ c.if-stands_at.false) c.loop-next.invariant.total

pub thing-returns-then-at-tokens-clause-is : goal.thing-returns-then-at-tokens-clause-is
thing-returns-then-at-tokens-clause-is t c = sym (ap after_thing (toks_end c.args.tokens.now c.args.at c.if-at-tokens.true) ∙ no_thing)

pub thing-returns-then-stands_at-clause-is : goal.thing-returns-then-stands_at-clause-is
thing-returns-then-stands_at-clause-is t c =
    let ls = c.args.tokens.now in
    let at = c.args.at in
    let e = toks_at ls at other (omega arith) in
    let two : at + 1 + 1 ≡ at + 2 = omega arith in
    let after = behind_toks (at + 1) ls ∙ ap (λ i. toks (drop i ls)) two in
    let calls = thing_calls (tok (get_or ls at other)) (toks (drop (at + 1) ls)) (sym c.is_head.ensures ∙ c.if-is_head.true) (sym c.stands_at.ensures.is ∙ c.if-stands_at.true) in
    c.listing.ensures.is ∙ sym (ap after_thing e ∙ calls ∙ ap (λ us. after_listing 41 us) after)

pub thing-returns-then-is_plain-clause-is : goal.thing-returns-then-is_plain-clause-is
thing-returns-then-is_plain-clause-is t c =
    let ls = c.args.tokens.now in
    let at = c.args.at in
    let e = toks_at ls at other (omega arith) in
    let no_call : (is_head (tok (get_or ls at other)).kind && begins_with 40 (toks (drop (at + 1) ls))) ≡ false = elim c.else-is_head.branch [
      | thing-else-is_head-via-then-is_head+else-stands_at w ↦ and_false _ _ (sym w.stands_at.ensures.is ∙ w.if-stands_at.false)
      | thing-else-is_head-via-else-is_head w ↦ left_false _ _ (sym c.is_head.ensures ∙ w.if-is_head.false)
    ] in
    sym (ap after_thing e ∙ thing_token (tok (get_or ls at other)) (toks (drop (at + 1) ls)) no_call (sym c.is_plain.ensures ∙ c.if-is_plain.true))

pub thing-returns-else-is_plain-clause-is : goal.thing-returns-else-is_plain-clause-is
thing-returns-else-is_plain-clause-is t c =
    let ls = c.args.tokens.now in
    let at = c.args.at in
    let e = toks_at ls at other (omega arith) in
    let no_call : (is_head (tok (get_or ls at other)).kind && begins_with 40 (toks (drop (at + 1) ls))) ≡ false = elim c.else-is_head.branch [
      | thing-else-is_head-via-then-is_head+else-stands_at w ↦ and_false _ _ (sym w.stands_at.ensures.is ∙ w.if-stands_at.false)
      | thing-else-is_head-via-else-is_head w ↦ left_false _ _ (sym c.is_head.ensures ∙ w.if-is_head.false)
    ] in
    sym (ap after_thing e ∙ thing_other (tok (get_or ls at other)) (toks (drop (at + 1) ls)) no_call (sym c.is_plain.ensures ∙ c.if-is_plain.false))

pub bracket-returns-then-stands_at-clause-is : goal.bracket-returns-then-stands_at-clause-is
bracket-returns-then-stands_at-clause-is t c =
    let ls = c.args.tokens.now in
    let at = c.args.at in
    ap (λ us. Some us) (sym (behind_toks at ls)) ∙ sym (bracket_empty (toks (drop at ls)) (sym c.stands_at.ensures.is ∙ c.if-stands_at.true))

pub bracket-returns-else-stands_at-clause-is : goal.bracket-returns-else-stands_at-clause-is
bracket-returns-else-stands_at-clause-is t c =
    let ls = c.args.tokens.now in
    let at = c.args.at in
    c.listing.ensures.is ∙ sym (bracket_filled (toks (drop at ls)) (sym c.stands_at.ensures.is ∙ c.if-stands_at.false))

pub general-returns-in_err-after-clause-is : goal.general-returns-in_err-after-clause-is
general-returns-in_err-after-clause-is t c =
    let ls = c.args.tokens.now in
    let next = c.loop-at.next in
    let none = general_none (toks (drop next ls)) (sym c.stands_at.ensures.is ∙ c.if-stands_at.false) (sym c.in_err-after.ensures.is) in
    rw c.from_residual.ensures (sym none ∙ c.loop-at.invariant.total)

pub general-returns-then-not-stands_at-clause-is : goal.general-returns-then-not-stands_at-clause-is
general-returns-then-not-stands_at-clause-is t c =
    let ls = c.args.tokens.now in
    let next = c.loop-at.next in
    let one = general_one (toks (drop next ls)) (toks (drop c.in_ok-after.after ls)) (sym c.stands_at.ensures.is ∙ c.if-stands_at.false) (sym c.in_ok-after.ensures.is) (sym c.stands_at-in-loop-at.ensures.is ∙ c.if-not-stands_at.true) in
    sym one ∙ c.loop-at.invariant.total

pub general-loop-at-preserved : goal.general-loop-at-preserved
general-loop-at-preserved t c =
    let ls = c.args.tokens.now in
    let next = c.loop-at.next in
    let more = general_more (toks (drop next ls)) (toks (drop c.in_ok-after.after ls)) (sym c.stands_at.ensures.is ∙ c.if-stands_at.false) (sym c.in_ok-after.ensures.is) (sym c.stands_at-in-loop-at.ensures.is ∙ c.if-not-stands_at.false) in
    record {
      in_range = omega (arith, c.in_ok-after.ensures.within, c.loop-at.invariant.in_range);
      total = ap after_general (sym (behind_toks c.in_ok-after.after ls)) ∙ sym more ∙ c.loop-at.invariant.total;
    }

pub listing-returns-in_err-next-clause-is : goal.listing-returns-in_err-next-clause-is
listing-returns-in_err-next-clause-is t c =
    rw c.from_residual.ensures (sym (listing_none c.args.close (toks (drop c.args.at c.args.tokens.now)) (sym c.in_err-next.ensures.is)))

pub listing-loop-next-init : goal.listing-loop-next-init
listing-loop-next-init t c = record {
  in_range = c.in_ok-next.ensures.within;
  total = listing_some c.args.close (toks (drop c.args.at c.args.tokens.now)) (toks (drop c.in_ok-next.next c.args.tokens.now)) (sym c.in_ok-next.ensures.is);
}

pub listing-returns-in_err-next-2-clause-is : goal.listing-returns-in_err-next-2-clause-is
listing-returns-in_err-next-2-clause-is t c =
    let ls = c.args.tokens.now in
    let next = c.loop-next.next in
    let none = ap after_general (behind_toks next ls) ∙ sym c.in_err-next-2.ensures.is in
    rw c.from_residual-in_err-next-2.ensures (listing_off c.args.close (toks (drop next ls)) _ (sym c.stands_at.ensures.is ∙ c.loop-next-test.true) none c.loop-next.invariant.total)

pub listing-loop-next-preserved : goal.listing-loop-next-preserved
listing-loop-next-preserved t c =
    let ls = c.args.tokens.now in
    let next = c.loop-next.next in
    let some = ap after_general (behind_toks next ls) ∙ sym c.in_ok-next-2.ensures.is in
    record {
      in_range = (omega (arith, c.in_ok-next-2.ensures.within, c.loop-next.invariant.in_range), c.in_ok-next-2.ensures.within.1);
      total = listing_on c.args.close (toks (drop next ls)) (toks (drop c.in_ok-next-2.next ls)) _ (sym c.stands_at.ensures.is ∙ c.loop-next-test.true) some c.loop-next.invariant.total;
    }
