use Rattle.std.proofs.Common.{◌≡◌, ◌+◌, ◌-◌, ◌≤◌, ◌++◌, ◌∷◌, [], take, get_or, max, sym, ap, ◌∙◌, refl, add-one, arith}
use Rattle.std.proofs.Math.Seq.{take-suc}
use Rattle.std.proofs.lemmas.List.{map_push}
use Rattle.tptp_read.specs.Rules.{nesting_from, opens, closes}
use Rattle.tptp_read.specs.LexemeView.{tok, toks}
use Rattle.tptp_read.proofs.Places.{other}
use Rattle.tptp_read.proofs.Fronts.{bump, count_of, count_more, nesting_more}
use Rattle.tptp_read.proofs.front.nesting_behind.Goals as goal
use Rattle.tptp_read.proofs.front.nesting_behind.Goals.{then-opens, else-opens, then-closes, else-closes}

pub loop-l-preserved : goal.loop-l-preserved
loop-l-preserved c =
    let ls = c.args.tokens.now in
    let i = c.loop-l.l-index in
    let o0 = c.args.opened in
    let t = tok (get_or ls i other) in
    let ts = toks (take i ls) in
    let more : toks (take (i + 1) ls) ≡ ts ++ t ∷ [] = ap (λ k. toks (take k ls)) (add-one i) ∙ ap toks (take-suc ls i other c.loop-l-test.true) ∙ map_push tok (take i ls) (get_or ls i other) in
    let o : c.if-opens.opened ≡ bump (opens t) c.loop-l.opened = elim c.if-opens.branch [
      | then-opens w ↦ w.opened-is ∙ sym (rw (sym c.opens.ensures ∙ w.if-opens.true) refl)
      | else-opens w ↦ w.opened-is ∙ sym (rw (sym c.opens.ensures ∙ w.if-opens.false) refl)
    ] in
    let k : c.if-closes.closed ≡ bump (closes t) c.loop-l.closed = elim c.if-closes.branch [
      | then-closes w ↦ w.closed-is ∙ sym (rw (sym c.closes.ensures ∙ w.if-closes.true) refl)
      | else-closes w ↦ w.closed-is ∙ sym (rw (sym c.closes.ensures ∙ w.if-closes.false) refl)
    ] in
    let few = c.loop-l.invariant.few in
    let o_few : c.if-opens.opened ≤ i + 1 + 1 = elim c.if-opens.branch [
      | then-opens w ↦ omega (arith, w.opened-is, few.0)
      | else-opens w ↦ omega (arith, w.opened-is, few.0)
    ] in
    let k_few : c.if-closes.closed ≤ i + 1 = elim c.if-closes.branch [
      | then-closes w ↦ omega (arith, w.closed-is, few.1)
      | else-closes w ↦ omega (arith, w.closed-is, few.1)
    ] in
    let deep : c.max-deepest.result ≡ max c.loop-l.deepest (c.if-opens.opened - c.loop-l.closed) = c.max-deepest.ensures ∙ ap (max c.loop-l.deepest) c.saturating_sub-here.ensures in
    let here : c.if-opens.opened - c.loop-l.closed ≡ bump (opens t) (count_of opens o0 ts) - count_of closes 0 ts = (λ j. (o ∙ ap (bump (opens t)) c.loop-l.invariant.opened) j - c.loop-l.invariant.closed j) in
    record {
      opened = o ∙ ap (bump (opens t)) c.loop-l.invariant.opened ∙ sym (count_more opens o0 ts t) ∙ ap (count_of opens o0) (sym more);
      closed = k ∙ ap (bump (closes t)) c.loop-l.invariant.closed ∙ sym (count_more closes 0 ts t) ∙ ap (count_of closes 0) (sym more);
      deepest = deep ∙ (λ j. max (c.loop-l.invariant.deepest j) (here j)) ∙ sym (nesting_more o0 0 ts t) ∙ ap (nesting_from o0 0) (sym more);
      few = (o_few, k_few);
    }
