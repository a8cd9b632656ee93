use Rattle.std.proofs.Common.{◌≡◌, ℕ, ◌≤◌, List, ◌++◌, ◌∷◌, [], drop, length, sym, ap, subst, ◌∙◌, arith, length-drop}
use Rattle.std.proofs.lemmas.List.{map_push}
use Rattle.tptp_read.specs.Stream.{IsNext, IsEnd, tok_of}
use Rattle.tptp_read.specs.LexemeView.{toks}
use Rattle.tptp_read.proofs.Fronts.{begins_more}
use Rattle.tptp_read.proofs.AllTokens.{are_all, none_are, nothing_behind}
use Rattle.tptp_read.proofs.all.all_tokens.Goals as goal

pub loop-t-preserved : goal.loop-t-preserved
loop-t-preserved c =
    let text = c.args.text.now in
    let at = c.loop-t.stream.at in
    let t = c.in-Some.t in
    let same = c.loop-t.invariant.text in
    let steps = c.in-Some.ensures.steps in
    let next = subst (λ (x : List ℕ). IsNext (drop at x) (tok_of x t) (drop t.end x)) same steps.2.next in
    let pushed : toks c.push.new.self.items ≡ toks c.loop-t.found.items ++ tok_of text t ∷ [] = rw c.in_ok-push.ensures.items (map_push _ c.loop-t.found.items _) in
    let more = begins_more (toks c.loop-t.found.items) text (drop at text) (drop t.end text) (tok_of text t) c.loop-t.invariant.so_far next in
    record { text = steps.0 ∙ same; so_far = rw (pushed, steps.1) more }

pub returns-then-place-text : goal.returns-then-place-text
returns-then-place-text c =
    let text = c.args.text.now in
    let at = c.loop-t.stream.at in
    let last = c.next.new.self.at in
    let same = c.loop-t.invariant.text in
    let steps = c.in_default.ensures.steps in
    let end = subst (λ (x : List ℕ). IsEnd (drop at x) (drop last x)) same steps.3 in
    none_are text (drop at text) (drop last text) (toks c.loop-t.found.items) c.loop-t.invariant.so_far end
    (λ nil. let long : length text ≤ last = omega (arith, ap length nil, length-drop last text) in c.if-place-text.true (omega (arith, long, c.place.ensures.is, c.place.ensures.within, ap length (steps.0 ∙ same))))

pub returns : goal.returns
returns c =
    let text = c.args.text.now in
    let at = c.loop-t.stream.at in
    let last = c.next.new.self.at in
    let same = c.loop-t.invariant.text in
    let steps = c.in_default.ensures.steps in
    let end = subst (λ (x : List ℕ). IsEnd (drop at x) (drop last x)) same steps.3 in
    are_all text (drop at text) (drop last text) (toks c.loop-t.found.items) c.loop-t.invariant.so_far end (nothing_behind text last (sym c.place.ensures.is ∙ c.if-place-text.false))
