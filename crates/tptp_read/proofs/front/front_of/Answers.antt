use Rattle.std.proofs.Common.{◌≡◌, ℕ, ◌≤◌, List, ◌++◌, ◌∷◌, [], true, false, drop, length, sym, ap, subst, ◌∙◌, arith, length-drop}
use Rattle.std.proofs.lemmas.List.{map_push, length-map}
use Rattle.std.proofs.lemmas.Bool.{eq-eqb}
use Rattle.tptp_read.specs.Stream.{IsNext, IsEnd, tok_of}
use Rattle.tptp_read.specs.LexemeView.{tok, toks}
use Rattle.tptp_read.specs.Fronts.{other_word}
use Rattle.tptp_read.proofs.Fronts.{IsWhole, one_more, whole, other, unfinished}
use Rattle.tptp_read.proofs.front.front_of.Goals as goal
use Rattle.tptp_read.proofs.front.front_of.Goals.{else-is_empty-via-then-is_empty+else-place-text, else-is_empty-via-else-is_empty}

false_true : false ≡ true → ⊥
false_true e = cc

pub returns-then-stops : goal.returns-then-stops
returns-then-stops c =
    let text = c.args.text.now in
    let at = c.loop-t.stream.at in
    let t = c.in-Some.t in
    let same = c.loop-t.invariant.text in
    let steps = c.in-Some.ensures.steps in
    let next = subst (λ (x : List ℕ). IsNext (drop at x) (tok_of x t) (drop t.end x)) same steps.2.next in
    let pushed : toks c.push.new.self.items ≡ toks c.loop-t.found.items ++ tok_of text t ∷ [] = rw c.in_ok-push.ensures.items (map_push _ c.loop-t.found.items _) in
    let end : c.place.result ≡ t.end = c.place.ensures.is ∙ steps.1 in
    let all = whole text (drop at text) (drop t.end text) (toks c.loop-t.found.items) (tok_of text t) c.loop-t.invariant.so_far next (sym c.is_mark-stops.ensures ∙ c.if-stops.true) in
    let moved : IsWhole text (toks c.push.new.self.items) (drop c.place.result text) = rw (pushed, end) all in
    let len : length c.next.new.self.text ≡ length text = ap length (steps.0 ∙ same) in
    (moved.some, moved.language, moved.front, omega (arith, c.place.ensures.within, len))

pub returns-in-Some-other_language : goal.returns-in-Some-other_language
returns-in-Some-other_language c =
    let text = c.args.text.now in
    let at = c.loop-t.stream.at in
    let t = c.in-Some.t in
    let same = c.loop-t.invariant.text in
    let steps = c.in-Some.ensures.steps in
    let next = subst (λ (x : List ℕ). IsNext (drop at x) (tok_of x t) (drop t.end x)) same steps.2.next in
    let pushed : toks c.push.new.self.items ≡ toks c.loop-t.found.items ++ tok_of text t ∷ [] = rw c.in_ok-push.ensures.items (map_push _ c.loop-t.found.items _) in
    let word = sym (ap other_word (ap toks c.as_slice.ensures.value ∙ pushed)) ∙ sym c.in-Some-other_language.ensures in
    other text (drop at text) (drop t.end text) c.in-Some-other_language.word.now (toks c.loop-t.found.items) (tok_of text t) c.loop-t.invariant.so_far next word

pub loop-t-preserved : goal.loop-t-preserved
loop-t-preserved c =
    let text = c.args.text.now in
    let at = c.loop-t.stream.at in
    let t = c.in-Some.t in
    let same = c.loop-t.invariant.text in
    let steps = c.in-Some.ensures.steps in
    let next = subst (λ (x : List ℕ). IsNext (drop at x) (tok_of x t) (drop t.end x)) same steps.2.next in
    let pushed : toks c.push.new.self.items ≡ toks c.loop-t.found.items ++ tok_of text t ∷ [] = rw c.in_ok-push.ensures.items (map_push _ c.loop-t.found.items _) in
    let word = sym (ap other_word (ap toks c.as_slice.ensures.value ∙ pushed)) ∙ sym c.in_default-other_language.ensures in
    let more = one_more text (drop at text) (drop t.end text) (toks c.loop-t.found.items) (tok_of text t) c.loop-t.invariant.so_far next (sym c.is_mark-stops.ensures ∙ c.if-stops.false) word in
    record { text = steps.0 ∙ same; so_far = rw (pushed, steps.1) more }

pub returns : goal.returns
returns c =
    let text = c.args.text.now in
    let at = c.loop-t.stream.at in
    let last = c.next.new.self.at in
    let same = c.loop-t.invariant.text in
    let steps = c.in_default.ensures.steps in
    let end = subst (λ (x : List ℕ). IsEnd (drop at x) (drop last x)) same steps.3 in
    unfinished text (drop at text) (drop last text) (toks c.loop-t.found.items) c.loop-t.invariant.so_far end (λ none nil.
    let long : length text ≤ last = omega (arith, ap length nil, length-drop last text) in
    elim c.else-is_empty.branch [
      | else-is_empty-via-then-is_empty+else-place-text w ↦ w.if-place-text.false (omega (arith, long, w.place-then-is_empty.ensures.is, w.place-then-is_empty.ensures.within, ap length (steps.0 ∙ same)))
      | else-is_empty-via-else-is_empty w ↦ false_true (sym w.if-is_empty.false ∙ c.is_empty.ensures ∙ eq-eqb _ 0 (ap length c.as_slice-2.ensures.value ∙ sym (length-map c.loop-t.found.items tok) ∙ ap length none))
    ])
