use Rattle.std.proofs.Common.{◌≡◌, ℕ, ◌+◌, ◌<◌, ◌++◌, List, length, [], sym, ap, ◌∙◌, subst, take, slice_set, nat_eq, arith, None}
use Rattle.std.proofs.lemmas.List.{length-take-le, length-set}
use Rattle.std.specs.Prelude.{position}
use Rattle.term_index.specs.Copies.{CopiesOne}
use Rattle.term_index.proofs.IdLaws.{full, copies_first, copies_last, copies_later, distinct_last, distinct_later}
use Rattle.term_index.proofs.ids.Ids.number_of.Goals as goal
use Rattle.term_index.proofs.ids.Ids.number_of.Goals.{In_ok-place}

pub returns-in-Some : goal.returns-in-Some
returns-in-Some c =
    let i = c.self.inside in
    subst (λ (xs : List ℕ). CopiesOne xs xs c.args.id c.in-Some.number) c.self.view_is (copies_first (take i.count i.first) i.later.keys c.args.id c.in-Some.number (sym c.place_of.ensures ∙ c.in-Some.is))

pub invariant_of-self : goal.invariant_of-self
invariant_of-self c =
    let i = c.self.inside in
    let n = i.count + c.len.result in
    let alone : i.later.keys ≡ [] = c.self.invariant.2 (omega (arith, c.if-count-lt-FEW.true)) in
    let last : n ≡ i.count = omega (arith, c.len.ensures.len, ap length alone) in
    let within : i.count < length i.first = omega (arith, c.if-count-lt-FEW.true, last, c.self.invariant.0) in (
      length-set i.first n c.args.id ∙ c.self.invariant.0,
      omega (arith, c.if-count-lt-FEW.true, last),
      λ _. alone,
      distinct_last i.first i.later.keys c.args.id i.count n last within alone (sym c.place_of.ensures ∙ c.in_default.is) c.self.invariant.3,
    )

pub returns-then-count-lt-FEW : goal.returns-then-count-lt-FEW
returns-then-count-lt-FEW c =
    let i = c.self.inside in
    let n = i.count + c.len.result in
    let alone : i.later.keys ≡ [] = c.self.invariant.2 (omega (arith, c.if-count-lt-FEW.true)) in
    let last : n ≡ i.count = omega (arith, c.len.ensures.len, ap length alone) in
    let within : i.count < length i.first = omega (arith, c.if-count-lt-FEW.true, last, c.self.invariant.0) in
    subst (λ (xs : List ℕ). CopiesOne xs (take (n + 1) (slice_set i.first n c.args.id) ++ i.later.keys) c.args.id n) c.self.view_is
    (copies_last i.first i.later.keys c.args.id i.count n last within alone (sym c.place_of.ensures ∙ c.in_default.is))

all : (c : In_ok-place) → c.self.inside.count ≡ 8
all c = full c.self.inside.count c.self.inside.later.keys c.self.invariant.1 c.self.invariant.2 (omega (arith, c.if-count-lt-FEW.false, c.len.ensures.len))

absent : (c : In_ok-place) → position (nat_eq c.args.id) (take c.self.inside.count c.self.inside.first) ≡ None
absent c = sym c.place_of.ensures ∙ c.in_default.is

pub invariant_of-self-2 : goal.invariant_of-self-2
invariant_of-self-2 c =
    let i = c.self.inside in
    (c.self.invariant.0, c.self.invariant.1, λ few. absurd (omega (arith, few, all c)), distinct_later (take i.count i.first) i.later.keys c.insert_full.new.self.keys c.args.id c.in_ok-place.ensures.keys (absent c) c.self.invariant.3)

pub returns : goal.returns
returns c =
    let i = c.self.inside in
    subst (λ (xs : List ℕ). CopiesOne xs (take i.count i.first ++ c.insert_full.new.self.keys) c.args.id (8 + c.in_ok-place.place)) c.self.view_is
    (copies_later (take i.count i.first) i.later.keys c.insert_full.new.self.keys c.args.id 8 c.in_ok-place.place (length-take-le i.count i.first (omega (arith, c.self.invariant.0, c.self.invariant.1)) ∙ all c) c.in_ok-place.ensures.keys c.in_ok-place.ensures.index (absent c))
