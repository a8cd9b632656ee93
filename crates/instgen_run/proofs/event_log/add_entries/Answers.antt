use Rattle.std.proofs.Common.{◌≡◌, ◌∙◌, ◌+◌, ◌-◌, ◌≤◌, ◌++◌, ◌∷◌, ℕ, zero, suc, List, [], ap, sym, subst, arith, Some, take, drop, slice_range}
use Rattle.std.specs.Prelude.{slice_get}
use Rattle.inst_logic.specs.Derivations.{at_number}
use Rattle.std.proofs.lemmas.List.{append-nil, append_assoc}
use Rattle.cert_values.specs.declared.member.Origin.{Origin}
use Rattle.instgen_run.specs.declared.event.Event.{Event}
use Rattle.instgen_run.specs.Clauses.{Item}
use Rattle.instgen_run.specs.Marks.{inferred, origins_of, told_by}
use Rattle.instgen_run.proofs.Decisions.{take_next}
use Rattle.instgen_run.proofs.Logged.{origins_count, told_one}
use Rattle.instgen_run.proofs.Works.{slice_get_map}
use Rattle.instgen_run.proofs.event_log.add_entries.Goals as goal

none_yet : {X : Type 0} (xs : List X) (n : ℕ) → slice_range xs n n ≡ []
none_yet xs n = let e : n - n ≡ 0 = omega arith in ap (λ k. take k (drop n xs)) e

dropped : {X : Type 0} (xs : List X) (b k n : ℕ) (x : X) → k ≡ b + n → slice_get xs k ≡ Some x → slice_get (drop b xs) n ≡ Some x
dropped xs zero k n x e at = let q : k ≡ n = omega arith in subst (λ j. slice_get xs j ≡ Some x) q at
dropped [] (suc b) k n x e at = absurd cc
dropped (y ∷ xs) (suc b) zero n x e at = absurd (omega arith)
dropped (y ∷ xs) (suc b) (suc k) n x e at = dropped xs b k n x (omega arith) at

-- a range that ends one later has the next of the list
range_more : {X : Type 0} (xs : List X) (begin i : ℕ) (x : X) → begin ≤ i → slice_get xs i ≡ Some x → slice_range xs begin (i + 1) ≡ slice_range xs begin i ++ x ∷ []
range_more xs begin i x l at =
    let e : i + 1 - begin ≡ suc (i - begin) = omega arith in
    let q : i ≡ begin + (i - begin) = omega arith in
    ap (λ n. take n (drop begin xs)) e ∙ take_next (drop begin xs) (i - begin) x (dropped xs begin i (i - begin) x q at)

pub loop-i-init : goal.loop-i-init
loop-i-init c = record {
  told = sym (ap (λ (os : List Origin). c.args.events.now.items ++ inferred os) (none_yet (origins_of c.args.clauses.now.entries) c.args.done) ∙ append-nil c.args.events.now.items);
  within = omega arith;
}

pub origin_of-requires : goal.origin_of-requires
origin_of-requires c =
    let l = origins_count c.args.clauses.now.entries in
    (omega arith, omega (arith, c.requires, c.loop-i-test.true, l))

pub loop-i-preserved : goal.loop-i-preserved
loop-i-preserved c =
    let es = c.args.clauses.now.entries in
    let i = c.loop-i.i in
    let (item, at, same) = c.origin_of.ensures in
    let next : i + 1 ≡ suc i = omega arith in
    let here : slice_get es i ≡ Some item = sym (ap (at_number es) next) ∙ at in
    let one : inferred (slice_range (origins_of es) c.args.done (i + 1)) ≡ inferred (slice_range (origins_of es) c.args.done i) ++ told_by item.1 =
    ap inferred (range_more (origins_of es) c.args.done i item.1 c.loop-i.invariant.within (slice_get_map (λ (e : Item). e.1) es i item here)) ∙ told_one (slice_range (origins_of es) c.args.done i) item.1 in
    record {
      told = c.in_ok-add_entry.ensures ∙ ap (λ (o : Origin). c.loop-i.events.items ++ told_by o) (sym same) ∙ ap (λ (js : List Event). js ++ told_by item.1) c.loop-i.invariant.told
          ∙ append_assoc c.args.events.now.items (inferred (slice_range (origins_of es) c.args.done i)) (told_by item.1) ∙ ap (λ (js : List Event). c.args.events.now.items ++ js) (sym one);
      within = let l = c.loop-i.invariant.within in omega arith;
    }
