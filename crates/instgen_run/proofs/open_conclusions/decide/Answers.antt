use Rattle.std.proofs.Common.{◌≡◌, ◌+◌, ◌++◌, ◌∷◌, [], suc, List, ap, sym, ◌∙◌, subst, arith, length, take}
use Rattle.std.proofs.lemmas.List.{take_all}
use Rattle.inst_logic.proofs.ShownLaws.{at_number_contains}
use Rattle.inst_logic.specs.Derivations.{at_number}
use Rattle.inst_calculus.specs.Entries.{Entry}
use Rattle.inst_calculus.proofs.Distinct.{map_append}
use Rattle.inst_calculus.proofs.Membership.{all_in, contains_in, in_map}
use Rattle.instgen_run.specs.Loops.{held_in, held_of}
use Rattle.instgen_run.specs.Running.{entries_of}
use Rattle.instgen_run.specs.Deciding.{held_value, IsSomeConclusion}
use Rattle.instgen_run.proofs.Decisions.{decision_over, decision_step, decision_of_all, entries_read, items_read, places_read, held_read, reads_more, take_next, IsDecisionOf}
use Rattle.instgen_run.proofs.open_conclusions.decide.Goals as goal

pub decide_one-requires-clause-whole : goal.decide_one-requires-clause-whole
decide_one-requires-clause-whole g c =
    let run = c.args.run.now in
    let now = c.loop-k.run in
    ap length (places_read run now c.loop-k.invariant.reads) ∙ c.requires.whole ∙ sym (ap length (items_read run now c.loop-k.invariant.reads))

pub decide_one-requires-clause-held : goal.decide_one-requires-clause-held
decide_one-requires-clause-held g c =
    let run = c.args.run.now in
    let now = c.loop-k.run in
    let h = c.held_at-held.result in
    let there : at_number run.held.items (suc c.loop-k.k) ≡ at_number now.held.items (suc c.loop-k.k) = ap (λ hs. at_number hs (suc c.loop-k.k)) (sym (held_read run now c.loop-k.invariant.reads)) in
    let i = in_map held_value h run.held.items (contains_in h run.held.items (at_number_contains run.held.items (suc c.loop-k.k) h (there ∙ c.held_at-held.ensures))) in
    subst (λ (es : List Entry). IsSomeConclusion es (held_value h)) (sym (entries_read run now c.loop-k.invariant.reads c.requires.safe.entries))
    (all_in (IsSomeConclusion (entries_of run)) (held_of run) c.requires.held (held_value h) i)

pub loop-k-preserved : goal.loop-k-preserved
loop-k-preserved g c =
    let run = c.args.run.now in
    let now = c.loop-k.run in
    let new = c.decide_one.new.run in
    let k = c.loop-k.k in
    let h = c.held_at-held.result in
    let inv = c.loop-k.invariant in
    let u = c.in_ok-size.ensures in
    let there : at_number run.held.items (suc k) ≡ at_number now.held.items (suc k) = ap (λ hs. at_number hs (suc k)) (sym (held_read run now inv.reads)) in
    let front : held_in (take (k + 1) run.held.items) ≡ held_in (take k run.held.items) ++ held_value h ∷ [] =
    ap (λ n. held_in (take n run.held.items)) (let e : k + 1 ≡ suc k = omega arith in e) ∙ ap held_in (take_next run.held.items k h (there ∙ c.held_at-held.ensures)) ∙ map_append held_value (take k run.held.items) (h ∷ []) in
    record {
      safe = u.safe;
      reads = reads_more run now new inv.reads u.reads;
      found = subst (λ hs. IsDecisionOf new hs c.lesser-least.result) (sym front)
          (decision_step new (held_in (take k run.held.items)) (held_value h) c.loop-k.least c.in_ok-size.size c.lesser-least.result
          (decision_over now new (entries_read now new u.reads inv.safe.entries) (places_read now new u.reads) (held_in (take k run.held.items)) c.loop-k.least inv.found) u.decision c.lesser-least.ensures);
    }

pub returns-clause-decision : goal.returns-clause-decision
returns-clause-decision g c =
    let run = c.args.run.now in
    let now = c.loop-k.run in
    let inv = c.loop-k.invariant in
    let whole : take c.loop-k.k run.held.items ≡ now.held.items = take_all c.loop-k.k run.held.items (omega (arith, c.len-k-end.ensures, c.loop-k-test.false)) ∙ sym (held_read run now inv.reads) in
    decision_of_all now c.loop-k.least (subst (λ hs. IsDecisionOf now (held_in hs) c.loop-k.least) whole inv.found)
