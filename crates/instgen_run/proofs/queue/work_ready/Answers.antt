use Rattle.std.proofs.Common.{◌≡◌, ◌++◌, append_assoc, ◌<◌, ◌≤◌, ℕ, List, [], length, arith, sym, ap, ◌∙◌, subst, All}
use Rattle.instgen_select.specs.Passives.{Passive_list}
use Rattle.instgen_select.specs.Queues.{Waiting, numbers}
use Rattle.instgen_run.proofs.Selected.{same_places}
use Rattle.instgen_run.specs.Loops.{items}
use Rattle.instgen_run.proofs.Waiting.{picked_by, there, safe_picked, still_ready, picked_waits, partners_requeued, tended_requeued, partners_stay, nothing_queued, none_apart, no_numbers, fewer_ready}
use Rattle.instgen_run.proofs.Opposites.{running_requeued}
use Rattle.instgen_run.proofs.Tending.{tended_on, indexed_within, within}
use Rattle.term_bank.proofs.Growth.{extends_trans}
use Rattle.instgen_run.proofs.queue.work_ready.Goals as goal

pub work_entry-requires-clause-safe : goal.work_entry-requires-clause-safe
work_entry-requires-clause-safe g c = safe_picked g.I.PartnerIndex.pairs g.I.PartnerIndex.fits c.loop-run.run c.pick.new.self c.in-Some.n (picked_by c.loop-run.run.queue c.pick.new.self c.in-Some.n c.in-Some.ensures.some) g.S.Solver.atoms c.loop-run.invariant.safe

pub work_entry-requires-clause-within : goal.work_entry-requires-clause-within
work_entry-requires-clause-within g c = picked_waits g.I.PartnerIndex.pairs g.I.PartnerIndex.fits c.loop-run.run c.pick.new.self c.in-Some.n c.in-Some.ensures.some c.loop-run.invariant.ready

pub work_entry-requires-clause-partners : goal.work_entry-requires-clause-partners
work_entry-requires-clause-partners g c = partners_requeued g.I.PartnerIndex.pairs g.I.PartnerIndex.fits c.loop-run.run c.pick.new.self c.loop-run.partners c.loop-run.invariant.partners

pub store-requires-clause-within : goal.store-requires-clause-within
store-requires-clause-within g c =
    let (a, b) = picked_waits g.I.PartnerIndex.pairs g.I.PartnerIndex.fits c.loop-run.run c.pick.new.self c.in-Some.n c.in-Some.ensures.some c.loop-run.invariant.ready in
    (a, subst (λ (ps : List ℕ). c.in-Some.n ≤ length ps) (sym (same_places c.in_ok-work_entry-in-Some.ensures.goes.selection)) b)

pub store-requires-clause-partners : goal.store-requires-clause-partners
store-requires-clause-partners g c =
    let index = g.I.PartnerIndex in
    let mid = record c.loop-run.run { queue = c.pick.new.self } in
    let new = c.work_entry.new.run in
    let go = c.in-Some.ensures.some in
    let picked = picked_by c.loop-run.run.queue c.pick.new.self c.in-Some.n go in
    let inv = c.loop-run.invariant in
    let w = c.in_ok-work_entry-in-Some.ensures in
    let safe = safe_picked index.pairs index.fits c.loop-run.run c.pick.new.self c.in-Some.n picked g.S.Solver.atoms inv.safe in
    let partners = partners_requeued index.pairs index.fits c.loop-run.run c.pick.new.self c.loop-run.partners inv.partners in
    partners_stay index.pairs index.fits mid new c.loop-run.partners w.goes safe.entries g.met.I.PartnerIndex.grown_fits partners

pub store-requires-clause-absent : goal.store-requires-clause-absent
store-requires-clause-absent g c = c.loop-run.invariant.tended.apart c.in-Some.n (there c.loop-run.run.queue.items c.pick.new.self.items c.in-Some.n (picked_by c.loop-run.run.queue c.pick.new.self c.in-Some.n c.in-Some.ensures.some))

pub returns-then-is_done-clause-tended : goal.returns-then-is_done-clause-tended
returns-then-is_done-clause-tended g c =
    let index = g.I.PartnerIndex in
    let mid = record c.loop-run.run { queue = c.pick.new.self } in
    let new = c.work_entry.new.run in
    let go = c.in-Some.ensures.some in
    let picked = picked_by c.loop-run.run.queue c.pick.new.self c.in-Some.n go in
    let inv = c.loop-run.invariant in
    let w = c.in_ok-work_entry-in-Some.ensures in
    tended_on index.pairs c.loop-run.run new c.pick.new.self c.loop-run.partners c.store.new.partners c.in-Some.n picked w.goes inv.safe.entries inv.safe.waiting
    (λ m i. within c.loop-run.run.selection.places (items c.loop-run.run) m (indexed_within index.pairs index.fits c.loop-run.run c.loop-run.partners inv.partners m i) inv.safe.within) w.worked c.in_ok-store-in-Some.ensures.stored inv.tended

pub loop-run-preserved : goal.loop-run-preserved
loop-run-preserved g c =
    let index = g.I.PartnerIndex in
    let mid = record c.loop-run.run { queue = c.pick.new.self } in
    let new = c.work_entry.new.run in
    let go = c.in-Some.ensures.some in
    let picked = picked_by c.loop-run.run.queue c.pick.new.self c.in-Some.n go in
    let inv = c.loop-run.invariant in
    let w = c.in_ok-work_entry-in-Some.ensures in
    record {
      safe = w.safe;
      ready = subst (λ (ps : List ℕ). All (λ n. (0 < n) × (n ≤ length ps)) (numbers new.queue.ready)) (sym (same_places w.goes.selection))
          (subst (λ (ws : List Waiting). All (λ n. (0 < n) × (n ≤ length mid.selection.places)) (numbers ws)) (sym w.goes.ready) (still_ready index.pairs index.fits c.loop-run.run c.pick.new.self c.in-Some.n go inv.ready));
      partners = c.in_ok-store-in-Some.ensures.partners;
      tended = tended_on index.pairs c.loop-run.run new c.pick.new.self c.loop-run.partners c.store.new.partners c.in-Some.n picked w.goes inv.safe.entries inv.safe.waiting
          (λ m i. within c.loop-run.run.selection.places (items c.loop-run.run) m (indexed_within index.pairs index.fits c.loop-run.run c.loop-run.partners inv.partners m i) inv.safe.within) w.worked c.in_ok-store-in-Some.ensures.stored inv.tended;
      running = λ bot cs budget v h. w.running bot cs budget v (running_requeued g.S.Solver.atoms g.S.Solver.added c.loop-run.run c.pick.new.self bot cs budget v (inv.running bot cs budget v h));
      bank = extends_trans c.args.run.now.entries.bank c.loop-run.run.entries.bank new.entries.bank inv.bank w.goes.bank;
      selection = w.goes.selection ∙ inv.selection;
      literals = let (x, p) = inv.literals in let (y, q) = w.goes.literals in (x ++ y, q ∙ ap (λ zs. zs ++ y) p ∙ simp append_assoc);
      grown = let e = inv.grown in let t = w.goes.waits.1 in omega arith;
      same = λ e.
          let f = inv.grown in
          let t = w.goes.waits.1 in
          let none : length (items new) ≤ length (items mid) = omega arith in
          let old : length (items c.loop-run.run) ≡ length (items c.args.run.now) = omega arith in
          nothing_queued index.pairs index.fits mid new w.goes none ∙ none_apart c.loop-run.run.queue c.pick.new.self c.in-Some.n go (inv.same old) ∙ ap numbers (sym w.goes.ready);
    }

pub returns-then-is_done-clause-running : goal.returns-then-is_done-clause-running
returns-then-is_done-clause-running g c = λ bot cs budget v h.
    let inv = c.loop-run.invariant in
    c.in_ok-work_entry-in-Some.ensures.running bot cs budget v (running_requeued g.S.Solver.atoms g.S.Solver.added c.loop-run.run c.pick.new.self bot cs budget v (inv.running bot cs budget v h))

pub returns-in-None-clause-running : goal.returns-in-None-clause-running
returns-in-None-clause-running g c = λ bot cs budget v h.
    running_requeued g.S.Solver.atoms g.S.Solver.added c.loop-run.run c.pick.new.self bot cs budget v (c.loop-run.invariant.running bot cs budget v h)

pub loop-run-smaller : goal.loop-run-smaller
loop-run-smaller g c = fewer_ready c.loop-run.run.queue c.pick.new.self c.work_entry.new.run.queue c.in-Some.n c.in-Some.ensures.some c.in_ok-work_entry-in-Some.ensures.goes.ready

pub returns-then-is_done-clause-selection : goal.returns-then-is_done-clause-selection
returns-then-is_done-clause-selection g c = c.in_ok-work_entry-in-Some.ensures.goes.selection ∙ c.loop-run.invariant.selection

pub returns-then-is_done-clause-literals : goal.returns-then-is_done-clause-literals
returns-then-is_done-clause-literals g c =
    let (x, p) = c.loop-run.invariant.literals in
    let (y, q) = c.in_ok-work_entry-in-Some.ensures.goes.literals in
    (x ++ y, q ∙ ap (λ zs. zs ++ y) p ∙ simp append_assoc)

pub returns-then-is_done-clause-bank : goal.returns-then-is_done-clause-bank
returns-then-is_done-clause-bank g c =
    extends_trans c.args.run.now.entries.bank c.loop-run.run.entries.bank c.work_entry.new.run.entries.bank c.loop-run.invariant.bank c.in_ok-work_entry-in-Some.ensures.goes.bank

pub returns-in-None-clause-none_waits : goal.returns-in-None-clause-none_waits
returns-in-None-clause-none_waits g c = λ e.
    let short = c.has_grown.ensures.no e in
    let f = c.loop-run.invariant.grown in
    let same : length (items c.loop-run.run) ≡ length (items c.args.run.now) = omega (arith, c.len.ensures.len, c.len-before.ensures.len) in
    let none : numbers c.loop-run.run.queue.items ≡ [] = c.loop-run.invariant.same same ∙ ap numbers c.in-None.ensures.none in
    (ap (λ (q : Passive_list). q.items) c.in-None.ensures.same ∙ no_numbers c.loop-run.run.queue.items none, same)

pub returns-in-None-clause-partners : goal.returns-in-None-clause-partners
returns-in-None-clause-partners g c = partners_requeued g.I.PartnerIndex.pairs g.I.PartnerIndex.fits c.loop-run.run c.pick.new.self c.loop-run.partners c.loop-run.invariant.partners

pub returns-in-None-clause-tended : goal.returns-in-None-clause-tended
returns-in-None-clause-tended g c =
    tended_requeued g.I.PartnerIndex.pairs g.I.PartnerIndex.fits c.loop-run.run c.pick.new.self (ap (λ (q : Passive_list). q.items) c.in-None.ensures.same) c.loop-run.partners c.loop-run.invariant.tended

pub work_entry-requires-clause-worked : goal.work_entry-requires-clause-worked
work_entry-requires-clause-worked g c = c.loop-run.invariant.tended.worked
