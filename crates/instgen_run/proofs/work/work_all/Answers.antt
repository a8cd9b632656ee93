use Rattle.std.proofs.Common.{◌≡◌, ◌∙◌, ◌≤◌, ℕ, length, ap, sym, subst, arith, List}
use Rattle.term_index.specs.Pairs.{Posting}
use Rattle.instgen_run.proofs.Selected.{same_places}
use Rattle.instgen_run.specs.Loops.{items}
use Rattle.instgen_run.proofs.Works.{all_worked, done_on, goes_on}
use Rattle.instgen_run.proofs.Opposites.{opposite_stays}
use Rattle.instgen_run.proofs.Alike.{indexed_stays, if_some_weaker}
use Rattle.instgen_run.proofs.work.work_all.Goals as goal

pub returns-in-None-clause-worked : goal.returns-in-None-clause-worked
returns-in-None-clause-worked g c =
    let index = g.I.PartnerIndex in
    let partners = c.args.partners.now in
    all_worked c.args.run.now c.loop-cursor.run c.args.pick.entry c.selected_atom-atom.result (index.pairs partners) (index.to_come partners c.in_ok-cursor.cursor) (index.to_come partners c.loop-cursor.cursor)
    c.loop-cursor.invariant.goes c.requires.safe.entries c.selected_atom-atom.ensures c.requires.stored c.in_ok-cursor.ensures.asked.all c.loop-cursor.invariant.worked (rw c.in-None.is at c.in_ok-next.ensures.gives).0

pub work_next-requires-clause-partner : goal.work_next-requires-clause-partner
work_next-requires-clause-partner g c =
    let index = g.I.PartnerIndex in
    let given = (rw c.in-Some.is at c.in_ok-next.ensures.gives).0 in
    let p : Posting = (given.0, c.in-Some.j) in
    let k = c.requires.stored p (c.in_ok-cursor.ensures.asked.stored p (c.loop-cursor.invariant.among p given.1)) in
    (k.0, subst (λ (xs : List ℕ). c.in-Some.j ≤ length xs) (sym (same_places c.loop-cursor.invariant.goes.selection)) k.1)

pub loop-cursor-preserved : goal.loop-cursor-preserved
loop-cursor-preserved g c =
    let index = g.I.PartnerIndex in
    let partners = c.args.partners.now in
    let given = (rw c.in-Some.is at c.in_ok-next.ensures.gives).0 in
    let inv = c.loop-cursor.invariant in
    let w = c.in_ok-work_next-in-Some.ensures in
    let within : (p : Posting) → index.to_come partners c.in_ok-cursor.cursor p → p.1 ≤ length (items c.loop-cursor.run) =
    λ p k.
    let h = (c.requires.stored p (c.in_ok-cursor.ensures.asked.stored p k)).1 in
    let q : length c.loop-cursor.run.selection.places ≡ length c.args.run.now.selection.places = ap length (same_places inv.goes.selection) in
    omega (arith, inv.safe.within) in
    record {
      safe = w.safe;
      goes = goes_on c.args.run.now c.loop-cursor.run c.work_next.new.run inv.goes w.goes;
      walks = c.in_ok-next.ensures.walks;
      among = λ p k. inv.among p ((given.2 p).0 k).0;
      running = λ o bot cs budget v h.
          let p : Posting = (given.0, c.in-Some.j) in
          w.running (opposite_stays c.args.run.now c.loop-cursor.run inv.goes c.args.pick.entry p.1 (o p (c.in_ok-cursor.ensures.asked.stored p (inv.among p given.1)))) bot cs budget v (inv.running o bot cs budget v h);
      last = let given = (rw c.in-Some.is at c.in_ok-next.ensures.gives).0 in
          let p : Posting = (given.0, c.in-Some.j) in
          let k = c.requires.stored p (c.in_ok-cursor.ensures.asked.stored p (inv.among p given.1)) in
          (k.0, subst (λ (xs : List ℕ). c.in-Some.j ≤ length xs) (sym (same_places w.goes.selection ∙ same_places inv.goes.selection)) k.1, w.worked);
      worked = done_on c.loop-cursor.run c.work_next.new.run c.args.pick.entry c.in-Some.j (index.to_come partners c.in_ok-cursor.cursor) (index.to_come partners c.loop-cursor.cursor) (index.to_come partners c.next.new.cursor)
          w.goes inv.safe.entries (let q : length c.loop-cursor.run.selection.places ≡ length c.args.run.now.selection.places = ap length (same_places inv.goes.selection) in omega (arith, inv.safe.within, c.requires.picked.1)) within inv.worked given w.worked;
    }

pub work_next-requires-clause-picked : goal.work_next-requires-clause-picked
work_next-requires-clause-picked g c =
    let k = c.requires.picked in
    (k.0, subst (λ (xs : List ℕ). c.args.pick.entry ≤ length xs) (sym (same_places c.loop-cursor.invariant.goes.selection)) k.1)

pub work_next-requires-clause-last : goal.work_next-requires-clause-last
work_next-requires-clause-last g c = c.loop-cursor.invariant.last

pub work_next-requires-clause-indexed : goal.work_next-requires-clause-indexed
work_next-requires-clause-indexed g c =
    let given = (rw c.in-Some.is at c.in_ok-next.ensures.gives).0 in
    let p : Posting = (given.0, c.in-Some.j) in
    let inv = c.loop-cursor.invariant in
    let there = c.in_ok-cursor.ensures.asked.stored p (inv.among p given.1) in
    indexed_stays c.args.run.now c.loop-cursor.run inv.goes c.requires.safe.entries c.requires.safe.within c.args.pick.indexed c.in-Some.j (c.requires.stored p there).1 (if_some_weaker c.args.pick.indexed (λ k h. (h.0, h.1, h.2 p there)) c.requires.indexed)
