use Rattle.std.proofs.Common.{◌≡◌, ◌<◌, ◌≤◌, ◌++◌, ◌∙◌, length, map, take, get_or, arith, sym, subst}
use Rattle.std.proofs.lemmas.Option.{get_or_from_slice_get}
use Rattle.term_bank.specs.Forest.{clause_at}
use Rattle.term_bank.proofs.Growth.{extends_trans}
use Rattle.instgen_loop.specs.FirstEntries.{IsStarted}
use Rattle.instgen_run.proofs.Grown.{whole_kept, canonical_kept}
use Rattle.instgen_loop.proofs.FirstEntries.{next_clause, taken_count, whole_item, bounded_item, canonical_item}
use Rattle.instgen_loop.proofs.start.start_entries.Goals as goal

pub start_entry-requires-clause-whole : goal.start_entry-requires-clause-whole
start_entry-requires-clause-whole g c =
    let f = c.args.run.now.entries.bank in
    let xs = c.args.clauses.now in
    let i = c.loop-i.i in
    let d = c.in_ok-clause.clause in
    let within : i < length xs = subst (λ n. i < n) c.len-i-end.ensures c.loop-i-test.true in
    let is : d ≡ get_or xs i d = c.in_ok-clause.ensures ∙ sym (get_or_from_slice_get xs i c.literals_after.result.now d c.literals_after.ensures) in
    whole_kept f c.loop-i.run.entries.bank c.loop-i.invariant.continues.bank d (whole_item f xs i d c.requires.whole within is)

pub start_entry-requires-clause-canonical : goal.start_entry-requires-clause-canonical
start_entry-requires-clause-canonical g c =
    let f = c.args.run.now.entries.bank in
    let xs = c.args.clauses.now in
    let i = c.loop-i.i in
    let d = c.in_ok-clause.clause in
    let within : i < length xs = subst (λ n. i < n) c.len-i-end.ensures c.loop-i-test.true in
    let is : d ≡ get_or xs i d = c.in_ok-clause.ensures ∙ sym (get_or_from_slice_get xs i c.literals_after.result.now d c.literals_after.ensures) in
    let whole = whole_item f xs i d c.requires.whole within is in
    canonical_kept f c.loop-i.run.entries.bank c.loop-i.invariant.continues.bank d whole.ids (canonical_item f xs i d c.requires.canonical within is)

pub start_entry-requires-clause-bounded : goal.start_entry-requires-clause-bounded
start_entry-requires-clause-bounded g c =
    let xs = c.args.clauses.now in
    let i = c.loop-i.i in
    let d = c.in_ok-clause.clause in
    let n = c.args.run.now.entries.longest in
    let within : i < length xs = subst (λ n. i < n) c.len-i-end.ensures c.loop-i-test.true in
    let is : d ≡ get_or xs i d = c.in_ok-clause.ensures ∙ sym (get_or_from_slice_get xs i c.literals_after.result.now d c.literals_after.ensures) in
    subst (λ k. length d ≤ k) (sym c.loop-i.invariant.continues.longest) (bounded_item xs i d n c.requires.bounded within is)

pub loop-i-preserved : goal.loop-i-preserved
loop-i-preserved g c =
    let f = c.args.run.now.entries.bank in
    let old = c.loop-i.run in
    let new = c.start_entry.new.run in
    let xs = c.args.clauses.now in
    let i = c.loop-i.i in
    let d = c.in_ok-clause.clause in
    let inv = c.loop-i.invariant in
    let w = c.in_ok-start_entry.ensures in
    let within : i < length xs = subst (λ n. i < n) c.len-i-end.ensures c.loop-i-test.true in
    let is : d ≡ get_or xs i d = c.in_ok-clause.ensures ∙ sym (get_or_from_slice_get xs i c.literals_after.result.now d c.literals_after.ensures) in
    let whole = whole_item f xs i d c.requires.whole within is in
    record {
      safe = w.safe;
      continues = record { bank = extends_trans f old.entries.bank new.entries.bank inv.continues.bank w.continues.bank; bot = w.continues.bot ∙ inv.continues.bot; left = w.continues.left ∙ inv.continues.left; longest = w.continues.longest ∙ inv.continues.longest };
      count = omega (arith, c.in_ok-k.ensures, inv.count);
      started = λ cs n h.
          subst (IsStarted g.S.Solver.atoms g.S.Solver.added new) (next_clause f old.entries.bank inv.continues.bank cs xs i d whole.ids within is)
          (w.started (cs ++ map (clause_at f) (take i xs)) (taken_count f cs xs c.args.before i c.in_ok-k.k n within (omega (arith, c.in_ok-k.ensures, inv.count))) (inv.started cs n h));
    }
