use Rattle.std.proofs.Common.{◌≡◌, ◌≤◌, ℕ, List, length, rules, refl, arith, sym, ap, ◌∙◌, subst, Some, Option, min, ◌^◌, ◌-◌}
use Rattle.std.specs.Prelude.{IfSome}
use Rattle.inst_logic.proofs.ShownLaws.{at_number_append}
use Rattle.unify_core.proofs.Stays.{substitutions_stay}
use Rattle.inst_logic.specs.Derivations.{at_number}
use Rattle.inst_logic.specs.Clauses.{canonical_form}
use Rattle.term_bank.specs.Forest.{clause_at}
use Rattle.unify_core.specs.Sides.{Binding, IsResolvedBy, of_side}
use Rattle.inst_calculus.proofs.Items.{same_item}
use Rattle.instgen_run.specs.Clauses.{Item}
use Rattle.instgen_run.specs.Loops.{items, IsUnified}
use Rattle.instgen_run.specs.Running.{AppendsUncovered}
use Rattle.instgen_run.specs.declared.premises.Premises.{Premises}
use Rattle.instgen_run.proofs.Selected.{literal_of, place_positive}
use Rattle.instgen_run.proofs.Works.{goes_on}
use Rattle.inst_calculus.specs.Saturation.{IsCovered}
use Rattle.term_bank.proofs.Cuts.{formed_cut}
use Rattle.instgen_run.specs.declared.state.Run.{Run}
use Rattle.instgen_run.proofs.Inferred.{unified_stays, made_shorter, premise_bounded, item_later, side_by_cover, clause_of_placed, clauses_read, goes_read, length_at, read_and_cut, safe_read}
use Rattle.inst_logic.specs.Measure.{clause_size}
use Rattle.inst_logic.specs.Clauses.{TreeClause}
use Rattle.instgen_run.proofs.Runs.{may_read, running_read, running_held, running_inferred, size_concluded, made_concluded}
use Rattle.instgen_run.proofs.infer.infer.Goals as goal

pub returns-then-not-fits-clause-worked : goal.returns-then-not-fits-clause-worked
returns-then-not-fits-clause-worked g c = λ s resolved. c.in_ok-hold.ensures.worked s c.args.side

pub returns-then-not-fits-clause-goes : goal.returns-then-not-fits-clause-goes
returns-then-not-fits-clause-goes g c = goes_on c.args.run.now c.budgeted_size.new.run c.hold.new.run c.in_ok-size.ensures.goes c.in_ok-hold.ensures.goes

pub conclusion_of-requires-clause-unified : goal.conclusion_of-requires-clause-unified
conclusion_of-requires-clause-unified g c =
    let run = c.args.run.now in
    let r1 = c.budgeted_size.new.run in
    subst (IsUnified r1.entries.bank) (sym c.in_ok-size.ensures.bindings) (unified_stays run.entries.bank r1.entries.bank run.bindings.entries c.in_ok-size.ensures.goes.bank c.requires.unified)

pub append_uncovered-requires-clause-canonical : goal.append_uncovered-requires-clause-canonical
append_uncovered-requires-clause-canonical g c = c.in_ok-conclusion.ensures.canonical

pub append_uncovered-requires-clause-new : goal.append_uncovered-requires-clause-new
append_uncovered-requires-clause-new g c = c.in_ok-is_covered.ensures.new (search rules)

pub append_uncovered-requires-clause-uncovered : goal.append_uncovered-requires-clause-uncovered
append_uncovered-requires-clause-uncovered g c = λ x q covered. let yes_ = (c.in_ok-is_covered.ensures.covered x q).1 covered in search rules

pub is_covered-requires-clause-canonical : goal.is_covered-requires-clause-canonical
is_covered-requires-clause-canonical g c = c.in_ok-conclusion.ensures.canonical

pub is_covered-requires-clause-literal : goal.is_covered-requires-clause-literal
is_covered-requires-clause-literal g c =
    let r2 = c.conclusion_of.new.run in
    let (item, at, same) = c.clause_of.ensures in
    let (l, here) = literal_of (items r2) r2.selection.places c.in_ok-conclusion.ensures.safe.placed c.args.from c.place_of-place.result item c.place_of-place.ensures at in
    let p = place_positive item.0 c.place_of-place.result l here in
    omega (arith, p.0, p.1, ap length same, c.len-len.ensures)

pub append_uncovered-requires-clause-shorter : goal.append_uncovered-requires-clause-shorter
append_uncovered-requires-clause-shorter g c =
    let run = c.args.run.now in
    let r1 = c.budgeted_size.new.run in
    let r2 = c.conclusion_of.new.run in
    let m = c.in_ok-conclusion.ensures.made in
    let later : IsUnified r1.entries.bank r1.bindings.entries =
    subst (IsUnified r1.entries.bank) (sym c.in_ok-size.ensures.bindings) (unified_stays run.entries.bank r1.entries.bank run.bindings.entries c.in_ok-size.ensures.goes.bank c.requires.unified) in
    let shorter = made_shorter r1.entries.bank r2.entries.bank r1.bindings.entries c.args.side m.item.0 c.in_ok-conclusion.conclusion later m.made in
    let (item, at, same) = c.clause_of.ensures in
    let one : m.item ≡ item = same_item (at_number (items r2) c.args.from) m.item item (item_later r1 r2 c.args.from m.item c.in_ok-conclusion.ensures.goes m.item_at) at in
    let long : length m.item.0 ≡ c.len-len.result = ap (λ (x : Item). length x.0) one ∙ ap length same ∙ sym c.len-len.ensures in
    omega (arith, shorter, long)

pub append_uncovered-requires-clause-premise : goal.append_uncovered-requires-clause-premise
append_uncovered-requires-clause-premise g c =
    let (item, at, same) = c.clause_of.ensures in
    let within = premise_bounded c.in_ok-conclusion.ensures.safe.firsts c.args.from item at in
    omega (arith, within, ap length same, c.len-len.ensures)

pub is_covered-requires-clause-bounded : goal.is_covered-requires-clause-bounded
is_covered-requires-clause-bounded g c =
    let (item, at, same) = c.clause_of.ensures in
    let within = premise_bounded c.in_ok-conclusion.ensures.safe.firsts c.args.from item at in
    omega (arith, within, ap length same, c.len-len.ensures)

pub append_uncovered-requires-clause-fits : goal.append_uncovered-requires-clause-fits
append_uncovered-requires-clause-fits g c = subst (λ o. IfSome o (λ k. c.in_ok-size.size ≤ k)) (sym c.in_ok-conclusion.ensures.left) (c.fits.ensures.yes (search rules))

pub returns-then-branch-clause-safe : goal.returns-then-branch-clause-safe
returns-then-branch-clause-safe g c =
    let r1 = c.budgeted_size.new.run in
    let r2 = c.conclusion_of.new.run in
    let new = c.forget.new.run in
    let reads = read_and_cut r1 r2 new c.len-terms.result c.in_ok-conclusion.ensures.reads c.len-terms.ensures.len c.forget.ensures.trees c.forget.ensures.symbols c.forget.ensures.rest in
    safe_read g.S.Solver.atoms g.I.PartnerIndex.pairs g.I.PartnerIndex.fits r1 new c.in_ok-size.ensures.safe reads
    (formed_cut r2.entries.bank new.entries.bank c.len-terms.result c.in_ok-conclusion.ensures.safe.entries.formed c.forget.ensures.trees)
    (g.met.I.PartnerIndex.grown_fits r1.entries.bank new.entries.bank r1.entries.first reads.bank c.in_ok-size.ensures.safe.stored)

pub returns-then-branch-clause-goes : goal.returns-then-branch-clause-goes
returns-then-branch-clause-goes g c =
    let r1 = c.budgeted_size.new.run in
    let new = c.forget.new.run in
    let reads = read_and_cut r1 c.conclusion_of.new.run new c.len-terms.result c.in_ok-conclusion.ensures.reads c.len-terms.ensures.len c.forget.ensures.trees c.forget.ensures.symbols c.forget.ensures.rest in
    goes_on c.args.run.now r1 new c.in_ok-size.ensures.goes (goes_read r1 new reads)

pub returns-then-branch-clause-bindings : goal.returns-then-branch-clause-bindings
returns-then-branch-clause-bindings g c = ap (λ (r : Run _ _ _). r.bindings.entries) c.forget.ensures.rest ∙ c.in_ok-conclusion.ensures.bindings ∙ c.in_ok-size.ensures.bindings

pub returns-then-branch-clause-running : goal.returns-then-branch-clause-running
returns-then-branch-clause-running g c = λ may bot cs budget v h.
    let S = g.S.Solver in
    let r1 = c.budgeted_size.new.run in
    let new = c.forget.new.run in
    let reads = read_and_cut r1 c.conclusion_of.new.run new c.len-terms.result c.in_ok-conclusion.ensures.reads c.len-terms.ensures.len c.forget.ensures.trees c.forget.ensures.symbols c.forget.ensures.rest in
    running_read S.atoms S.added r1 new reads c.in_ok-size.ensures.safe.entries bot cs budget v
    (running_read S.atoms S.added c.args.run.now r1 c.in_ok-size.ensures.reads c.requires.safe.entries bot cs budget v h)

pub returns-then-branch-clause-worked : goal.returns-then-branch-clause-worked
returns-then-branch-clause-worked g c = λ s resolved.
    let run = c.args.run.now in
    let r1 = c.budgeted_size.new.run in
    let r2 = c.conclusion_of.new.run in
    let new = c.forget.new.run in
    let reads = read_and_cut r1 r2 new c.len-terms.result c.in_ok-conclusion.ensures.reads c.len-terms.ensures.len c.forget.ensures.trees c.forget.ensures.symbols c.forget.ensures.rest in
    let m = c.in_ok-conclusion.ensures.made in
    let (item, at, same) = c.clause_of.ensures in
    let (more, q) = c.in_ok-conclusion.ensures.goes.entries in
    let here : at_number (items r2) c.args.from ≡ Some m.item = ap (λ xs. at_number xs c.args.from) q ∙ at_number_append (items r1) more c.args.from m.item m.item_at in
    let one : m.item ≡ item = same_item (at_number (items r2) c.args.from) m.item item here at in
    let long : length (clause_at r1.entries.bank m.item.0) ≡ c.len-len.result = length_at r1.entries.bank m.item.0 ∙ ap (λ (x : Item). length x.0) one ∙ ap length same ∙ sym c.len-len.ensures in
    side_by_cover r1 new (of_side s c.args.side) c.args.from c.args.partner c.len-len.result m.item r2.entries.bank c.in_ok-conclusion.conclusion m.item_at
    (clause_of_placed r1 new c.args.from m.item (goes_read r1 new reads) c.in_ok-size.ensures.safe.entries m.item_at) long
    (m.made s (subst (λ (bs : List Binding). IsResolvedBy r1.entries.bank bs s) (sym c.in_ok-size.ensures.bindings)
    (substitutions_stay run.entries.bank r1.entries.bank run.bindings.entries s c.in_ok-size.ensures.goes.bank c.requires.unified.bindings resolved)))
    (λ x e.
    subst (λ cs. IsCovered cs x (clause_at r2.entries.bank c.in_ok-conclusion.conclusion))
    (clauses_read r1 r2 c.in_ok-conclusion.ensures.reads c.in_ok-size.ensures.safe.entries ∙ sym (clauses_read r1 new reads c.in_ok-size.ensures.safe.entries))
    ((c.in_ok-is_covered.ensures.covered x e).0 (search rules)))

pub returns-clause-goes : goal.returns-clause-goes
returns-clause-goes g c =
    goes_on c.args.run.now c.budgeted_size.new.run c.append_uncovered.new.run c.in_ok-size.ensures.goes
    (goes_on c.budgeted_size.new.run c.conclusion_of.new.run c.append_uncovered.new.run c.in_ok-conclusion.ensures.goes c.in_ok-append_uncovered.ensures.goes)

pub returns-clause-worked : goal.returns-clause-worked
returns-clause-worked g c = λ s resolved.
    let run = c.args.run.now in
    let r1 = c.budgeted_size.new.run in
    let r2 = c.conclusion_of.new.run in
    let new = c.append_uncovered.new.run in
    let m = c.in_ok-conclusion.ensures.made in
    let later = c.in_ok-conclusion.ensures.goes in
    let (item, at, same) = c.clause_of.ensures in
    let (more, q) = later.entries in
    let here : at_number (items r2) c.args.from ≡ Some m.item = ap (λ xs. at_number xs c.args.from) q ∙ at_number_append (items r1) more c.args.from m.item m.item_at in
    let one : m.item ≡ item = same_item (at_number (items r2) c.args.from) m.item item here at in
    let long : length (clause_at r1.entries.bank m.item.0) ≡ c.len-len.result = length_at r1.entries.bank m.item.0 ∙ ap (λ (x : Item). length x.0) one ∙ ap length same ∙ sym c.len-len.ensures in
    side_by_cover r1 new (of_side s c.args.side) c.args.from c.args.partner c.len-len.result m.item r2.entries.bank c.in_ok-conclusion.conclusion m.item_at
    (clause_of_placed r1 new c.args.from m.item (goes_on r1 r2 new later c.in_ok-append_uncovered.ensures.goes) c.in_ok-size.ensures.safe.entries m.item_at) long
    (m.made s (subst (λ (bs : List Binding). IsResolvedBy r1.entries.bank bs s) (sym c.in_ok-size.ensures.bindings)
    (substitutions_stay run.entries.bank r1.entries.bank run.bindings.entries s c.in_ok-size.ensures.goes.bank c.requires.unified.bindings resolved)))
    c.in_ok-append_uncovered.ensures.covered

pub returns-then-not-fits-clause-running : goal.returns-then-not-fits-clause-running
returns-then-not-fits-clause-running g c = λ may bot cs budget v h.
    let S = g.S.Solver in
    let run = c.args.run.now in
    let r1 = c.budgeted_size.new.run in
    let (m, same) = may_read run r1 c.args.side c.args.from c.args.partner c.in_ok-size.ensures.reads c.in_ok-size.ensures.bindings c.requires.unified.bindings c.requires.safe.entries may in
    let (k, left, large) = c.fits.ensures.no (search rules) in
    let (item, at, sized) = c.in_ok-size.ensures.size k left in
    let cut = size_concluded r1 c.args.side c.args.from c.args.partner c.in_ok-size.size m item at sized in
    running_held S.atoms S.added r1 c.hold.new.run c.args.side c.args.from c.args.partner c.in_ok-hold.ensures.holds m
    (λ n e. let q : k ≡ n = same_item r1.left k n left e in omega (arith, cut))
    (k, left)
    bot cs budget v (running_read S.atoms S.added run r1 c.in_ok-size.ensures.reads c.requires.safe.entries bot cs budget v h)

pub returns-clause-running : goal.returns-clause-running
returns-clause-running g c = λ may bot cs budget v h.
    let S = g.S.Solver in
    let run = c.args.run.now in
    let r1 = c.budgeted_size.new.run in
    let r2 = c.conclusion_of.new.run in
    let (entry, here, same) = c.clause_of.ensures in
    let (m, q) = may_read run r1 c.args.side c.args.from c.args.partner c.in_ok-size.ensures.reads c.in_ok-size.ensures.bindings c.requires.unified.bindings c.requires.safe.entries may in
    let later : IsUnified r1.entries.bank r1.bindings.entries =
    subst (IsUnified r1.entries.bank) (sym c.in_ok-size.ensures.bindings) (unified_stays run.entries.bank r1.entries.bank run.bindings.entries c.in_ok-size.ensures.goes.bank c.requires.unified) in
    let (n, p) = may_read r1 r2 c.args.side c.args.from c.args.partner c.in_ok-conclusion.ensures.reads c.in_ok-conclusion.ensures.bindings later.bindings c.in_ok-size.ensures.safe.entries m in
    running_inferred S.atoms S.added r2 c.append_uncovered.new.run c.args.side c.args.from c.args.partner c.in_ok-size.size c.len-len.result
    (record { from = c.args.from; place = c.place_of-place.result; partner = c.args.partner; other = c.place_of-other.result }) c.in_ok-conclusion.conclusion entry n
    c.in_ok-conclusion.ensures.safe.entries c.in_ok-conclusion.ensures.whole.ids c.in_ok-append_uncovered.ensures.linked
    (made_concluded r1 r2 c.args.side c.args.from c.args.partner c.in_ok-conclusion.conclusion m c.in_ok-conclusion.ensures.made ∙ ap canonical_form (sym p)) refl refl here
    (ap length same ∙ sym c.len-len.ensures) c.place_of-place.ensures c.place_of-other.ensures
    (λ k e.
    let (item, at, sized) = c.in_ok-size.ensures.size k (sym c.in_ok-conclusion.ensures.left ∙ e) in
    size_concluded r1 c.args.side c.args.from c.args.partner c.in_ok-size.size m item at sized ∙ ap (λ (x : TreeClause). min (clause_size (canonical_form x)) (2 ^ 64 - 1)) (sym p))
    (λ k e. fits_some r1.left c.in_ok-size.size k (c.fits.ensures.yes (search rules)) (sym c.in_ok-conclusion.ensures.left ∙ e))
    (subst (λ (at : Premises). AppendsUncovered r2 c.append_uncovered.new.run c.in_ok-conclusion.conclusion at c.len-len.result c.in_ok-size.size) c.in_ok-at.ensures c.in_ok-append_uncovered.ensures.step)
    bot cs budget v
    (running_read S.atoms S.added r1 r2 c.in_ok-conclusion.ensures.reads c.in_ok-size.ensures.safe.entries bot cs budget v
    (running_read S.atoms S.added run r1 c.in_ok-size.ensures.reads c.requires.safe.entries bot cs budget v h))
  where
    fits_some : (o : Option ℕ) (size k : ℕ) → IfSome o (λ n. size ≤ n) → o ≡ Some k → size ≤ k
    fits_some o size k h e = subst (λ x. IfSome x (λ n. size ≤ n)) e h
