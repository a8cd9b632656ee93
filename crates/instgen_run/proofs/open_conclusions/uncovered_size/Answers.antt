use Rattle.std.proofs.Common.{◌≡◌, ◌^◌, ◌-◌, min, rules, arith, sym, ap, ◌∙◌, subst, length, List}
use Rattle.inst_logic.specs.Clauses.{TreeClause, instance, canonical_form}
use Rattle.inst_logic.specs.Derivations.{at_number}
use Rattle.inst_logic.specs.Measure.{clause_size}
use Rattle.inst_calculus.proofs.Items.{same_item}
use Rattle.term_bank.specs.Forest.{clause_at}
use Rattle.unify_core.specs.declared.side.Side.TheVariants.{Left}
use Rattle.instgen_run.specs.Clauses.{Item}
use Rattle.instgen_run.specs.Loops.{items, IsUnified}
use Rattle.instgen_run.proofs.Inferred.{unified_stays, premise_bounded, length_at}
use Rattle.instgen_run.proofs.Runs.{may_read, size_concluded, made_concluded}
use Rattle.instgen_run.proofs.Decisions.{cover_of_made, has_literal, items_read, places_read, reads_more}
use Rattle.instgen_run.proofs.open_conclusions.uncovered_size.Goals as goal

pub conclusion_of-requires-clause-unified : goal.conclusion_of-requires-clause-unified
conclusion_of-requires-clause-unified g c =
    let run = c.args.run.now in
    let r1 = c.conclusion_size.new.run in
    subst (IsUnified r1.entries.bank) (sym c.in_ok-size.ensures.bindings) (unified_stays run.entries.bank r1.entries.bank run.bindings.entries c.in_ok-size.ensures.goes.bank c.requires.unified)

pub is_covered-requires-clause-canonical : goal.is_covered-requires-clause-canonical
is_covered-requires-clause-canonical g c = c.in_ok-conclusion.ensures.canonical

pub is_covered-requires-clause-literal : goal.is_covered-requires-clause-literal
is_covered-requires-clause-literal g c =
    let run = c.args.run.now in
    let r1 = c.conclusion_size.new.run in
    let r2 = c.conclusion_of.new.run in
    let (item, at, same) = c.clause_of.ensures in
    let q : length r2.selection.places ≡ length run.selection.places = ap length (places_read run r2 (reads_more run r1 r2 c.in_ok-size.ensures.reads c.in_ok-conclusion.ensures.reads)) in
    let h = has_literal (items r2) r2.selection.places c.in_ok-conclusion.ensures.safe.placed c.args.from item (omega (arith, c.requires.from.1)) at in
    omega (arith, h, ap length same, c.len-len.ensures)

pub is_covered-requires-clause-bounded : goal.is_covered-requires-clause-bounded
is_covered-requires-clause-bounded g c =
    let (item, at, same) = c.clause_of.ensures in
    let within = premise_bounded c.in_ok-conclusion.ensures.safe.firsts c.args.from item at in
    omega (arith, within, ap length same, c.len-len.ensures)

pub returns-then-branch-clause-size : goal.returns-then-branch-clause-size
returns-then-branch-clause-size g c = λ partner m.
    let run = c.args.run.now in
    let r1 = c.conclusion_size.new.run in
    let r2 = c.conclusion_of.new.run in
    let from = c.args.from in
    let d = c.in_ok-conclusion.conclusion in
    let (entry, here, same) = c.clause_of.ensures in
    let l = m.0.literals.left_at in
    let x = instance m.0.unifier.left (clause_at run.entries.bank l.item.0) in
    let (m1, q) = may_read run r1 Left from partner c.in_ok-size.ensures.reads c.in_ok-size.ensures.bindings c.requires.unified.bindings c.requires.safe.entries m in
    let made : clause_at r2.entries.bank d ≡ canonical_form x = made_concluded r1 r2 Left from partner d m1 c.in_ok-conclusion.ensures.made ∙ ap canonical_form q in
    let there : at_number (items r2) from ≡ at_number (items run) from = ap (λ (es : List Item). at_number es from) (items_read run r2 (reads_more run r1 r2 c.in_ok-size.ensures.reads c.in_ok-conclusion.ensures.reads)) in
    let one : l.item ≡ entry = same_item (at_number (items r2) from) l.item entry (there ∙ l.item_at) here in
    let long : length (clause_at run.entries.bank l.item.0) ≡ c.len-len.result = length_at run.entries.bank l.item.0 ∙ ap (λ (y : Item). length y.0) one ∙ ap length same ∙ sym c.len-len.ensures in
    (cover_of_made r2.entries.bank (items r2) (clause_at run.entries.bank l.item.0) (clause_at r2.entries.bank d) x made).0
    ((c.in_ok-is_covered.ensures.covered (clause_at run.entries.bank l.item.0) long).0 (search rules))

pub returns-clause-size : goal.returns-clause-size
returns-clause-size g c = λ partner m.
    let run = c.args.run.now in
    let r1 = c.conclusion_size.new.run in
    let r2 = c.conclusion_of.new.run in
    let from = c.args.from in
    let d = c.in_ok-conclusion.conclusion in
    let (item, at, sized) = c.in_ok-size.ensures.size in
    let (entry, here, same) = c.clause_of.ensures in
    let l = m.0.literals.left_at in
    let x = instance m.0.unifier.left (clause_at run.entries.bank l.item.0) in
    let (m1, q) = may_read run r1 Left from partner c.in_ok-size.ensures.reads c.in_ok-size.ensures.bindings c.requires.unified.bindings c.requires.safe.entries m in
    let made : clause_at r2.entries.bank d ≡ canonical_form x = made_concluded r1 r2 Left from partner d m1 c.in_ok-conclusion.ensures.made ∙ ap canonical_form q in
    let there : at_number (items r2) from ≡ at_number (items run) from = ap (λ (es : List Item). at_number es from) (items_read run r2 (reads_more run r1 r2 c.in_ok-size.ensures.reads c.in_ok-conclusion.ensures.reads)) in
    let one : l.item ≡ entry = same_item (at_number (items r2) from) l.item entry (there ∙ l.item_at) here in
    let long : length (clause_at run.entries.bank l.item.0) ≡ c.len-len.result = length_at run.entries.bank l.item.0 ∙ ap (λ (y : Item). length y.0) one ∙ ap length same ∙ sym c.len-len.ensures in
    let cut = size_concluded r1 Left from partner c.in_ok-size.size m1 item at sized in (
      λ k. let yes_ = (c.in_ok-is_covered.ensures.covered (clause_at run.entries.bank l.item.0) long).1
          ((cover_of_made r2.entries.bank (items r2) (clause_at run.entries.bank l.item.0) (clause_at r2.entries.bank d) x made).1 k) in search rules,
      cut ∙ ap (λ (y : TreeClause). min (clause_size (canonical_form y)) (2 ^ 64 - 1)) q,
    )
