use Rattle.std.proofs.Common.{◌≡◌, ◌-◌, ◌≤◌, ◌^◌, ℕ, List, ap, ap₂, ◌∙◌, sym, subst, min, length, Contains, Option}
use Rattle.std.specs.Prelude.{option_map}
use Rattle.std.proofs.lemmas.Result.{on_ok_weaker}
use Rattle.inst_logic.specs.Clauses.{TreeClause}
use Rattle.inst_logic.specs.Measure.{clause_size}
use Rattle.cert_values.specs.declared.member.Origin.{Origin}
use Rattle.term_bank.specs.Forest.{clause_at}
use Rattle.term_bank.proofs.Clauses.{clause_extends}
use Rattle.instgen_run.specs.declared.state.Run.{Run}
use Rattle.instgen_run.specs.Clauses.{Item}
use Rattle.instgen_run.specs.Loops.{Appends, items}
use Rattle.instgen_run.proofs.Parted.{appends_after_read, part_bounded, part_new, same_part}
use Rattle.instgen_run.proofs.Runs.{linked_read}
use Rattle.instgen_run.proofs.infer.append_part.Goals as goal

pub part_of-requires-clause-keep : goal.part_of-requires-clause-keep
part_of-requires-clause-keep g c = same_part c.args.run.now.entries.bank c.args.conclusion.now.clause c.args.lemma.keep c.requires.reduction.keep

pub append-requires-clause-new : goal.append-requires-clause-new
append-requires-clause-new g c = λ e i q.
    let run = c.args.run.now in
    let mid = c.part_of.new.run in
    let p = c.in_ok-part.ensures in
    let same : items mid ≡ items run = ap (λ (r : Run _ _ _). items r) p.reads.rest in
    part_new run.entries.bank mid.entries.bank p.reads.bank (items run) c.requires.safe.entries c.args.conclusion.now.clause c.in_ok-part.part c.args.lemma.keep c.args.conclusion.now.len c.requires.reduction.keep p.part c.requires.shorter
    c.requires.uncovered e (subst (λ (es : List Item). Contains es e) same i) q

pub append-requires-clause-bounded : goal.append-requires-clause-bounded
append-requires-clause-bounded g c =
    let run = c.args.run.now in
    let mid = c.part_of.new.run in
    let p = c.in_ok-part.ensures in
    subst (λ n. length c.in_ok-part.part ≤ n) (sym (ap (λ (r : Run _ _ _). r.entries.longest) p.reads.rest))
    (part_bounded run.entries.bank mid.entries.bank p.reads.bank (items run) c.requires.safe.entries c.args.conclusion.now.clause c.in_ok-part.part c.args.lemma.keep c.args.conclusion.now.len c.requires.reduction.keep p.part c.requires.shorter
    run.entries.longest c.requires.bounded)

pub returns-clause-appends : goal.returns-clause-appends
returns-clause-appends g c =
    let run = c.args.run.now in
    let mid = c.part_of.new.run in
    let new = c.append.new.run in
    let d = c.in_ok-part.part in
    let p = c.in_ok-part.ensures in
    on_ok_weaker c.append.result (λ a.
    let kept : clause_at new.entries.bank d ≡ clause_at mid.entries.bank d = clause_extends mid.entries.bank new.entries.bank a.bank d p.whole.ids in
    record {
      lemma = c.args.lemma;
      part = d;
      reduction = c.requires.reduction;
      canonical = kept ∙ p.part;
      appends = appends_after_read run mid new c.left_after-run.result (option_map (λ k. k - min (clause_size (clause_at new.entries.bank d)) (2 ^ 64 - 1)) run.left) d _ p.reads p.bindings
          (c.left_after-run.ensures ∙ ap₂ (λ (t : TreeClause) (o : Option ℕ). option_map (λ k. k - min (clause_size t) (2 ^ 64 - 1)) o) (sym kept) (ap (λ (r : Run _ _ _). r.left) p.reads.rest))
          (subst (λ (o : Origin). Appends (record mid { left = c.left_after-run.result }) new d o) c.in_ok-origin.ensures a);
    }) c.append.ensures.appends

pub returns-clause-linked : goal.returns-clause-linked
returns-clause-linked g c =
    on_ok_weaker c.append.result (λ k bot h. k bot (linked_read g.S.Solver.atoms g.S.Solver.added c.args.run.now c.part_of.new.run c.in_ok-part.ensures.reads c.requires.safe.entries bot h)) c.append.ensures.linked
