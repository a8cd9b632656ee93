use Rattle.std.proofs.Common.{◌≡◌, ◌-◌, subst, sym, Option, inl, inr, arith, min, ◌^◌, length, Contains}
use Rattle.std.specs.Prelude.{IfNone, option_map}
use Rattle.std.proofs.lemmas.Result.{on_ok_weaker}
use Rattle.inst_logic.specs.Clauses.{TreeClause}
use Rattle.inst_logic.specs.Measure.{clause_size}
use Rattle.inst_calculus.specs.Lemmas.{IsIrreducible}
use Rattle.inst_calculus.specs.Saturation.{IsCovered}
use Rattle.global_subs.specs.declared.lemma.Lemma.{Lemma}
use Rattle.cert_values.specs.declared.member.Origin.TheVariants as origins
use Rattle.term_bank.specs.Forest.{clause_at}
use Rattle.instgen_run.specs.declared.state.Run.{Run}
use Rattle.instgen_run.specs.Clauses.{Item, clauses_in}
use Rattle.instgen_run.specs.Loops.{items, IsConsistent, KeepsLink}
use Rattle.instgen_run.specs.Running.{AppendsWhole, AppendsPart}
use Rattle.instgen_run.proofs.Inferred.{appends_go, covered_by_last}
use Rattle.instgen_run.proofs.Parted.{appended_covers}
use Rattle.instgen_run.proofs.infer.append_uncovered.Goals as goal

pub append_whole-requires-clause-safe : goal.append_whole-requires-clause-safe
append_whole-requires-clause-safe g c = subst (λ (r : Run _ _ _). IsConsistent g.S.Solver.atoms g.I.PartnerIndex.pairs g.I.PartnerIndex.fits r) (sym c.in_ok-lemma_of.ensures.same) c.requires.safe

pub append_whole-requires-clause-new : goal.append_whole-requires-clause-new
append_whole-requires-clause-new g c =
    subst (λ (r : Run _ _ _). (e : Item) → Contains (items r) e → ¬ (e.0 ≡ c.args.conclusion.clause)) (sym c.in_ok-lemma_of.ensures.same) c.requires.new

pub append_whole-requires-clause-irreducible : goal.append_whole-requires-clause-irreducible
append_whole-requires-clause-irreducible g c =
    let run = c.args.run.now in
    subst (λ (r : Run _ _ _). IsIrreducible (clauses_in r.entries.bank (items r)) (clause_at r.entries.bank c.args.conclusion.clause)) (sym c.in_ok-lemma_of.ensures.same)
    (subst (λ (o : Option Lemma). IfNone o (IsIrreducible (clauses_in run.entries.bank (items run)) (clause_at run.entries.bank c.args.conclusion.clause))) c.in-None.is c.in_ok-lemma_of.ensures.none)

pub append_part-requires-clause-safe : goal.append_part-requires-clause-safe
append_part-requires-clause-safe g c = subst (λ (r : Run _ _ _). IsConsistent g.S.Solver.atoms g.I.PartnerIndex.pairs g.I.PartnerIndex.fits r) (sym c.in_ok-lemma_of.ensures.same) c.requires.safe

pub append_part-requires-clause-uncovered : goal.append_part-requires-clause-uncovered
append_part-requires-clause-uncovered g c =
    subst (λ (r : Run _ _ _). (x : TreeClause) → length x ≡ c.args.conclusion.len → ¬ IsCovered (clauses_in r.entries.bank (items r)) x (clause_at r.entries.bank c.args.conclusion.clause)) (sym c.in_ok-lemma_of.ensures.same)
    c.requires.uncovered

pub returns-in-None-clause-goes : goal.returns-in-None-clause-goes
returns-in-None-clause-goes g c =
    let run = c.args.run.now in
    let new = c.append_whole.new.run in
    on_ok_weaker c.append_whole.result (λ a.
    let w = subst (λ (r : Run _ _ _). AppendsWhole r new c.args.conclusion.clause c.args.conclusion.at c.args.conclusion.size) c.in_ok-lemma_of.ensures.same a in
    appends_go run new (option_map (λ k. k - c.args.conclusion.size) run.left) c.args.conclusion.clause (origins.Inst c.args.conclusion.at.from c.args.conclusion.at.place c.args.conclusion.at.partner c.args.conclusion.at.other) w.appends) c.append_whole.ensures.appends

pub returns-in-None-clause-step : goal.returns-in-None-clause-step
returns-in-None-clause-step g c =
    let new = c.append_whole.new.run in
    on_ok_weaker c.append_whole.result (λ a. inr (
      inl (subst (λ (r : Run _ _ _). AppendsWhole r new c.args.conclusion.clause c.args.conclusion.at c.args.conclusion.size) c.in_ok-lemma_of.ensures.same a),
      c.requires.uncovered,
    )) c.append_whole.ensures.appends

pub returns-in-None-clause-linked : goal.returns-in-None-clause-linked
returns-in-None-clause-linked g c =
    let new = c.append_whole.new.run in
    on_ok_weaker c.append_whole.result (λ a. subst (λ (r : Run _ _ _). KeepsLink g.S.Solver.atoms g.S.Solver.added r new) c.in_ok-lemma_of.ensures.same a) c.append_whole.ensures.linked

pub returns-in-None-clause-covered : goal.returns-in-None-clause-covered
returns-in-None-clause-covered g c =
    let run = c.args.run.now in
    let new = c.append_whole.new.run in
    on_ok_weaker c.append_whole.result (λ a x q.
    let w = subst (λ (r : Run _ _ _). AppendsWhole r new c.args.conclusion.clause c.args.conclusion.at c.args.conclusion.size) c.in_ok-lemma_of.ensures.same a in
    covered_by_last run.entries.bank new.entries.bank (items run) (items new) c.args.conclusion.clause (origins.Inst c.args.conclusion.at.from c.args.conclusion.at.place c.args.conclusion.at.partner c.args.conclusion.at.other) x w.appends.bank c.requires.whole.ids w.appends.entry) c.append_whole.ensures.appends

pub returns-in-Some-clause-goes : goal.returns-in-Some-clause-goes
returns-in-Some-clause-goes g c =
    let run = c.args.run.now in
    let new = c.append_part.new.run in
    on_ok_weaker c.append_part.result (λ a.
    let w = subst (λ (r : Run _ _ _). AppendsPart r new c.args.conclusion.clause c.args.conclusion.at) c.in_ok-lemma_of.ensures.same a in
    appends_go run new (option_map (λ k. k - min (clause_size (clause_at new.entries.bank w.part)) (2 ^ 64 - 1)) run.left) w.part
    (origins.Lemma c.args.conclusion.at.from c.args.conclusion.at.place c.args.conclusion.at.partner c.args.conclusion.at.other w.lemma.keep w.lemma.premises) w.appends) c.append_part.ensures.appends

pub returns-in-Some-clause-step : goal.returns-in-Some-clause-step
returns-in-Some-clause-step g c =
    let new = c.append_part.new.run in
    on_ok_weaker c.append_part.result (λ a. inr (
      inr (subst (λ (r : Run _ _ _). AppendsPart r new c.args.conclusion.clause c.args.conclusion.at) c.in_ok-lemma_of.ensures.same a),
      c.requires.uncovered,
    )) c.append_part.ensures.appends

pub returns-in-Some-clause-covered : goal.returns-in-Some-clause-covered
returns-in-Some-clause-covered g c =
    let run = c.args.run.now in
    let new = c.append_part.new.run in
    on_ok_weaker c.append_part.result (λ a x q.
    let w = subst (λ (r : Run _ _ _). AppendsPart r new c.args.conclusion.clause c.args.conclusion.at) c.in_ok-lemma_of.ensures.same a in
    appended_covers run.entries.bank new.entries.bank (items run) (items new) c.args.conclusion.clause w.part
    (origins.Lemma c.args.conclusion.at.from c.args.conclusion.at.place c.args.conclusion.at.partner c.args.conclusion.at.other w.lemma.keep w.lemma.premises) w.lemma.keep x w.reduction.keep w.canonical (omega (arith, c.requires.shorter, q)) w.appends.entry) c.append_part.ensures.appends
