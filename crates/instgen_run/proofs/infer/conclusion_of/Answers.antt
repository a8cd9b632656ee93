use Rattle.std.proofs.Common.{ℕ, List, arith}
use Rattle.std.proofs.lemmas.Result.{IfOk-weaker, on_ok_weaker}
use Rattle.inst_logic.specs.declared.signed.Signed.{Signed}
use Rattle.inst_logic.specs.Clauses.{canonical_form, instance}
use Rattle.inst_logic.specs.Unifiers.{Sided}
use Rattle.inst_logic.proofs.ShownLaws.{at_number_contains}
use Rattle.term_bank.specs.Forest.{IsClauseAt, clause_at}
use Rattle.unify_core.specs.Sides.{IsResolvedBy, of_side}
use Rattle.cert_values.specs.Wholes.{IsWholeClause}
use Rattle.instgen_run.specs.Clauses.{Item}
use Rattle.instgen_run.specs.Loops.{IsConclusionFor}
use Rattle.instgen_run.proofs.Covers.{at_suc}
use Rattle.instgen_run.proofs.Inferred.{concluded_whole, safe_grown, goes_grown, reads_grown}
use Rattle.instgen_run.proofs.infer.conclusion_of.Goals as goal

pub returns-clause-safe : goal.returns-clause-safe
returns-clause-safe g c =
    let run = c.args.run.now in
    let bank = c.conclude_clause.new.bank in
    let e = c.conclude_clause.ensures in
    on_ok_weaker c.conclude_clause.result
    (λ u. safe_grown g.S.Solver.atoms g.I.PartnerIndex.pairs g.I.PartnerIndex.fits run bank c.requires.safe e.extends (e.formed c.requires.safe.entries.formed c.requires.unified.terms)
    (g.met.I.PartnerIndex.grown_fits run.entries.bank bank run.entries.first e.extends c.requires.safe.stored)) e.unspent

pub returns-clause-goes : goal.returns-clause-goes
returns-clause-goes g c = on_ok_weaker c.conclude_clause.result (λ u. goes_grown c.args.run.now c.conclude_clause.new.bank c.conclude_clause.ensures.extends) c.conclude_clause.ensures.unspent

pub returns-clause-reads : goal.returns-clause-reads
returns-clause-reads g c = on_ok_weaker c.conclude_clause.result (λ u. reads_grown c.args.run.now c.conclude_clause.new.bank c.conclude_clause.ensures.extends) c.conclude_clause.ensures.unspent

pub returns-clause-whole : goal.returns-clause-whole
returns-clause-whole g c =
    let run = c.args.run.now in
    let bank = c.conclude_clause.new.bank in
    let item : Item = (c.in-Some.clause.now, c.in-Some.field-0-1.now) in
    let at = at_suc run.entries.clauses.entries c.args.from item (λ e. omega arith) c.in-Some.ensures.entry in
    IfOk-weaker c.conclude_clause.result
    (λ (d : List (Signed ℕ)). (s : Sided) → IsResolvedBy run.entries.bank run.bindings.entries s → IsClauseAt bank d (canonical_form (instance (of_side s c.args.side) (clause_at run.entries.bank item.0))))
    (IsWholeClause bank)
    (λ d made. concluded_whole run.entries.bank bank run.bindings.entries c.args.side run.entries.clauses.entries item d c.requires.unified c.requires.safe.entries
    (at_number_contains run.entries.clauses.entries c.args.from item at) made)
    c.conclude_clause.ensures.made

pub returns-clause-made : goal.returns-clause-made
returns-clause-made g c =
    let run = c.args.run.now in
    let bank = c.conclude_clause.new.bank in
    let item : Item = (c.in-Some.clause.now, c.in-Some.field-0-1.now) in
    let later = record run { entries = record run.entries { bank = bank } } in
    IfOk-weaker c.conclude_clause.result
    (λ (d : List (Signed ℕ)). (s : Sided) → IsResolvedBy run.entries.bank run.bindings.entries s → IsClauseAt bank d (canonical_form (instance (of_side s c.args.side) (clause_at run.entries.bank item.0))))
    (IsConclusionFor run later c.args.side c.args.from)
    (λ d made. record {
      item = item;
      item_at = at_suc run.entries.clauses.entries c.args.from item (λ e. omega arith) c.in-Some.ensures.entry;
      made = λ s r. (made s r).1;
    })
    c.conclude_clause.ensures.made
