use Rattle.std.proofs.Common.{◌≡◌, ap, ◌∙◌, sym, subst, map, All, List, Option}
use Rattle.std.specs.Prelude.{IfOk, IfSome, IfNone}
use Rattle.inst_logic.specs.Clauses.{TreeClause}
use Rattle.inst_logic.proofs.Numbering.{map_map}
use Rattle.inst_calculus.specs.Lemmas.{IsIrreducible}
use Rattle.inst_calculus.proofs.Membership.{in_all, all_in, from_map}
use Rattle.global_subs.specs.declared.lemma.Lemma.{Lemma}
use Rattle.global_subs.specs.Reductions.{IsReduction}
use Rattle.term_bank.specs.Forest.{IsClauseOf, clause_at}
use Rattle.instgen_run.specs.Clauses.{Item, clauses_in}
use Rattle.instgen_run.proofs.infer.lemma_of.Goals as goal

pub reduce-requires-clause-entries : goal.reduce-requires-clause-entries
reduce-requires-clause-entries g c =
    let run = c.args.run.now in
    let f = run.entries.bank in
    let es = run.entries.clauses.entries in
    subst (All (IsClauseOf f)) (sym c.requires.safe.known) (in_all (IsClauseOf f) (map (λ (e : Item). e.0) es) (λ d i.
    let (e, j, q) = from_map (λ (e : Item). e.0) d es i in subst (IsClauseOf f) q (all_in (λ (e : Item). IsClauseOf f e.0) es c.requires.safe.entries.ids e j)))

pub returns-clause-some : goal.returns-clause-some
returns-clause-some g c =
    let run = c.args.run.now in
    let f = run.entries.bank in
    let es = run.entries.clauses.entries in
    let same : map (clause_at f) run.known.clauses ≡ clauses_in f es = ap (map (clause_at f)) c.requires.safe.known ∙ map_map (clause_at f) (λ (e : Item). e.0) es in
    subst (λ (cs : List TreeClause). IfOk c.reduce.result (λ (o : Option Lemma). IfSome o (IsReduction cs (clause_at f c.args.conclusion.now)))) same c.reduce.ensures.some

pub returns-clause-none : goal.returns-clause-none
returns-clause-none g c =
    let run = c.args.run.now in
    let f = run.entries.bank in
    let es = run.entries.clauses.entries in
    let same : map (clause_at f) run.known.clauses ≡ clauses_in f es = ap (map (clause_at f)) c.requires.safe.known ∙ map_map (clause_at f) (λ (e : Item). e.0) es in
    subst (λ (cs : List TreeClause). IfOk c.reduce.result (λ (o : Option Lemma). IfNone o (IsIrreducible cs (clause_at f c.args.conclusion.now)))) same c.reduce.ensures.none
