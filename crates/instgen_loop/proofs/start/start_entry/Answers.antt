use Rattle.std.proofs.Common.{◌≡◌, ◌∙◌, inl, inr, sym, subst, true, false, nat_eq}
use Rattle.std.proofs.lemmas.Bool.Decides.{Decides-eqb}
use Rattle.inst_logic.specs.EqualLaws.{signed_eq_decides}
use Rattle.term_bank.specs.Forest.{clause_at}
use Rattle.instgen_run.specs.Loops.{Appends}
use Rattle.instgen_run.proofs.Covers.{has_key}
use Rattle.instgen_loop.proofs.FirstEntries.{known_clause, new_clause, passes_over, takes}
use Rattle.instgen_loop.proofs.start.start_entry.Goals as goal

pub returns-then-branch-clause-started : goal.returns-then-branch-clause-started
returns-then-branch-clause-started g c = λ cs n h.
    let f = c.args.run.now.entries.bank in
    passes_over g.S.Solver.atoms g.S.Solver.added c.args.run.now cs (clause_at f c.args.clause) (inl ((c.in_ok-long_tautology.ensures.trees f c.distinct.ensures c.requires.whole.ids).0 c.if-branch.true)) h

pub returns-then-contains_key-clause-started : goal.returns-then-contains_key-clause-started
returns-then-contains_key-clause-started g c = λ cs n h.
    let f = c.args.run.now.entries.bank in
    let es = c.args.run.now.entries.clauses.entries in
    let d = c.args.clause in
    let (e, i, p) = (has_key _ (signed_eq_decides nat_eq Decides-eqb) es d c.contains_key.result c.contains_key.ensures).0 c.if-contains_key.true in
    passes_over g.S.Solver.atoms g.S.Solver.added c.args.run.now cs (clause_at f d) (inr (known_clause f es d e i p c.requires.canonical)) h

pub append-requires-clause-new : goal.append-requires-clause-new
append-requires-clause-new g c =
    (has_key _ (signed_eq_decides nat_eq Decides-eqb) c.args.run.now.entries.clauses.entries c.args.clause c.contains_key.result c.contains_key.ensures).1 c.if-contains_key.false

pub returns-clause-started : goal.returns-clause-started
returns-clause-started g c = λ cs n h.
    let run = c.args.run.now in
    let f = run.entries.bank in
    let d = c.args.clause in
    takes g.S.Solver.atoms g.S.Solver.added run c.append.new.run d c.args.k cs (subst (Appends run c.append.new.run d) c.in_ok-origin.ensures c.in_ok-append.ensures.appends) c.in_ok-append.ensures.linked c.requires.safe.entries c.requires.whole.ids c.requires.canonical
    (λ t. let e : false ≡ true = sym c.if-branch.false ∙ (c.in_ok-long_tautology.ensures.trees f c.distinct.ensures c.requires.whole.ids).1 t in cc)
    (new_clause f run.entries.clauses.entries d c.distinct.ensures c.requires.safe.entries c.requires.whole.ids c.requires.canonical
    ((has_key _ (signed_eq_decides nat_eq Decides-eqb) run.entries.clauses.entries d c.contains_key.result c.contains_key.ensures).1 c.if-contains_key.false)) n h
