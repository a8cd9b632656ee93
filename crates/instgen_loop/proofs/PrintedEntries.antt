-- The entries of a run can be printed.
use Rattle.std.proofs.Common.{◌≡◌, List, ℕ, true, sym, ap, ◌∙◌, subst as transport, All, Contains}
use Rattle.inst_logic.specs.declared.symbol.Sym.{Sym}
use Rattle.inst_logic.specs.declared.signed.Signed.{Signed}
use Rattle.inst_logic.specs.Tree.{Tree}
use Rattle.inst_logic.specs.Clauses.{TreeClause, IsCanonical}
use Rattle.inst_logic.specs.WellFormed.{IsAtom, atom_is_formed}
use Rattle.inst_calculus.specs.Axioms.{clause_symbols, occurrences, with_axioms}
use Rattle.inst_calculus.specs.Entries.{Entry, entry_clauses}
use Rattle.inst_calculus.proofs.Membership.{◌∈◌, contains_in, in_contains, in_map, from_map, all_in, in_all, all_pass}
use Rattle.inst_machine.proofs.Contents.{symbols_of_entries}
use Rattle.cert_format.specs.Printable.{IsPrintableClause}
use Rattle.term_bank.specs.Forest.{Forest, literal_tree, clause_at, tree_at}
use Rattle.inst_machine.specs.Machine.{State, Event}
use Rattle.inst_machine.specs.Replay.{Replays}
use Rattle.instgen_run.specs.Clauses.{Item, AreEntries, entries_in, clauses_in}
use Rattle.instgen_run.proofs.Inferred.{same_clauses}
use Rattle.engine_laws.proofs.Printed.{IsReadable, readable_by_symbols, all_formed, all_symbols_readable}

module _ (f : Forest) (es : List Item) (bot : Sym) (clauses : List TreeClause) (journal : List Event) (t : State) (entries : AreEntries f es) (replays : Replays bot (with_axioms clauses) journal t)
    (members : t.entries ≡ entries_in f es) (printable : All IsPrintableClause clauses) where
  abbrev given_clauses : List TreeClause
  given_clauses = clauses_in f es

  pub entry_symbol_readable : (c : TreeClause) → c ∈ given_clauses → (s : Sym) → s ∈ clause_symbols c → IsReadable s
  entry_symbol_readable c i s k =
      let listed : Contains (entry_clauses t.entries) c = in_contains c (entry_clauses t.entries) (transport (λ cs. c ∈ cs) (sym (ap entry_clauses members ∙ same_clauses f es)) i) in
      let all = symbols_of_entries bot (with_axioms clauses) journal t (all_formed clauses printable) replays c listed in
      all_symbols_readable clauses printable s (contains_in s (occurrences (with_axioms clauses)) (all_in (Contains (occurrences (with_axioms clauses))) (clause_symbols c) all s k))

  pub entry_printable : (c : TreeClause) → c ∈ given_clauses → IsPrintableClause c
  entry_printable c i =
      let (e, j, q) = from_map (λ (e : Item). clause_at f e.0) c es i in
      transport IsPrintableClause q (record {
        formed = all_pass (λ (l : Signed Tree). atom_is_formed l.atom) (clause_at f e.0) (λ l m.
            let (k, n, w) = from_map (literal_tree f) l e.0 m in
            transport (λ (x : Signed Tree). atom_is_formed x.atom ≡ true) w (all_in (λ (x : Signed ℕ). IsAtom (tree_at f x.atom)) e.0 (all_in (λ (x : Item). All (λ l. IsAtom (tree_at f l.atom)) x.0) es entries.atoms e j) k n));
        canonical = all_in (λ (x : Item). IsCanonical (clause_at f x.0)) es entries.canonical e j;
        readable = readable_by_symbols (clause_at f e.0) (λ s k. entry_symbol_readable (clause_at f e.0) (in_map (λ (e : Item). clause_at f e.0) e es j) s k);
      })

  pub entries_printable : All (λ (e : Entry). IsPrintableClause e.clause) (entries_in f es)
  entries_printable = in_all (λ (e : Entry). IsPrintableClause e.clause) (entries_in f es) (λ e i.
      entry_printable e.clause (transport (λ cs. e.clause ∈ cs) (same_clauses f es) (in_map (λ (x : Entry). x.clause) e (entries_in f es) i)))
