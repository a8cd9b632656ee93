-- A run whose abstractions are refuted leaves what a refutation is made of, and its ground lines.
use Rattle.std.proofs.Common.{◌≡◌, ℕ, List, [], ◌∷◌, ◌++◌, inl, inr, refl, sym, ap, ap₂, ◌∙◌, subst as transport, map, length, All, Contains, Some}
use Rattle.std.specs.Prelude.{option_map}
use Rattle.inst_logic.specs.declared.symbol.Sym.{Sym}
use Rattle.inst_logic.specs.declared.signed.Signed.{Signed}
use Rattle.inst_logic.specs.Clauses.{TreeClause, IsCanonical}
use Rattle.inst_logic.specs.Derivations.{at_number}
use Rattle.inst_logic.specs.Tree.{Tree}
use Rattle.inst_logic.specs.WellFormed.{IsAtom, IsTerm}
use Rattle.inst_calculus.specs.Abstraction.{AreAbstracted}
use Rattle.inst_calculus.specs.Axioms.{tree_symbols, equality_axioms, with_axioms, occurrences}
use Rattle.inst_calculus.specs.Conclusions.{IsConclusion, IsPartOfConclusion, IsGiven}
use Rattle.inst_calculus.specs.Unrolling.{Grounded, AreRecords, AreMade, all_unrolled, each_once}
use Rattle.inst_calculus.proofs.Distinct.{length_map, map_append}
use Rattle.inst_calculus.proofs.Membership.{◌∈◌, all_in, in_all, from_map, in_either, in_map}
use Rattle.inst_calculus.proofs.StepLaws.{at_number_map}
use Rattle.inst_machine.specs.Machine as machine
use Rattle.inst_machine.specs.Machine.{State}
use Rattle.inst_machine.specs.Replay.{Replays}
use Rattle.inst_machine.proofs.Contents.{contents_of_unrolled}
use Rattle.inst_machine.proofs.MadeRuns.{records_are_right}
use Rattle.inst_machine.proofs.Origins.{entries_are_given}
use Rattle.prop_logic.specs.declared.literal.Step.{Step as NumberedStep}
use Rattle.prop_logic.specs.Solving.{Refutes}
use Rattle.cert_format.specs.Printable.{IsPrintableClause, IsPrintableProblem}
use Rattle.engine_laws.specs.GroundLines.{ground_lines}
use Rattle.engine_laws.proofs.Printed.{all_formed, axiom_printable}
use Rattle.term_bank.specs.Forest.{Forest, AreFormed, Extends, IsClauseOf, clause_at, tree_at}
use Rattle.term_index.specs.Pairs.{Posting}
use Rattle.clause_form.specs.Conclusions.{AreTermIds}
use Rattle.ground_abs.specs.Abstracts.{atoms_in}
use Rattle.ground_abs.proofs.Atoms.{atoms_stay}
use Rattle.term_bank.proofs.Growth.{map_extends}
use Rattle.global_subs.specs.declared.made.Made.{Made}
use Rattle.global_subs.specs.Unrolls.{AreEntriesOf, entries_at, made_at, terms_of}
use Rattle.cert_values.specs.declared.certificate.GroundLine.{GroundLine}
use Rattle.cert_values.specs.declared.member.Member.{Member}
use Rattle.cert_values.specs.declared.member.Origin.{Origin}
use Rattle.cert_values.specs.declared.member.Origin.TheVariants.{Input, Inst, Lemma}
use Rattle.cert_values.specs.Values.{line_of, origin_of}
use Rattle.cert_values.specs.Wholes.{IsWholeClause}
use Rattle.instgen_loop.specs.declared.ending.Ending.TheVariants.{Refuted}
use Rattle.instgen_run.specs.declared.event.Event.{Event}
use Rattle.instgen_run.specs.Logs.{Log}
use Rattle.instgen_loop.specs.declared.refuted.RefutedRun.{RefutedRun}
use Rattle.instgen_loop.specs.declared.start.Given.{Given}
use Rattle.instgen_run.specs.declared.state.Run.{Run}
use Rattle.instgen_loop.specs.declared.task.Task.{Task}
use Rattle.instgen_run.specs.Clauses.{Item, AreEntries, entries_in, clauses_in}
use Rattle.instgen_loop.specs.Endings.{IsRefuted, IsEndingAfter}
use Rattle.instgen_run.specs.Grounds.{IsUsed}
use Rattle.instgen_loop.specs.Lines.{given_of, given_trees, HasClauses, IsLineIn, AreLinesOf}
use Rattle.instgen_run.specs.Loops.{IsConsistent}
use Rattle.instgen_loop.specs.Records.{IsConcluded, AreConcluded, AreRecordsOf}
use Rattle.instgen_loop.specs.Refuting.{member_of, refuted_from}
use Rattle.instgen_run.specs.Running.{event_in, IsEventOf, state_of, IsRunning, IsRunningFor, events_so_far}
use Rattle.instgen_loop.specs.Starting.{IsOfProblem}
use Rattle.instgen_loop.specs.Tasks.{all_clauses}
use Rattle.instgen_loop.proofs.FirstEntries.{given_grown}
use Rattle.instgen_run.proofs.Grown.{clauses_kept, entries_kept, entries_stay}
use Rattle.instgen_loop.proofs.LineLaws.{lines_later, line_in_later}
use Rattle.instgen_loop.proofs.RecordLaws.{are_entries, are_records, entry_ids, entry_of_item, number_of, same_entries}
use Rattle.instgen_run.proofs.Runs.{events_kept, events_later}

pub whole_items : (f : Forest) (es : List Item) → AreEntries f es → All (λ (m : Member). IsWholeClause f m.clause) (map member_of es)
whole_items f es h = in_all (λ (m : Member). IsWholeClause f m.clause) (map member_of es) (λ m i.
    let (e, j, q) = from_map member_of m es i in
    transport (λ (x : Member). IsWholeClause f x.clause) q (record {
      ids = all_in (λ (x : Item). IsClauseOf f x.0) es h.ids e j;
      atoms = all_in (λ (x : Item). All (λ l. IsAtom (tree_at f l.atom)) x.0) es h.atoms e j;
    }))

pub refuted_ending : {S I C : Type 0} (atoms : S → ℕ) (added : S → List (List (Signed ℕ))) (pairs : I → List Posting) (fits : Forest → I → Type 0) (t : Task) (r : Run S I C) (g : Given) (steps : List NumberedStep)
    → IsConsistent atoms pairs fits r → IsRunningFor atoms added r (all_clauses t) t.budget → Refutes (atoms r.ground.solver) (added r.ground.solver) [] [] steps → IsOfProblem r g t.problem.now.clauses → IsPrintableProblem t.problem.now
    → (x : RefutedRun) (log : Log) → x ≡ refuted_from r g steps → log ≡ r.log → IsEndingAfter t (Refuted x) log
refuted_ending atoms added pairs fits t r g steps safe (constant, v, b, k) refutes problem printable x log e q =
    let h : IsRunning atoms added r r.ground.abstraction.bot (all_clauses t) t.budget v b = transport (λ y. IsRunning atoms added r y (all_clauses t) t.budget v b) (sym k.linked.constant) k in
    let left : IsRefuted t.problem.now.clauses t.problem.now.names (refuted_from r g steps) (events_so_far r) = record {
      state = state_of r v b;
      replays = h.replays;
      members = refl;
      events = h.events;
      entries = safe.entries;
      inputs = problem.inputs;
      axioms = problem.axioms;
      bot = problem.bot;
      constant = problem.constant;
      bot_name = problem.readable;
      fits = h.linked.fits;
      same = h.linked.same;
      used = h.linked.used;
      refutes =
          transport (λ n. Refutes n r.ground.literals [] [] steps) h.linked.count
          (transport (λ cs. Refutes (atoms r.ground.solver) cs [] [] steps) h.linked.given refutes);
      printable = printable.clauses;
      named = printable.named;
      readable = printable.readable;
    } in
    transport (λ (y : RefutedRun). IsEndingAfter t (Refuted y) log) (sym e) (transport (IsEndingAfter t (Refuted (refuted_from r g steps))) (sym q) (h.logged, left))

-- As the bank grows

abbrev pub with_bank : RefutedRun → Forest → RefutedRun
with_bank r g = record r { remains = record r.remains { bank = g } }

pub refuted_later : (clauses : List TreeClause) (names : List (List ℕ)) (r : RefutedRun) (journal : List Event) (g : Forest) → Extends r.remains.bank g → AreFormed g → IsRefuted clauses names r journal → IsRefuted clauses names (with_bank r g) journal
refuted_later clauses names r journal g x formed h = record {
  state = h.state;
  replays = transport (λ js. Replays r.abstraction.bot (with_axioms clauses) js h.state) (sym (events_kept f g x journal (λ j i. all_in (IsEventOf f) journal h.events j i))) h.replays;
  members = h.members ∙ sym (entries_stay f g x es (entry_ids f es h.entries));
  events = events_later f g x journal h.events;
  entries = entries_kept f g x formed es h.entries;
  inputs = given_grown f g x r.remains.given.inputs clauses h.inputs;
  axioms = given_grown f g x r.remains.given.axioms (equality_axioms clauses) h.axioms;
  bot = h.bot;
  constant = h.constant;
  bot_name = h.bot_name;
  fits = atoms_stay f g ids x h.fits;
  same = transport (λ ts. AreAbstracted r.abstraction.bot ts r.literals (clauses_in g es)) (sym atoms_same) (transport (λ cs. AreAbstracted r.abstraction.bot (atoms_in f ids) r.literals cs) (sym clauses_same) h.same);
  used = transport (λ ts. All (IsUsed r.abstraction.bot (clauses_in g es)) ts) (sym atoms_same) (transport (λ cs. All (IsUsed r.abstraction.bot cs) (atoms_in f ids)) (sym clauses_same) h.used);
  refutes = h.refutes;
  printable = h.printable;
  named = h.named;
  readable = h.readable;
}
  where
    f : Forest
    f = r.remains.bank

    es : List Item
    es = r.remains.clauses.entries

    ids : List ℕ
    ids = r.abstraction.ids

    atoms_same : atoms_in g ids ≡ atoms_in f ids
    atoms_same = map_extends f g ids x h.fits.within

    clauses_same : clauses_in g es ≡ clauses_in f es
    clauses_same = clauses_kept f g x es (entry_ids f es h.entries)

pub lines_of_later : (clauses : List TreeClause) (names : List (List ℕ)) (r : RefutedRun) (journal : List Event) (g : Forest) → Extends r.remains.bank g → IsRefuted clauses names r journal
    → (lines : List GroundLine) → AreLinesOf clauses r lines → AreLinesOf clauses (with_bank r g) lines
lines_of_later clauses names r journal g x h lines k =
    let f = r.remains.bank in
    record {
      made = k.made;
      records = transport (λ xs. AreRecords r.abstraction.bot xs k.made) (sym (same_entries f g x r.remains.clauses.entries h.entries)) k.records;
      same = lines_later f g x lines k.ids ∙ k.same;
      ids = in_all (IsLineIn g) lines (λ l i. line_in_later f g x l (all_in (IsLineIn f) lines k.ids l i));
    }

-- What the entries are made of

module _ (clauses : List TreeClause) (names : List (List ℕ)) (r : RefutedRun) (journal : List Event) (h : IsRefuted clauses names r journal) where
  abbrev f : Forest
  f = r.remains.bank

  abbrev es : List Item
  es = r.remains.clauses.entries

  abbrev bot : Sym
  bot = r.abstraction.bot

  abbrev cs : List TreeClause
  cs = with_axioms clauses

  abbrev events : List machine.Event
  events = map (event_in f) journal

  pub concluded : AreConcluded f es
  concluded n e at = go e.1 (entries_are_given bot cs events h.state h.replays n (entry_of_item f e) there)
    where
      there : at_number h.state.entries n ≡ Some (entry_of_item f e)
      there = ap (λ xs. at_number xs n) h.members ∙ at_number_map (entry_of_item f) es n ∙ ap (option_map (entry_of_item f)) at

      go : (o : Origin) → IsGiven cs h.state.entries n (origin_of o) (clause_at f e.0) → IsConcluded (entries_in f es) o (clause_at f e.0)
      go (Input k) g = tt
      go (Inst from place partner other) (a, b, k) = transport (λ xs. IsConclusion xs from place partner other (clause_at f e.0)) h.members k
      go (Lemma from place partner other keep premises) (a, b, d, k) = transport (λ xs. IsPartOfConclusion xs from place partner other keep (clause_at f e.0)) h.members k

  pub given_same : given_trees f r.remains.given ≡ cs
  given_same = map_append (clause_at f) r.remains.given.inputs r.remains.given.axioms ∙ ap₂ (λ xs ys. xs ++ ys) h.inputs.same h.axioms.same

  all_printable : (c : TreeClause) → c ∈ cs → IsPrintableClause c
  all_printable c i = elim (in_either c clauses (equality_axioms clauses) i) [
    | inl j ↦ all_in IsPrintableClause clauses h.printable c j
    | inr j ↦ axiom_printable clauses h.printable c j
  ]

  pub has_clauses : HasClauses f r.remains.given
  has_clauses = record {
    ids = in_all (IsClauseOf f) (given_of r.remains.given) (λ c i. elim (in_either c r.remains.given.inputs r.remains.given.axioms i) [
      | inl j ↦ (all_in (IsWholeClause f) r.remains.given.inputs h.inputs.whole c j).ids
      | inr j ↦ (all_in (IsWholeClause f) r.remains.given.axioms h.axioms.whole c j).ids
    ]);
    canonical = in_all (λ c. IsCanonical (clause_at f c)) (given_of r.remains.given) (λ c i.
        (all_printable (clause_at f c) (transport (λ ds. clause_at f c ∈ ds) given_same (in_map (clause_at f) c (given_of r.remains.given) i))).canonical);
  }

  module _ (made : List Made) (k : AreRecordsOf bot f es made) where
    told : AreRecords bot h.state.entries (entries_at f made)
    told = transport (λ xs. AreRecords bot xs (entries_at f made)) (sym h.members) (are_records bot f es h.entries made k)

    made_right : AreMade bot cs (entries_at f made)
    made_right = records_are_right bot cs events h.state h.replays (entries_at f made) told

    pub right : AreMade bot (given_trees f r.remains.given) (entries_at f made)
    right = transport (λ ds. AreMade bot ds (entries_at f made)) (sym given_same) made_right

    pub unrolled_entries : AreEntriesOf f made
    unrolled_entries = are_entries bot f es h.entries made k cs made_right

    pub term_ids : All (λ (m : Made). AreTermIds f (terms_of m.how)) made
    term_ids = in_all (λ (m : Made). AreTermIds f (terms_of m.how)) made (λ m i. let (n, at) = number_of made m i in (k.each n m at).terms)

    pub item_terms : All (λ (g : Grounded). All IsTerm g.terms) (each_once (all_unrolled bot (entries_at f made) (length made)))
    item_terms =
        transport (λ n. All (λ (g : Grounded). All IsTerm g.terms) (each_once (all_unrolled bot (entries_at f made) n))) (length_map (made_at f) made)
        (in_all (λ (g : Grounded). All IsTerm g.terms) items (λ g i.
        let all = all_in (λ (g : Grounded). All IsSound g.terms) items (contents_of_unrolled bot cs events h.state (entries_at f made) (all_formed clauses h.printable) h.constant h.replays told) g i in
        in_all IsTerm g.terms (λ u j. (all_in IsSound g.terms all u j).0)))
      where
        items : List Grounded
        items = each_once (all_unrolled bot (entries_at f made) (length (entries_at f made)))

        IsSound : Tree → Type 0
        IsSound u = IsTerm u × All (Contains (bot ∷ occurrences cs)) (tree_symbols u)

    pub lines_are : (g : Forest) → Extends f g → (lines : List GroundLine) → map (line_of g) lines ≡ ground_lines bot (given_trees f r.remains.given) (entries_at f made) → All (IsLineIn g) lines
        → AreLinesOf clauses (with_bank r g) lines
    lines_are g x lines same ids = record {
      made = entries_at f made;
      records = transport (λ xs. AreRecords bot xs (entries_at f made)) (sym (same_entries f g x es h.entries)) (are_records bot f es h.entries made k);
      same = same ∙ ap (λ ds. ground_lines bot ds (entries_at f made)) given_same;
      ids = ids;
    }
