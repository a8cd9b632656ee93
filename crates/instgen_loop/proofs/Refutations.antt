-- The refutation that is made of a refuted run and its ground lines is valid, whole, and can be printed.
use Rattle.std.proofs.Common.{◌≡◌, ◌≢◌, ◌⊎◌, inl, inr, ℕ, zero, suc, ◌-◌, ◌<◌, ◌≤◌, List, [], ◌∷◌, refl, sym, ap, ◌∙◌, subst as transport, map, length, get_or, arith, All, Contains, Some}
use Rattle.std.specs.Prelude.{slice_get, option_map}
use Rattle.std.proofs.lemmas.Option.{slice_get-map, slice_get-get_or}
use Rattle.inst_logic.specs.declared.symbol.Sym.{Sym}
use Rattle.inst_logic.specs.declared.signed.Signed.{Signed}
use Rattle.inst_logic.specs.Tree.{Tree, var}
use Rattle.inst_logic.specs.Equal.{literal_eq}
use Rattle.inst_logic.specs.Lists.{distinct}
use Rattle.inst_logic.specs.Clauses.{TreeClause, IsGround}
use Rattle.inst_logic.specs.Derivations.{at_number}
use Rattle.inst_logic.specs.Substitution.{clause_vars, tree_vars}
use Rattle.inst_logic.specs.WellFormed.{IsAtom, IsTerm, IsFormedClause, atom_is_formed}
use Rattle.inst_logic.proofs.Membership.{get_or_in, map_agree}
use Rattle.inst_logic.proofs.Numbering.{map_map}
use Rattle.inst_logic.proofs.SameLemmas.{literal_eq_decides}
use Rattle.inst_logic.proofs.ShownLaws.{slice_get_contains}
use Rattle.inst_calculus.specs.Axioms.{clause_symbols, tree_symbols, equality_axioms, with_axioms, occurrences}
use Rattle.inst_calculus.specs.Entries.{Entry}
use Rattle.inst_calculus.specs.Steps.{Step, renamed_literal, renamed_clause}
use Rattle.inst_calculus.specs.Unrolling.{AreRecords, Grounded, IsGrounded, all_unrolled, each_once, ground_clause}
use Rattle.inst_calculus.proofs.Distinct.{length_map, distinct_is_distinct, from_distinct}
use Rattle.inst_calculus.proofs.Membership.{◌∈◌, contains_in, in_map, from_map, all_in, in_all, nothing_in, passes}
use Rattle.inst_calculus.proofs.StepLaws.{at_number_map}
use Rattle.inst_calculus.proofs.Symbols.{symbol_of_literal}
use Rattle.inst_calculus.proofs.Clauses.{variable_of}
use Rattle.inst_calculus.proofs.UnrolledClauses.{grounded_clause}
use Rattle.inst_machine.specs.Machine as machine
use Rattle.inst_machine.proofs.Contents.{contents_of_unrolled, contents_of_grounds}
use Rattle.cert_format.specs.Certificate as format
use Rattle.cert_format.specs.Printable.{IsPrintableClause, IsPrintableLine, IsPrintableStep, IsPrintableByLines}
use Rattle.cert_format.specs.Validity.{IsValidByLines}
use Rattle.engine_laws.specs.GroundLines.{ground_line}
use Rattle.engine_laws.proofs.PrintableLines.{printable_lines}
use Rattle.engine_laws.proofs.Printed.{IsReadable, IsPlain, name_is_readable, plain_printable, all_formed, all_symbols_readable, axiom_printable}
use Rattle.engine_laws.proofs.ValidRefutations.{valid_when_refuted}
use Rattle.prop_logic.specs.declared.literal.Step.{Step as NumberedStep}
use Rattle.prop_logic.specs.Literal.{AtomsBelow}
use Rattle.term_bank.specs.Forest.{Forest, AreDistinct, clause_at, literal_tree, tree_at}
use Rattle.ground_abs.specs.Abstracts.{atoms_in}
use Rattle.cert_values.specs.declared.certificate.GroundLine.{GroundLine}
use Rattle.cert_values.specs.declared.certificate.GroundStep.{GroundStep}
use Rattle.cert_values.specs.declared.certificate.Refutation.{Refutation}
use Rattle.cert_values.specs.Values.{entry_of, line_of, step_of, refutation_of}
use Rattle.cert_values.specs.Wholes.{IsWholeClause, IsWholeTerm, IsWholeLine, IsWholeRefutation}
use Rattle.instgen_run.specs.declared.event.Event.{Event}
use Rattle.instgen_loop.specs.declared.refuted.RefutedRun.{RefutedRun}
use Rattle.instgen_loop.specs.Endings.{IsRefuted}
use Rattle.instgen_loop.specs.Derived.{IsDerived, IsOfLine}
use Rattle.instgen_loop.specs.LineNumbers.{clauses_of, AreLineNumbers}
use Rattle.instgen_loop.specs.Lines.{IsLineIn, AreLinesOf}
use Rattle.instgen_loop.specs.Outcomes.{IsRefutedRun}
use Rattle.instgen_loop.specs.Refuting.{ground_step, member_of, base_from}
use Rattle.instgen_run.specs.Running.{event_in}
use Rattle.instgen_run.proofs.Grown.{whole_at}
use Rattle.instgen_loop.proofs.PrintedEntries as entries
use Rattle.instgen_loop.proofs.Refuting.{whole_items}
use Rattle.instgen_loop.proofs.DerivedLaws.{told, line_trees, lines_grounded, abstractions_refuted}
use Rattle.instgen_loop.proofs.TreeSteps.{name, ground_trees, ground_whole, line_step, step_trees, step_below, step_hinted, ends, shown_from_lines}

-- The run as its abstractions were refuted, its ground lines, and a derivation over these.
module _ (clauses : List TreeClause) (names : List (List ℕ)) (r now : RefutedRun) (journal : List Event) (h : IsRefuted clauses names r journal) (once : AreDistinct r.remains.bank.trees)
    (lines : List GroundLine) (k : AreLinesOf clauses r lines) (d : IsDerived (record now { remains = r.remains }) lines) where
  abbrev f : Forest
  f = r.remains.bank

  abbrev ids : List ℕ
  ids = now.abstraction.ids

  abbrev bot : Sym
  bot = r.abstraction.bot

  abbrev lits : List (List (Signed ℕ))
  lits = now.literals

  abbrev cs : List TreeClause
  cs = with_axioms clauses

  abbrev events : List machine.Event
  events = map (event_in f) journal

  abbrev items : List Grounded
  items = each_once (all_unrolled bot k.made (length k.made))

  lit_below : (c : List (Signed ℕ)) → c ∈ lits → AtomsBelow (length ids) c
  lit_below c i = all_in (AtomsBelow (length ids)) lits d.below c i

  records : AreRecords bot h.state.entries k.made
  records = told clauses names r journal h lines k

  -- The steps

  module _ (numbers : List ℕ) (numbered : AreLineNumbers lines ids lits numbers) where
    abbrev tree_lines : List format.GroundLine
    tree_lines = map (line_of f) lines

    clauses_here : format.line_clauses tree_lines ≡ map (clause_at f) (clauses_of lines)
    clauses_here = map_map (λ (l : format.GroundLine). l.clause) (line_of f) lines ∙ sym (map_map (clause_at f) (λ (l : GroundLine). l.clause) lines)

    named : (n : ℕ) → (0 < n) × (n ≤ length lits) → at_number (format.line_clauses tree_lines) (get_or numbers (n - 1) 0) ≡ at_number (map (distinct literal_eq) (map (renamed_clause (name f ids d.fits)) lits)) n
    named zero (p, l) = absurd (omega (arith, p))
    named (suc i) (p, l) =
        let before : suc i - 1 ≡ i = omega arith in
        let c : List (Signed ℕ) = get_or lits i [] in
        let c_at : slice_get lits i ≡ Some c = slice_get-get_or lits i [] (omega (arith, l)) in
        let n_at : slice_get numbers i ≡ Some (get_or numbers i 0) = slice_get-get_or numbers i 0 (let q = numbered.count in omega (arith, l)) in
        let j = contains_in c lits (slice_get_contains lits i c c_at) in
        ap (λ m. at_number (format.line_clauses tree_lines) (get_or numbers m 0)) before
        ∙ ap (λ ds. at_number ds (get_or numbers i 0)) clauses_here
        ∙ at_number_map (clause_at f) (clauses_of lines) (get_or numbers i 0)
        ∙ ap (option_map (clause_at f)) (numbered.each i (get_or numbers i 0) c n_at c_at)
        ∙ ap Some (ground_trees f ids d.fits once c (lit_below c j))
        ∙ sym (slice_get-map (distinct literal_eq) (map (renamed_clause (name f ids d.fits)) lits) i ∙ ap (option_map (distinct literal_eq)) (slice_get-map (renamed_clause (name f ids d.fits)) lits i ∙ ap (option_map (renamed_clause (name f ids d.fits))) c_at))

    abbrev steps : List (Step Tree)
    steps = map (line_step (name f ids d.fits) numbers) now.derivation

    abbrev cert : Refutation
    cert = record {
      base = base_from names r.remains;
      bot = bot;
      grounds = lines;
      steps = map (ground_step ids numbers) now.derivation;
    }

    -- the refutation as a plain record of trees
    abbrev plain : format.Refutation
    plain = record {
      base = record { inputs = clauses; names = names; axioms = equality_axioms clauses; members = h.state.entries };
      bot = bot;
      grounds = tree_lines;
      steps = steps;
    }

    below_at : (s : NumberedStep) → s ∈ now.derivation → AtomsBelow (length ids) s.clause
    below_at = step_below f ids d.fits lits now.derivation d.below d.refutes

    steps_same : map (step_of f) (map (ground_step ids numbers) now.derivation) ≡ steps
    steps_same = map_map (step_of f) (ground_step ids numbers) now.derivation ∙ map_agree (λ s. step_of f (ground_step ids numbers s)) (line_step (name f ids d.fits) numbers) now.derivation (λ s i. step_trees f ids d.fits once numbers s (below_at s i))

    members_same : map (entry_of f) (map member_of r.remains.clauses.entries) ≡ h.state.entries
    members_same = map_map (entry_of f) member_of r.remains.clauses.entries ∙ sym h.members

    same : refutation_of cert ≡ plain
    same =
        let inputs = h.inputs.same in
        let axioms = h.axioms.same in
        λ i. record {
          base = record { inputs = inputs i; names = names; axioms = axioms i; members = members_same i };
          bot = bot;
          grounds = tree_lines;
          steps = steps_same i;
        }

    -- It is valid

    hinted : All (λ (s : Step Tree). s.hints ≢ []) steps
    hinted = in_all (λ (s : Step Tree). s.hints ≢ []) steps (λ t i.
        let (s, j, e) = from_map (line_step (name f ids d.fits) numbers) t now.derivation i in
        transport (λ (x : Step Tree). x.hints ≢ []) e (step_hinted f ids d.fits lits now.derivation d.below d.refutes numbers s j))

    valid : IsValidByLines plain
    valid = valid_when_refuted plain events h.state.valuation h.state.has_solved k.made h.constant h.replays records refl k.same hinted
        (shown_from_lines f ids d.fits lits now.derivation d.below d.refutes (format.line_clauses tree_lines) numbers named) (ends f ids d.fits lits now.derivation d.below d.refutes numbers)

    -- It can be printed

    grounded : All (IsGrounded cs) items
    grounded = lines_grounded clauses names r journal h lines k

    -- the literals of lines
    line_plain : (c : TreeClause) → c ∈ map (ground_clause cs) items → (l : Signed Tree) → l ∈ c → IsPlain l
    line_plain c i l j =
        let (g, m, e) = from_map (ground_clause cs) c items i in
        let contents = all_in (λ (g : Grounded). IsFormedClause (ground_clause cs g) × All (Contains (bot ∷ occurrences cs)) (clause_symbols (ground_clause cs g))) items
        (contents_of_grounds bot cs events h.state k.made (all_formed clauses h.printable) h.constant h.replays records) g m in
        let closed : clause_vars c ≡ [] = transport IsGround e (grounded_clause cs g (all_in (IsGrounded cs) items grounded g m)).0 in
        let symbols : All (Contains (bot ∷ occurrences cs)) (clause_symbols c) = transport (λ x. All (Contains (bot ∷ occurrences cs)) (clause_symbols x)) e contents.1 in
        record {
          formed = passes (λ (x : Signed Tree). atom_is_formed x.atom) c (transport IsFormedClause e contents.0) l j;
          without_variables = nothing_in (tree_vars l.atom) (λ v n. transport (λ vs. v ∈ vs) closed (variable_of v l c j n));
          symbols = λ s n. by s (contains_in s (bot ∷ occurrences cs) (all_in (Contains (bot ∷ occurrences cs)) (clause_symbols c) symbols s (symbol_of_literal s l c j n)));
        }
      where
        by : (s : Sym) → (s ≡ bot) ⊎ (s ∈ occurrences cs) → IsReadable s
        by s (inl e) = transport IsReadable (sym e) (name_is_readable bot h.bot_name)
        by s (inr m) = all_symbols_readable clauses h.printable s m

    -- a literal about a numbered atom
    used_plain : (l : Signed Tree) → l.atom ∈ atoms_in f ids → IsPlain l
    used_plain l i =
        let u = all_in (IsOfLine f lines) (atoms_in f ids) d.used l.atom i in
        let there : clause_at f u.clause ∈ map (ground_clause cs) items =
        transport (λ ds. clause_at f u.clause ∈ ds) (line_trees clauses names r journal h lines k) (in_map (clause_at f) u.clause (clauses_of lines) (contains_in u.clause (clauses_of lines) u.listed)) in
        let p = line_plain (clause_at f u.clause) there (literal_tree f u.literal) (in_map (literal_tree f) u.literal u.clause (contains_in u.literal u.clause u.among)) in
        record {
          formed = transport IsAtom u.atom p.formed;
          without_variables = transport (λ t. tree_vars t ≡ []) u.atom p.without_variables;
          symbols = λ s j. p.symbols s (transport (λ t. s ∈ tree_symbols t) (sym u.atom) j);
        }

    step_printable : (s : NumberedStep) → s ∈ now.derivation → IsPrintableStep (line_step (name f ids d.fits) numbers s)
    step_printable s i = record {
      clause = plain_printable (distinct literal_eq (renamed_clause (name f ids d.fits) s.clause)) (distinct_is_distinct literal_eq literal_eq_decides (renamed_clause (name f ids d.fits) s.clause)) (λ l j.
          let (x, m, e) = from_map (renamed_literal (name f ids d.fits)) l s.clause (from_distinct literal_eq literal_eq_decides l (renamed_clause (name f ids d.fits) s.clause) j) in
          let low : x.atom < length ids = all_in (λ (y : Signed ℕ). y.atom < length ids) s.clause (below_at s i) x m in
          used_plain l (transport (λ (y : Signed Tree). y.atom ∈ atoms_in f ids) e (get_or_in (atoms_in f ids) x.atom (var 0) (transport (λ n. x.atom < n) (sym (length_map (tree_at f) ids)) low))));
      hinted = step_hinted f ids d.fits lits now.derivation d.below d.refutes numbers s i;
    }

    can_be_printed : IsPrintableByLines plain
    can_be_printed = record {
      base = record {
        inputs = h.printable;
        named = h.named;
        names = h.readable;
        axioms = in_all IsPrintableClause (equality_axioms clauses) (axiom_printable clauses h.printable);
        members = transport (λ (xs : List Entry). All (λ (e : Entry). IsPrintableClause e.clause) xs) (sym h.members)
            (entries.entries_printable f r.remains.clauses.entries bot clauses events h.state h.entries h.replays h.members h.printable);
      };
      constant = h.constant;
      bot_name = h.bot_name;
      grounds = transport (All IsPrintableLine) (sym k.same) (printable_lines bot clauses events h.state k.made h.printable h.constant h.bot_name h.replays records);
      steps = in_all IsPrintableStep steps (λ t i. let (s, j, e) = from_map (line_step (name f ids d.fits) numbers) t now.derivation i in transport IsPrintableStep e (step_printable s j));
    }

    -- Its ids are those of the bank

    line_whole : (l : GroundLine) → l ∈ lines → IsWholeLine f l
    line_whole l i =
        let inside = all_in (IsLineIn f) lines k.ids l i in
        let (g, j, e) = from_map (ground_line cs) (line_of f l) items (transport (λ (xs : List format.GroundLine). line_of f l ∈ xs) k.same (in_map (line_of f) l lines i)) in
        let terms = all_in (λ (g : Grounded). All IsSound g.terms) items (contents_of_unrolled bot cs events h.state k.made (all_formed clauses h.printable) h.constant h.replays records) g j in
        let clause = (all_in (λ (g : Grounded). IsFormedClause (ground_clause cs g) × All (Contains (bot ∷ occurrences cs)) (clause_symbols (ground_clause cs g))) items
        (contents_of_grounds bot cs events h.state k.made (all_formed clauses h.printable) h.constant h.replays records) g j).0 in
        record {
          clause = whole_at f l.clause (clause_at f l.clause) (inside.clause, refl) (transport IsFormedClause (ap (λ (x : format.GroundLine). x.clause) e) clause);
          terms = in_all (IsWholeTerm f) l.terms (λ n m. record {
            within = all_in (λ id. id < length f.trees) l.terms inside.terms n m;
            term = (all_in IsSound (map (tree_at f) l.terms) (transport (All IsSound) (ap (λ (x : format.GroundLine). x.terms) e) terms) (tree_at f n) (in_map (tree_at f) n l.terms m)).0;
          });
        }
      where
        IsSound : Tree → Type 0
        IsSound u = IsTerm u × All (Contains (bot ∷ occurrences cs)) (tree_symbols u)

    is_whole : IsWholeRefutation cert
    is_whole = record {
      base = record { bank = h.entries.formed; inputs = h.inputs.whole; axioms = h.axioms.whole; members = whole_items f r.remains.clauses.entries h.entries };
      grounds = in_all (IsWholeLine f) lines line_whole;
      steps = in_all (λ (s : GroundStep). IsWholeClause f s.clause) (map (ground_step ids numbers) now.derivation) (λ t i.
          let (s, j, e) = from_map (ground_step ids numbers) t now.derivation i in transport (λ (x : GroundStep). IsWholeClause f x.clause) e (ground_whole f ids d.fits s.clause (below_at s j)));
    }

    pub refuted_run : IsRefutedRun clauses names cert journal
    refuted_run = record {
      state = h.state;
      run = record {
        inputs = h.inputs.same;
        named = refl;
        axioms = h.axioms.same;
        replays = record { constant = h.bot; replays = h.replays };
        members = sym members_same;
      };
      refuted = abstractions_refuted clauses names r journal h lines k;
      whole = is_whole;
      made = k.made;
      records = records;
      lines = k.same;
      valid = transport IsValidByLines (sym same) valid;
      printable = transport IsPrintableByLines (sym same) can_be_printed;
    }
