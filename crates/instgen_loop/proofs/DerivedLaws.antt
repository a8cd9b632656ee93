-- A derivation over ground lines: the one that refuted the abstractions, where each of these is a line, or that of a solver which has
-- the lines.
use Rattle.std.proofs.Common.{◌≡◌, ℕ, zero, suc, ◌<◌, ◌≤◌, List, [], ◌∷◌, ◌++◌, inl, inr, refl, sym, ap, ◌∙◌, subst as transport, map, length, get_or, arith, All, Contains, Some}
use Rattle.std.specs.Prelude.{option_map}
use Rattle.inst_logic.specs.declared.symbol.Sym.{Sym}
use Rattle.inst_logic.specs.declared.signed.Signed.{Signed}
use Rattle.inst_logic.specs.Tree.{Tree, var}
use Rattle.inst_logic.specs.Equal.{literal_eq}
use Rattle.inst_logic.specs.Lists.{distinct}
use Rattle.inst_logic.specs.Clauses.{TreeClause, IsGround}
use Rattle.inst_logic.specs.Derivations.{at_number}
use Rattle.inst_logic.specs.Substitution.{subst_literal}
use Rattle.inst_logic.specs.Truth.{IsRefuted}
use Rattle.inst_logic.specs.WellFormed.{IsFormedClause}
use Rattle.inst_logic.proofs.Membership.{get_or_in}
use Rattle.inst_logic.proofs.Numbers.{last_or_before}
use Rattle.inst_logic.proofs.Numbering.{map_map}
use Rattle.inst_logic.proofs.SameLemmas.{literal_eq_decides}
use Rattle.inst_logic.proofs.ShownLaws.{at_number_contains}
use Rattle.inst_calculus.specs.Abstraction.{abstraction, abstract_literals, grounding, AreAbstracted}
use Rattle.inst_calculus.specs.Axioms.{clause_symbols, with_axioms, occurrences}
use Rattle.inst_calculus.specs.Entries.{Entry, entry_clauses}
use Rattle.inst_calculus.specs.Steps.{renamed_clause}
use Rattle.inst_calculus.specs.Unrolling.{How, Made as TreeMade, made_clauses, AreRecords, AreMade, Grounded, IsGrounded, IsNoLemma, TellsHow, unrolled, all_unrolled, each_once, ground_clause}
use Rattle.inst_calculus.proofs.Clauses.{literals_agree, literal_var}
use Rattle.inst_calculus.proofs.Distinct.{in_distinct, distinct_is_distinct, distinct_of_distinct, length_map, map_append}
use Rattle.inst_calculus.proofs.Items.{at_number_within}
use Rattle.inst_calculus.proofs.Membership.{◌∈◌, contains_in, in_contains, in_left, in_right, in_map, from_map, all_in, in_all}
use Rattle.inst_calculus.proofs.ProperParts.{item_behind}
use Rattle.inst_calculus.proofs.StepLaws.{at_number_map}
use Rattle.inst_calculus.proofs.UnrolledClauses.{grounded_clause, one_clause}
use Rattle.inst_calculus.proofs.UnrolledRefutation.{same_once}
use Rattle.inst_machine.specs.Machine as machine
use Rattle.inst_machine.proofs.Contents.{contents_of_grounds}
use Rattle.inst_machine.proofs.MadeRuns.{records_are_right, refuted_when_records}
use Rattle.cert_format.specs.Certificate as format
use Rattle.cert_format.proofs.Numbers.{in_slice_get}
use Rattle.engine_laws.specs.GroundLines.{ground_line}
use Rattle.engine_laws.proofs.Bits.{abstractions_are_refuted}
use Rattle.engine_laws.proofs.Printed.{all_formed}
use Rattle.prop_logic.specs.Literal.{AtomsBelow, AllAtomsBelow}
use Rattle.prop_logic.specs.Solving.{Refutes}
use Rattle.term_bank.specs.Forest.{Forest, AreDistinct, Extends, IsClauseOf, clause_at, literal_tree, tree_at}
use Rattle.term_bank.proofs.Clauses.{clause_extends, clause_of_extends}
use Rattle.clause_form.proofs.Ids.{same_ids}
use Rattle.ground_abs.specs.Abstracts.{atoms_in, AreAtomsIn}
use Rattle.cert_values.specs.declared.certificate.GroundLine.{GroundLine}
use Rattle.cert_values.specs.declared.member.Origin.{Origin}
use Rattle.cert_values.specs.declared.member.Origin.TheVariants.{Input, Inst, Lemma}
use Rattle.cert_values.specs.Values.{line_of, origin_of}
use Rattle.cert_values.specs.Wholes.{IsWholeClause}
use Rattle.instgen_run.specs.declared.event.Event.{Event}
use Rattle.instgen_loop.specs.declared.refuted.RefutedRun.{RefutedRun}
use Rattle.instgen_run.specs.Clauses.{Item, clauses_in, entries_in}
use Rattle.instgen_loop.specs.Derived.{AreRefutedLines, IsDerived, IsOfLine}
use Rattle.instgen_run.specs.Origins.{IsNoPart}
use Rattle.instgen_loop.specs.Endings.{IsRefuted as IsRefutedRun}
use Rattle.instgen_run.specs.Grounds.{IsUsed}
use Rattle.instgen_loop.specs.LineNumbers.{clauses_of, HaveLines}
use Rattle.instgen_loop.specs.Lines.{IsLineIn, AreLinesOf}
use Rattle.instgen_loop.specs.Refuting.{ground_clause as ids_clause}
use Rattle.instgen_run.specs.Running.{event_in}
use Rattle.instgen_run.proofs.Grown.{whole_at}
use Rattle.instgen_run.proofs.Inferred.{same_clauses}
use Rattle.instgen_loop.proofs.RecordLaws.{entry_of_item}
use Rattle.instgen_loop.proofs.TreeSteps.{name, ground_trees, ground_whole, numbers_literals}

-- Lines one by one

pub line_whole_at : (f : Forest) (lines : List GroundLine) (i : ℕ) (d : GroundLine) → All (IsWholeClause f) (clauses_of lines) → i < length lines → IsWholeClause f (get_or lines i d).clause
line_whole_at f lines i d h l = all_in (IsWholeClause f) (clauses_of lines) h (get_or lines i d).clause (in_map (λ (x : GroundLine). x.clause) (get_or lines i d) lines (get_or_in lines i d l))

-- one more clause
pub clauses_push : (f g : Forest) (lines more : List GroundLine) (l : GroundLine) → Extends f g → IsClauseOf f l.clause → more ≡ lines ++ l ∷ []
    → map (clause_at f) (clauses_of more) ≡ map (clause_at f) (clauses_of lines) ++ clause_at g l.clause ∷ []
clauses_push f g lines more l x ids e =
    ap (λ ls. map (clause_at f) (clauses_of ls)) e ∙ ap (map (clause_at f)) (map_append (λ (y : GroundLine). y.clause) lines (l ∷ [])) ∙ map_append (clause_at f) (clauses_of lines) (l.clause ∷ [])
    ∙ ap (λ c. map (clause_at f) (clauses_of lines) ++ c ∷ []) (sym (clause_extends f g x l.clause ids))

-- Clauses without variables and repeats are their own abstractions

literals_var : (c : TreeClause) → map (subst_literal var) c ≡ c
literals_var [] = refl
literals_var (l ∷ c) = ap (λ k. k ∷ map (subst_literal var) c) (literal_var l) ∙ ap (λ ks. l ∷ ks) (literals_var c)

pub abstraction_same : (bot : Sym) (c : TreeClause) → IsGround c → distinct literal_eq c ≡ c → abstraction bot c ≡ c
abstraction_same bot c closed once = ap (distinct literal_eq) (literals_agree (grounding bot) var c (λ v i. absurd (transport (λ vs. v ∈ vs) closed i)) ∙ literals_var c) ∙ once

-- Numbered clauses that stand for clauses of which each abstraction is a line

module _ (r : RefutedRun) (lines : List GroundLine) (bot : Sym) (cs : List TreeClause) (once : AreDistinct r.remains.bank.trees) (inside : All (IsClauseOf r.remains.bank) (clauses_of lines))
    (fits : AreAtomsIn r.remains.bank r.abstraction.ids) (same : AreAbstracted bot (atoms_in r.remains.bank r.abstraction.ids) r.literals cs)
    (used : All (IsUsed bot cs) (atoms_in r.remains.bank r.abstraction.ids)) (refutes : Refutes (length r.abstraction.ids) r.literals [] [] r.derivation)
    (there : (c : TreeClause) → c ∈ cs → abstraction bot c ∈ map (clause_at r.remains.bank) (clauses_of lines)) where
  abbrev f : Forest
  f = r.remains.bank

  abbrev ids : List ℕ
  ids = r.abstraction.ids

  lits_below : AllAtomsBelow (length ids) r.literals
  lits_below = transport (λ n. AllAtomsBelow n r.literals) (length_map (tree_at f) ids) same.below

  lit_below : (c : List (Signed ℕ)) → c ∈ r.literals → AtomsBelow (length ids) c
  lit_below c i = all_in (AtomsBelow (length ids)) r.literals lits_below c i

  abstractions_same : map (distinct literal_eq) (map (renamed_clause (name f ids fits)) r.literals) ≡ map (abstraction bot) cs
  abstractions_same = numbers_literals (atoms_in f ids) bot cs r.literals same.same

  have_lines : HaveLines lines ids r.literals
  have_lines = in_all (λ c. Contains (clauses_of lines) (ids_clause ids c)) r.literals (λ c i.
      let tree = ground_trees f ids fits once c (lit_below c i) in
      let (d, j, e) = from_map (abstraction bot) (distinct literal_eq (renamed_clause (name f ids fits) c)) cs
      (transport (λ ds. distinct literal_eq (renamed_clause (name f ids fits) c) ∈ ds) abstractions_same
      (in_map (distinct literal_eq) (renamed_clause (name f ids fits) c) (map (renamed_clause (name f ids fits)) r.literals) (in_map (renamed_clause (name f ids fits)) c r.literals i))) in
      let (x, m, q) = from_map (clause_at f) (abstraction bot d) (clauses_of lines) (there d j) in
      let same_clause : x ≡ ids_clause ids c = same_ids f once x (ids_clause ids c) (all_in (IsClauseOf f) (clauses_of lines) inside x m) (ground_whole f ids fits c (lit_below c i)).ids (q ∙ e ∙ sym tree) in
      in_contains (ids_clause ids c) (clauses_of lines) (transport (λ y. y ∈ clauses_of lines) same_clause m))

  of_line : (t : Tree) → t ∈ atoms_in f ids → IsOfLine f lines t
  of_line t i =
      let u = all_in (IsUsed bot cs) (atoms_in f ids) used t i in
      let d = u.clause in
      let (x, m, q) = from_map (clause_at f) (abstraction bot d) (clauses_of lines) (there d (contains_in d cs u.listed)) in
      let among : u.literal ∈ clause_at f x = transport (λ k. u.literal ∈ k) (sym q) (in_distinct literal_eq literal_eq_decides u.literal (abstract_literals bot d) (contains_in u.literal (abstract_literals bot d) u.among)) in
      let (l, n, e) = from_map (literal_tree f) u.literal x among in
      record { clause = x; literal = l; listed = in_contains x (clauses_of lines) m; among = in_contains l x n; atom = ap (λ (y : Signed Tree). y.atom) e ∙ u.atom }

  pub is_derived : IsDerived r lines
  is_derived = record { fits = fits; below = lits_below; have = have_lines; refutes = refutes; used = in_all (IsOfLine f lines) (atoms_in f ids) of_line }

-- the lines themselves, over a bank that grew
pub lines_derived : (r : RefutedRun) (f : Forest) (lines : List GroundLine) (bot : Sym) → Extends f r.remains.bank → AreRefutedLines f lines → AreDistinct r.remains.bank.trees
    → AreAtomsIn r.remains.bank r.abstraction.ids → AreAbstracted bot (atoms_in r.remains.bank r.abstraction.ids) r.literals (map (clause_at f) (clauses_of lines))
    → All (IsUsed bot (map (clause_at f) (clauses_of lines))) (atoms_in r.remains.bank r.abstraction.ids) → Refutes (length r.abstraction.ids) r.literals [] [] r.derivation → IsDerived r lines
lines_derived r f lines bot x h once fits same used refutes =
    is_derived r lines bot cs once (in_all (IsClauseOf g) (clauses_of lines) (λ c i. clause_of_extends f g x c (inside c i))) fits same used refutes there
  where
    g : Forest
    g = r.remains.bank

    cs : List TreeClause
    cs = map (clause_at f) (clauses_of lines)

    inside : (c : List (Signed ℕ)) → c ∈ clauses_of lines → IsClauseOf f c
    inside c i = (all_in (IsWholeClause f) (clauses_of lines) h.whole c i).ids

    there : (c : TreeClause) → c ∈ cs → abstraction bot c ∈ map (clause_at g) (clauses_of lines)
    there c i =
        let (x2, j, e) = from_map (clause_at f) c (clauses_of lines) i in
        let own : abstraction bot c ≡ c = abstraction_same bot c (all_in IsGround cs h.grounded c i) (all_in (λ d. distinct literal_eq d ≡ d) cs h.once c i) in
        transport (λ d. d ∈ map (clause_at g) (clauses_of lines)) (clause_extends f g x x2 (inside x2 j) ∙ e ∙ sym own) (in_map (clause_at g) x2 (clauses_of lines) j)

-- The lines of a refuted run

-- the list of an entry among those of all
in_all_unrolled : (bot : Sym) (made : List TreeMade) (n k : ℕ) (g : Grounded) → 0 < k → k ≤ n → g ∈ unrolled bot made k (grounding bot) → g ∈ all_unrolled bot made n
in_all_unrolled bot made zero k g p l i = absurd (omega (arith, p, l))
in_all_unrolled bot made (suc n) k g p l i = elim (last_or_before k (suc n) (omega (arith, l))) [
  | inr e ↦ in_right g (all_unrolled bot made n) (unrolled bot made (suc n) (grounding bot)) (transport (λ m. g ∈ unrolled bot made m (grounding bot)) e i)
  | inl m ↦ in_left g (all_unrolled bot made n) (unrolled bot made (suc n) (grounding bot)) (in_all_unrolled bot made n k g p (omega (arith, m)) i)
]

-- what is no part tells of no lemma
no_lemma : (bot : Sym) (es : List Entry) (o : Origin) (c : TreeClause) (h : How) → IsNoPart o → TellsHow bot es (origin_of o) c h → IsNoLemma h
no_lemma bot es (Input k) c h n e = transport IsNoLemma (sym e) tt
no_lemma bot es (Inst from place partner other) c h n (k, e) = transport IsNoLemma (sym e) tt
no_lemma bot es (Lemma from place partner other keep premises) c h n e = absurd n

module _ (clauses : List TreeClause) (names : List (List ℕ)) (r : RefutedRun) (journal : List Event) (h : IsRefutedRun clauses names r journal) (lines : List GroundLine) (k : AreLinesOf clauses r lines) where
  abbrev bank : Forest
  bank = r.remains.bank

  abbrev entries : List Item
  entries = r.remains.clauses.entries

  abbrev constant : Sym
  constant = r.abstraction.bot

  abbrev given : List TreeClause
  given = with_axioms clauses

  abbrev events : List machine.Event
  events = map (event_in bank) journal

  abbrev members : List TreeClause
  members = clauses_in bank entries

  abbrev items : List Grounded
  items = each_once (all_unrolled constant k.made (length k.made))

  pub told : AreRecords constant h.state.entries k.made
  told = transport (λ xs. AreRecords constant xs k.made) (sym h.members) k.records

  right : AreMade constant given k.made
  right = records_are_right constant given events h.state h.replays k.made told

  pub line_trees : map (clause_at bank) (clauses_of lines) ≡ map (ground_clause given) items
  line_trees =
      map_map (clause_at bank) (λ (l : GroundLine). l.clause) lines ∙ sym (map_map (λ (l : format.GroundLine). l.clause) (line_of bank) lines) ∙ ap (map (λ (l : format.GroundLine). l.clause)) k.same
      ∙ map_map (λ (l : format.GroundLine). l.clause) (ground_line given) items

  lines_in : All (IsClauseOf bank) (clauses_of lines)
  lines_in = in_all (IsClauseOf bank) (clauses_of lines) (λ c i.
      let (l, j, e) = from_map (λ (l : GroundLine). l.clause) c lines i in transport (IsClauseOf bank) e (all_in (IsLineIn bank) lines k.ids l j).clause)

  -- Where no entry is a part, each abstraction is a line

  module _ (whole : All (λ (e : Item). IsNoPart e.1) entries) (once : AreDistinct bank.trees) where
    made_given : made_clauses k.made ≡ members
    made_given = k.records.clauses ∙ same_clauses bank entries

    no_lemmas : (n : ℕ) (m : TreeMade) → at_number k.made n ≡ Some m → IsNoLemma m.how
    no_lemmas n m at =
        let there : at_number (entry_clauses (entries_in bank entries)) n ≡ Some m.clause =
        ap (λ ds. at_number ds n) (sym k.records.clauses) ∙ at_number_map (λ (x : TreeMade). x.clause) k.made n ∙ ap (option_map (λ (x : TreeMade). x.clause)) at in
        let (e, e_at, q) = item_behind (λ (x : Entry). x.clause) (entries_in bank entries) n m.clause there in
        let (item, item_at, p) = item_behind (entry_of_item bank) entries n e e_at in
        let tells = k.records.told n e m e_at at in
        no_lemma constant (entries_in bank entries) item.1 e.clause m.how
        (all_in (λ (x : Item). IsNoPart x.1) entries whole item (contains_in item entries (at_number_contains entries n item item_at)))
        (transport (λ (y : Entry). TellsHow constant (entries_in bank entries) y.origin e.clause m.how) (sym p) tells)

    abstraction_there : (c : TreeClause) → c ∈ members → abstraction constant c ∈ map (clause_at bank) (clauses_of lines)
    abstraction_there c i =
        let (m, j, e) = from_map (λ (m : TreeMade). m.clause) c k.made (transport (λ ds. c ∈ ds) (sym made_given) i) in
        let (n, at) = in_slice_get m k.made j in
        let within = at_number_within k.made (suc n) m at in
        let (g, list, is) = one_clause constant given k.made right no_lemmas (suc n) m (grounding constant) at in
        let there : g ∈ all_unrolled constant k.made (length k.made) =
        in_all_unrolled constant k.made (length k.made) (suc n) g (omega arith) within (transport (λ gs. g ∈ gs) (sym list) (inl refl)) in
        let kept : g ∈ items = contains_in g items ((same_once (all_unrolled constant k.made (length k.made)) g).1 (in_contains g (all_unrolled constant k.made (length k.made)) there)) in
        transport (λ ds. abstraction constant c ∈ ds) (sym line_trees) (transport (λ d. d ∈ map (ground_clause given) items) (is ∙ ap (abstraction constant) e) (in_map (ground_clause given) g items kept))

    pub carried : IsDerived r lines
    carried = is_derived r lines constant members once lines_in h.fits h.same h.used h.refutes abstraction_there

  -- No valuation makes the abstractions of the entries true, and none the lines

  pub abstractions_refuted : IsRefuted (map (abstraction constant) (entry_clauses h.state.entries))
  abstractions_refuted =
      transport (λ ds. IsRefuted (map (abstraction constant) ds)) (sym (ap entry_clauses h.members ∙ same_clauses bank entries))
      (abstractions_are_refuted constant (atoms_in bank r.abstraction.ids) r.literals members h.same h.refutes.none)

  refuted : All (IsGrounded given) items × IsRefuted (map (ground_clause given) items)
  refuted = refuted_when_records constant given events h.state k.made h.replays told abstractions_refuted

  pub lines_grounded : All (IsGrounded given) items
  lines_grounded = refuted.0

  each_line : (P : TreeClause → Type 0) → ((g : Grounded) → g ∈ items → P (ground_clause given g)) → All P (map (clause_at bank) (clauses_of lines))
  each_line P each = transport (All P) (sym line_trees) (in_all P (map (ground_clause given) items) (λ c i. let (g, j, e) = from_map (ground_clause given) c items i in transport P e (each g j)))

  formed_line : (c : TreeClause) → c ∈ map (clause_at bank) (clauses_of lines) → IsFormedClause c
  formed_line c i = all_in IsFormedClause (map (clause_at bank) (clauses_of lines)) (each_line IsFormedClause (λ g j.
      (all_in (λ (g : Grounded). IsFormedClause (ground_clause given g) × All (Contains (constant ∷ occurrences given)) (clause_symbols (ground_clause given g))) items
      (contents_of_grounds constant given events h.state k.made (all_formed clauses h.printable) h.constant h.replays told) g j).0)) c i

  pub refuted_lines : AreRefutedLines bank lines
  refuted_lines = record {
    whole = in_all (IsWholeClause bank) (clauses_of lines) (λ c i.
        whole_at bank c (clause_at bank c) (all_in (IsClauseOf bank) (clauses_of lines) lines_in c i, refl) (formed_line (clause_at bank c) (in_map (clause_at bank) c (clauses_of lines) i)));
    grounded = each_line IsGround (λ g j. (grounded_clause given g (all_in (IsGrounded given) items refuted.0 g j)).0);
    once = each_line (λ c. distinct literal_eq c ≡ c) (λ g j. distinct_of_distinct literal_eq literal_eq_decides (ground_clause given g) (distinct_is_distinct literal_eq literal_eq_decides _));
    refuted = transport IsRefuted (sym line_trees) refuted.1;
  }
