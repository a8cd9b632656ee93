-- The entries of a run are made as their records tell, whichever most general unifier is found anew.
use Rattle.std.proofs.Common.{◌≡◌, ℕ, zero, suc, ◌+◌, ◌<◌, ◌≤◌, List, [], ◌∷◌, ◌++◌, inl, inr, refl, sym, ap, ap₂, ◌∙◌, subst as transport, map, take, length, get_or, arith, All, Some}
use Rattle.std.specs.Prelude.{option_map}
use Rattle.inst_logic.specs.declared.symbol.Sym.{Sym}
use Rattle.inst_logic.specs.declared.signed.Signed.{Signed}
use Rattle.inst_logic.specs.Tree.{Tree, var}
use Rattle.inst_logic.specs.Clauses.{TreeClause, canonical_form, instance, order_of, IsCanonical}
use Rattle.inst_logic.specs.Derivations.{at_number}
use Rattle.inst_logic.specs.Unifiers.{Sided, IsMostGeneral, IsUnifier}
use Rattle.inst_logic.specs.WellFormed.{IsAtom}
use Rattle.inst_logic.proofs.Items.{slice_get_push}
use Rattle.inst_logic.proofs.Numbering.{map_map}
use Rattle.inst_logic.proofs.ShownLaws.{at_number_contains}
use Rattle.inst_calculus.specs.Conclusions.{IsConclusion, IsPartOfConclusion}
use Rattle.inst_calculus.specs.Parts.{chosen}
use Rattle.inst_calculus.specs.Entries as origins
use Rattle.inst_calculus.specs.Entries.{Entry, entry_clauses}
use Rattle.inst_calculus.specs.Unrolling as trees
use Rattle.inst_calculus.specs.Unrolling.{How as TreeHow, given, instance_of, implied_by, made_clauses, conclusion_terms, part_terms, TellsHow, AreRecords, IsMade, AreMade, CitesBelow, HasOwnVariables}
use Rattle.inst_calculus.proofs.CanonicalVariables.{canonical_term}
use Rattle.inst_calculus.proofs.Choice.{instance_of_choice, terms_of_choice}
use Rattle.inst_calculus.proofs.Distinct.{length_map, map_append}
use Rattle.inst_calculus.proofs.Items.{same_item, at_number_within}
use Rattle.inst_calculus.proofs.Membership.{◌∈◌, contains_in, all_in, in_all}
use Rattle.inst_calculus.proofs.ProperParts.{item_behind}
use Rattle.inst_calculus.proofs.StepLaws.{at_number_map}
use Rattle.inst_calculus.proofs.UnrolledTerms.{told_has_own_variables}
use Rattle.cert_format.proofs.Numbers.{in_slice_get}
use Rattle.term_bank.specs.Forest.{Forest, Extends, AreIds, IsClauseOf, clause_at, literal_tree, tree_at}
use Rattle.term_bank.proofs.Clauses.{clause_extends}
use Rattle.term_bank.proofs.Growth.{ids_extend, map_extends}
use Rattle.unify_core.specs.Terms.{AreOfOneKind}
use Rattle.clause_form.specs.Conclusions.{AreTermIds, AreTermsOf, made_canonical}
use Rattle.global_subs.specs.declared.made.How.{How}
use Rattle.global_subs.specs.declared.made.How.TheVariants as made
use Rattle.global_subs.specs.declared.made.How.TheVariants.{Given, From}
use Rattle.global_subs.specs.declared.made.Made.{Made}
use Rattle.global_subs.specs.Unrolls.{how_at, made_at, entries_at, terms_of, HasAllTerms, AreEntriesOf}
use Rattle.cert_values.specs.declared.member.Origin.{Origin}
use Rattle.cert_values.specs.declared.member.Origin.TheVariants.{Inst, Lemma}
use Rattle.cert_values.specs.Values.{origin_of}
use Rattle.instgen_run.specs.Clauses.{Item, AreEntries, entries_in}
use Rattle.instgen_loop.specs.Records.{IsConcluded, AreConcluded, IsRecord, AreRecordsOf}
use Rattle.instgen_run.proofs.Decisions.{take_next}
use Rattle.instgen_run.proofs.Grown.{entries_stay}
use Rattle.instgen_loop.proofs.LineLaws.{terms_later}

abbrev pub entry_of_item : Forest → Item → Entry
entry_of_item f e = record { clause = clause_at f e.0; origin = origin_of e.1 }

-- Conclusions over the bank

module _ (f : Forest) (es : List Item) (from place partner other : ℕ) (c : TreeClause) (k : IsConclusion (entries_in f es) from place partner other c) where
  -- the clause of entry n
  clause_is : (n : ℕ) (item : Item) (e : Entry) → at_number (entries_in f es) n ≡ Some e → at_number es n ≡ Some item → e.clause ≡ clause_at f item.0
  clause_is n item e at there =
      ap (λ (x : Entry). x.clause) (same_item (at_number (entries_in f es) n) e (entry_of_item f item) at (at_number_map (entry_of_item f) es n ∙ ap (option_map (entry_of_item f)) there))

  -- its literal at the place
  literal_is : (n p : ℕ) (item : Item) (e : Entry) (l : Signed ℕ) (t : Signed Tree) → at_number (entries_in f es) n ≡ Some e → at_number es n ≡ Some item → at_number e.clause p ≡ Some t
      → at_number item.0 p ≡ Some l → t ≡ literal_tree f l
  literal_is n p item e l t at there t_at l_at =
      same_item (at_number (clause_at f item.0) p) t (literal_tree f l) (ap (λ d. at_number d p) (sym (clause_is n item e at there)) ∙ t_at)
      (at_number_map (literal_tree f) item.0 p ∙ ap (option_map (literal_tree f)) l_at)

  numbered_within : (xs : List Item) (n : ℕ) (e : Entry) → at_number (entries_in f xs) n ≡ Some e → (0 < n) × (n ≤ length xs)
  numbered_within xs zero e at = absurd cc
  numbered_within xs (suc i) e at = (omega arith, let a = at_number_within (entries_in f xs) (suc i) e at in omega (arith, length_map (entry_of_item f) xs))

  pub first_within : (0 < from) × (from ≤ length es)
  first_within = numbered_within es from k.entry k.entry_at

  pub second_within : (0 < partner) × (partner ≤ length es)
  second_within = numbered_within es partner k.partner_entry k.partner_at

  place_within : (n p : ℕ) (item : Item) (e : Entry) (t : Signed Tree) → at_number (entries_in f es) n ≡ Some e → at_number es n ≡ Some item → at_number e.clause p ≡ Some t → (0 < p) × (p ≤ length item.0)
  place_within n zero item e t at there t_at = absurd cc
  place_within n (suc i) item e t at there t_at =
      let a = at_number_within (clause_at f item.0) (suc i) t (ap (λ d. at_number d (suc i)) (sym (clause_is n item e at there)) ∙ t_at) in
      (omega arith, omega (arith, length_map (literal_tree f) item.0))

  pub first_place : (item : Item) → at_number es from ≡ Some item → (0 < place) × (place ≤ length item.0)
  first_place item there = place_within from place item k.entry k.literal k.entry_at there k.literal_at

  pub second_place : (item : Item) → at_number es partner ≡ Some item → (0 < other) × (other ≤ length item.0)
  second_place item there = place_within partner other item k.partner_entry k.other_literal k.partner_at there k.other_at

  module _ (first second : Item) (a b : Signed ℕ) (first_at : at_number es from ≡ Some first) (second_at : at_number es partner ≡ Some second)
      (a_at : at_number first.0 place ≡ Some a) (b_at : at_number second.0 other ≡ Some b) where
    first_literal : k.literal ≡ literal_tree f a
    first_literal = literal_is from place first k.entry a k.literal k.entry_at first_at k.literal_at a_at

    second_literal : k.other_literal ≡ literal_tree f b
    second_literal = literal_is partner other second k.partner_entry b k.other_literal k.partner_at second_at k.other_at b_at

    general : IsMostGeneral k.unifier (tree_at f a.atom) (tree_at f b.atom)
    general =
        transport (λ (l : Signed Tree). IsMostGeneral k.unifier (tree_at f a.atom) l.atom) second_literal
        (transport (λ (l : Signed Tree). IsMostGeneral k.unifier l.atom k.other_literal.atom) first_literal k.most_general)

    -- the literals unify
    pub has_unifier : ((s : Sided) → ¬ IsUnifier s (tree_at f a.atom) (tree_at f b.atom)) → ⊥
    has_unifier none = none k.unifier general.unifies

    -- the terms under another most general unifier
    pub terms_are : (g : Forest) (s : Sided) (ids : List ℕ) → IsCanonical (clause_at f first.0) → IsMostGeneral s (tree_at f a.atom) (tree_at f b.atom) → AreTermsOf g s.left (clause_at f first.0) ids
        → map (tree_at g) ids ≡ conclusion_terms k.unifier.left k.entry.clause
    terms_are g s ids canonical most h =
        by_items (map (tree_at g) ids) (conclusion_terms s.left d) (length_map (tree_at g) ids ∙ h.each ∙ sym (length_map (made_canonical s.left d) (order_of d)))
        (λ v l.
        let l2 : v < length ids = let q = length_map (tree_at g) ids in omega arith in
        term_at ids v l2 ∙ (h.become v l2).1 ∙ sym (canonical_term (made_canonical s.left d) d v (var 0) canonical (let q = h.each in omega arith)))
        ∙ terms_of_choice (tree_at f a.atom) (tree_at f b.atom) s k.unifier most general d
        ∙ ap (conclusion_terms k.unifier.left) (sym (clause_is from first k.entry k.entry_at first_at))
      where
        d : TreeClause
        d = clause_at f first.0

        term_at : (xs : List ℕ) (v : ℕ) → v < length xs → get_or (map (tree_at g) xs) v (var 0) ≡ tree_at g (get_or xs v 0)
        term_at [] v l = absurd (omega arith)
        term_at (x ∷ xs) zero l = refl
        term_at (x ∷ xs) (suc v) l = term_at xs v (omega arith)

        by_items : (xs ys : List Tree) → length xs ≡ length ys → ((i : ℕ) → i < length xs → get_or xs i (var 0) ≡ get_or ys i (var 0)) → xs ≡ ys
        by_items [] [] e h = refl
        by_items [] (y ∷ ys) e h = absurd (omega arith)
        by_items (x ∷ xs) [] e h = absurd (omega arith)
        by_items (x ∷ xs) (y ∷ ys) e h = ap₂ (λ a b. a ∷ b) (h 0 (omega arith)) (by_items xs ys (omega arith) (λ i l. h (suc i) (omega arith)))

    -- the clause under another most general unifier
    pub clause_concluded : (g : Forest) (s : Sided) (d : List (Signed ℕ)) → IsMostGeneral s (tree_at f a.atom) (tree_at f b.atom) → clause_at g d ≡ canonical_form (instance s.left (clause_at f first.0)) → clause_at g d ≡ c
    clause_concluded g s d most made =
        made ∙ (instance_of_choice (tree_at f a.atom) (tree_at f b.atom) s k.unifier most general (clause_at f first.0)).0
        ∙ ap (λ e. canonical_form (instance k.unifier.left e)) (sym (clause_is from first k.entry k.entry_at first_at)) ∙ sym k.conclusion

-- the atom of a literal of an entry
pub atom_within : (f : Forest) (es : List Item) → AreEntries f es → (n p : ℕ) (item : Item) (l : Signed ℕ) → at_number es n ≡ Some item → at_number item.0 p ≡ Some l → (l.atom < length f.trees) × IsAtom (tree_at f l.atom)
atom_within f es entries n p item l at here =
    let i = contains_in item es (at_number_contains es n item at) in
    let j = contains_in l item.0 (at_number_contains item.0 p l here) in (
      all_in (λ (x : Signed ℕ). x.atom < length f.trees) item.0 (all_in (λ (x : Item). IsClauseOf f x.0) es entries.ids item i) l j,
      all_in (λ (x : Signed ℕ). IsAtom (tree_at f x.atom)) item.0 (all_in (λ (x : Item). All (λ l. IsAtom (tree_at f l.atom)) x.0) es entries.atoms item i) l j,
    )

-- two literals of entries are both atoms
pub one_kind : (f : Forest) (es : List Item) → AreEntries f es → (from place partner other : ℕ) (first second : Item) (a b : Signed ℕ) → at_number es from ≡ Some first → at_number es partner ≡ Some second
    → at_number first.0 place ≡ Some a → at_number second.0 other ≡ Some b → AreOfOneKind (tree_at f a.atom) (tree_at f b.atom)
one_kind f es entries from place partner other first second a b first_at second_at a_at b_at =
    inl ((atom_within f es entries from place first a first_at a_at).1, (atom_within f es entries partner other second b second_at b_at).1)

-- what an origin that names two entries tells
pub told_whole : (bot : Sym) (es : List Entry) (o : Origin) (from place partner other : ℕ) (c : TreeClause) (h : TreeHow) → o ≡ Inst from place partner other
    → ((k : IsConclusion es from place partner other c) → h ≡ instance_of from (conclusion_terms k.unifier.left k.entry.clause)) → IsConcluded es o c → TellsHow bot es (origin_of o) c h
told_whole bot es o from place partner other c h e terms =
    transport (λ (x : Origin). IsConcluded es x c → TellsHow bot es (origin_of x) c h) (sym e) (λ k. (k, terms k))

pub told_part : (bot : Sym) (es : List Entry) (o : Origin) (from place partner other : ℕ) (keep premises : List ℕ) (c : TreeClause) (h : TreeHow) → o ≡ Lemma from place partner other keep premises
    → ((p : IsPartOfConclusion es from place partner other keep c) → h ≡ implied_by premises (part_terms bot p.whole (chosen p.whole keep))) → IsConcluded es o c → TellsHow bot es (origin_of o) c h
told_part bot es o from place partner other keep premises c h e terms =
    transport (λ (x : Origin). IsConcluded es x c → TellsHow bot es (origin_of x) c h) (sym e) (λ k. (k, terms k))

-- Records as the bank grows

how_extends : (f g : Forest) → Extends f g → (h : How) → AreIds f (terms_of h) → how_at g h ≡ how_at f h
how_extends f g e (Given k) ids = refl
how_extends f g e (From from terms) ids = ap (instance_of from) (map_extends f g terms e ids)
how_extends f g e (made.Lemma terms premises) ids = ap (implied_by premises) (map_extends f g terms e ids)

pub entry_ids : (f : Forest) (es : List Item) → AreEntries f es → (e : Item) → e ∈ es → IsClauseOf f e.0
entry_ids f es h e i = all_in (λ (x : Item). IsClauseOf f x.0) es h.ids e i

module _ (f g : Forest) (e : Extends f g) (es : List Item) (entries : AreEntries f es) where
  pub same_entries : entries_in g es ≡ entries_in f es
  same_entries = entries_stay f g e es (entry_ids f es entries)

  same_clause : (n : ℕ) (item : Item) → at_number es n ≡ Some item → clause_at g item.0 ≡ clause_at f item.0
  same_clause n item at = clause_extends f g e item.0 (entry_ids f es entries item (contains_in item es (at_number_contains es n item at)))

  pub record_extends : (bot : Sym) (n : ℕ) (m : Made) → IsRecord bot f es n m → IsRecord bot g es n m
  record_extends bot n m h = record {
    item = h.item;
    item_at = h.item_at;
    clause = h.clause;
    ids = ids_extend f g (terms_of m.how) e h.ids;
    terms = terms_later f g e (terms_of m.how) h.ids h.terms;
    told =
        transport (TellsHow bot (entries_in g es) (origin_of h.item.1) (clause_at g h.item.0)) (sym (how_extends f g e m.how h.ids))
        (transport (λ c. TellsHow bot (entries_in g es) (origin_of h.item.1) c (how_at f m.how)) (sym (same_clause n h.item h.item_at))
        (transport (λ (xs : List Entry). TellsHow bot xs (origin_of h.item.1) (clause_at f h.item.0) (how_at f m.how)) (sym same_entries) h.told));
  }

  pub concluded_extends : AreConcluded f es → AreConcluded g es
  concluded_extends h n item at =
      transport (λ c. IsConcluded (entries_in g es) item.1 c) (sym (same_clause n item at)) (transport (λ (xs : List Entry). IsConcluded xs item.1 (clause_at f item.0)) (sym same_entries) (h n item at))

  -- what was told over the bank as it was is told over the grown one
  pub record_made : (bot : Sym) (n : ℕ) (item : Item) (o : Origin) (m : Made) → at_number es n ≡ Some item → item.1 ≡ o → m.clause ≡ item.0 → AreIds g (terms_of m.how) → AreTermIds g (terms_of m.how)
      → TellsHow bot (entries_in f es) (origin_of o) (clause_at f item.0) (how_at g m.how) → IsRecord bot g es n m
  record_made bot n item o m at origin clause ids terms told = record {
    item = item;
    item_at = at;
    clause = clause;
    ids = ids;
    terms = terms;
    told =
        transport (λ (x : Origin). TellsHow bot (entries_in g es) (origin_of x) (clause_at g item.0) (how_at g m.how)) (sym origin)
        (transport (λ c. TellsHow bot (entries_in g es) (origin_of o) c (how_at g m.how)) (sym (same_clause n item at))
        (transport (λ (xs : List Entry). TellsHow bot xs (origin_of o) (clause_at f item.0) (how_at g m.how)) (sym same_entries) told));
  }

-- one more
pub one_more_record : (bot : Sym) (f g : Forest) (es : List Item) (made : List Made) (n : ℕ) (m : Made) → Extends f g → AreEntries f es → length made ≡ n → ((k : ℕ) (x : Made) → at_number made k ≡ Some x → IsRecord bot f es k x)
    → IsRecord bot g es (n + 1) m → (k : ℕ) (x : Made) → at_number (made ++ m ∷ []) k ≡ Some x → IsRecord bot g es k x
one_more_record bot f g es made n m e entries count old new zero x at = absurd cc
one_more_record bot f g es made n m e entries count old new (suc i) x at = elim (slice_get_push made m i x at) [
  | inl p ↦ record_extends f g e es entries bot (suc i) x (old (suc i) x p.0)
  | inr p ↦ let q : n + 1 ≡ suc i = omega (arith, p.0, count) in transport (IsRecord bot g es (suc i)) p.1 (transport (λ j. IsRecord bot g es j m) q new)
]

-- one more clause
pub clauses_so_far : (es : List Item) (made : List Made) (i : ℕ) (m : Made) (item : Item) → map (λ (x : Made). x.clause) made ≡ map (λ (e : Item). e.0) (take i es) → at_number es (i + 1) ≡ Some item → m.clause ≡ item.0
    → map (λ (x : Made). x.clause) (made ++ m ∷ []) ≡ map (λ (e : Item). e.0) (take (i + 1) es)
clauses_so_far es made i m item so_far at is =
    let next : i + 1 ≡ suc i = omega arith in
    map_append (λ (x : Made). x.clause) made (m ∷ []) ∙ ap₂ (λ (xs ys : List (List (Signed ℕ))). xs ++ ys) so_far (ap (λ (x : List (Signed ℕ)). x ∷ []) is)
    ∙ sym (map_append (λ (e : Item). e.0) (take i es) (item ∷ []))
    ∙ sym (ap (map (λ (e : Item). e.0)) (ap (λ n. take n es) next ∙ take_next es i item (sym (ap (at_number es) next) ∙ at)))

-- The records as those of the calculus

pub number_of : (made : List Made) (m : Made) → m ∈ made → (n : ℕ) × (at_number made n ≡ Some m)
number_of made m i = let (k, at) = in_slice_get m made i in (suc k, at)

module _ (bot : Sym) (f : Forest) (es : List Item) (entries : AreEntries f es) (made : List Made) (h : AreRecordsOf bot f es made) where
  -- the record of entry n
  record_at : (n : ℕ) (m : trees.Made) → at_number (entries_at f made) n ≡ Some m → (x : Made) × IsRecord bot f es n x × (made_at f x ≡ m)
  record_at n m at = let (x, x_at, e) = item_behind (made_at f) made n m at in (x, h.each n x x_at, e)

  same_clauses : made_clauses (entries_at f made) ≡ entry_clauses (entries_in f es)
  same_clauses =
      map_map (λ (m : trees.Made). m.clause) (made_at f) made ∙ sym (map_map (clause_at f) (λ (m : Made). m.clause) made) ∙ ap (map (clause_at f)) h.clauses
      ∙ map_map (clause_at f) (λ (e : Item). e.0) es ∙ sym (map_map (λ (x : Entry). x.clause) (entry_of_item f) es)

  pub are_records : AreRecords bot (entries_in f es) (entries_at f made)
  are_records = record {
    clauses = same_clauses;
    told = λ n e m at also.
        let (x, k, q) = record_at n m also in
        let same : e ≡ entry_of_item f k.item = same_item (at_number (entries_in f es) n) e (entry_of_item f k.item) at (at_number_map (entry_of_item f) es n ∙ ap (option_map (entry_of_item f)) k.item_at) in
        transport (λ (y : Entry). TellsHow bot (entries_in f es) y.origin y.clause m.how) (sym same)
        (transport (λ (y : trees.Made). TellsHow bot (entries_in f es) (origin_of k.item.1) (clause_at f k.item.0) y.how) q k.told);
  }

  -- what an unrolled list asks of them, where they are made of clauses
  module _ (cs : List TreeClause) (right : AreMade bot cs (entries_at f made)) where
    cites : (n : ℕ) (c : TreeClause) (w : TreeHow) → IsMade bot cs (entries_at f made) n c w → CitesBelow n w
    cites n c (given k) r = tt
    cites n c (instance_of from terms) (below, m, at, e) = below
    cites n c (implied_by premises terms) (below, implied) = below

    all_terms : (o : origins.Origin) (c : TreeClause) (w : TreeHow) → TellsHow bot (entries_in f es) o c w → HasAllTerms (entries_at f made) w
    all_terms (origins.input k) c w e = transport (HasAllTerms (entries_at f made)) (sym e) tt
    all_terms (origins.inst from place partner other) c w (k, e) =
        let there : at_number (made_clauses (entries_at f made)) from ≡ Some k.entry.clause =
        ap (λ ds. at_number ds from) same_clauses ∙ at_number_map (λ (x : Entry). x.clause) (entries_in f es) from ∙ ap (option_map (λ (x : Entry). x.clause)) k.entry_at in
        let (m, at, q) = item_behind (λ (x : trees.Made). x.clause) (entries_at f made) from k.entry.clause there in
        transport (HasAllTerms (entries_at f made)) (sym e)
        (m, at, length_map (made_canonical k.unifier.left k.entry.clause) (order_of k.entry.clause) ∙ ap (λ d. length (order_of d)) (sym q))
    all_terms (origins.lemma from place partner other keep premises) c w (p, e) = transport (HasAllTerms (entries_at f made)) (sym e) tt

    pub are_entries : AreEntriesOf f made
    are_entries = record {
      clauses = in_all (λ (m : Made). IsClauseOf f m.clause) made (λ m i. let (n, at) = number_of made m i in let k = h.each n m at in
          transport (IsClauseOf f) (sym k.clause) (entry_ids f es entries k.item (contains_in k.item es (at_number_contains es n k.item k.item_at))));
      ids = in_all (λ (m : Made). AreIds f (terms_of m.how)) made (λ m i. let (n, at) = number_of made m i in (h.each n m at).ids);
      canonical = in_all (λ (m : Made). IsCanonical (clause_at f m.clause)) made (λ m i. let (n, at) = number_of made m i in let k = h.each n m at in
          transport (λ c. IsCanonical (clause_at f c)) (sym k.clause) (all_in (λ (x : Item). IsCanonical (clause_at f x.0)) es entries.canonical k.item (contains_in k.item es (at_number_contains es n k.item k.item_at))));
      cites = λ n m at. cites n m.clause m.how (right n m at);
      own = λ n m at.
          let (x, k, q) = record_at n m at in
          transport (λ (y : trees.Made). HasOwnVariables y.clause y.how) q
          (transport (λ c. HasOwnVariables (clause_at f c) (how_at f x.how)) (sym k.clause) (told_has_own_variables bot (entries_in f es) (origin_of k.item.1) (clause_at f k.item.0) (how_at f x.how) k.told));
      all_terms = λ n m at.
          let (x, k, q) = record_at n m at in
          transport (λ (y : trees.Made). HasAllTerms (entries_at f made) y.how) q (all_terms (origin_of k.item.1) (clause_at f k.item.0) (how_at f x.how) k.told);
    }
