-- A derivation over numbered atoms as one over their trees, in which hints name ground lines.
use Rattle.std.proofs.Common.{◌≡◌, inl, inr, ℕ, zero, suc, ◌-◌, ◌<◌, ◌≤◌, List, [], ◌∷◌, ◌++◌, refl, sym, ap, ◌∙◌, subst as transport, map, take, length, get_or, arith, nat_eq, Option, Some, None, All}
use Rattle.std.specs.Prelude.{slice_get, option_map, ◌≢◌}
use Rattle.std.proofs.lemmas.Bool.Decides.{Decides-eqb}
use Rattle.std.proofs.lemmas.List.{take-map}
use Rattle.std.proofs.lemmas.Option.{slice_get-map, slice_get-get_or}
use Rattle.inst_logic.specs.declared.symbol.Sym.{Sym}
use Rattle.inst_logic.specs.declared.signed.Signed.{Signed}
use Rattle.inst_logic.specs.Signed.{complement, IsTautology}
use Rattle.inst_logic.specs.Tree.{Tree, var}
use Rattle.inst_logic.specs.Equal.{literal_eq, signed_eq}
use Rattle.inst_logic.specs.Lists.{distinct}
use Rattle.inst_logic.specs.Clauses.{TreeClause}
use Rattle.inst_logic.specs.Derivations.{at_number, Closes, IsShown}
use Rattle.inst_logic.specs.WellFormed.{IsAtom}
use Rattle.inst_logic.proofs.SameLemmas.{signed_eq_decides, literal_eq_decides}
use Rattle.inst_logic.proofs.Numbering.{map_map}
use Rattle.inst_logic.proofs.Membership.{get_or_in, map_agree}
use Rattle.inst_calculus.specs.Abstraction.{abstraction, abstract_literals, named_literal}
use Rattle.inst_calculus.specs.Steps.{Cited, given, earlier, Step, cited_clause, IsShownFrom, EndsEmpty, renamed_clause, renamed_step, without_repeats, HasAtomsBelow}
use Rattle.inst_logic.proofs.ShownLaws.{slice_get_contains}
use Rattle.inst_calculus.proofs.Membership.{◌∈◌, contains_in, in_map, from_map, all_in, in_all}
use Rattle.inst_calculus.proofs.Distinct.{length_map, distinct_map, from_distinct}
use Rattle.inst_calculus.proofs.Items.{at_number_within}
use Rattle.inst_calculus.proofs.StepLaws.{shown_when_renamed_below}
use Rattle.inst_calculus.proofs.SameLiterals.{shown_without_repeats}
use Rattle.prop_logic.specs.declared.literal.Hint.{Hint}
use Rattle.prop_logic.specs.declared.literal.Hint.TheVariants as hint
use Rattle.prop_logic.specs.declared.literal.Step.{Step as NumberedStep}
use Rattle.prop_logic.specs.Literal.{cited, AtomsBelow, AllAtomsBelow, IsShownDerivation}
use Rattle.prop_logic.specs.Solving.{Refutes}
use Rattle.prop_logic.proofs.SearchLaws.{none_inside}
use Rattle.cert_format.proofs.Numbers.{slice_get_of_map, in_slice_get}
use Rattle.term_bank.specs.Forest.{Forest, AreDistinct, clause_at, literal_tree, tree_at}
use Rattle.term_bank.proofs.Clauses.{same_literal}
use Rattle.term_bank.proofs.Growth.{none_left}
use Rattle.ground_abs.specs.Abstracts.{atoms_in, AreAtomsIn}
use Rattle.ground_abs.specs.Numbers.{named}
use Rattle.ground_abs.proofs.Numbered.{named_trees}
use Rattle.cert_values.specs.Values.{hint_of, step_of}
use Rattle.cert_values.specs.Wholes.{IsWholeClause}
use Rattle.instgen_loop.specs.Refuting.{ground_clause, ground_hint, ground_step, IsHintWithin, AreHintsWithin}

-- Hints and steps as those of the calculus

abbrev cited_of : Hint → Cited
cited_of (hint.Added n) = given n
cited_of (hint.Step n) = earlier n

abbrev plain_step : NumberedStep → Step ℕ
plain_step s = record { clause = s.clause; hints = map cited_of s.hints }

hint_same : (gs : List (List (Signed ℕ))) (before : List NumberedStep) (h : Hint) → cited gs before h ≡ cited_clause gs (map plain_step before) (cited_of h)
hint_same gs before (hint.Added n) = refl
hint_same gs before (hint.Step n) = ap (λ cs. at_number cs n) (sym (map_map (λ (s : Step ℕ). s.clause) plain_step before))

hints_same : (gs : List (List (Signed ℕ))) (before : List NumberedStep) (hs : List Hint) → map (cited gs before) hs ≡ map (cited_clause gs (map plain_step before)) (map cited_of hs)
hints_same gs before hs =
    map_agree (cited gs before) (λ h. cited_clause gs (map plain_step before) (cited_of h)) hs (λ h i. hint_same gs before h) ∙ sym (map_map (cited_clause gs (map plain_step before)) cited_of hs)

steps_shown : (gs : List (List (Signed ℕ))) (ss : List NumberedStep) → IsShownDerivation gs ss → IsShownFrom gs (map plain_step ss)
steps_shown gs ss shown k t at =
    let (s, there, same) = slice_get_of_map plain_step ss k t at in
    transport (λ (x : Step ℕ). IsShown x.clause (map (cited_clause gs (take k (map plain_step ss))) x.hints)) same
    (transport (λ before. IsShown s.clause (map (cited_clause gs before) (map cited_of s.hints))) (sym (take-map plain_step k ss))
    (transport (IsShown s.clause) (hints_same gs (take k ss) s.hints) (shown k s there)))

empty_no_tautology : {A : Type 0} → ¬ IsTautology {A = A} []
empty_no_tautology (l, i, j) = omega (arith, i.1)

-- Literals of ids in a bank where equal trees have equal ids

repeats_dropped : (f : Forest) → AreDistinct f.trees → (ls : List (Signed ℕ)) → ((l : Signed ℕ) → l ∈ ls → l.atom < length f.trees) → clause_at f (distinct (signed_eq nat_eq) ls) ≡ distinct literal_eq (clause_at f ls)
repeats_dropped f once ls h =
    sym (distinct_map (signed_eq nat_eq) (signed_eq_decides nat_eq Decides-eqb) literal_eq literal_eq_decides (literal_tree f) ls (λ k i l j e. same_literal f once k l (h k i) (h l j) e))

-- Atoms by their numbers

module _ (f : Forest) (ids : List ℕ) (fits : AreAtomsIn f ids) where
  pub named_in : (c : List (Signed ℕ)) → AtomsBelow (length ids) c → (l : Signed ℕ) → l ∈ map (named ids) c → l.atom ∈ ids
  named_in c below l i =
      let (k, j, e) = from_map (named ids) l c i in
      transport (λ (x : Signed ℕ). x.atom ∈ ids) e (get_or_in ids k.atom 0 (all_in (λ (x : Signed ℕ). x.atom < length ids) c below k j))

  within : (a : ℕ) → a ∈ ids → a < length f.trees
  within a i = all_in (λ id. id < length f.trees) ids fits.within a i

  is_atom : (a : ℕ) → a ∈ ids → IsAtom (tree_at f a)
  is_atom a i = let (k, at) = in_slice_get (tree_at f a) (atoms_in f ids) (in_map (tree_at f) a ids i) in fits.atoms.formed k (tree_at f a) at

  in_ids : (c : List (Signed ℕ)) → AtomsBelow (length ids) c → (l : Signed ℕ) → l ∈ ground_clause ids c → l.atom ∈ ids
  in_ids c below l i = named_in c below l (from_distinct (signed_eq nat_eq) (signed_eq_decides nat_eq Decides-eqb) l (map (named ids) c) i)

  pub ground_whole : (c : List (Signed ℕ)) → AtomsBelow (length ids) c → IsWholeClause f (ground_clause ids c)
  ground_whole c below = record {
    ids = in_all (λ (l : Signed ℕ). l.atom < length f.trees) (ground_clause ids c) (λ l i. within l.atom (in_ids c below l i));
    atoms = in_all (λ (l : Signed ℕ). IsAtom (tree_at f l.atom)) (ground_clause ids c) (λ l i. is_atom l.atom (in_ids c below l i));
  }

  abbrev pub name : ℕ → Tree
  name n = get_or (atoms_in f ids) n (var 0)

  pub named_once : (m n : ℕ) → m < length ids → n < length ids → name m ≡ name n → m ≡ n
  named_once m n l k e =
      let count : length (atoms_in f ids) ≡ length ids = length_map (tree_at f) ids in
      fits.atoms.once m n (name n) (slice_get-get_or (atoms_in f ids) m (var 0) (omega (arith, count)) ∙ ap Some e) (slice_get-get_or (atoms_in f ids) n (var 0) (omega (arith, count)))

  pub ground_trees : AreDistinct f.trees → (c : List (Signed ℕ)) → AtomsBelow (length ids) c → clause_at f (ground_clause ids c) ≡ distinct literal_eq (renamed_clause name c)
  ground_trees once c below =
      let inside : (l : Signed ℕ) → l ∈ map (named ids) c → l.atom < length f.trees = λ l i. within l.atom (named_in c below l i) in
      repeats_dropped f once (map (named ids) c) inside
      ∙ ap (distinct literal_eq) (sym (named_trees f ids c below))

-- the step over trees, with the hints of the numbered one
abbrev tree_step : (ℕ → Tree) → NumberedStep → Step Tree
tree_step name s = without_repeats (renamed_step name (plain_step s))

-- and with hints that name lines
abbrev pub line_step : (ℕ → Tree) → List ℕ → NumberedStep → Step Tree
line_step name numbers s = record { clause = distinct literal_eq (renamed_clause name s.clause); hints = map hint_of (map (ground_hint numbers) s.hints) }

pub step_trees : (f : Forest) (ids : List ℕ) (fits : AreAtomsIn f ids) → AreDistinct f.trees → (numbers : List ℕ) (s : NumberedStep) → AtomsBelow (length ids) s.clause
    → step_of f (ground_step ids numbers s) ≡ line_step (name f ids fits) numbers s
step_trees f ids fits once numbers s below =
    let clause = ground_trees f ids fits once s.clause below in λ i. record { clause = clause i; hints = map hint_of (map (ground_hint numbers) s.hints) }

pub numbers_literals : (trees : List Tree) (bot : Sym) (cs : List TreeClause) (lits : List (List (Signed ℕ))) → map (map (named_literal trees)) lits ≡ map (abstract_literals bot) cs
    → map (distinct literal_eq) (map (map (named_literal trees)) lits) ≡ map (abstraction bot) cs
numbers_literals trees bot cs lits e = ap (map (distinct literal_eq)) e ∙ map_map (distinct literal_eq) (abstract_literals bot) cs

-- Hints that name a clause

closes_named : (F : List (Signed ℕ)) (o : Option (List (Signed ℕ))) (os : List (Option (List (Signed ℕ)))) → Closes F o os → (p : Option (List (Signed ℕ))) → p ∈ (o ∷ os) → p ≢ None
closes_named F None os h p i = absurd h
closes_named F (Some c) [] h p (inl e) = λ q. let w = sym e ∙ q in absurd cc
closes_named F (Some c) [] h p (inr i) = absurd i
closes_named F (Some c) (o ∷ os) h p (inl e) = λ q. let w = sym e ∙ q in absurd cc
closes_named F (Some c) (o ∷ os) (l, outside, rest) p (inr i) = closes_named (F ++ complement l ∷ []) o os rest p i

shown_named : (c : List (Signed ℕ)) (os : List (Option (List (Signed ℕ)))) → IsShown c os → (p : Option (List (Signed ℕ))) → p ∈ os → p ≢ None
shown_named c [] h p i = absurd i
shown_named c (o ∷ os) h p i = closes_named c o os h p i

named_within : (gs : List (List (Signed ℕ))) (before : List NumberedStep) (h : Hint) → cited gs before h ≢ None → IsHintWithin (length gs) h
named_within gs before (hint.Added zero) n = absurd (n refl)
named_within gs before (hint.Added (suc i)) n = (omega arith, go (slice_get gs i) refl)
  where
    go : (o : Option (List (Signed ℕ))) → slice_get gs i ≡ o → suc i ≤ length gs
    go None e = absurd (n e)
    go (Some c) e = at_number_within gs (suc i) c e
named_within gs before (hint.Step k) n = tt

pub hints_within : (gs : List (List (Signed ℕ))) (ss : List NumberedStep) → IsShownDerivation gs ss → AreHintsWithin (length gs) ss
hints_within gs ss shown = in_all (λ (s : NumberedStep). All (IsHintWithin (length gs)) s.hints) ss (λ s i.
    let (k, at) = in_slice_get s ss i in
    in_all (IsHintWithin (length gs)) s.hints (λ h j. named_within gs (take k ss) h (shown_named s.clause (map (cited gs (take k ss)) s.hints) (shown k s at) (cited gs (take k ss) h) (in_map (cited gs (take k ss)) h s.hints j))))

-- The derivation

module _ (f : Forest) (ids : List ℕ) (fits : AreAtomsIn f ids) (lits : List (List (Signed ℕ))) (steps : List NumberedStep) (lits_below : AllAtomsBelow (length ids) lits)
    (refutes : Refutes (length ids) lits [] [] steps) where
  abbrev names_of : ℕ → Tree
  names_of = name f ids fits

  abbrev abstractions : List TreeClause
  abstractions = map (distinct literal_eq) (map (renamed_clause names_of) lits)

  pub step_below : (s : NumberedStep) → s ∈ steps → AtomsBelow (length ids) s.clause
  step_below s i = all_in (λ (s : NumberedStep). AtomsBelow (length ids) s.clause) steps refutes.atoms_below s i

  numbered_shown : IsShownFrom lits (map plain_step steps)
  numbered_shown = steps_shown lits steps refutes.shown

  plain_below : All (λ (s : Step ℕ). HasAtomsBelow (length ids) s.clause) (map plain_step steps)
  plain_below = in_all (λ (s : Step ℕ). HasAtomsBelow (length ids) s.clause) (map plain_step steps) (λ t i.
      let (s, j, e) = from_map plain_step t steps i in transport (λ (x : Step ℕ). HasAtomsBelow (length ids) x.clause) e (step_below s j))

  trees_shown : IsShownFrom (map (renamed_clause names_of) lits) (map (renamed_step names_of) (map plain_step steps))
  trees_shown = (shown_when_renamed_below names_of (length ids) (named_once f ids fits) lits (map plain_step steps) lits_below plain_below).0 numbered_shown

  shown : IsShownFrom abstractions (map (tree_step names_of) steps)
  shown =
      transport (IsShownFrom abstractions)
      (ap (map without_repeats) (map_map (renamed_step names_of) plain_step steps) ∙ map_map without_repeats (λ s. renamed_step names_of (plain_step s)) steps)
      ((shown_without_repeats (map (renamed_clause names_of) lits) (map (renamed_step names_of) (map plain_step steps))).0 trees_shown)

  pub step_hinted : (numbers : List ℕ) (s : NumberedStep) → s ∈ steps → (line_step names_of numbers s).hints ≢ []
  step_hinted numbers s i =
      let hinted = all_in (λ (s : NumberedStep). s.hints ≢ []) steps (refutes.hinted empty_no_tautology) s i in
      none_left hint_of (map (ground_hint numbers) s.hints) (none_left (ground_hint numbers) s.hints hinted)

  pub ends : (numbers : List ℕ) → EndsEmpty (map (line_step names_of numbers) steps)
  ends numbers =
      let (s, at, inside, rest) = refutes.last in (
        line_step names_of numbers s,
        ap (λ n. slice_get (map (line_step names_of numbers) steps) (n - 1)) (length_map (line_step names_of numbers) steps) ∙ slice_get-map (line_step names_of numbers) steps (length steps - 1)
            ∙ ap (option_map (line_step names_of numbers)) at,
        ap (λ c. distinct literal_eq (renamed_clause names_of c)) (none_inside s.clause inside),
      )

  -- where the number that stands for each clause is that of a line with its abstraction
  module _ (lines : List TreeClause) (numbers : List ℕ) (named : (n : ℕ) → (0 < n) × (n ≤ length lits) → at_number lines (get_or numbers (n - 1) 0) ≡ at_number abstractions n) where
    clauses_same : (ss : List NumberedStep) → map (λ (s : Step Tree). s.clause) (map (line_step names_of numbers) ss) ≡ map (λ (s : Step Tree). s.clause) (map (tree_step names_of) ss)
    clauses_same ss = map_map (λ (s : Step Tree). s.clause) (line_step names_of numbers) ss ∙ sym (map_map (λ (s : Step Tree). s.clause) (tree_step names_of) ss)

    cited_same : (ss : List NumberedStep) (h : Hint) → IsHintWithin (length lits) h
        → cited_clause lines (map (line_step names_of numbers) ss) (hint_of (ground_hint numbers h)) ≡ cited_clause abstractions (map (tree_step names_of) ss) (cited_of h)
    cited_same ss (hint.Added n) within = named n within
    cited_same ss (hint.Step n) within = ap (λ cs. at_number cs n) (clauses_same ss)

    all_same : (ss : List NumberedStep) (hs : List Hint) → All (IsHintWithin (length lits)) hs
        → map (cited_clause lines (map (line_step names_of numbers) ss)) (map hint_of (map (ground_hint numbers) hs)) ≡ map (cited_clause abstractions (map (tree_step names_of) ss)) (map cited_of hs)
    all_same ss hs within =
        map_map (cited_clause lines (map (line_step names_of numbers) ss)) hint_of (map (ground_hint numbers) hs)
        ∙ map_map (λ h. cited_clause lines (map (line_step names_of numbers) ss) (hint_of h)) (ground_hint numbers) hs
        ∙ map_agree (λ h. cited_clause lines (map (line_step names_of numbers) ss) (hint_of (ground_hint numbers h))) (λ h. cited_clause abstractions (map (tree_step names_of) ss) (cited_of h)) hs
        (λ h i. cited_same ss h (all_in (IsHintWithin (length lits)) hs within h i))
        ∙ sym (map_map (cited_clause abstractions (map (tree_step names_of) ss)) cited_of hs)

    pub shown_from_lines : IsShownFrom lines (map (line_step names_of numbers) steps)
    shown_from_lines k t at =
        let (s, there, same) = slice_get_of_map (line_step names_of numbers) steps k t at in
        let i = contains_in s steps (slice_get_contains steps k s there) in
        let within = all_in (λ (s : NumberedStep). All (IsHintWithin (length lits)) s.hints) steps (hints_within lits steps refutes.shown) s i in
        let old = shown k (tree_step names_of s) (slice_get-map (tree_step names_of) steps k ∙ ap (option_map (tree_step names_of)) there) in
        transport (λ (x : Step Tree). IsShown x.clause (map (cited_clause lines (take k (map (line_step names_of numbers) steps))) x.hints)) same
        (transport (λ before. IsShown (distinct literal_eq (renamed_clause names_of s.clause)) (map (cited_clause lines before) (map hint_of (map (ground_hint numbers) s.hints)))) (sym (take-map (line_step names_of numbers) k steps))
        (transport (IsShown (distinct literal_eq (renamed_clause names_of s.clause))) (sym (all_same (take k steps) s.hints within))
        (transport (λ before. IsShown (distinct literal_eq (renamed_clause names_of s.clause)) (map (cited_clause abstractions before) (map cited_of s.hints))) (take-map (tree_step names_of) k steps) old)))
