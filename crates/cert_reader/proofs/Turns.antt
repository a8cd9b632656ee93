-- Which item is in turn where covers are named, and when all inputs and axioms are shown: what the lists say is what the items say.
use Rattle.std.proofs.Common.{◌≡◌, ℕ, zero, suc, ◌<◌, ◌^◌, true, List, [], ◌∷◌, ◌++◌, length, map, Some, Option, refl, sym, ap, ap₂, ◌∙◌, subst, arith, length-append}
use Rattle.std.specs.Prelude.{slice_get, All}
use Rattle.std.specs.Option.{option_map}
use Rattle.std.proofs.lemmas.Option.{slice_get-map}
use Rattle.std.proofs.lemmas.List.{append-nil, length-map, map-append}
use Rattle.std.proofs.lemmas.List.Elements.{All-head, All-tail}
use Rattle.inst_logic.specs.declared.signed.Signed.{Signed}
use Rattle.inst_logic.specs.Clauses.{TreeClause}
use Rattle.inst_logic.proofs.Numbers.{number_is, equal_numbers, is_less}
use Rattle.term_bank.specs.Forest.{Forest, clause_at, IsClauseOf}
use Rattle.cert_format.specs.LineMachine.{Note, named, equality, member, selected, ground_of, ground_by, shown_by, input_by, side_by, Item, Header, names_covers, base_clauses, shown_clauses, is_this, are_shown, in_turn, has_turn, is_complete}
use Rattle.cert_format.specs.ValueLines.{input_items, axiom_items, ground_items, line_items, step_items, shown_items, cover_items}
use Rattle.cert_format.proofs.LineMachine.{clause_eq_yes, clause_eq_itself, count_shown, met, asked}
use Rattle.cert_format.proofs.LineTexts.{ground_ranks, line_ranks, step_ranks, shown_ranks, cover_ranks}
use Rattle.cert_format.proofs.Spelling.{small_number}
use Rattle.cert_format.proofs.ItemGroups.{base_other}
use Rattle.cert_format.proofs.ValueRuns.{base_append, base_inputs, base_axioms}
use Rattle.cert_values.specs.Values.{entry_of, line_of, step_of, by_of, cover_of}
use Rattle.cert_values.specs.Wholes.{IsWholeClause}
use Rattle.cert_items.specs.Items.{shape_of, group_of}
use Rattle.cert_items.specs.declared.group.Group.{Group}
use Rattle.cert_items.specs.declared.group.Group.TheVariants as kinds
use Rattle.cert_items.specs.declared.shape.TextShape.{TextShape}
use Rattle.cert_reader.specs.declared.groups.Groups.{Groups}
use Rattle.cert_reader.specs.Groups.{base_count, names_in, items_of, members_by, IsAllShown, IsNextOf, IsInTurn, TakesTurn, AreGroups}
use Rattle.cert_reader.proofs.Pushes.{counts, member_group}

-- ---- the inputs and axioms among the items

both_empty : (is js : List Item) → base_clauses is ≡ [] → base_clauses js ≡ [] → base_clauses (is ++ js) ≡ []
both_empty is js h k = base_append is js ∙ ap₂ (λ (xs ys : List TreeClause). xs ++ ys) h k

pub base_is : (s : TextShape) (f : Forest) (g : Groups) → AreGroups s f g → base_clauses (items_of s f g) ≡ map (clause_at f) (g.inputs ++ g.axioms)
base_is s f g p =
    let as_inputs = input_items (map (clause_at f) g.inputs) g.names in
    let as_axioms = axiom_items (map (clause_at f) g.axioms) in
    let as_members = members_by s (map (entry_of f) g.members) g.places in
    let as_grounds = ground_items (map (clause_at f) g.grounds) in
    let as_lines = line_items (map (line_of f) g.lines) in
    let as_steps = step_items (map (step_of f) g.steps) in
    let as_shown = shown_items (map (clause_at f) g.inputs ++ map (clause_at f) g.axioms) (map (by_of f) g.shown) in
    let as_covers = cover_items (map (cover_of f) g.covers) in
    let rest =
    both_empty as_members ((as_grounds ++ as_lines) ++ (as_steps ++ (as_shown ++ as_covers))) (base_other 2 refl as_members (member_group s.refutation s.format (map (entry_of f) g.members) g.places))
    (both_empty (as_grounds ++ as_lines) (as_steps ++ (as_shown ++ as_covers)) (both_empty as_grounds as_lines (base_other 3 refl as_grounds (ground_ranks (map (clause_at f) g.grounds))) (base_other 3 refl as_lines (line_ranks (map (line_of f) g.lines))))
    (both_empty as_steps (as_shown ++ as_covers) (base_other 4 refl as_steps (step_ranks (map (step_of f) g.steps)))
    (both_empty as_shown as_covers (base_other 5 refl as_shown (shown_ranks (map (clause_at f) g.inputs ++ map (clause_at f) g.axioms) (map (by_of f) g.shown))) (base_other 6 refl as_covers (cover_ranks (map (cover_of f) g.covers)))))) in
    let first = base_inputs (map (clause_at f) g.inputs) g.names (p.named ∙ sym (length-map g.inputs (clause_at f))) in
    let second = base_axioms (map (clause_at f) g.axioms) in
    base_append as_inputs (as_axioms ++ (as_members ++ ((as_grounds ++ as_lines) ++ (as_steps ++ (as_shown ++ as_covers)))))
    ∙ ap₂ (λ (xs ys : List TreeClause). xs ++ ys) first (base_append as_axioms (as_members ++ ((as_grounds ++ as_lines) ++ (as_steps ++ (as_shown ++ as_covers)))) ∙ ap₂ (λ (xs ys : List TreeClause). xs ++ ys) second rest ∙ append-nil (map (clause_at f) g.axioms))
    ∙ sym (map-append (clause_at f) g.inputs g.axioms)

-- ---- how many

base_length : (s : TextShape) (f : Forest) (g : Groups) → AreGroups s f g → length (base_clauses (items_of s f g)) ≡ base_count g
base_length s f g p = ap length (base_is s f g p) ∙ length-map (g.inputs ++ g.axioms) (clause_at f) ∙ length-append g.inputs g.axioms

shown_count : (s : TextShape) (f : Forest) (g : Groups) → AreGroups s f g → length (shown_clauses (items_of s f g)) ≡ length g.shown
shown_count s f g p = sym (count_shown (items_of s f g)) ∙ counts s.refutation s.format f g p kinds.Shown

all_shown : (s : TextShape) (f : Forest) (g : Groups) → AreGroups s f g → IsAllShown g → are_shown (items_of s f g) ≡ true
all_shown s f g p h = equal_numbers (length (shown_clauses (items_of s f g))) (length (base_clauses (items_of s f g))) (shown_count s f g p ∙ sym h ∙ sym (base_length s f g p))

from_shown : (s : TextShape) (f : Forest) (g : Groups) → AreGroups s f g → are_shown (items_of s f g) ≡ true → IsAllShown g
from_shown s f g p h = sym (base_length s f g p) ∙ sym (number_is (length (shown_clauses (items_of s f g))) (length (base_clauses (items_of s f g))) h) ∙ shown_count s f g p

-- ---- the end

names_same : (h : Header) (s : TextShape) → shape_of h ≡ s → names_covers h ≡ names_in s
names_same h s e = ap names_in e

pub complete_is : (h : Header) (s : TextShape) (f : Forest) (g : Groups) → shape_of h ≡ s → AreGroups s f g → (names_in s ≡ true → IsAllShown g) → is_complete h (items_of s f g) ≡ true
complete_is h s f g e p all = met (names_covers h) (are_shown (items_of s f g)) (λ n. all_shown s f g p (all (sym (names_same h s e) ∙ n)))

pub from_complete : (h : Header) (s : TextShape) (f : Forest) (g : Groups) → shape_of h ≡ s → AreGroups s f g → is_complete h (items_of s f g) ≡ true → names_in s ≡ true → IsAllShown g
from_complete h s f g e p c n = from_shown s f g p (asked (names_covers h) (are_shown (items_of s f g)) (names_same h s e ∙ n) c)

-- ---- the next clause

-- clauses of the bank are known by their trees
abbrev pub AreApart : Forest → Type 0
AreApart f = (c d : List (Signed ℕ)) → IsClauseOf f c → IsClauseOf f d → clause_at f c ≡ clause_at f d → c ≡ d

next_yes : (f : Forest) (cs : List (List (Signed ℕ))) (n : ℕ) (c : List (Signed ℕ)) → slice_get cs n ≡ Some c → is_this (slice_get (map (clause_at f) cs) n) (clause_at f c) ≡ true
next_yes f cs n c h = ap (λ (o : Option TreeClause). is_this o (clause_at f c)) (slice_get-map (clause_at f) cs n ∙ ap (option_map (clause_at f)) h) ∙ clause_eq_itself (clause_at f c)

next_from : (f : Forest) → AreApart f → (cs : List (List (Signed ℕ))) (n : ℕ) (c : List (Signed ℕ)) → All (IsWholeClause f) cs → IsWholeClause f c → is_this (slice_get (map (clause_at f) cs) n) (clause_at f c) ≡ true → slice_get cs n ≡ Some c
next_from f apart [] n c h w t = absurd cc
next_from f apart (d ∷ cs) zero c h w t = ap Some (apart d c (All-head (IsWholeClause f) d cs h).ids w.ids (clause_eq_yes (clause_at f d) (clause_at f c) t))
next_from f apart (d ∷ cs) (suc n) c h w t = next_from f apart cs n c (All-tail (IsWholeClause f) d cs h) w t

-- ---- what is in turn

module _ (s : TextShape) (f : Forest) (g : Groups) (p : AreGroups s f g) (c : List (Signed ℕ)) where
  turn_yes : (note : Note) (k : Group) → group_of note ≡ k → IsInTurn k g c → in_turn (items_of s f g) (clause_at f c) note ≡ true
  turn_yes (named w) k e t =
      let u : suc (base_count g) < 2 ^ 64 = subst (λ (j : Group). IsInTurn j g c) (sym e) t in
      small_number (suc (length (base_clauses (items_of s f g)))) (let l = base_length s f g p in omega arith)
  turn_yes equality k e t =
      let u : suc (base_count g) < 2 ^ 64 = subst (λ (j : Group). IsInTurn j g c) (sym e) t in
      small_number (suc (length (base_clauses (items_of s f g)))) (let l = base_length s f g p in omega arith)
  turn_yes (member o) k e t = refl
  turn_yes (selected o n) k e t = refl
  turn_yes ground_of k e t = refl
  turn_yes (ground_by n ts) k e t = refl
  turn_yes (shown_by hs) k e t = refl
  turn_yes (input_by by) k e t =
      let u : IsNextOf g c = subst (λ (j : Group). IsInTurn j g c) (sym e) t in
      ap₂ (λ (xs : List TreeClause) (n : ℕ). is_this (slice_get xs n) (clause_at f c)) (base_is s f g p) (shown_count s f g p) ∙ next_yes f (g.inputs ++ g.axioms) (length g.shown) c u
  turn_yes (side_by l r d by) k e t = all_shown s f g p (subst (λ (j : Group). IsInTurn j g c) (sym e) t)

  turn_from : AreApart f → IsWholeClause f c → All (IsWholeClause f) (g.inputs ++ g.axioms) → (note : Note) (k : Group) → group_of note ≡ k → in_turn (items_of s f g) (clause_at f c) note ≡ true → IsInTurn k g c
  turn_from apart w all (named n) k e t =
      subst (λ (j : Group). IsInTurn j g c) e (let l = is_less (suc (length (base_clauses (items_of s f g)))) (2 ^ 64) t in let m = base_length s f g p in omega arith)
  turn_from apart w all equality k e t =
      subst (λ (j : Group). IsInTurn j g c) e (let l = is_less (suc (length (base_clauses (items_of s f g)))) (2 ^ 64) t in let m = base_length s f g p in omega arith)
  turn_from apart w all (member o) k e t = subst (λ (j : Group). IsInTurn j g c) e tt
  turn_from apart w all (selected o n) k e t = subst (λ (j : Group). IsInTurn j g c) e tt
  turn_from apart w all ground_of k e t = subst (λ (j : Group). IsInTurn j g c) e tt
  turn_from apart w all (ground_by n ts) k e t = subst (λ (j : Group). IsInTurn j g c) e tt
  turn_from apart w all (shown_by hs) k e t = subst (λ (j : Group). IsInTurn j g c) e tt
  turn_from apart w all (input_by by) k e t =
      subst (λ (j : Group). IsInTurn j g c) e
      (next_from f apart (g.inputs ++ g.axioms) (length g.shown) c all w
      (sym (ap₂ (λ (xs : List TreeClause) (n : ℕ). is_this (slice_get xs n) (clause_at f c)) (base_is s f g p) (shown_count s f g p)) ∙ t))
  turn_from apart w all (side_by l r d by) k e t = subst (λ (j : Group). IsInTurn j g c) e (from_shown s f g p t)

  pub has_turn_is : (h : Header) (note : Note) (k : Group) → shape_of h ≡ s → group_of note ≡ k → TakesTurn s k g c → has_turn h (items_of s f g) (clause_at f c) note ≡ true
  has_turn_is h note k e group_is t = met (names_covers h) (in_turn (items_of s f g) (clause_at f c) note) (λ n. turn_yes note k group_is (t (sym (names_same h s e) ∙ n)))

  pub from_turn : AreApart f → IsWholeClause f c → All (IsWholeClause f) (g.inputs ++ g.axioms) → (h : Header) (note : Note) (k : Group) → shape_of h ≡ s → group_of note ≡ k → has_turn h (items_of s f g) (clause_at f c) note ≡ true → TakesTurn s k g c
  from_turn apart w all h note k e group_is t n = turn_from apart w all note k group_is (asked (names_covers h) (in_turn (items_of s f g) (clause_at f c) note) (names_same h s e ∙ n) t)
