-- One item more in the lists of the groups, and in the order of a text.
use Rattle.std.proofs.Common.{◌≡◌, ℕ, ◌+◌, suc, ◌≤◌, Bool, true, false, cond, List, [], ◌∷◌, ◌++◌, length, map, refl, sym, ap, ap₂, ◌∙◌, subst, arith, append_assoc, length-append, Some}
use Rattle.std.specs.Prelude.{nat_eq, not, ◌&&◌, slice_get}
use Rattle.std.specs.Option.{option_map}
use Rattle.std.proofs.lemmas.Option.{slice_get-map, slice_get_within}
use Rattle.std.proofs.lemmas.List.{append-nil, length-map, map_push, map-append, length_push, nil_from_length}
use Rattle.std.proofs.lemmas.List.Elements.{All-push}
use Rattle.inst_logic.specs.declared.signed.Signed.{Signed}
use Rattle.inst_logic.specs.Tree.{Tree}
use Rattle.inst_logic.specs.Clauses.{TreeClause}
use Rattle.inst_calculus.specs.Entries.{Entry}
use Rattle.inst_calculus.specs.Steps.{Step}
use Rattle.term_bank.specs.Forest.{Forest, AreFormed, Extends, clause_at, tree_at}
use Rattle.cert_format.specs.Certificate as format
use Rattle.cert_format.specs.Certificate.{By}
use Rattle.cert_format.specs.LineMachine.{named, equality, member, selected, ground_of, ground_by, shown_by, input_by, side_by, rank, Item, fits, count, last_rank}
use Rattle.cert_format.specs.ValueLines.{input_items, axiom_items, member_items, selected_items, ground_items, line_items, step_items, shown_items, cover_items}
use Rattle.cert_format.proofs.LineTexts.{input_ranks, axiom_ranks, member_ranks, selected_ranks, ground_ranks, line_ranks, step_ranks, shown_ranks, cover_ranks}
use Rattle.cert_format.proofs.GroupItems.{last_push, all_append, axioms_length, members_length, grounds_length, steps_length}
use Rattle.cert_values.specs.declared.certificate.By as bys
use Rattle.cert_values.specs.declared.certificate.GroundStep.{GroundStep}
use Rattle.cert_values.specs.declared.member.Member.{Member}
use Rattle.cert_values.specs.Values.{origin_of, hint_of, entry_of, step_of, line_of, by_of, side_of, cover_of}
use Rattle.cert_values.specs.Wholes.{IsWholeClause, IsWholeLine, IsWholeBy, IsWholeCover}
use Rattle.cert_items.specs.Items.{note_of, rank_of, IsWholeNote}
use Rattle.cert_items.specs.declared.group.Group.{Group}
use Rattle.cert_items.specs.declared.group.Group.TheVariants as kinds
use Rattle.cert_items.specs.declared.note.Note.{Note}
use Rattle.cert_items.specs.declared.note.Note.TheVariants as notes
use Rattle.cert_reader.specs.declared.groups.Groups.{Groups}
use Rattle.cert_items.specs.declared.shape.TextShape.{TextShape}
use Rattle.cert_reader.specs.Bodies.{header}
use Rattle.cert_reader.specs.Groups.{base_count, count_of, IsNextOf, pushed, members_by, items_of, HasForm, AreGroups}
use Rattle.cert_format.proofs.ItemGroups.{IsGroup}
use Rattle.cert_reader.proofs.Layers.{push_0, push_1, push_2, push_3, push_4, push_5, push_6, none_shown, count_0, count_1, count_2, count_3, count_4, count_5, count_6}
use Rattle.cert_values.proofs.Grown.{clauses_grown, members_grown, steps_grown, clauses_same, members_same, steps_same, lines_grown, lines_same, bys_grown, bys_same, covers_grown, covers_same}

-- ---- each group with one item more, and how many there are

inputs_push : (cs : List TreeClause) (ws : List (List ℕ)) (c : TreeClause) (w : List ℕ) → length ws ≡ length cs → input_items (cs ++ c ∷ []) (ws ++ w ∷ []) ≡ input_items cs ws ++ record { clause = c; note = named w } ∷ []
inputs_push [] [] c w h = refl
inputs_push [] (v ∷ ws) c w h = absurd (omega arith)
inputs_push (b ∷ cs) [] c w h = absurd (omega arith)
inputs_push (b ∷ cs) (v ∷ ws) c w h = ap (λ (z : List Item). record { clause = b; note = named v } ∷ z) (inputs_push cs ws c w (omega arith))

axioms_push : (cs : List TreeClause) (c : TreeClause) → axiom_items (cs ++ c ∷ []) ≡ axiom_items cs ++ record { clause = c; note = equality } ∷ []
axioms_push [] c = refl
axioms_push (b ∷ cs) c = ap (λ (z : List Item). record { clause = b; note = equality } ∷ z) (axioms_push cs c)

members_push : (es : List Entry) (x : Entry) → member_items (es ++ x ∷ []) ≡ member_items es ++ record { clause = x.clause; note = member x.origin } ∷ []
members_push [] x = refl
members_push (y ∷ es) x = ap (λ (z : List Item). record { clause = y.clause; note = member y.origin } ∷ z) (members_push es x)

selected_push : (es : List Entry) (ps : List ℕ) (x : Entry) (p : ℕ) → length ps ≡ length es → selected_items (es ++ x ∷ []) (ps ++ p ∷ []) ≡ selected_items es ps ++ record { clause = x.clause; note = selected x.origin p } ∷ []
selected_push [] [] x p h = refl
selected_push [] (q ∷ ps) x p h = absurd (omega arith)
selected_push (y ∷ es) [] x p h = absurd (omega arith)
selected_push (y ∷ es) (q ∷ ps) x p h = ap (λ (z : List Item). record { clause = y.clause; note = selected y.origin q } ∷ z) (selected_push es ps x p (omega arith))

grounds_push : (cs : List TreeClause) (c : TreeClause) → ground_items (cs ++ c ∷ []) ≡ ground_items cs ++ record { clause = c; note = ground_of } ∷ []
grounds_push [] c = refl
grounds_push (b ∷ cs) c = ap (λ (z : List Item). record { clause = b; note = ground_of } ∷ z) (grounds_push cs c)

lines_push : (gs : List format.GroundLine) (g : format.GroundLine) → line_items (gs ++ g ∷ []) ≡ line_items gs ++ record { clause = g.clause; note = ground_by g.input g.terms } ∷ []
lines_push [] g = refl
lines_push (b ∷ gs) g = ap (λ (z : List Item). record { clause = b.clause; note = ground_by b.input b.terms } ∷ z) (lines_push gs g)

steps_push : (ss : List (Step Tree)) (s : Step Tree) → step_items (ss ++ s ∷ []) ≡ step_items ss ++ record { clause = s.clause; note = shown_by s.hints } ∷ []
steps_push [] s = refl
steps_push (t ∷ ss) s = ap (λ (z : List Item). record { clause = t.clause; note = shown_by t.hints } ∷ z) (steps_push ss s)

shown_push : (cs : List TreeClause) (bs : List By) (c : TreeClause) (b : By) → slice_get cs (length bs) ≡ Some c → shown_items cs (bs ++ b ∷ []) ≡ shown_items cs bs ++ record { clause = c; note = input_by b } ∷ []
shown_push [] bs c b h = absurd cc
shown_push (d ∷ cs) [] c b h = (let e : d ≡ c = cc in λ i. record { clause = e i; note = input_by b } ∷ no_more cs i)
  where
    no_more : (ds : List TreeClause) → shown_items ds [] ≡ []
    no_more [] = refl
    no_more (x ∷ ds) = refl
shown_push (d ∷ cs) (a ∷ bs) c b h = ap (λ (z : List Item). record { clause = d; note = input_by a } ∷ z) (shown_push cs bs c b h)

covers_push : (vs : List format.Cover) (v : format.Cover) → cover_items (vs ++ v ∷ []) ≡ cover_items vs ++ record { clause = v.clause; note = side_by v.left v.right v.side v.by } ∷ []
covers_push [] v = refl
covers_push (w ∷ vs) v = ap (λ (z : List Item). record { clause = w.clause; note = side_by w.left w.right w.side w.by } ∷ z) (covers_push vs v)

inputs_length : (cs : List TreeClause) (ws : List (List ℕ)) → length ws ≡ length cs → length (input_items cs ws) ≡ length cs
inputs_length [] ws h = refl
inputs_length (c ∷ cs) [] h = absurd (omega arith)
inputs_length (c ∷ cs) (w ∷ ws) h = ap suc (inputs_length cs ws (omega arith))

selected_length : (es : List Entry) (ps : List ℕ) → length ps ≡ length es → length (selected_items es ps) ≡ length es
selected_length [] ps h = refl
selected_length (x ∷ es) [] h = absurd (omega arith)
selected_length (x ∷ es) (p ∷ ps) h = ap suc (selected_length es ps (omega arith))

lines_length : (gs : List format.GroundLine) → length (line_items gs) ≡ length gs
lines_length [] = refl
lines_length (g ∷ gs) = ap suc (lines_length gs)

shown_length : (cs : List TreeClause) (bs : List By) → length bs ≤ length cs → length (shown_items cs bs) ≡ length bs
shown_length [] [] h = refl
shown_length [] (b ∷ bs) h = absurd (omega arith)
shown_length (c ∷ cs) [] h = refl
shown_length (c ∷ cs) (b ∷ bs) h = ap suc (shown_length cs bs (omega arith))

covers_length : (vs : List format.Cover) → length (cover_items vs) ≡ length vs
covers_length [] = refl
covers_length (v ∷ vs) = ap suc (covers_length vs)

pub none_of_shown : (cs : List TreeClause) → shown_items cs [] ≡ []
none_of_shown [] = refl
none_of_shown (c ∷ cs) = refl

-- a shape by its two parts
abbrev pub shape_for : Bool → ℕ → TextShape
shape_for r v = record { refutation = r; format = v }

pub member_group : (r : Bool) (v : ℕ) (es : List Entry) (ps : List ℕ) → IsGroup 2 (members_by (shape_for r v) es ps)
member_group true v es ps = member_ranks es
member_group false v es ps = selected_ranks es ps

member_length : (r : Bool) (v : ℕ) (f : Forest) (g : Groups) → HasForm (shape_for r v) g → length (members_by (shape_for r v) (map (entry_of f) g.members) g.places) ≡ length g.members
member_length true v f g h = members_length (map (entry_of f) g.members) ∙ length-map g.members (entry_of f)
member_length false v f g h = selected_length (map (entry_of f) g.members) g.places (h.placed refl ∙ sym (length-map g.members (entry_of f))) ∙ length-map g.members (entry_of f)

-- ---- the lists

module _ (r : Bool) (v : ℕ) (f : Forest) (g : Groups) where
  abbrev inputs : List Item
  inputs = input_items (map (clause_at f) g.inputs) g.names

  abbrev axioms : List Item
  axioms = axiom_items (map (clause_at f) g.axioms)

  abbrev members : List Item
  members = members_by (shape_for r v) (map (entry_of f) g.members) g.places

  abbrev grounds : List Item
  grounds = ground_items (map (clause_at f) g.grounds) ++ line_items (map (line_of f) g.lines)

  abbrev steps : List Item
  steps = step_items (map (step_of f) g.steps)

  abbrev base : List TreeClause
  base = map (clause_at f) g.inputs ++ map (clause_at f) g.axioms

  abbrev shown : List Item
  shown = shown_items base (map (by_of f) g.shown)

  abbrev covers : List Item
  covers = cover_items (map (cover_of f) g.covers)

  input_group : IsGroup 0 inputs
  input_group = input_ranks (map (clause_at f) g.inputs) g.names

  axiom_group : IsGroup 1 axioms
  axiom_group = axiom_ranks (map (clause_at f) g.axioms)

  own_members : IsGroup 2 members
  own_members = member_group r v (map (entry_of f) g.members) g.places

  ground_group : IsGroup 3 grounds
  ground_group = all_append _ (ground_items (map (clause_at f) g.grounds)) (line_items (map (line_of f) g.lines)) (ground_ranks (map (clause_at f) g.grounds)) (line_ranks (map (line_of f) g.lines))

  step_group : IsGroup 4 steps
  step_group = step_ranks (map (step_of f) g.steps)

  shown_group : IsGroup 5 shown
  shown_group = shown_ranks base (map (by_of f) g.shown)

  cover_group : IsGroup 6 covers
  cover_group = cover_ranks (map (cover_of f) g.covers)

  base_length : length base ≡ base_count g
  base_length = let a = length-append (map (clause_at f) g.inputs) (map (clause_at f) g.axioms) in let b = length-map g.inputs (clause_at f) in let c = length-map g.axioms (clause_at f) in omega arith

  few_shown : AreGroups (shape_for r v) f g → length (map (by_of f) g.shown) ≤ length base
  few_shown p = let a = length-map g.shown (by_of f) in let b = base_length in let c = p.few in omega arith

  -- how many items of each group
  pub counts : AreGroups (shape_for r v) f g → (k : Group) → count (rank_of k) (items_of (shape_for r v) f g) ≡ count_of k g
  counts p kinds.Input = count_0 inputs axioms members grounds steps shown covers input_group axiom_group own_members ground_group step_group shown_group cover_group ∙ inputs_length (map (clause_at f) g.inputs) g.names (p.named ∙ sym (length-map g.inputs (clause_at f))) ∙ length-map g.inputs (clause_at f)
  counts p kinds.Axiom = count_1 inputs axioms members grounds steps shown covers input_group axiom_group own_members ground_group step_group shown_group cover_group ∙ axioms_length (map (clause_at f) g.axioms) ∙ length-map g.axioms (clause_at f)
  counts p kinds.Member = count_2 inputs axioms members grounds steps shown covers input_group axiom_group own_members ground_group step_group shown_group cover_group ∙ member_length r v f g p.form
  counts p kinds.Ground =
      count_3 inputs axioms members grounds steps shown covers input_group axiom_group own_members ground_group step_group shown_group cover_group
      ∙ length-append (ground_items (map (clause_at f) g.grounds)) (line_items (map (line_of f) g.lines))
      ∙ ap₂ (λ (m n : ℕ). m + n) (grounds_length (map (clause_at f) g.grounds) ∙ length-map g.grounds (clause_at f)) (lines_length (map (line_of f) g.lines) ∙ length-map g.lines (line_of f))
  counts p kinds.Step = count_4 inputs axioms members grounds steps shown covers input_group axiom_group own_members ground_group step_group shown_group cover_group ∙ steps_length (map (step_of f) g.steps) ∙ length-map g.steps (step_of f)
  counts p kinds.Shown = count_5 inputs axioms members grounds steps shown covers input_group axiom_group own_members ground_group step_group shown_group cover_group ∙ shown_length base (map (by_of f) g.shown) (few_shown p) ∙ length-map g.shown (by_of f)
  counts p kinds.Cover = count_6 inputs axioms members grounds steps shown covers input_group axiom_group own_members ground_group step_group shown_group cover_group ∙ covers_length (map (cover_of f) g.covers) ∙ length-map g.covers (cover_of f)

  abbrev all : List Item
  all = items_of (shape_for r v) f g

  low : AreGroups (shape_for r v) f g → (k : ℕ) → rank_of g.last ≤ k → last_rank all ≤ k
  low p k h = subst (λ (j : ℕ). j ≤ k) (sym p.last) h

  -- nothing is shown before the last input or axiom
  early : AreGroups (shape_for r v) f g → rank_of g.last ≤ 1 → g.shown ≡ []
  early p h =
      let none = none_shown inputs axioms members grounds steps shown covers input_group axiom_group own_members ground_group step_group shown_group cover_group (low p 1 h) in
      let a = ap length none in
      let b = shown_length base (map (by_of f) g.shown) (few_shown p) in
      let c = length-map g.shown (by_of f) in
      nil_from_length g.shown (omega arith)

-- where nothing is shown, other inputs and axioms make no difference
other_base : (f : Forest) (cs ds : List TreeClause) (bs : List bys.By) → bs ≡ [] → shown_items cs (map (by_of f) bs) ≡ shown_items ds (map (by_of f) bs)
other_base f cs ds bs e =
    ap (λ (xs : List bys.By). shown_items cs (map (by_of f) xs)) e ∙ none_of_shown cs ∙ sym (ap (λ (xs : List bys.By). shown_items ds (map (by_of f) xs)) e ∙ none_of_shown ds)

-- the clause that is next
next_clause : (f : Forest) (g : Groups) (c : List (Signed ℕ)) → IsNextOf g c → slice_get (map (clause_at f) g.inputs ++ map (clause_at f) g.axioms) (length (map (by_of f) g.shown)) ≡ Some (clause_at f c)
next_clause f g c h =
    ap₂ (λ (xs : List TreeClause) (n : ℕ). slice_get xs n) (sym (map-append (clause_at f) g.inputs g.axioms)) (length-map g.shown (by_of f))
    ∙ slice_get-map (clause_at f) (g.inputs ++ g.axioms) (length g.shown) ∙ ap (option_map (clause_at f)) h

-- ---- one item more

abbrev item_of : Forest → Note → List (Signed ℕ) → Item
item_of f note c = record { clause = clause_at f c; note = note_of f note }

-- the note stands in texts of the shape
abbrev Fits : TextShape → Forest → Note → Type 0
Fits s f note = fits (header s [] []) (note_of f note) ≡ true

-- where the note says what shows an input or axiom, the clause is that of the next one
abbrev pub ShowsNext : Note → Groups → List (Signed ℕ) → Type 0
ShowsNext (notes.InputBy by) g c = IsNextOf g c
ShowsNext _ g c = Unit {0}

-- what the test of a note says of the rest
wrong_test : (b : Bool) → b ≡ true → b ≡ false → ⊥
wrong_test true e h = cc
wrong_test false e h = cc

both_tests : (r b : Bool) → (r && b) ≡ true → (r && not b) ≡ false
both_tests true true e = refl
both_tests true false e = absurd cc
both_tests false b e = refl

not_both : (r b : Bool) → (r && not b) ≡ true → (r && b) ≡ false
not_both true true e = absurd cc
not_both true false e = refl
not_both false b e = refl

no_lines : (r : Bool) (v : ℕ) (f : Forest) (g : Groups) → HasForm (shape_for r v) g → (r && nat_eq v 1) ≡ true → map (line_of f) g.lines ≡ []
no_lines r v f g h e = ap (map (line_of f)) (h.lines (both_tests r (nat_eq v 1) e))

first_behind : (xs : List Item) (ls : List format.GroundLine) (i : Item) → ls ≡ [] → (xs ++ i ∷ []) ++ line_items ls ≡ (xs ++ line_items ls) ++ i ∷ []
first_behind xs ls i e =
    ap (λ (z : List format.GroundLine). (xs ++ i ∷ []) ++ line_items z) e ∙ append-nil (xs ++ i ∷ [])
    ∙ ap (λ (z : List Item). z ++ i ∷ []) (sym (ap (λ (z : List format.GroundLine). xs ++ line_items z) e ∙ append-nil xs))

pub pushed_items : (r : Bool) (v : ℕ) (f : Forest) (g : Groups) (note : Note) (c : List (Signed ℕ)) → AreGroups (shape_for r v) f g → rank_of g.last ≤ rank (note_of f note) → Fits (shape_for r v) f note → ShowsNext note g c
    → items_of (shape_for r v) f (pushed note c g) ≡ items_of (shape_for r v) f g ++ item_of f note c ∷ []
pushed_items r v f g (notes.Named w) c p l fit next =
    ap₂ (λ (z w : List Item). z ++ (axioms r v f g ++ (members r v f g ++ (grounds r v f g ++ (steps r v f g ++ (w ++ covers r v f g))))))
    (ap (λ (cs : List TreeClause). input_items cs (g.names ++ w ∷ [])) (map_push (clause_at f) g.inputs c) ∙ inputs_push (map (clause_at f) g.inputs) g.names (clause_at f c) w (p.named ∙ sym (length-map g.inputs (clause_at f))))
    (other_base f (map (clause_at f) (g.inputs ++ c ∷ []) ++ map (clause_at f) g.axioms) (base r v f g) g.shown (early r v f g p (omega arith)))
    ∙ push_0 (inputs r v f g) (axioms r v f g) (members r v f g) (grounds r v f g) (steps r v f g) (shown r v f g) (covers r v f g) (input_group r v f g) (axiom_group r v f g) (own_members r v f g) (ground_group r v f g) (step_group r v f g) (shown_group r v f g) (cover_group r v f g) (item_of f (notes.Named w) c) (low r v f g p 0 l)
pushed_items r v f g notes.Equality c p l fit next =
    ap₂ (λ (z w : List Item). inputs r v f g ++ (z ++ (members r v f g ++ (grounds r v f g ++ (steps r v f g ++ (w ++ covers r v f g))))))
    (ap axiom_items (map_push (clause_at f) g.axioms c) ∙ axioms_push (map (clause_at f) g.axioms) (clause_at f c))
    (other_base f (map (clause_at f) g.inputs ++ map (clause_at f) (g.axioms ++ c ∷ [])) (base r v f g) g.shown (early r v f g p (omega arith)))
    ∙ push_1 (inputs r v f g) (axioms r v f g) (members r v f g) (grounds r v f g) (steps r v f g) (shown r v f g) (covers r v f g) (input_group r v f g) (axiom_group r v f g) (own_members r v f g) (ground_group r v f g) (step_group r v f g) (shown_group r v f g) (cover_group r v f g) (item_of f notes.Equality c) (low r v f g p 1 l)
pushed_items true v f g (notes.Member o) c p l fit next =
    ap (λ (z : List Item). inputs true v f g ++ (axioms true v f g ++ (z ++ (grounds true v f g ++ (steps true v f g ++ (shown true v f g ++ covers true v f g))))))
    (ap member_items (map_push (entry_of f) g.members (record { clause = c; origin = o })) ∙ members_push (map (entry_of f) g.members) (record { clause = clause_at f c; origin = origin_of o }))
    ∙ push_2 (inputs true v f g) (axioms true v f g) (members true v f g) (grounds true v f g) (steps true v f g) (shown true v f g) (covers true v f g) (input_group true v f g) (axiom_group true v f g) (own_members true v f g) (ground_group true v f g) (step_group true v f g) (shown_group true v f g) (cover_group true v f g) (item_of f (notes.Member o) c) (low true v f g p 2 l)
pushed_items false v f g (notes.Member o) c p l fit next = absurd cc
pushed_items true v f g (notes.Selected o k) c p l fit next = absurd cc
pushed_items false v f g (notes.Selected o k) c p l fit next =
    ap (λ (z : List Item). inputs false v f g ++ (axioms false v f g ++ (z ++ (grounds false v f g ++ (steps false v f g ++ (shown false v f g ++ covers false v f g))))))
    (ap (λ (es : List Entry). selected_items es (g.places ++ k ∷ [])) (map_push (entry_of f) g.members (record { clause = c; origin = o }))
    ∙ selected_push (map (entry_of f) g.members) g.places (record { clause = clause_at f c; origin = origin_of o }) k (p.form.placed refl ∙ sym (length-map g.members (entry_of f))))
    ∙ push_2 (inputs false v f g) (axioms false v f g) (members false v f g) (grounds false v f g) (steps false v f g) (shown false v f g) (covers false v f g) (input_group false v f g) (axiom_group false v f g) (own_members false v f g) (ground_group false v f g) (step_group false v f g) (shown_group false v f g) (cover_group false v f g) (item_of f (notes.Selected o k) c) (low false v f g p 2 l)
pushed_items r v f g notes.Ground c p l fit next =
    ap (λ (z : List Item). inputs r v f g ++ (axioms r v f g ++ (members r v f g ++ (z ++ (steps r v f g ++ (shown r v f g ++ covers r v f g))))))
    (ap (λ (z : List Item). z ++ line_items (map (line_of f) g.lines)) (ap ground_items (map_push (clause_at f) g.grounds c) ∙ grounds_push (map (clause_at f) g.grounds) (clause_at f c))
    ∙ first_behind (ground_items (map (clause_at f) g.grounds)) (map (line_of f) g.lines) (item_of f notes.Ground c) (no_lines r v f g p.form fit))
    ∙ push_3 (inputs r v f g) (axioms r v f g) (members r v f g) (grounds r v f g) (steps r v f g) (shown r v f g) (covers r v f g) (input_group r v f g) (axiom_group r v f g) (own_members r v f g) (ground_group r v f g) (step_group r v f g) (shown_group r v f g) (cover_group r v f g) (item_of f notes.Ground c) (low r v f g p 3 l)
pushed_items r v f g (notes.GroundBy k ts) c p l fit next =
    ap (λ (z : List Item). inputs r v f g ++ (axioms r v f g ++ (members r v f g ++ (z ++ (steps r v f g ++ (shown r v f g ++ covers r v f g))))))
    (ap (λ (z : List Item). ground_items (map (clause_at f) g.grounds) ++ z)
    (ap line_items (map_push (line_of f) g.lines (record { clause = c; input = k; terms = ts })) ∙ lines_push (map (line_of f) g.lines) (record { clause = clause_at f c; input = k; terms = map (tree_at f) ts }))
    ∙ sym (append_assoc (ground_items (map (clause_at f) g.grounds)) (line_items (map (line_of f) g.lines)) (item_of f (notes.GroundBy k ts) c ∷ [])))
    ∙ push_3 (inputs r v f g) (axioms r v f g) (members r v f g) (grounds r v f g) (steps r v f g) (shown r v f g) (covers r v f g) (input_group r v f g) (axiom_group r v f g) (own_members r v f g) (ground_group r v f g) (step_group r v f g) (shown_group r v f g) (cover_group r v f g) (item_of f (notes.GroundBy k ts) c) (low r v f g p 3 l)
pushed_items r v f g (notes.Hinted hs) c p l fit next =
    ap (λ (z : List Item). inputs r v f g ++ (axioms r v f g ++ (members r v f g ++ (grounds r v f g ++ (z ++ (shown r v f g ++ covers r v f g))))))
    (ap step_items (map_push (step_of f) g.steps (record { clause = c; hints = hs })) ∙ steps_push (map (step_of f) g.steps) (record { clause = clause_at f c; hints = map hint_of hs }))
    ∙ push_4 (inputs r v f g) (axioms r v f g) (members r v f g) (grounds r v f g) (steps r v f g) (shown r v f g) (covers r v f g) (input_group r v f g) (axiom_group r v f g) (own_members r v f g) (ground_group r v f g) (step_group r v f g) (shown_group r v f g) (cover_group r v f g) (item_of f (notes.Hinted hs) c) (low r v f g p 4 l)
pushed_items r v f g (notes.InputBy by) c p l fit next =
    ap (λ (z : List Item). inputs r v f g ++ (axioms r v f g ++ (members r v f g ++ (grounds r v f g ++ (steps r v f g ++ (z ++ covers r v f g))))))
    (ap (shown_items (base r v f g)) (map_push (by_of f) g.shown by) ∙ shown_push (base r v f g) (map (by_of f) g.shown) (clause_at f c) (by_of f by) (next_clause f g c next))
    ∙ push_5 (inputs r v f g) (axioms r v f g) (members r v f g) (grounds r v f g) (steps r v f g) (shown r v f g) (covers r v f g) (input_group r v f g) (axiom_group r v f g) (own_members r v f g) (ground_group r v f g) (step_group r v f g) (shown_group r v f g) (cover_group r v f g) (item_of f (notes.InputBy by) c) (low r v f g p 5 l)
pushed_items r v f g (notes.SideBy left right side by) c p l fit next =
    ap (λ (z : List Item). inputs r v f g ++ (axioms r v f g ++ (members r v f g ++ (grounds r v f g ++ (steps r v f g ++ (shown r v f g ++ z))))))
    (ap cover_items (map_push (cover_of f) g.covers (record { left = left; right = right; side = side; clause = c; by = by }))
    ∙ covers_push (map (cover_of f) g.covers) (record { left = left; right = right; side = side_of side; clause = clause_at f c; by = by_of f by }))
    ∙ push_6 (inputs r v f g) (axioms r v f g) (members r v f g) (grounds r v f g) (steps r v f g) (shown r v f g) (covers r v f g) (input_group r v f g) (axiom_group r v f g) (own_members r v f g) (ground_group r v f g) (step_group r v f g) (shown_group r v f g) (cover_group r v f g) (item_of f (notes.SideBy left right side by) c)

pub last_of : (r : Bool) (v : ℕ) (f : Forest) (g : Groups) (note : Note) (c : List (Signed ℕ)) → items_of (shape_for r v) f (pushed note c g) ≡ items_of (shape_for r v) f g ++ item_of f note c ∷ []
    → last_rank (items_of (shape_for r v) f (pushed note c g)) ≡ rank (note_of f note)
last_of r v f g note c e = ap last_rank e ∙ last_push 0 (items_of (shape_for r v) f g) (item_of f note c)

one_longer : {A B : Type 0} (xs : List A) (ys : List B) (x : A) (y : B) → length xs ≡ length ys → length (xs ++ x ∷ []) ≡ length (ys ++ y ∷ [])
one_longer xs ys x y h = length_push xs x ∙ ap (λ (n : ℕ). n + 1) h ∙ sym (length_push ys y)

pub pushed_groups : (r : Bool) (v : ℕ) (f : Forest) (g : Groups) (note : Note) (c : List (Signed ℕ)) → AreGroups (shape_for r v) f g → rank_of g.last ≤ rank (note_of f note) → Fits (shape_for r v) f note → ShowsNext note g c
    → IsWholeClause f c → IsWholeNote f note → AreGroups (shape_for r v) f (pushed note c g)
pushed_groups r v f g (notes.Named w) c p l fit next whole terms = record {
  bank = p.bank;
  inputs = All-push (IsWholeClause f) g.inputs c p.inputs whole;
  named = one_longer g.names g.inputs w c p.named;
  axioms = p.axioms;
  members = p.members;
  grounds = p.grounds;
  lines = p.lines;
  steps = p.steps;
  shown = p.shown;
  few = (let a = length_push g.inputs c in let b = p.few in omega arith);
  covers = p.covers;
  form = record { placed = p.form.placed; grounds = p.form.grounds; lines = p.form.lines; steps = p.form.steps; shown = p.form.shown; covers = p.form.covers };
  last = last_of r v f g (notes.Named w) c (pushed_items r v f g (notes.Named w) c p l fit next);
}
pushed_groups r v f g notes.Equality c p l fit next whole terms = record {
  bank = p.bank;
  inputs = p.inputs;
  named = p.named;
  axioms = All-push (IsWholeClause f) g.axioms c p.axioms whole;
  members = p.members;
  grounds = p.grounds;
  lines = p.lines;
  steps = p.steps;
  shown = p.shown;
  few = (let a = length_push g.axioms c in let b = p.few in omega arith);
  covers = p.covers;
  form = record { placed = p.form.placed; grounds = p.form.grounds; lines = p.form.lines; steps = p.form.steps; shown = p.form.shown; covers = p.form.covers };
  last = last_of r v f g notes.Equality c (pushed_items r v f g notes.Equality c p l fit next);
}
pushed_groups true v f g (notes.Member o) c p l fit next whole terms = record {
  bank = p.bank;
  inputs = p.inputs;
  named = p.named;
  axioms = p.axioms;
  members = All-push (λ (m : Member). IsWholeClause f m.clause) g.members (record { clause = c; origin = o }) p.members whole;
  grounds = p.grounds;
  lines = p.lines;
  steps = p.steps;
  shown = p.shown;
  few = p.few;
  covers = p.covers;
  form = record { placed = λ e. absurd cc; grounds = p.form.grounds; lines = p.form.lines; steps = p.form.steps; shown = p.form.shown; covers = p.form.covers };
  last = last_of true v f g (notes.Member o) c (pushed_items true v f g (notes.Member o) c p l fit next);
}
pushed_groups false v f g (notes.Member o) c p l fit next whole terms = absurd cc
pushed_groups true v f g (notes.Selected o k) c p l fit next whole terms = absurd cc
pushed_groups false v f g (notes.Selected o k) c p l fit next whole terms = record {
  bank = p.bank;
  inputs = p.inputs;
  named = p.named;
  axioms = p.axioms;
  members = All-push (λ (m : Member). IsWholeClause f m.clause) g.members (record { clause = c; origin = o }) p.members whole;
  grounds = p.grounds;
  lines = p.lines;
  steps = p.steps;
  shown = p.shown;
  few = p.few;
  covers = p.covers;
  form = record { placed = λ e. one_longer g.places g.members k (record { clause = c; origin = o }) (p.form.placed e); grounds = p.form.grounds; lines = p.form.lines; steps = p.form.steps; shown = p.form.shown; covers = p.form.covers };
  last = last_of false v f g (notes.Selected o k) c (pushed_items false v f g (notes.Selected o k) c p l fit next);
}
pushed_groups r v f g notes.Ground c p l fit next whole terms = record {
  bank = p.bank;
  inputs = p.inputs;
  named = p.named;
  axioms = p.axioms;
  members = p.members;
  grounds = All-push (IsWholeClause f) g.grounds c p.grounds whole;
  lines = p.lines;
  steps = p.steps;
  shown = p.shown;
  few = p.few;
  covers = p.covers;
  form = record { placed = p.form.placed; grounds = λ e. absurd (wrong_test (r && nat_eq v 1) fit e); lines = p.form.lines; steps = p.form.steps; shown = p.form.shown; covers = p.form.covers };
  last = last_of r v f g notes.Ground c (pushed_items r v f g notes.Ground c p l fit next);
}
pushed_groups r v f g (notes.GroundBy k ts) c p l fit next whole terms = record {
  bank = p.bank;
  inputs = p.inputs;
  named = p.named;
  axioms = p.axioms;
  members = p.members;
  grounds = p.grounds;
  lines = All-push (IsWholeLine f) g.lines (record { clause = c; input = k; terms = ts }) p.lines (record { clause = whole; terms = terms });
  steps = p.steps;
  shown = p.shown;
  few = p.few;
  covers = p.covers;
  form = record { placed = p.form.placed; grounds = p.form.grounds; lines = λ e. absurd (wrong_test (r && not (nat_eq v 1)) fit e); steps = p.form.steps; shown = p.form.shown; covers = p.form.covers };
  last = last_of r v f g (notes.GroundBy k ts) c (pushed_items r v f g (notes.GroundBy k ts) c p l fit next);
}
pushed_groups r v f g (notes.Hinted hs) c p l fit next whole terms = record {
  bank = p.bank;
  inputs = p.inputs;
  named = p.named;
  axioms = p.axioms;
  members = p.members;
  grounds = p.grounds;
  lines = p.lines;
  steps = All-push (λ (s : GroundStep). IsWholeClause f s.clause) g.steps (record { clause = c; hints = hs }) p.steps whole;
  shown = p.shown;
  few = p.few;
  covers = p.covers;
  form = record { placed = p.form.placed; grounds = p.form.grounds; lines = p.form.lines; steps = λ e. absurd (wrong_test r fit e); shown = p.form.shown; covers = p.form.covers };
  last = last_of r v f g (notes.Hinted hs) c (pushed_items r v f g (notes.Hinted hs) c p l fit next);
}
pushed_groups r v f g (notes.InputBy by) c p l fit next whole terms = record {
  bank = p.bank;
  inputs = p.inputs;
  named = p.named;
  axioms = p.axioms;
  members = p.members;
  grounds = p.grounds;
  lines = p.lines;
  steps = p.steps;
  shown = All-push (IsWholeBy f) g.shown by p.shown terms;
  few = (let a = length_push g.shown by in let b = slice_get_within (g.inputs ++ g.axioms) (length g.shown) c next in let d = length-append g.inputs g.axioms in omega arith);
  covers = p.covers;
  form = record { placed = p.form.placed; grounds = p.form.grounds; lines = p.form.lines; steps = p.form.steps; shown = λ e. absurd (wrong_test (not r && nat_eq v 3) fit e); covers = p.form.covers };
  last = last_of r v f g (notes.InputBy by) c (pushed_items r v f g (notes.InputBy by) c p l fit next);
}
pushed_groups r v f g (notes.SideBy left right side by) c p l fit next whole terms = record {
  bank = p.bank;
  inputs = p.inputs;
  named = p.named;
  axioms = p.axioms;
  members = p.members;
  grounds = p.grounds;
  lines = p.lines;
  steps = p.steps;
  shown = p.shown;
  few = p.few;
  covers = All-push (IsWholeCover f) g.covers (record { left = left; right = right; side = side; clause = c; by = by }) p.covers (record { clause = whole; by = terms });
  form = record { placed = p.form.placed; grounds = p.form.grounds; lines = p.form.lines; steps = p.form.steps; shown = p.form.shown; covers = λ e. absurd (wrong_test (not r && nat_eq v 3) fit e) };
  last = last_of r v f g (notes.SideBy left right side by) c (pushed_items r v f g (notes.SideBy left right side by) c p l fit next);
}

-- ---- a bank that has grown

module _ (f h : Forest) (grown : Extends f h) where
  pub grown_items : (s : TextShape) (g : Groups) → AreGroups s f g → items_of s h g ≡ items_of s f g
  grown_items s g p =
      let i = clauses_same f h grown g.inputs p.inputs in
      let a = clauses_same f h grown g.axioms p.axioms in
      let m = members_same f h grown g.members p.members in
      let k = clauses_same f h grown g.grounds p.grounds in
      let l = lines_same f h grown g.lines p.lines in
      let z = steps_same f h grown g.steps p.steps in
      let b = bys_same f h grown g.shown p.shown in
      let v = covers_same f h grown g.covers p.covers in
      λ j. input_items (i j) g.names ++ (axiom_items (a j) ++ (members_by s (m j) g.places ++ ((ground_items (k j) ++ line_items (l j)) ++ (step_items (z j) ++ (shown_items (i j ++ a j) (b j) ++ cover_items (v j))))))

  pub grown_groups : (s : TextShape) (g : Groups) → AreFormed h → AreGroups s f g → AreGroups s h g
  grown_groups s g formed p = record {
    bank = formed;
    inputs = clauses_grown f h grown g.inputs p.inputs;
    named = p.named;
    axioms = clauses_grown f h grown g.axioms p.axioms;
    members = members_grown f h grown g.members p.members;
    grounds = clauses_grown f h grown g.grounds p.grounds;
    lines = lines_grown f h grown g.lines p.lines;
    steps = steps_grown f h grown g.steps p.steps;
    shown = bys_grown f h grown g.shown p.shown;
    few = p.few;
    covers = covers_grown f h grown g.covers p.covers;
    form = p.form;
    last = ap last_rank (grown_items s g p) ∙ p.last;
  }

-- ---- no items

abbrev no_groups : Groups
no_groups = record { inputs = []; names = []; axioms = []; members = []; places = []; grounds = []; lines = []; steps = []; shown = []; covers = []; last = kinds.Input }

pub empty_items : (s : TextShape) (f : Forest) (g : Groups) → g ≡ no_groups → items_of s f g ≡ []
empty_items s f g e = ap (items_of s f) e ∙ no_items s.refutation
  where
    no_items : (r : Bool) → cond r (member_items []) (selected_items [] []) ++ [] ≡ []
    no_items true = refl
    no_items false = refl
