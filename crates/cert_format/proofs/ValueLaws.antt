-- Two printable values with one text are equal.
use Rattle.std.proofs.Common.{◌≡◌, ℕ, Bool, true, false, cond, List, [], ◌∷◌, ◌++◌, length, length-append, inl, inr, refl, sym, ap, ap₂, ◌∙◌, subst, arith}
use Rattle.std.specs.Prelude.{nat_eq}
use Rattle.std.specs.List.{list_all}
use Rattle.std.proofs.lemmas.List.{append-nil}
use Rattle.inst_logic.specs.declared.symbol.Sym.{Sym}
use Rattle.inst_logic.specs.Tree.{Tree}
use Rattle.inst_logic.specs.WellFormed.{is_constant, is_function_kind}
use Rattle.inst_logic.specs.Clauses.{TreeClause}
use Rattle.inst_calculus.specs.Entries.{Entry}
use Rattle.inst_calculus.specs.Steps.{Step}
use Rattle.cert_format.specs.Certificate.{FirstRefutation, GroundLine, Refutation, Saturation, By, Cover, Covered, Certificate, first_refutation, refutation, saturation, covered}
use Rattle.cert_format.specs.Printable.{IsTextName}
use Rattle.inst_logic.proofs.Numbers.{number_is}
use Rattle.inst_logic.proofs.Formed.{function_of}
use Rattle.cert_format.proofs.Writables.{IsWritableRefutation, IsWritableByLines, IsWritableSaturation, IsWritableCovered, IsWritable, writable}
use Rattle.cert_format.specs.LineMachine.{Note, rank, Item, Line, status, opening, version, constant, item, closing}
use Rattle.cert_format.specs.Printable.{HasFormat, IsPrintable}
use Rattle.cert_format.specs.Text.{certificate_text}
use Rattle.cert_format.specs.ValueLines.{input_items, axiom_items, member_items, selected_items, ground_items, line_items, shown_items, cover_items, step_items, items_of, item_lines, lines_of}
use Rattle.std.proofs.lemmas.Bool.{and_parts}
use Rattle.cert_format.proofs.Formats.{one_list}
use Rattle.cert_format.proofs.LineTexts.{text_is, input_ranks, axiom_ranks, member_ranks, selected_ranks, ground_ranks, line_ranks, shown_ranks, cover_ranks, step_ranks}
use Rattle.cert_format.proofs.ValueRuns.{are_lines}

cons_once : {A : Type 0} (a b : A) (x y : List A) → a ∷ x ≡ b ∷ y → (a ≡ b) × (x ≡ y)
cons_once a b x y h = (cc, cc)

-- ---- items by their lines

item_once : (m n : ℕ) (c d : TreeClause) (a b : Note) → item m c a ≡ item n d b → (c ≡ d) × (a ≡ b)
item_once m n c d a b h = (cc, cc)

items_once : (before is js : List Item) (r q : Bool) (m n : List ℕ) → item_lines before is ++ closing r m ∷ [] ≡ item_lines before js ++ closing q n ∷ [] → is ≡ js
items_once before [] [] r q m n h = refl
items_once before [] (j ∷ js) r q m n h = absurd (let e = (cons_once _ _ _ _ h).0 in cc)
items_once before (i ∷ is) [] r q m n h = absurd (let e = (cons_once _ _ _ _ h).0 in cc)
items_once before (i ∷ is) (j ∷ js) r q m n h =
    let e = cons_once _ _ _ _ h in
    let f = item_once _ _ i.clause j.clause i.note j.note e.0 in
    let same : i ≡ j = (λ k. record { clause = f.0 k; note = f.1 k }) in
    ap₂ (λ (x : Item) (xs : List Item). x ∷ xs) same (items_once (before ++ i ∷ []) is js r q m n (e.1 ∙ ap (λ (x : Item). item_lines (before ++ x ∷ []) js ++ closing q n ∷ []) (sym same)))

-- ---- the items of one rank

abbrev pub only : ℕ → List Item → List Item
only k [] = []
only k (i ∷ is) = cond (nat_eq (rank i.note) k) (i ∷ only k is) (only k is)

only_append : (k : ℕ) (is js : List Item) → only k (is ++ js) ≡ only k is ++ only k js
only_append k [] js = refl
only_append k (i ∷ is) js = by (nat_eq (rank i.note) k) (only_append k is js)
  where
    by : (t : Bool) → only k (is ++ js) ≡ only k is ++ only k js → cond t (i ∷ only k (is ++ js)) (only k (is ++ js)) ≡ cond t (i ∷ only k is) (only k is) ++ only k js
    by true h = ap (λ (xs : List Item). i ∷ xs) h
    by false h = h

IsGroup : ℕ → List Item → Type 0
IsGroup r is = list_all (λ (i : Item). nat_eq (rank i.note) r) is ≡ true

only_own : (k : ℕ) (is : List Item) → list_all (λ (i : Item). nat_eq (rank i.note) k) is ≡ true → only k is ≡ is
only_own k [] h = refl
only_own k (i ∷ is) h = let a = and_parts (nat_eq (rank i.note) k) _ h in ap (λ (b : Bool). cond b (i ∷ only k is) (only k is)) a.0 ∙ ap (λ (xs : List Item). i ∷ xs) (only_own k is a.1)

only_other : (r k : ℕ) (is : List Item) → list_all (λ (i : Item). nat_eq (rank i.note) r) is ≡ true → nat_eq r k ≡ false → only k is ≡ []
only_other r k [] h n = refl
only_other r k (i ∷ is) h n =
    let a = and_parts (nat_eq (rank i.note) r) _ h in
    ap (λ (b : Bool). cond b (i ∷ only k is) (only k is)) (ap (λ (j : ℕ). nat_eq j k) (number_is (rank i.note) r a.0) ∙ n) ∙ only_other r k is a.1 n

-- a group in front of items of other ranks, and behind one of another rank
only_front : (k : ℕ) (is js : List Item) → list_all (λ (i : Item). nat_eq (rank i.note) k) is ≡ true → only k js ≡ [] → only k (is ++ js) ≡ is
only_front k is js h e = only_append k is js ∙ ap₂ (λ (x y : List Item). x ++ y) (only_own k is h) e ∙ append-nil is

only_behind : (r k : ℕ) (is js : List Item) → list_all (λ (i : Item). nat_eq (rank i.note) r) is ≡ true → nat_eq r k ≡ false → only k (is ++ js) ≡ only k js
only_behind r k is js h n = only_append k is js ∙ ap (λ (x : List Item). x ++ only k js) (only_other r k is h n)

-- ---- the items of one group

first_items : (i j : Item) (x y : List Item) → i ∷ x ≡ j ∷ y → (i.clause ≡ j.clause) × (i.note ≡ j.note) × (x ≡ y)
first_items i j x y h = let e = cons_once i j x y h in (ap (λ (k : Item). k.clause) e.0, ap (λ (k : Item). k.note) e.0, e.1)

inputs_once : (cs ds : List TreeClause) (ws vs : List (List ℕ)) → length ws ≡ length cs → length vs ≡ length ds → input_items cs ws ≡ input_items ds vs → (cs ≡ ds) × (ws ≡ vs)
inputs_once [] [] [] [] a b h = (refl, refl)
inputs_once [] ds (w ∷ ws) vs a b h = absurd (omega arith)
inputs_once cs [] ws (v ∷ vs) a b h = absurd (omega arith)
inputs_once (c ∷ cs) ds [] vs a b h = absurd (omega arith)
inputs_once cs (d ∷ ds) ws [] a b h = absurd (omega arith)
inputs_once [] (d ∷ ds) [] (v ∷ vs) a b h = absurd cc
inputs_once (c ∷ cs) [] (w ∷ ws) [] a b h = absurd cc
inputs_once (c ∷ cs) (d ∷ ds) (w ∷ ws) (v ∷ vs) a b h =
    let e = first_items _ _ _ _ h in
    let n : w ≡ v = (let f = e.1 in cc) in
    let m = inputs_once cs ds ws vs (omega arith) (omega arith) e.2 in
    (ap₂ (λ (x : TreeClause) (xs : List TreeClause). x ∷ xs) e.0 m.0, ap₂ (λ (x : List ℕ) (xs : List (List ℕ)). x ∷ xs) n m.1)

axioms_once : (cs ds : List TreeClause) → axiom_items cs ≡ axiom_items ds → cs ≡ ds
axioms_once [] [] h = refl
axioms_once [] (d ∷ ds) h = absurd cc
axioms_once (c ∷ cs) [] h = absurd cc
axioms_once (c ∷ cs) (d ∷ ds) h = let e = first_items _ _ _ _ h in ap₂ (λ (x : TreeClause) (xs : List TreeClause). x ∷ xs) e.0 (axioms_once cs ds e.2)

grounds_once : (cs ds : List TreeClause) → ground_items cs ≡ ground_items ds → cs ≡ ds
grounds_once [] [] h = refl
grounds_once [] (d ∷ ds) h = absurd cc
grounds_once (c ∷ cs) [] h = absurd cc
grounds_once (c ∷ cs) (d ∷ ds) h = let e = first_items _ _ _ _ h in ap₂ (λ (x : TreeClause) (xs : List TreeClause). x ∷ xs) e.0 (grounds_once cs ds e.2)

members_once : (es fs : List Entry) → member_items es ≡ member_items fs → es ≡ fs
members_once [] [] h = refl
members_once [] (f ∷ fs) h = absurd cc
members_once (e ∷ es) [] h = absurd cc
members_once (e ∷ es) (f ∷ fs) h =
    let k = first_items _ _ _ _ h in
    let o : e.origin ≡ f.origin = (let q = k.1 in cc) in
    let c = k.0 in
    ap₂ (λ (x : Entry) (xs : List Entry). x ∷ xs) (λ i. record { clause = c i; origin = o i }) (members_once es fs k.2)

selected_once : (es fs : List Entry) (ps qs : List ℕ) → length ps ≡ length es → length qs ≡ length fs → selected_items es ps ≡ selected_items fs qs → (es ≡ fs) × (ps ≡ qs)
selected_once [] [] [] [] a b h = (refl, refl)
selected_once [] fs (p ∷ ps) qs a b h = absurd (omega arith)
selected_once es [] ps (q ∷ qs) a b h = absurd (omega arith)
selected_once (e ∷ es) fs [] qs a b h = absurd (omega arith)
selected_once es (f ∷ fs) ps [] a b h = absurd (omega arith)
selected_once [] (f ∷ fs) [] (q ∷ qs) a b h = absurd cc
selected_once (e ∷ es) [] (p ∷ ps) [] a b h = absurd cc
selected_once (e ∷ es) (f ∷ fs) (p ∷ ps) (q ∷ qs) a b h =
    let k = first_items _ _ _ _ h in
    let o : e.origin ≡ f.origin = (let q = k.1 in cc) in
    let n : p ≡ q = (let f = k.1 in cc) in
    let c = k.0 in
    let m = selected_once es fs ps qs (omega arith) (omega arith) k.2 in
    (ap₂ (λ (x : Entry) (xs : List Entry). x ∷ xs) (λ i. record { clause = c i; origin = o i }) m.0, ap₂ (λ (x : ℕ) (xs : List ℕ). x ∷ xs) n m.1)

steps_once : (ss ts : List (Step Tree)) → step_items ss ≡ step_items ts → ss ≡ ts
steps_once [] [] h = refl
steps_once [] (t ∷ ts) h = absurd cc
steps_once (s ∷ ss) [] h = absurd cc
steps_once (s ∷ ss) (t ∷ ts) h =
    let k = first_items _ _ _ _ h in
    let hs : s.hints ≡ t.hints = (let q = k.1 in cc) in
    let c = k.0 in
    ap₂ (λ (x : Step Tree) (xs : List (Step Tree)). x ∷ xs) (λ i. record { clause = c i; hints = hs i }) (steps_once ss ts k.2)

ground_lines_once : (gs hs : List GroundLine) → line_items gs ≡ line_items hs → gs ≡ hs
ground_lines_once [] [] h = refl
ground_lines_once [] (t ∷ hs) h = absurd cc
ground_lines_once (s ∷ gs) [] h = absurd cc
ground_lines_once (s ∷ gs) (t ∷ hs) h =
    let k = first_items _ _ _ _ h in
    let c = k.0 in
    let i : s.input ≡ t.input = (let q = k.1 in cc) in
    let ts : s.terms ≡ t.terms = (let q = k.1 in cc) in
    ap₂ (λ (x : GroundLine) (xs : List GroundLine). x ∷ xs) (λ j. record { clause = c j; input = i j; terms = ts j }) (ground_lines_once gs hs k.2)

shown_once : (cs ds : List TreeClause) (as_ bs : List By) → length as_ ≡ length cs → length bs ≡ length ds → shown_items cs as_ ≡ shown_items ds bs → as_ ≡ bs
shown_once [] [] [] [] a b h = refl
shown_once [] ds (w ∷ as_) bs a b h = absurd (omega arith)
shown_once cs [] as_ (v ∷ bs) a b h = absurd (omega arith)
shown_once (c ∷ cs) ds [] bs a b h = absurd (omega arith)
shown_once cs (d ∷ ds) as_ [] a b h = absurd (omega arith)
shown_once [] (d ∷ ds) [] (v ∷ bs) a b h = absurd cc
shown_once (c ∷ cs) [] (w ∷ as_) [] a b h = absurd cc
shown_once (c ∷ cs) (d ∷ ds) (w ∷ as_) (v ∷ bs) a b h =
    let e = first_items _ _ _ _ h in
    let n : w ≡ v = (let f = e.1 in cc) in
    ap₂ (λ (x : By) (xs : List By). x ∷ xs) n (shown_once cs ds as_ bs (omega arith) (omega arith) e.2)

covers_once : (vs ws : List Cover) → cover_items vs ≡ cover_items ws → vs ≡ ws
covers_once [] [] h = refl
covers_once [] (t ∷ ws) h = absurd cc
covers_once (s ∷ vs) [] h = absurd cc
covers_once (s ∷ vs) (t ∷ ws) h =
    let k = first_items _ _ _ _ h in
    let c = k.0 in
    let l : s.left ≡ t.left = (let q = k.1 in cc) in
    let r : s.right ≡ t.right = (let q = k.1 in cc) in
    let d : s.side ≡ t.side = (let q = k.1 in cc) in
    let b : s.by ≡ t.by = (let q = k.1 in cc) in
    ap₂ (λ (x : Cover) (xs : List Cover). x ∷ xs) (λ j. record { left = l j; right = r j; side = d j; clause = c j; by = b j }) (covers_once vs ws k.2)

-- ---- values

constants_once : (s r : Sym) → is_constant s ≡ true → is_constant r ≡ true → s.name ≡ r.name → s ≡ r
constants_once s r h g e =
    let a = and_parts (is_function_kind s.kind) (nat_eq s.arity 0) h in
    let b = and_parts (is_function_kind r.kind) (nat_eq r.arity 0) g in
    let k = function_of s.kind a.0 ∙ sym (function_of r.kind b.0) in
    let n = number_is s.arity 0 a.1 ∙ sym (number_is r.arity 0 b.1) in
    λ i. record { kind = k i; name = e i; arity = n i }

-- the groups of a refutation, and of a saturation
module _ (A B C D E : List Item) (a : list_all (λ (i : Item). nat_eq (rank i.note) 0) A ≡ true) (b : list_all (λ (i : Item). nat_eq (rank i.note) 1) B ≡ true) (c : list_all (λ (i : Item). nat_eq (rank i.note) 2) C ≡ true) (d : list_all (λ (i : Item). nat_eq (rank i.note) 3) D ≡ true) (e : list_all (λ (i : Item). nat_eq (rank i.note) 4) E ≡ true) where
  abbrev all_groups : List Item
  all_groups = A ++ (B ++ (C ++ (D ++ E)))

  nothing_left : (k : ℕ) → nat_eq 4 k ≡ false → nat_eq 3 k ≡ false → only k (D ++ E) ≡ []
  nothing_left k p q = only_behind 3 k D E d q ∙ only_other 4 k E e p

  group_0 : only 0 all_groups ≡ A
  group_0 = only_front 0 A _ a (only_behind 1 0 B _ b refl ∙ only_behind 2 0 C _ c refl ∙ nothing_left 0 refl refl)

  group_1 : only 1 all_groups ≡ B
  group_1 = only_behind 0 1 A _ a refl ∙ only_front 1 B _ b (only_behind 2 1 C _ c refl ∙ nothing_left 1 refl refl)

  group_2 : only 2 all_groups ≡ C
  group_2 = only_behind 0 2 A _ a refl ∙ only_behind 1 2 B _ b refl ∙ only_front 2 C _ c (nothing_left 2 refl refl)

  group_3 : only 3 all_groups ≡ D
  group_3 = only_behind 0 3 A _ a refl ∙ only_behind 1 3 B _ b refl ∙ only_behind 2 3 C _ c refl ∙ only_front 3 D _ d (only_other 4 3 E e refl)

  group_4 : only 4 all_groups ≡ E
  group_4 = only_behind 0 4 A _ a refl ∙ only_behind 1 4 B _ b refl ∙ only_behind 2 4 C _ c refl ∙ only_behind 3 4 D _ d refl ∙ only_own 4 E e

-- the groups of a saturation that names its covers
module _ (A B C D E : List Item) (a : list_all (λ (i : Item). nat_eq (rank i.note) 0) A ≡ true) (b : list_all (λ (i : Item). nat_eq (rank i.note) 1) B ≡ true) (c : list_all (λ (i : Item). nat_eq (rank i.note) 2) C ≡ true) (d : list_all (λ (i : Item). nat_eq (rank i.note) 5) D ≡ true) (e : list_all (λ (i : Item). nat_eq (rank i.note) 6) E ≡ true) where
  abbrev covered_groups : List Item
  covered_groups = A ++ (B ++ (C ++ (D ++ E)))

  nothing_more : (k : ℕ) → nat_eq 6 k ≡ false → nat_eq 5 k ≡ false → only k (D ++ E) ≡ []
  nothing_more k p q = only_behind 5 k D E d q ∙ only_other 6 k E e p

  covered_0 : only 0 covered_groups ≡ A
  covered_0 = only_front 0 A _ a (only_behind 1 0 B _ b refl ∙ only_behind 2 0 C _ c refl ∙ nothing_more 0 refl refl)

  covered_1 : only 1 covered_groups ≡ B
  covered_1 = only_behind 0 1 A _ a refl ∙ only_front 1 B _ b (only_behind 2 1 C _ c refl ∙ nothing_more 1 refl refl)

  covered_2 : only 2 covered_groups ≡ C
  covered_2 = only_behind 0 2 A _ a refl ∙ only_behind 1 2 B _ b refl ∙ only_front 2 C _ c (nothing_more 2 refl refl)

  covered_5 : only 5 covered_groups ≡ D
  covered_5 = only_behind 0 5 A _ a refl ∙ only_behind 1 5 B _ b refl ∙ only_behind 2 5 C _ c refl ∙ only_front 5 D _ d (only_other 6 5 E e refl)

  covered_6 : only 6 covered_groups ≡ E
  covered_6 = only_behind 0 6 A _ a refl ∙ only_behind 1 6 B _ b refl ∙ only_behind 2 6 C _ c refl ∙ only_behind 5 6 D _ d refl ∙ only_own 6 E e

record AreGroups (is A B C D E : List Item) : Type 0 where
  pub zeroth : only 0 is ≡ A
  pub first : only 1 is ≡ B
  pub second : only 2 is ≡ C
  pub third : only 3 is ≡ D
  pub fourth : only 4 is ≡ E

groups_of : (c : FirstRefutation) → AreGroups (items_of (first_refutation c)) (input_items c.base.inputs c.base.names) (axiom_items c.base.axioms) (member_items c.base.members) (ground_items c.grounds) (step_items c.steps)
groups_of c =
    let A = input_items c.base.inputs c.base.names in let B = axiom_items c.base.axioms in let C = member_items c.base.members in let D = ground_items c.grounds in let E = step_items c.steps in
    let a = input_ranks c.base.inputs c.base.names in let b = axiom_ranks c.base.axioms in let m = member_ranks c.base.members in let d = ground_ranks c.grounds in let e = step_ranks c.steps in
    record { zeroth = group_0 A B C D E a b m d e; first = group_1 A B C D E a b m d e; second = group_2 A B C D E a b m d e; third = group_3 A B C D E a b m d e; fourth = group_4 A B C D E a b m d e }

refuted_once : (c d : FirstRefutation) → IsWritableRefutation c → IsWritableRefutation d → c.bot.name ≡ d.bot.name → items_of (first_refutation c) ≡ items_of (first_refutation d) → c ≡ d
refuted_once c d p q bots h =
    let g = groups_of c in
    let f = groups_of d in
    let i = inputs_once c.base.inputs d.base.inputs c.base.names d.base.names p.base.named q.base.named (sym g.zeroth ∙ ap (only 0) h ∙ f.zeroth) in
    let a = axioms_once c.base.axioms d.base.axioms (sym g.first ∙ ap (only 1) h ∙ f.first) in
    let m = members_once c.base.members d.base.members (sym g.second ∙ ap (only 2) h ∙ f.second) in
    let r = grounds_once c.grounds d.grounds (sym g.third ∙ ap (only 3) h ∙ f.third) in
    let s = steps_once c.steps d.steps (sym g.fourth ∙ ap (only 4) h ∙ f.fourth) in
    let t = constants_once c.bot d.bot p.constant q.constant bots in
    λ k. record { base = record { inputs = i.0 k; names = i.1 k; axioms = a k; members = m k }; bot = t k; grounds = r k; steps = s k }

line_groups : (c : Refutation) → AreGroups (items_of (refutation c)) (input_items c.base.inputs c.base.names) (axiom_items c.base.axioms) (member_items c.base.members) (line_items c.grounds) (step_items c.steps)
line_groups c =
    let A = input_items c.base.inputs c.base.names in let B = axiom_items c.base.axioms in let C = member_items c.base.members in let D = line_items c.grounds in let E = step_items c.steps in
    let a = input_ranks c.base.inputs c.base.names in let b = axiom_ranks c.base.axioms in let m = member_ranks c.base.members in let d = line_ranks c.grounds in let e = step_ranks c.steps in
    record { zeroth = group_0 A B C D E a b m d e; first = group_1 A B C D E a b m d e; second = group_2 A B C D E a b m d e; third = group_3 A B C D E a b m d e; fourth = group_4 A B C D E a b m d e }

lined_once : (c d : Refutation) → IsWritableByLines c → IsWritableByLines d → c.bot.name ≡ d.bot.name → items_of (refutation c) ≡ items_of (refutation d) → c ≡ d
lined_once c d p q bots h =
    let g = line_groups c in
    let f = line_groups d in
    let i = inputs_once c.base.inputs d.base.inputs c.base.names d.base.names p.base.named q.base.named (sym g.zeroth ∙ ap (only 0) h ∙ f.zeroth) in
    let a = axioms_once c.base.axioms d.base.axioms (sym g.first ∙ ap (only 1) h ∙ f.first) in
    let m = members_once c.base.members d.base.members (sym g.second ∙ ap (only 2) h ∙ f.second) in
    let r = ground_lines_once c.grounds d.grounds (sym g.third ∙ ap (only 3) h ∙ f.third) in
    let s = steps_once c.steps d.steps (sym g.fourth ∙ ap (only 4) h ∙ f.fourth) in
    let t = constants_once c.bot d.bot p.constant q.constant bots in
    λ k. record { base = record { inputs = i.0 k; names = i.1 k; axioms = a k; members = m k }; bot = t k; grounds = r k; steps = s k }

record AreCoveredGroups (is A B C D E : List Item) : Type 0 where
  pub zeroth : only 0 is ≡ A
  pub first : only 1 is ≡ B
  pub second : only 2 is ≡ C
  pub fifth : only 5 is ≡ D
  pub sixth : only 6 is ≡ E

covered_groups_of : (c : Covered) → AreCoveredGroups (items_of (covered c)) (input_items c.saturation.base.inputs c.saturation.base.names) (axiom_items c.saturation.base.axioms)
    (selected_items c.saturation.base.members c.saturation.places) (shown_items (c.saturation.base.inputs ++ c.saturation.base.axioms) c.shown) (cover_items c.covers)
covered_groups_of c =
    let x = c.saturation.base in
    let A = input_items x.inputs x.names in let B = axiom_items x.axioms in let C = selected_items x.members c.saturation.places in let D = shown_items (x.inputs ++ x.axioms) c.shown in let E = cover_items c.covers in
    let a = input_ranks x.inputs x.names in let b = axiom_ranks x.axioms in let m = selected_ranks x.members c.saturation.places in let d = shown_ranks (x.inputs ++ x.axioms) c.shown in let e = cover_ranks c.covers in
    record { zeroth = covered_0 A B C D E a b m d e; first = covered_1 A B C D E a b m d e; second = covered_2 A B C D E a b m d e; fifth = covered_5 A B C D E a b m d e; sixth = covered_6 A B C D E a b m d e }

covered_once : (c d : Covered) → IsWritableCovered c → IsWritableCovered d → items_of (covered c) ≡ items_of (covered d) → c ≡ d
covered_once c d p q h =
    let x = c.saturation.base in
    let y = d.saturation.base in
    let g = covered_groups_of c in
    let f = covered_groups_of d in
    let i = inputs_once x.inputs y.inputs x.names y.names p.saturation.base.named q.saturation.base.named (sym g.zeroth ∙ ap (only 0) h ∙ f.zeroth) in
    let a = axioms_once x.axioms y.axioms (sym g.first ∙ ap (only 1) h ∙ f.first) in
    let m = selected_once x.members y.members c.saturation.places d.saturation.places p.saturation.placed q.saturation.placed (sym g.second ∙ ap (only 2) h ∙ f.second) in
    let s = shown_once (x.inputs ++ x.axioms) (y.inputs ++ y.axioms) c.shown d.shown (p.each ∙ sym (length-append x.inputs x.axioms)) (q.each ∙ sym (length-append y.inputs y.axioms)) (sym g.fifth ∙ ap (only 5) h ∙ f.fifth) in
    let v = covers_once c.covers d.covers (sym g.sixth ∙ ap (only 6) h ∙ f.sixth) in
    λ k. record { saturation = record { base = record { inputs = i.0 k; names = i.1 k; axioms = a k; members = m.0 k }; places = m.1 k }; shown = s k; covers = v k }

saturated_once : (c d : Saturation) → IsWritableSaturation c → IsWritableSaturation d → items_of (saturation c) ≡ items_of (saturation d) → c ≡ d
saturated_once c d p q h =
    let i = inputs_once c.base.inputs d.base.inputs c.base.names d.base.names p.base.named q.base.named (sym (zero_of c) ∙ ap (only 0) h ∙ zero_of d) in
    let a = axioms_once c.base.axioms d.base.axioms (sym (one_of c) ∙ ap (only 1) h ∙ one_of d) in
    let m = selected_once c.base.members d.base.members c.places d.places p.placed q.placed (sym (two_of c) ∙ ap (only 2) h ∙ two_of d) in
    λ k. record { base = record { inputs = i.0 k; names = i.1 k; axioms = a k; members = m.0 k }; places = m.1 k }
  where
    zero_of : (e : Saturation) → only 0 (items_of (saturation e)) ≡ input_items e.base.inputs e.base.names
    zero_of e = only_front 0 (input_items e.base.inputs e.base.names) (axiom_items e.base.axioms ++ selected_items e.base.members e.places) (input_ranks e.base.inputs e.base.names)
        (only_behind 1 0 (axiom_items e.base.axioms) (selected_items e.base.members e.places) (axiom_ranks e.base.axioms) refl ∙ only_other 2 0 (selected_items e.base.members e.places) (selected_ranks e.base.members e.places) refl)

    one_of : (e : Saturation) → only 1 (items_of (saturation e)) ≡ axiom_items e.base.axioms
    one_of e = only_behind 0 1 (input_items e.base.inputs e.base.names) (axiom_items e.base.axioms ++ selected_items e.base.members e.places) (input_ranks e.base.inputs e.base.names) refl
        ∙ only_front 1 (axiom_items e.base.axioms) (selected_items e.base.members e.places) (axiom_ranks e.base.axioms) (only_other 2 1 (selected_items e.base.members e.places) (selected_ranks e.base.members e.places) refl)

    two_of : (e : Saturation) → only 2 (items_of (saturation e)) ≡ selected_items e.base.members e.places
    two_of e = only_behind 0 2 (input_items e.base.inputs e.base.names) (axiom_items e.base.axioms ++ selected_items e.base.members e.places) (input_ranks e.base.inputs e.base.names) refl
        ∙ only_behind 1 2 (axiom_items e.base.axioms) (selected_items e.base.members e.places) (axiom_ranks e.base.axioms) refl ∙ only_own 2 (selected_items e.base.members e.places) (selected_ranks e.base.members e.places)

-- ---- texts

abbrev form_of : List Line → Bool
form_of (status r name ∷ ls) = r
form_of _ = false

not_lined : (f : ℕ) (c : FirstRefutation) (d : Refutation) → HasFormat f (first_refutation c) → HasFormat f (refutation d) → ⊥
not_lined f c d (e, a) (inl h) = omega arith
not_lined f c d (e, a) (inr h) = omega arith

not_covered : (f : ℕ) (c : Saturation) (d : Covered) → HasFormat f (saturation c) → HasFormat f (covered d) → ⊥
not_covered f c d (inl (e, a)) h = omega arith
not_covered f c d (inr e) h = omega arith

abbrev version_of : List Line → ℕ
version_of (status r m ∷ opening q n ∷ version f ∷ ls) = f
version_of _ = 0

abbrev name_in : List Line → List ℕ
name_in (status r m ∷ ls) = m
name_in _ = []

lines_once : (f : ℕ) (m n : List ℕ) (v w : Certificate) → HasFormat f v → HasFormat f w → IsWritable v → IsWritable w → lines_of f m v ≡ lines_of f n w → v ≡ w
lines_once f m n (first_refutation c) (first_refutation d) k l p q h =
    let a = cons_once _ _ _ _ h in
    let b = cons_once _ _ _ _ a.1 in
    let e = cons_once _ _ _ _ b.1 in
    let g = cons_once (constant c.bot.name) (constant d.bot.name) _ _ e.1 in
    let bots : c.bot.name ≡ d.bot.name = (let z = g.0 in cc) in
    ap first_refutation (refuted_once c d p q bots (items_once [] (items_of (first_refutation c)) (items_of (first_refutation d)) true true m n g.1))
lines_once f m n (refutation c) (refutation d) k l p q h =
    let a = cons_once _ _ _ _ h in
    let b = cons_once _ _ _ _ a.1 in
    let e = cons_once _ _ _ _ b.1 in
    let g = cons_once (constant c.bot.name) (constant d.bot.name) _ _ e.1 in
    let bots : c.bot.name ≡ d.bot.name = (let z = g.0 in cc) in
    ap refutation (lined_once c d p q bots (items_once [] (items_of (refutation c)) (items_of (refutation d)) true true m n g.1))
lines_once f m n (saturation c) (saturation d) k l p q h =
    let a = cons_once _ _ _ _ h in
    let b = cons_once _ _ _ _ a.1 in
    let e = cons_once _ _ _ _ b.1 in
    ap saturation (saturated_once c d p q (items_once [] (items_of (saturation c)) (items_of (saturation d)) false false m n e.1))
lines_once f m n (covered c) (covered d) k l p q h =
    let a = cons_once _ _ _ _ h in
    let b = cons_once _ _ _ _ a.1 in
    let e = cons_once _ _ _ _ b.1 in
    ap covered (covered_once c d p q (items_once [] (items_of (covered c)) (items_of (covered d)) false false m n e.1))
lines_once f m n (first_refutation c) (refutation d) k l p q h = absurd (not_lined f c d k l)
lines_once f m n (refutation d) (first_refutation c) k l p q h = absurd (not_lined f c d l k)
lines_once f m n (saturation c) (covered d) k l p q h = absurd (not_covered f c d k l)
lines_once f m n (covered d) (saturation c) k l p q h = absurd (not_covered f c d l k)
lines_once f m n (first_refutation c) (saturation d) k l p q h = absurd (let z = ap form_of h in cc)
lines_once f m n (first_refutation c) (covered d) k l p q h = absurd (let z = ap form_of h in cc)
lines_once f m n (refutation c) (saturation d) k l p q h = absurd (let z = ap form_of h in cc)
lines_once f m n (refutation c) (covered d) k l p q h = absurd (let z = ap form_of h in cc)
lines_once f m n (saturation c) (first_refutation d) k l p q h = absurd (let z = ap form_of h in cc)
lines_once f m n (saturation c) (refutation d) k l p q h = absurd (let z = ap form_of h in cc)
lines_once f m n (covered c) (first_refutation d) k l p q h = absurd (let z = ap form_of h in cc)
lines_once f m n (covered c) (refutation d) k l p q h = absurd (let z = ap form_of h in cc)

-- Two printable certificates with one text are equal, and so are their formats and names.
pub texts_once : (f g : ℕ) (m n : List ℕ) (c d : Certificate) → IsTextName m → IsTextName n → IsPrintable f c → IsPrintable g d → certificate_text f m c ≡ certificate_text g n d → (f ≡ g) × (m ≡ n) × (c ≡ d)
texts_once f g m n c d a b p q h =
    let v = writable c p.parts p.numbers in
    let w = writable d q.parts q.numbers in
    let same = one_list (lines_of f m c) (lines_of g n d) (are_lines f m c a p.known v) (are_lines g n d b q.known w) (sym (text_is f m c) ∙ h ∙ text_is g n d) in
    let formats : f ≡ g = ap version_of same in
    let names : m ≡ n = ap name_in same in
    (formats, names, lines_once g m n c d (subst (λ k. HasFormat k c) formats p.known) q.known v w (ap (λ k. lines_of k m c) (sym formats) ∙ same))
