-- The frames that a step adds.
use Rattle.std.proofs.Common.{◌≡◌, ◌≢◌, ◌<◌, ◌≤◌, ◌+◌, ◌-◌, ◌⊎◌, inl, inr, ℕ, zero, suc, List, [], ◌∷◌, ◌++◌, length, map, get_or, Contains, Option, Some, None, Bool, true, false, ◌&&◌, nat_eq, refl, sym, ◌∙◌, ap, ap₂, subst, arith, append_assoc, All, length-append}
use Rattle.std.proofs.lemmas.List.{length-map, map-append}
use Rattle.std.specs.Prelude.{if◌then◌else◌}
use Rattle.std.proofs.lemmas.Bool.Decides.{Decides-eqb}
use Rattle.std.proofs.lemmas.List.Elements.{All-append, All-contains, All-nil, All-cons, All-weaker}
use Rattle.inst_logic.specs.EqualLaws.{and_left, and_right, and_both}
use Rattle.term_index.specs.declared.view.View.{View}
use Rattle.term_index.specs.declared.label.Label.{Label}
use Rattle.term_index.specs.declared.label.Label.TheVariants.{Variable, Symbol}
use Rattle.term_index.specs.declared.node.Edge.{Edge}
use Rattle.term_index.specs.declared.walk.Cell.{Cell}
use Rattle.term_index.specs.declared.walk.Frame.{Frame}
use Rattle.term_index.specs.Labels.{arity_of}
use Rattle.term_index.specs.Nodes.{Content}
use Rattle.term_index.specs.Paths.{PlaceLists, content_at, MakeTrie}
use Rattle.term_index.specs.Wide.{atom_bends, query_bends}
use Rattle.term_index.specs.Run.{Graph, Todo, node_at, args_at, step, meet, nothing_left}
use Rattle.term_index.specs.Spots.{Spot, AreNext}
use Rattle.term_index.specs.Frames.{spot, list_of, rest_of, IsFrame, AreFrames, AreMarked, AreCells, exit_frame, ends_of, AddsOne, AddsInner, AddsNext, Grows, fan_of}
use Rattle.term_index.proofs.NextLaws.{child_within, ends_next, end_within, exit_spot, next_one, next_two, IsOne}
use Rattle.term_index.proofs.SpotLaws.{pairs_append}
use Rattle.term_index.proofs.LeafLaws.{leaves_few}
use Rattle.term_index.proofs.FrameLaws.{list_grown}

All_map : {A B : Type 0} (P : B → Type 0) (f : A → B) (xs : List A) → ((x : A) → Contains xs x → P (f x)) → All P (map f xs)
All_map P f [] h = All-nil P
All_map P f (x ∷ xs) h = All-cons P (f x) (map f xs) (h x (0, omega arith, refl)) (All_map P f xs (λ y c. h y (suc c.0, omega (arith, c.1), c.2)))

pub fan_above : (ns : List Content) → 2 < fan_of ns
fan_above [] = omega arith
fan_above (c ∷ ns) = omega (arith, fan_above ns)

few_exits : (ns : List Content) (n : ℕ) → n < length ns → length (content_at ns n).exits < fan_of ns
few_exits [] n h = absurd (omega arith)
few_exits (c ∷ ns) zero h = omega (arith, fan_above ns)
few_exits (c ∷ ns) (suc n) h = let r = few_exits ns n (omega arith) in omega (arith, r)

few_nodes : (ns : List Content) → length ns < fan_of ns
few_nodes [] = omega arith
few_nodes (c ∷ ns) = let r = few_nodes ns in omega (arith, r)

few_ends : (ns : List Content) (n : ℕ) → n < length ns → length (ends_of ns n) < fan_of ns
few_ends ns zero h = omega (arith, leaves_few ns (length ns), few_nodes ns)
few_ends ns (suc n) h = few_exits ns (suc n) h

-- frames that were pushed when there were as many cells, and at most one frame
same_marks : (low : ℕ) (fs : List Frame) → All (λ x. x.cells ≡ low) fs → AreMarked fs
same_marks low fs h i j d a b = omega (arith, h i d (omega arith), h j d b)

short_marks : (fs : List Frame) → length fs ≤ 1 → AreMarked fs
short_marks fs h i j d a b = absurd (omega arith)

pub some_todo : (q : ℕ) (rest : List ℕ) → ¬ (Path Todo (0, q ∷ rest) nothing_left)
some_todo q rest e = let z : length (q ∷ rest) ≡ 0 = ap (λ (t : Todo). length t.1) e in omega arith

-- at most one frame, where the label leads from the node, pushed when there were between so many cells and so many
abbrev pub AddsAt : Graph → List Edge → List Content → List Cell → ℕ → Label → Todo → ℕ → ℕ → List Frame → List Frame → Type 0
AddsAt g es ns cs n l t low high old new = (fs : List Frame) × (new ≡ old ++ fs) × IsOne es ns n l t (map (spot g cs) fs) × AreFrames g (length ns) (length cs) fs × (length fs ≤ 1) × All (λ f. (low ≤ f.cells) × (f.cells ≤ high)) fs

module _ (v : View) (g : Graph) (es : List Edge) (ps : PlaceLists) (ns : List Content) (a : MakeTrie es ps ns) where
  same_spots : (cs : List Cell) (f : Frame) (exits : List ℕ) → map (spot g cs) (map (exit_frame f) exits) ≡ map (exit_spot v g es ps ns a (rest_of g cs f)) exits
  same_spots cs f [] = refl
  same_spots cs f (r ∷ exits) = ap (λ xs. exit_spot v g es ps ns a (rest_of g cs f) r ∷ xs) (same_spots cs f exits)

  -- the frames after any term
  pub adds_ends : (cs : List Cell) (f : Frame) (q : ℕ) (old new : List Frame) → IsFrame g (length ns) (length cs) f → ((l : Label) → step v g l (Some (0, q ∷ rest_of g cs f)) ≡ Some (0 + arity_of l, rest_of g cs f))
      → new ≡ old ++ map (exit_frame f) (ends_of ns f.node) → AddsNext v g es ns (record { node = f.node; todo = (0, q ∷ rest_of g cs f) }) f.cells cs old new
  adds_ends cs f q old new w go is =
      let ends = ends_of ns f.node in (
        map (exit_frame f) ends,
        is,
        subst (AreNext v g es ns (record { node = f.node; todo = (0, q ∷ rest_of g cs f) })) (sym (same_spots cs f ends)) (ends_next v g es ps ns a f.node q (rest_of g cs f) go),
        All_map (IsFrame g (length ns) (length cs)) (exit_frame f) ends (λ c h. (end_within v g es ps ns a f.node c w.0 h, w.1, w.2, w.3, w.4)),
        omega (arith, length-map ends (exit_frame f), few_ends ns f.node w.0),
        All_map (λ x. f.cells ≤ x.cells) (exit_frame f) ends (λ r h. omega arith),
        same_marks f.cells (map (exit_frame f) ends) (All_map (λ x. x.cells ≡ f.cells) (exit_frame f) ends (λ r h. refl)),
      )

  -- the frames that one label adds
  pub one_frames : (cs : List Cell) (l : Label) (f : Frame) (old new : List Frame) → IsFrame g (length ns) (length cs) f → AddsOne es ns f l old new → AddsAt g es ns cs f.node l (0, rest_of g cs f) f.cells f.cells old new
  one_frames cs l f old new w (inl (e, h)) = ([], e ∙ sym (Rattle.std.proofs.Common.append-nil old), inl (refl, h), All-nil (IsFrame g (length ns) (length cs)), omega arith, All-nil (λ x. (f.cells ≤ x.cells) × (x.cells ≤ f.cells)))
  one_frames cs l f old new w (inr (c, h, e)) = (
    record f { node = c } ∷ [],
    e,
    inr (c, h, refl),
    All-cons (IsFrame g (length ns) (length cs)) (record f { node = c }) [] (child_within v g es ps ns a f.node l c h.0, w.1, w.2, w.3, w.4) (All-nil (IsFrame g (length ns) (length cs))),
    omega arith,
    All-cons (λ x. (f.cells ≤ x.cells) × (x.cells ≤ f.cells)) (record f { node = c }) [] (omega arith, omega arith) (All-nil (λ x. (f.cells ≤ x.cells) × (x.cells ≤ f.cells))),
  )

  inner_frames : (cs ds : List Cell) (q : ℕ) (l : Label) (f : Frame) (old new : List Frame) → AddsInner g es ns cs ds q l f old new → AddsAt g es ns ds f.node l (0, args_at g q ++ rest_of g cs f) f.cells (length ds) old new
  inner_frames cs ds q l f old new (inl (e, h)) = ([], e ∙ sym (Rattle.std.proofs.Common.append-nil old), inl (refl, h), All-nil (IsFrame g (length ns) (length ds)), omega arith, All-nil (λ x. (f.cells ≤ x.cells) × (x.cells ≤ length ds)))
  inner_frames cs ds q l f old new (inr (i, k, e, x, y, z, m, n, r)) = (
    i ∷ [],
    e,
    inr (i.node, k, ap (λ (ys : List ℕ). record { node = i.node; todo = (0, ys) } ∷ []) r),
    All-cons (IsFrame g (length ns) (length ds)) i [] (child_within v g es ps ns a f.node l i.node k.0, x, y, z, m) (All-nil (IsFrame g (length ns) (length ds))),
    omega arith,
    All-cons (λ x. (f.cells ≤ x.cells) × (x.cells ≤ length ds)) i [] (n, m) (All-nil (λ x. (f.cells ≤ x.cells) × (x.cells ≤ length ds))),
  )

  pub adds_one : (cs : List Cell) (s : Spot) (l : Label) (t : Todo) (low high : ℕ) (old new : List Frame) → ¬ (s.todo ≡ nothing_left)
      → step v g l (Some s.todo) ≡ Some t → ((m : Label) (u : Todo) → step v g m (Some s.todo) ≡ Some u → m ≡ l) → AddsAt g es ns cs s.node l t low high old new
      → AddsNext v g es ns s low cs old new
  adds_one cs s l t low high old new left go alone r = (
    r.0,
    r.1,
    next_one v g es ps ns a s l t (map (spot g cs) r.0) left r.2 go alone,
    r.3,
    omega (arith, r.4, fan_above ns),
    All-weaker (λ x. (low ≤ x.cells) × (x.cells ≤ high)) (λ x. low ≤ x.cells) (λ x h. h.0) r.0 r.5,
    short_marks r.0 r.4,
  )

  adds_two : (cs : List Cell) (s : Spot) (l m : Label) (t u : Todo) (low high : ℕ) (old mid new : List Frame) → ¬ (s.todo ≡ nothing_left) → l ≢ m
      → step v g l (Some s.todo) ≡ Some t → step v g m (Some s.todo) ≡ Some u
      → ((k : Label) (w : Todo) → step v g k (Some s.todo) ≡ Some w → (k ≡ l) ⊎ (k ≡ m)) → AddsAt g es ns cs s.node l t low low old mid → AddsAt g es ns cs s.node m u low high mid new
      → AddsNext v g es ns s low cs old new
  adds_two cs s l m t u low high old mid new left differ go to alone r q =
      let P = IsFrame g (length ns) (length cs) in (
        r.0 ++ q.0,
        q.1 ∙ ap (λ ys. ys ++ q.0) r.1 ∙ append_assoc old r.0 q.0,
        subst (AreNext v g es ns s) (sym (map-append (spot g cs) r.0 q.0)) (next_two v g es ps ns a s l m t u (map (spot g cs) r.0) (map (spot g cs) q.0) left differ r.2 q.2 go to alone),
        All-append P r.0 q.0 r.3 q.3,
        omega (arith, length-append r.0 q.0, r.4, q.4, fan_above ns),
        All-append (λ x. low ≤ x.cells) r.0 q.0 (All-weaker (λ x. (low ≤ x.cells) × (x.cells ≤ low)) (λ x. low ≤ x.cells) (λ x h. h.0) r.0 r.5) (All-weaker (λ x. (low ≤ x.cells) × (x.cells ≤ high)) (λ x. low ≤ x.cells) (λ x h. h.0) q.0 q.5),
        pairs_append (λ a b. a.cells ≤ b.cells) r.0 q.0 (short_marks r.0 r.4) (short_marks q.0 q.4)
            (λ x y h k. omega (arith, (All-contains (λ x. (low ≤ x.cells) × (x.cells ≤ low)) r.0 x r.5 h).1, (All-contains (λ x. (low ≤ x.cells) × (x.cells ≤ high)) q.0 y q.5 k).0)),
      )

-- what a node of the query and a label make
module _ (v : View) (g : Graph) where
  pub step_variable : (q : ℕ) (rest : List ℕ) → (node_at g q).label ≡ Variable → query_bends v ≡ true → (l : Label) → step v g l (Some (0, q ∷ rest)) ≡ Some (0 + arity_of l, rest)
  step_variable q rest e b Variable = ap (λ m. meet v g q rest m Variable) e
  step_variable q rest e b (Symbol s n) =
      let z : n ≡ 0 + n = omega arith in
      ap (λ m. meet v g q rest m (Symbol s n)) e ∙ ap (λ c. if c then Some (n, rest) else None) b ∙ ap (λ k. Some (k, rest)) z

  pub step_fixed : (q : ℕ) (rest : List ℕ) → (node_at g q).label ≡ Variable → query_bends v ≡ false → (l : Label) (u : Todo) → step v g l (Some (0, q ∷ rest)) ≡ Some u → l ≡ Variable
  step_fixed q rest e b Variable u h = refl
  step_fixed q rest e b (Symbol s n) u h =
      let k : None ≡ Some u = sym (ap (λ m. meet v g q rest m (Symbol s n)) e ∙ ap (λ c. if c then Some (n, rest) else None) b) ∙ h in
      cc

  pub step_bent : (q r m : ℕ) (rest : List ℕ) → (node_at g q).label ≡ Symbol r m → atom_bends v ≡ true → step v g Variable (Some (0, q ∷ rest)) ≡ Some (0, rest)
  step_bent q r m rest e b = ap (λ k. meet v g q rest k Variable) e ∙ ap (λ c. if c then Some (0, rest) else None) b

  pub step_symbol : (q r m : ℕ) (rest : List ℕ) → (node_at g q).label ≡ Symbol r m → step v g (Symbol r m) (Some (0, q ∷ rest)) ≡ Some (0, args_at g q ++ rest)
  step_symbol q r m rest e =
      ap (λ k. meet v g q rest k (Symbol r m)) e
      ∙ ap (λ c. if c then Some (0, args_at g q ++ rest) else None) (and_both (nat_eq r r) (nat_eq m m) ((Decides-eqb r r).1 refl) ((Decides-eqb m m).1 refl))

  pub step_either : (q r m : ℕ) (rest : List ℕ) → (node_at g q).label ≡ Symbol r m → (l : Label) (u : Todo) → step v g l (Some (0, q ∷ rest)) ≡ Some u → (l ≡ Variable) ⊎ (l ≡ Symbol r m)
  step_either q r m rest e Variable u h = inl refl
  step_either q r m rest e (Symbol s n) u h = by (nat_eq r s && nat_eq m n) refl
    where
      by : (c : Bool) → (nat_eq r s && nat_eq m n) ≡ c → (Symbol s n ≡ Variable) ⊎ (Symbol s n ≡ Symbol r m)
      by true p =
          let x : r ≡ s = (Decides-eqb r s).0 (and_left _ _ p) in
          let y : m ≡ n = (Decides-eqb m n).0 (and_right (nat_eq r s) _ p) in
          inr (λ i. Symbol (sym x i) (sym y i))
      by false p =
          let k : None ≡ Some u = sym (ap (λ l. meet v g q rest l (Symbol s n)) e ∙ ap (λ c. if c then Some (0, args_at g q ++ rest) else None) p) ∙ h in
          absurd (cc)

  pub step_rigid : (q r m : ℕ) (rest : List ℕ) → (node_at g q).label ≡ Symbol r m → atom_bends v ≡ false → (l : Label) (u : Todo) → step v g l (Some (0, q ∷ rest)) ≡ Some u → l ≡ Symbol r m
  step_rigid q r m rest e b l u h = elim (step_either q r m rest e l u h) [ inl k ↦ absurd (stuck k) | inr k ↦ k ]
    where
      stuck : l ≡ Variable → ⊥
      stuck k =
          let j : None ≡ Some u = sym (ap (λ x. step v g x (Some (0, q ∷ rest))) k ∙ ap (λ x. meet v g q rest x Variable) e ∙ ap (λ c. if c then Some (0, rest) else None) b) ∙ h in
          absurd (cc)

-- a frame keeps its list when cells are added
pub rest_grown : (g : Graph) (cs ds : List Cell) (f : Frame) → AreCells g cs → Grows cs ds → f.rest ≤ length cs → rest_of g ds f ≡ rest_of g cs f
rest_grown g cs ds f h (more, e) w = ap (λ xs. Rattle.term_index.specs.Frames.between g.args f.at f.end ++ xs) (ap (λ xs. list_of g.args xs f.rest) e ∙ list_grown g.args cs more (λ k p. (h k p).0) f.rest w)

-- the frames at a node of the query that is a symbol
pub adds_symbol : (v : View) (g : Graph) (es : List Edge) (ps : PlaceLists) (ns : List Content) (a : MakeTrie es ps ns) (cs ds : List Cell) (q r m : ℕ) (f : Frame) (old mid new : List Frame)
    → AreCells g cs → Grows cs ds → IsFrame g (length ns) (length cs) f → (node_at g q).label ≡ Symbol r m
    → (atom_bends v ≡ true → AddsOne es ns f Variable old mid) → (atom_bends v ≡ false → mid ≡ old) → AddsInner g es ns cs ds q (Symbol r m) f mid new
    → AddsNext v g es ns (record { node = f.node; todo = (0, q ∷ rest_of g cs f) }) f.cells ds old new
adds_symbol v g es ps ns a cs ds q r m f old mid new h grows w e bends stays one = by (atom_bends v) refl
  where
    rest : List ℕ
    rest = rest_of g cs f

    wide : IsFrame g (length ns) (length ds) f
    wide = (w.0, w.1, w.2, w.3, omega (arith, w.4, length-append cs grows.0, ap length grows.1))

    inner : AddsAt g es ns ds f.node (Symbol r m) (0, args_at g q ++ rest_of g cs f) f.cells (length ds) mid new
    inner = inner_frames v g es ps ns a cs ds q (Symbol r m) f mid new one

    outer : AddsOne es ns f Variable old mid → AddsAt g es ns ds f.node Variable (0, rest_of g cs f) f.cells f.cells old mid
    outer x = subst (λ ys. AddsAt g es ns ds f.node Variable (0, ys) f.cells f.cells old mid) (rest_grown g cs ds f h grows (omega (arith, w.3, w.4))) (one_frames v g es ps ns a ds Variable f old mid wide x)

    by : (b : Bool) → atom_bends v ≡ b → AddsNext v g es ns (record { node = f.node; todo = (0, q ∷ rest_of g cs f) }) f.cells ds old new
    by true b =
        adds_two v g es ps ns a ds (record { node = f.node; todo = (0, q ∷ rest_of g cs f) }) Variable (Symbol r m) (0, rest_of g cs f) (0, args_at g q ++ rest_of g cs f) f.cells (length ds) old mid new (some_todo q (rest_of g cs f)) (λ p. absurd (cc))
        (step_bent v g q r m (rest_of g cs f) e b) (step_symbol v g q r m (rest_of g cs f) e) (step_either v g q r m (rest_of g cs f) e) (outer (bends b)) inner
    by false b =
        adds_one v g es ps ns a ds (record { node = f.node; todo = (0, q ∷ rest_of g cs f) }) (Symbol r m) (0, args_at g q ++ rest_of g cs f) f.cells (length ds) old new (some_todo q (rest_of g cs f))
        (step_symbol v g q r m (rest_of g cs f) e) (step_rigid v g q r m (rest_of g cs f) e b)
        (subst (λ xs. AddsAt g es ns ds f.node (Symbol r m) (0, args_at g q ++ rest_of g cs f) f.cells (length ds) xs new) (stays b) inner)

-- the spot of a frame whose first argument is taken off
pub first_taken : (g : Graph) (cs : List Cell) (f : Frame) → f.at < f.end → f.end ≤ length g.args
    → (let s : Spot = record { node = f.node; todo = (0, get_or g.args f.at 0 ∷ rest_of g cs (record { node = f.node; at = f.at + 1; end = f.end; rest = f.rest; cells = f.cells })) } in s) ≡ spot g cs f
first_taken g cs f h w =
    let e = ap (λ xs. xs ++ list_of g.args cs f.rest) (sym (Rattle.term_index.proofs.FrameLaws.between_first g.args f.at f.end h w)) in
    λ i. record { node = f.node; todo = (0, e i) }

pub step_same : (v : View) (g : Graph) (q : ℕ) (rest : List ℕ) → (node_at g q).label ≡ Variable → step v g Variable (Some (0, q ∷ rest)) ≡ Some (0, rest)
step_same v g q rest e = ap (λ m. meet v g q rest m Variable) e

-- a variable of the query is met by any term, or by a variable alone
pub adds_variable : (v : View) (g : Graph) (es : List Edge) (ps : PlaceLists) (ns : List Content) (a : MakeTrie es ps ns) (cs : List Cell) (q : ℕ) (f : Frame) (old new : List Frame)
    → IsFrame g (length ns) (length cs) f → (node_at g q).label ≡ Variable
    → (query_bends v ≡ true → new ≡ old ++ map (exit_frame f) (ends_of ns f.node)) → (query_bends v ≡ false → AddsOne es ns f Variable old new)
    → AddsNext v g es ns (record { node = f.node; todo = (0, q ∷ rest_of g cs f) }) f.cells cs old new
adds_variable v g es ps ns a cs q f old new w e bends stays = by (query_bends v) refl
  where
    rest : List ℕ
    rest = rest_of g cs f

    by : (b : Bool) → query_bends v ≡ b → AddsNext v g es ns (record { node = f.node; todo = (0, q ∷ rest_of g cs f) }) f.cells cs old new
    by true b = adds_ends v g es ps ns a cs f q old new w (step_variable v g q rest e b) (bends b)
    by false b =
        adds_one v g es ps ns a cs (record { node = f.node; todo = (0, q ∷ rest_of g cs f) }) Variable (0, rest) f.cells f.cells old new (some_todo q rest)
        (step_same v g q rest e) (step_fixed v g q rest e b) (one_frames v g es ps ns a cs Variable f old new w (stays b))
