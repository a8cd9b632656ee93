-- A walk after one of its steps.
use Rattle.std.proofs.Common.{◌≡◌, ◌≢◌, ◌<◌, ◌≤◌, ◌+◌, ◌-◌, ◌*◌, ◌^◌, ◌⊎◌, ◌↔◌, inl, inr, ℕ, zero, suc, List, [], ◌∷◌, ◌++◌, length, map, take, drop, get_or, Contains, refl, sym, ◌∙◌, ap, ap₂, subst, arith, length-append, append_assoc, All}
use Rattle.std.proofs.lemmas.List.Elements.{All-append, All-head, All-tail, All-take, All-contains, Contains-append_cases, Contains-get_or}
use Rattle.std.proofs.lemmas.List.{take-append-drop, get_or-take, length-take-le, map-append}
use Rattle.term_index.specs.declared.view.View.{View}
use Rattle.term_index.specs.Pairs.{Posting, Gives, IsOver}
use Rattle.term_index.specs.declared.node.Edge.{Edge}
use Rattle.term_index.specs.declared.walk.Cell.{Cell}
use Rattle.term_index.specs.declared.walk.Frame.{Frame}
use Rattle.term_index.specs.Nodes.{Content}
use Rattle.term_index.specs.Paths.{PlaceLists, content_at, MakeTrie}
use Rattle.term_index.specs.Run.{Graph, nothing_left}
use Rattle.term_index.specs.Spots.{Spot, Comes, IsWalk}
use Rattle.term_index.specs.Frames.{no_cell, cell_at, spot, list_of, list_in, between, AreCells, AreFrames, AreMarked, IsFrame, fan_of, AddsNext, Grows, IsSettled}
use Rattle.term_index.specs.Walking.{pairs_count, weight_of, most_of, IsWalking, WalkComes, GoesOn}
use Rattle.term_index.proofs.NextLaws.{in_map}
use Rattle.term_index.proofs.SpotLaws.{only, pairs_front, pairs_across, pairs_append, walk_leaf, walk_on, comes_on, comes_leaf, comes_given}
use Rattle.std.proofs.Math.Nat.{one-le-pow, pow-suc}
use Rattle.term_bank.proofs.Nodes.{last_or_before}
use Rattle.term_index.proofs.AddLaws.{rest_grown, fan_above}
use Rattle.term_index.proofs.FrameLaws.{between_none}

weight-append : (b t : ℕ) (xs ys : List Frame) → weight_of b t (xs ++ ys) ≡ weight_of b t xs + weight_of b t ys
weight-append b t [] ys = omega arith
weight-append b t (x ∷ xs) ys = let e = weight-append b t xs ys in omega (arith, e)

front_frames : (g : Graph) (n l : ℕ) (xs ys : List Frame) → AreFrames g n l (xs ++ ys) → AreFrames g n l xs
front_frames g n l xs ys h k d w = subst (IsFrame g n l) (Rattle.std.proofs.Math.ListN.get_or-append xs ys d k w) (h k d (let e = length-append xs ys in omega arith))

pub last_frame : (g : Graph) (n l : ℕ) (xs : List Frame) (f : Frame) → AreFrames g n l (xs ++ f ∷ []) → IsFrame g n l f
last_frame g n l xs f h = All-contains (IsFrame g n l) (xs ++ f ∷ []) f h (Rattle.std.proofs.lemmas.List.Elements.Contains-push xs f)

-- the spots of old frames stay
same_spots : (g : Graph) (cs ds : List Cell) (n : ℕ) (fs : List Frame) → AreCells g cs → Grows cs ds → AreFrames g n (length cs) fs → map (spot g ds) fs ≡ map (spot g cs) fs
same_spots g cs ds n [] h grows w = refl
same_spots g cs ds n (f ∷ fs) h grows w =
    let P = IsFrame g n (length cs) in
    let e = rest_grown g cs ds f h grows (let q = All-head P f fs w in omega (arith, q.3, q.4)) in
    ap₂ (λ (r : List ℕ) (xs : List Spot). record { node = f.node; todo = (0, r) } ∷ xs) e (same_spots g cs ds n fs h grows (All-tail P f fs w))

-- what is done with
pub nothing_is : (g : Graph) (cs : List Cell) (f : Frame) → f.at ≡ f.end → IsSettled f → (spot g cs f).todo ≡ nothing_left
unfolding list_in
nothing_is g cs f e (inl h) = absurd (omega arith)
nothing_is g cs f e (inr h) =
    let x = between_none g.args f.at f.end (omega arith) in
    let y = ap (list_of g.args cs) h.1 in
    let w : between g.args f.at f.end ++ list_of g.args cs f.rest ≡ [] = ap₂ (λ xs ys. xs ++ ys) x y in
    λ i. (0, w i)

few_pairs : (ns : List Content) (n : ℕ) → length (content_at ns n).pairs ≤ pairs_count ns
few_pairs [] n = omega arith
few_pairs (c ∷ ns) zero = omega arith
few_pairs (c ∷ ns) (suc n) = let r = few_pairs ns n in omega (arith, r)

positive : (b k : ℕ) → 2 < b → 0 < b ^ k
positive b k h = let p = one-le-pow k b (omega arith) in omega (arith, p)

powers : (b i j : ℕ) → 2 < b → i ≤ j → b ^ i ≤ b ^ j
powers b i zero h w = let e : i ≡ 0 = omega arith in rw e (omega arith)
powers b i (suc j) h w = elim (last_or_before i (suc j) (omega arith)) [
  | inl p ↦ (let r = powers b i j h (omega arith) in let x = pow-suc b j in let y : b ^ j * 1 ≤ b ^ j * b = Rattle.std.proofs.Common.mul-le-mul_left (b ^ j) (omega arith) in omega (arith, r, x, y))
  | inr e ↦ rw e (omega arith)
]

heavier : (e w x r s : ℕ) → w < x → r ≤ e → (e + 1) * w + r < (e + 1) * x + s
heavier e w x r s h k =
    let m : (e + 1) * suc w ≤ (e + 1) * x = Rattle.std.proofs.Common.mul-le-mul_left (e + 1) h in
    let n : (e + 1) * suc w ≡ (e + 1) * w + (e + 1) = Rattle.std.proofs.Common.mul-suc (e + 1) w in
    omega (arith, m, n)

module _ (v : View) (g : Graph) (es : List Edge) (ps : PlaceLists) (ns : List Content) (a : MakeTrie es ps ns) where
  pub go_leaf : (cs : List Cell) (st : List Frame) (f : Frame) (leaf place : ℕ) → IsWalking v g es ns cs (st ++ f ∷ []) leaf → length (content_at ns leaf).pairs ≤ place
      → (spot g cs f).todo ≡ nothing_left → GoesOn v g es ns cs (st ++ f ∷ []) leaf place cs st f.node 0
  go_leaf cs st f leaf place w over e = record {
    walking = record { cells = w.cells; frames = front_frames g (length ns) (length cs) st (f ∷ []) w.frames; walk = walk_leaf v g es ps ns a (map (spot g cs) st) (spot g cs f) leaf e split; marked = pairs_front (λ x y. x.cells ≤ y.cells) st (f ∷ []) w.marked };
    comes = λ p. subst (λ xs. WalkComes v g es ns cs st f.node 0 p ↔ Comes v g es ns xs leaf place p) (sym (map-append (spot g cs) st (f ∷ []))) (comes_leaf v g es ps ns a (map (spot g cs) st) (spot g cs f) leaf place e over p);
    most = heavier (pairs_count ns) (weight_of (fan_of ns) (length ns) st) (weight_of (fan_of ns) (length ns) (st ++ f ∷ [])) (length (content_at ns f.node).pairs - 0) (length (content_at ns leaf).pairs - place)
        (omega (arith, weight-append (fan_of ns) (length ns) st (f ∷ []), positive (fan_of ns) (length ns - f.node) (fan_above ns))) (omega (arith, few_pairs ns f.node));
  }
    where
      split : IsWalk v g es (map (spot g cs) st ++ spot g cs f ∷ []) leaf
      split = subst (λ xs. IsWalk v g es xs leaf) (map-append (spot g cs) st (f ∷ [])) w.walk

  -- frames further on weigh less
  light : (b t n : ℕ) (fs : List Frame) → 2 < b → n < t → ((f : Frame) → Contains fs f → n < f.node) → weight_of b t fs ≤ length fs * b ^ (t - (n + 1))
  light b t n [] big h w = omega arith
  light b t n (f ∷ fs) big h w =
      let r = light b t n fs big h (λ x c. w x (suc c.0, omega (arith, c.1), c.2)) in
      let k = w f (0, omega arith, refl) in
      let p : b ^ (t - f.node) ≤ b ^ (t - (n + 1)) = powers b (t - f.node) (t - (n + 1)) big (omega arith) in
      let m : suc (length fs) * b ^ (t - (n + 1)) ≡ length fs * b ^ (t - (n + 1)) + b ^ (t - (n + 1)) = Rattle.std.proofs.Math.Nat.suc-mul (length fs) (b ^ (t - (n + 1))) in
      omega (arith, r, p, m)

  pub go_next : (cs ds : List Cell) (st new : List Frame) (f : Frame) (leaf place : ℕ) → IsWalking v g es ns cs (st ++ f ∷ []) leaf → AreCells g ds → Grows cs ds → AddsNext v g es ns (spot g cs f) f.cells ds st new
      → GoesOn v g es ns cs (st ++ f ∷ []) leaf place ds new leaf place
  go_next cs ds st new f leaf place w h grows (fs, e, next, frames, few, low, marks) = record {
    walking = record {
      cells = h;
      frames = subst (AreFrames g (length ns) (length ds)) (sym e) (All-append (IsFrame g (length ns) (length ds)) st fs kept frames);
      walk = subst (λ xs. IsWalk v g es xs leaf) (sym spots) (walk_on v g es ps ns a (map (spot g cs) st) (spot g cs f) (map (spot g ds) fs) leaf next split);
      marked = subst AreMarked (sym e) (pairs_append (λ x y. x.cells ≤ y.cells) st fs (pairs_front (λ x y. x.cells ≤ y.cells) st (f ∷ []) w.marked) marks
          (λ x y p q. (let before : x.cells ≤ f.cells = pairs_across (λ x y. x.cells ≤ y.cells) st (f ∷ []) w.marked x f p (0, omega arith, refl) in omega (arith, before, All-contains (λ x. f.cells ≤ x.cells) fs y low q))));
    };
    comes = λ p. subst (λ xs. Comes v g es ns xs leaf place p ↔ WalkComes v g es ns cs (st ++ f ∷ []) leaf place p) (sym spots)
        (subst (λ xs. Comes v g es ns (map (spot g cs) st ++ map (spot g ds) fs) leaf place p ↔ Comes v g es ns xs leaf place p) (sym (map-append (spot g cs) st (f ∷ [])))
        (comes_on v g es ps ns a (map (spot g cs) st) (spot g cs f) (map (spot g ds) fs) leaf place next p));
    most = heavier (pairs_count ns) (weight_of b t new) (weight_of b t (st ++ f ∷ [])) (length (content_at ns leaf).pairs - place) (length (content_at ns leaf).pairs - place) lighter (omega (arith, few_pairs ns leaf));
  }
    where
      b : ℕ
      b = fan_of ns

      t : ℕ
      t = length ns

      front : AreFrames g (length ns) (length cs) st
      front = front_frames g (length ns) (length cs) st (f ∷ []) w.frames

      last : IsFrame g (length ns) (length cs) f
      last = last_frame g (length ns) (length cs) st f w.frames

      longer : length cs ≤ length ds
      longer = omega (arith, length-append cs grows.0, ap length grows.1)

      kept : AreFrames g (length ns) (length ds) st
      kept k d q = let r = front k d q in (r.0, r.1, r.2, r.3, omega (arith, r.4, longer))

      spots : map (spot g ds) new ≡ map (spot g cs) st ++ map (spot g ds) fs
      spots = ap (map (spot g ds)) e ∙ map-append (spot g ds) st fs ∙ ap (λ xs. xs ++ map (spot g ds) fs) (same_spots g cs ds (length ns) st w.cells grows front)

      split : IsWalk v g es (map (spot g cs) st ++ spot g cs f ∷ []) leaf
      split = subst (λ xs. IsWalk v g es xs leaf) (map-append (spot g cs) st (f ∷ [])) w.walk

      above : (x : Frame) → Contains fs x → f.node < x.node
      above x c = next.above (spot g ds x) (in_map (spot g ds) fs x c)

      lighter : weight_of (fan_of ns) (length ns) new < weight_of (fan_of ns) (length ns) (st ++ f ∷ [])
      lighter =
          let n = f.node in
          let k = length ns - (n + 1) in
          let base = fan_of ns in
          let x = weight-append base (length ns) st (f ∷ []) in
          let y = ap (weight_of base (length ns)) e ∙ weight-append base (length ns) st fs in
          let z = light base (length ns) n fs (fan_above ns) last.0 above in
          let p : length ns - n ≡ suc k = omega (arith, last.0) in
          let q : base ^ (length ns - n) ≡ base ^ k * base = ap (λ m. base ^ m) p ∙ pow-suc base k in
          let u : base ^ k * suc (length fs) ≤ base ^ k * base = Rattle.std.proofs.Common.mul-le-mul_left (base ^ k) few in
          let r : base ^ k * suc (length fs) ≡ base ^ k * length fs + base ^ k = Rattle.std.proofs.Common.mul-suc (base ^ k) (length fs) in
          let s : base ^ k * length fs ≡ length fs * base ^ k = Rattle.std.proofs.Math.Nat.mul_comm (base ^ k) (length fs) in
          let j = positive base k (fan_above ns) in
          omega (arith, x, y, z, q, u, r, s, j)

  -- a frame that begins with an argument stands for the one that was taken off
  pub on_leaf : (cs : List Cell) (st : List Frame) (f k : Frame) (leaf place : ℕ) → IsWalking v g es ns cs (st ++ f ∷ []) leaf → length (content_at ns leaf).pairs ≤ place
      → spot g cs k ≡ spot g cs f → k.at ≡ k.end → IsSettled k → GoesOn v g es ns cs (st ++ f ∷ []) leaf place cs st k.node 0
  on_leaf cs st f k leaf place w over e h r =
      let n : f.node ≡ k.node = ap (λ (s : Spot). s.node) (sym e) in
      subst (λ m. GoesOn v g es ns cs (st ++ f ∷ []) leaf place cs st m 0) n (go_leaf cs st f leaf place w over (ap (λ (s : Spot). s.todo) (sym e) ∙ nothing_is g cs k h r))

  pub on_next : (cs ds : List Cell) (st new : List Frame) (f k : Frame) (leaf place : ℕ) → IsWalking v g es ns cs (st ++ f ∷ []) leaf → AreCells g ds → Grows cs ds → AddsNext v g es ns (spot g cs k) f.cells ds st new
      → spot g cs k ≡ spot g cs f → GoesOn v g es ns cs (st ++ f ∷ []) leaf place ds new leaf place
  on_next cs ds st new f k leaf place w h grows next e = go_next cs ds st new f leaf place w h grows (subst (λ s. AddsNext v g es ns s f.cells ds st new) e next)

  -- the cells that the frames need
  module _ (cs ds : List Cell) (st : List Frame) (f : Frame) (leaf : ℕ) (w : IsWalking v g es ns cs (st ++ f ∷ []) leaf) (cut : ds ≡ take f.cells cs) where
    last_here : IsFrame g (length ns) (length cs) f
    last_here = last_frame g (length ns) (length cs) st f w.frames

    as_long : length ds ≡ f.cells
    as_long = ap length cut ∙ length-take-le f.cells cs last_here.4

    still : Grows ds cs
    still = (drop f.cells cs, sym (take-append-drop f.cells cs) ∙ ap (λ xs. xs ++ drop f.cells cs) (sym cut))

    same_cell : (k : ℕ) → k < length ds → cell_at ds k ≡ cell_at cs k
    same_cell k h = ap (λ xs. cell_at xs k) cut ∙ get_or-take f.cells cs k no_cell (omega (arith, h, as_long))

    cut_cells : AreCells g ds
    cut_cells k h =
        let r = w.cells k (omega (arith, h, as_long, last_here.4)) in
        subst (λ (c : Cell). (c.rest ≤ k) × (c.at < c.end) × (c.end ≤ length g.args)) (sym (same_cell k h)) r

    before : (x : Frame) → Contains (st ++ f ∷ []) x → x.cells ≤ f.cells
    before x c = elim (Contains-append_cases st (f ∷ []) x c) [
      | inl p ↦ pairs_across (λ x y. x.cells ≤ y.cells) st (f ∷ []) w.marked x f p (0, omega arith, refl)
      | inr p ↦ (let e = ap (λ (y : Frame). y.cells) (only f x p) in omega (arith, e))
    ]

    cut_frames : AreFrames g (length ns) (length ds) (st ++ f ∷ [])
    cut_frames k d h =
        let r = w.frames k d h in
        let b = before (get_or (st ++ f ∷ []) k d) (Contains-get_or (st ++ f ∷ []) k d h) in
        (r.0, r.1, r.2, r.3, omega (arith, b, as_long))

    pub cut_spots : map (spot g cs) (st ++ f ∷ []) ≡ map (spot g ds) (st ++ f ∷ [])
    cut_spots = same_spots g ds cs (length ns) (st ++ f ∷ []) cut_cells still cut_frames

    pub cut_walking : IsWalking v g es ns ds (st ++ f ∷ []) leaf
    cut_walking = record { cells = cut_cells; frames = cut_frames; walk = subst (λ xs. IsWalk v g es xs leaf) cut_spots w.walk; marked = w.marked }

    pub from_cut : (place : ℕ) (es₂ : List Cell) (rest : List Frame) (end after : ℕ) → GoesOn v g es ns ds (st ++ f ∷ []) leaf place es₂ rest end after → GoesOn v g es ns cs (st ++ f ∷ []) leaf place es₂ rest end after
    from_cut place es₂ rest end after on = record {
      walking = on.walking;
      comes = λ p. subst (λ xs. WalkComes v g es ns es₂ rest end after p ↔ Comes v g es ns xs leaf place p) (sym cut_spots) (on.comes p);
      most = on.most;
    }

  -- the pair at the place is the next one
  pub gives_at : (cs : List Cell) (st : List Frame) (leaf place atom entry : ℕ) (before : Posting → Type 0) → IsWalking v g es ns cs st leaf → place < length (content_at ns leaf).pairs
      → get_or (content_at ns leaf).pairs place (atom, entry) ≡ (atom, entry) → ((p : Posting) → WalkComes v g es ns cs st leaf place p ↔ before p) → Gives before entry (WalkComes v g es ns cs st leaf (place + 1))
  gives_at cs st leaf place atom entry before w h e same = (
    atom,
    (same (atom, entry)).0 (inl (place, omega arith, h, e)),
    λ q. (let r = comes_given v g es ps ns a (map (spot g cs) st) leaf place (atom, entry) w.walk h e q in
        ((λ x. (let y = r.0 x in ((same q).0 y.0, y.1))), (λ x. r.1 ((same q).1 x.0, x.1)))),
  )

  -- nothing comes from no frames
  nothing_comes : (cs : List Cell) (st : List Frame) (leaf place : ℕ) → st ≡ [] → length (content_at ns leaf).pairs ≤ place → (p : Posting) → WalkComes v g es ns cs st leaf place p → ⊥
  nothing_comes cs st leaf place e over p (inl (i, k, h, r)) = omega arith
  nothing_comes cs st leaf place e over p (inr (m, s, c, h, k)) = let n : length (map (spot g cs) st) ≡ 0 = ap (λ xs. length (map (spot g cs) xs)) e in omega (arith, n, c.1)

  pub over_at : (cs : List Cell) (st : List Frame) (leaf place : ℕ) (before : Posting → Type 0) → st ≡ [] → length (content_at ns leaf).pairs ≤ place → ((p : Posting) → WalkComes v g es ns cs st leaf place p ↔ before p)
      → ((q : Posting) → ¬ (before q)) × ((q : Posting) → ¬ (WalkComes v g es ns cs st leaf place q))
  over_at cs st leaf place before e over same = ((λ q b. nothing_comes cs st leaf place e over q ((same q).1 b)), nothing_comes cs st leaf place e over)

  pub most_given : (st : List Frame) (leaf place : ℕ) → place < length (content_at ns leaf).pairs → most_of ns st leaf (place + 1) < most_of ns st leaf place
  most_given st leaf place h = omega arith

-- what is said of the cells as a slice
pub first_is : (g : Graph) (n : ℕ) (xs cs : List Cell) (f k : Frame) → xs ≡ cs → AreCells g cs → ((h : Graph) (m : ℕ) → AreCells h xs → IsFrame h m (length xs) f → IsFrame h m (length xs) k)
    → IsFrame g n (length cs) f → IsFrame g n (length cs) k
first_is g n xs cs f k e h go w = subst (λ (ys : List Cell). IsFrame g n (length ys) k) e (go g n (subst (AreCells g) (sym e) h) (subst (λ (ys : List Cell). IsFrame g n (length ys) f) (sym e) w))

pub same_is : (g : Graph) (xs cs : List Cell) (f k : Frame) → xs ≡ cs → AreCells g cs → ((h : Graph) → AreCells h xs → spot h xs k ≡ spot h xs f) → spot g cs k ≡ spot g cs f
same_is g xs cs f k e h go = subst (λ (ys : List Cell). spot g ys k ≡ spot g ys f) e (go g (subst (AreCells g) (sym e) h))

pub settled_is : (g : Graph) (xs cs : List Cell) (k : Frame) → xs ≡ cs → AreCells g cs → ((h : Graph) → AreCells h xs → IsSettled k) → IsSettled k
settled_is g xs cs k e h go = go g (subst (AreCells g) (sym e) h)

pub empty_list : {A : Type 0} (xs : List A) → length xs ≡ 0 → xs ≡ []
empty_list [] h = refl
empty_list (x ∷ xs) h = absurd (omega arith)

-- the same of a tree under another name
pub moved : (v : View) (g : Graph) (es fs : List Edge) (ns ms : List Content) → es ≡ fs → ns ≡ ms → (o : Rattle.std.proofs.Common.Option ℕ) (cs ds : List Cell) (st rest : List Frame) (leaf end place after : ℕ)
    → Rattle.std.specs.Option.MatchOption o (IsOver (WalkComes v g es ns cs st leaf place) × IsOver (WalkComes v g es ns ds rest end after))
    (λ entry. Gives (WalkComes v g es ns cs st leaf place) entry (WalkComes v g es ns ds rest end after) × (most_of ns rest end after < most_of ns st leaf place))
    → Rattle.std.specs.Option.MatchOption o (IsOver (WalkComes v g fs ms cs st leaf place) × IsOver (WalkComes v g fs ms ds rest end after))
    (λ entry. Gives (WalkComes v g fs ms cs st leaf place) entry (WalkComes v g fs ms ds rest end after) × (most_of ms rest end after < most_of ms st leaf place))
moved v g es fs ns ms e n o cs ds st rest leaf end place after h =
    subst (λ xs. Rattle.std.specs.Option.MatchOption o (IsOver (WalkComes v g xs ms cs st leaf place) × IsOver (WalkComes v g xs ms ds rest end after))
    (λ entry. Gives (WalkComes v g xs ms cs st leaf place) entry (WalkComes v g xs ms ds rest end after) × (most_of ms rest end after < most_of ms st leaf place))) e
    (subst (λ xs. Rattle.std.specs.Option.MatchOption o (IsOver (WalkComes v g es xs cs st leaf place) × IsOver (WalkComes v g es xs ds rest end after))
    (λ entry. Gives (WalkComes v g es xs cs st leaf place) entry (WalkComes v g es xs ds rest end after) × (most_of xs rest end after < most_of xs st leaf place))) n h)
