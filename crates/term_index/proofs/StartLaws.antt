-- What comes from a walk that has just begun.
use Rattle.std.proofs.Common.{◌≡◌, ◌<◌, ◌≤◌, ◌⊎◌, inl, inr, ℕ, zero, suc, List, [], ◌∷◌, ◌++◌, length, map, Contains, Option, Some, None, Bool, true, false, refl, sym, ◌∙◌, ap, ap₂, subst, arith}
use Rattle.std.specs.Prelude.{AllPairs}
use Rattle.std.proofs.lemmas.List.Elements.{All-cons, All-nil}
use Rattle.inst_logic.specs.Tree.{Tree}
use Rattle.term_bank.specs.Forest.{Forest, tree_at}
use Rattle.term_index.specs.declared.view.View.{View}
use Rattle.term_index.specs.Views.{Stands}
use Rattle.term_index.specs.Pairs.{Posting, IsAsked}
use Rattle.term_index.specs.declared.label.Label.{Label}
use Rattle.term_index.specs.declared.node.Edge.{Edge}
use Rattle.term_index.specs.declared.walk.Cell.{Cell}
use Rattle.term_index.specs.declared.walk.Frame.{Frame}
use Rattle.term_index.specs.Nodes.{Content}
use Rattle.term_index.specs.Labels.{labels}
use Rattle.term_index.specs.Wide.{IsWide, meets}
use Rattle.term_index.specs.Numbered.{IsNumbered}
use Rattle.term_index.specs.Paths.{PlaceLists, content_at, IsBare, Leads, MakeTrie}
use Rattle.term_index.specs.Run.{Graph, Todo, run, nothing_left}
use Rattle.term_index.specs.Spots.{Spot, Covers, AreApart}
use Rattle.term_index.specs.Frames.{spot, between, list_in, IsFrame, IsBegun, AreQuery}
use Rattle.term_index.specs.Walking.{IsWalking, WalkComes}
use Rattle.term_index.specs.Copies.{IsCopyOf, IsQueryOf}
use Rattle.term_index.specs.State.{pairs_of, IsStored}
use Rattle.term_index.specs.StateLaws.{held_stored, stored_held}
use Rattle.term_index.proofs.Linking.{bare_reaches}
use Rattle.term_index.proofs.PathLaws.{one_way}
use Rattle.term_index.proofs.RunLaws.{run_meets, taken}
use Rattle.term_index.proofs.WideLaws.{stands_meets, meets_wide, wide_meets}
use Rattle.term_index.proofs.SpotLaws.{only}
use Rattle.term_index.proofs.FrameLaws.{between_first, between_none}

abbrev root_frame : Frame
root_frame = record { node = 0; at = 0; end = 1; rest = 0; cells = 0 }

-- what is not bare is a node
is_node : (ns : List Content) (n : ℕ) → ¬ (IsBare (content_at ns n)) → n < length ns
is_node [] n h = absurd (h (refl, refl))
is_node (c ∷ ns) zero h = omega arith
is_node (c ∷ ns) (suc n) h = let r = is_node ns n h in omega (arith, r)

abbrev root_spot : Spot
root_spot = record { node = 0; todo = (0, 0 ∷ []) }

abbrev left_of : Option Todo → List ℕ
left_of None = []
left_of (Some t) = t.1

no_root : (v : View) (g : Graph) (ls : List Label) → ls ≡ [] → run v g ls (Some (0, 0 ∷ [])) ≡ Some nothing_left → ⊥
no_root v g [] e r = let k : Path (Option Todo) (Some (0, 0 ∷ [])) (Some (0, [])) = r in let t : Path (List ℕ) (0 ∷ []) [] = ap left_of k in absurd (cc)
no_root v g (l ∷ ls) e r = let t : length (l ∷ ls) ≡ 0 = ap length e in absurd (omega arith)

module _ (f : Forest) (v : View) (query : ℕ) (g : Graph) (es : List Edge) (ps : PlaceLists) (ns : List Content) (a : MakeTrie es ps ns) (copy : IsCopyOf f query g) where
  root_is : spot g [] root_frame ≡ root_spot
  unfolding list_in
  root_is =
      let e : between g.args 0 1 ≡ 0 ∷ [] = between_first g.args 0 1 (omega arith) (omega (arith, copy.front.0)) ∙ ap₂ (λ x xs. x ∷ xs) copy.front.1 (between_none g.args 1 1 (omega arith)) in
      ap (λ xs. record { node = 0; todo = (0, xs ++ []) }) e

  -- the root covers the node of an atom exactly where the atom meets the query
  covered_meets : (t : Tree) (m : ℕ) → IsNumbered f t → Leads es 0 (labels f t) m → Covers v g es root_spot m → meets v t (tree_at f query) ≡ true
  covered_meets t m n leads (ls, l, r) =
      let same = one_way es a.order 0 (labels f t) ls m leads l in
      let k = run_meets v g f copy.tree copy.graph t n 0 copy.some [] in
      by (meets v t (tree_at f query)) (sym (subst (λ u. run v g (labels f t) (Some (0, 0 ∷ [])) ≡ taken v g (meets v t u) (0, [])) copy.root k) ∙ ap (λ xs. run v g xs (Some (0, 0 ∷ []))) same ∙ r)
    where
      by : (b : Bool) → taken v g b (0, []) ≡ Some nothing_left → b ≡ true
      by true e = refl
      by false e = cc

  meets_covered : (t : Tree) (m : ℕ) → IsNumbered f t → Leads es 0 (labels f t) m → meets v t (tree_at f query) ≡ true → Covers v g es root_spot m
  meets_covered t m n leads e =
      let k = run_meets v g f copy.tree copy.graph t n 0 copy.some [] in
      (labels f t, leads, subst (λ u. run v g (labels f t) (Some (0, 0 ∷ [])) ≡ taken v g (meets v t u) (0, [])) copy.root k ∙ ap (λ b. taken v g b (0, [])) e)

  abbrev IsAtRoot : List Frame → Type 0
  IsAtRoot stack = (IsBare (content_at ns 0) × (stack ≡ [])) ⊎ (¬ (IsBare (content_at ns 0)) × (stack ≡ root_frame ∷ []))

  -- the root does not cover itself
  root_apart : Covers v g es root_spot 0 → ⊥
  root_apart (ls, l, r) = no_root v g ls (one_way es a.order 0 ls [] 0 l refl) r

  -- what stands on the stack
  begun_spots : (stack : List Frame) → IsAtRoot stack → (s : Spot) → Contains (map (spot g []) stack) s → s ≡ root_spot
  begun_spots stack (inl (z, e)) s h = let n : length (map (spot g []) stack) ≡ 0 = ap (λ xs. length (map (spot g []) xs)) e in absurd (omega (arith, n, h.1))
  begun_spots stack (inr (z, e)) s h = only (spot g [] root_frame) s (subst (λ xs. Contains (map (spot g []) xs) s) e h) ∙ root_is

  one_pair : {A : Type 0} (R : A → A → Type 0) (x : A) → AllPairs R (x ∷ [])
  one_pair R x i j d p q = absurd (omega arith)

  begun_walk : (stack : List Frame) → IsAtRoot stack → IsWalking v g es ns [] stack 0
  begun_walk stack (inl (z, e)) = subst (λ st. IsWalking v g es ns [] st 0) (sym e) (record {
    cells = λ k h. absurd (omega arith);
    frames = All-nil (IsFrame g (length ns) 0);
    walk = record { apart = λ i j d p q. absurd (omega arith); leaf_apart = λ s c. absurd (omega (arith, c.1)) };
    marked = λ i j d p q. absurd (omega arith);
  })
  begun_walk stack (inr (z, e)) = subst (λ st. IsWalking v g es ns [] st 0) (sym e) (record {
    cells = λ k h. absurd (omega arith);
    frames = All-cons (IsFrame g (length ns) 0) root_frame [] (is_node ns 0 z, omega arith, omega (arith, copy.front.0), omega arith, omega arith) (All-nil (IsFrame g (length ns) 0));
    walk = record { apart = one_pair (AreApart v g es) (spot g [] root_frame); leaf_apart = λ s c h. root_apart (subst (λ x. Covers v g es x 0) (only (spot g [] root_frame) s c ∙ root_is) h) };
    marked = λ i j d p q. absurd (omega arith);
  })

  begun_walking : (cells : List Cell) (stack : List Frame) (leaf place : ℕ) → IsBegun ns cells stack leaf place → IsWalking v g es ns cells stack leaf
  begun_walking cells stack leaf place h = subst (λ cs. IsWalking v g es ns cs stack leaf) (sym h.0) (subst (λ l. IsWalking v g es ns [] stack l) (sym h.1) (begun_walk stack h.3))

  module _ (stored : IsStored f es ns) where
    wide_come : (stack : List Frame) (place : ℕ) → length (content_at ns 0).pairs ≤ place → IsAtRoot stack → (p : Posting)
        → WalkComes v g es ns [] stack 0 place p → Contains (pairs_of ns) p × IsWide v (tree_at f p.0) (tree_at f query)
    wide_come stack place over h p (inl (i, k, w, e)) = absurd (omega arith)
    wide_come stack place over h p (inr (m, s, c, cover, held)) =
        let r = stored m p held in (
          held_stored ns m p held,
          meets_wide v (tree_at f p.0) (tree_at f query)
              (covered_meets (tree_at f p.0) m r.2 r.1 (subst (λ x. Covers v g es x m) (begun_spots stack h s c) cover)),
        )

    all_come : (stack : List Frame) (place : ℕ) → IsAtRoot stack → (p : Posting) → Contains (pairs_of ns) p → meets v (tree_at f p.0) (tree_at f query) ≡ true
        → WalkComes v g es ns [] stack 0 place p
    all_come stack place (inl (z, e)) p c same =
        let h = stored_held ns p c in
        let s = a.whole h.0 p h.2 in
        absurd (bare_reaches es ps ns a 0 (omega (arith, h.1)) z (s.0, h.0, p, s.1, h.2))
    all_come stack place (inr (z, e)) p c same =
        let h = stored_held ns p c in
        let r = stored h.0 p h.2 in
        let cover = meets_covered (tree_at f p.0) h.0 r.2 r.1 same in
        subst (λ st. WalkComes v g es ns [] st 0 place p) (sym e)
        (inr (h.0, spot g [] root_frame, (0, omega arith, refl), subst (λ x. Covers v g es x h.0) (sym root_is) cover, h.2))

    begun_asked : (cells : List Cell) (stack : List Frame) (leaf place : ℕ) → IsBegun ns cells stack leaf place
        → IsAsked f (pairs_of ns) (IsWide v) (Stands v) query (WalkComes v g es ns cells stack leaf place)
    begun_asked cells stack leaf place h =
        let over : length (content_at ns 0).pairs ≤ place = h.2 in
        subst (λ cs. IsAsked f (pairs_of ns) (IsWide v) (Stands v) query (WalkComes v g es ns cs stack leaf place)) (sym h.0)
        (subst (λ l. IsAsked f (pairs_of ns) (IsWide v) (Stands v) query (WalkComes v g es ns [] stack l place)) (sym h.1)
        (record {
          stored = λ p c. (wide_come stack place over h.3 p c).0;
          wide = λ p c. (wide_come stack place over h.3 p c).1;
          all = λ p c s. all_come stack place h.3 p c (stands_meets v (tree_at f p.0) (tree_at f query) s);
        }))

    -- every wide pair comes
    begun_exact : (cells : List Cell) (stack : List Frame) (leaf place : ℕ) → IsBegun ns cells stack leaf place → (p : Posting) → Contains (pairs_of ns) p → IsWide v (tree_at f p.0) (tree_at f query) → WalkComes v g es ns cells stack leaf place p
    begun_exact cells stack leaf place h p c wide =
        subst (λ cs. WalkComes v g es ns cs stack leaf place p) (sym h.0) (subst (λ l. WalkComes v g es ns [] stack l place p) (sym h.1) (all_come stack place h.3 p c (wide_meets v (tree_at f p.0) (tree_at f query) wide)))

module _ (f : Forest) (v : View) (query : ℕ) (g : Graph) (es : List Edge) (ps : PlaceLists) (ns : List Content) (a : MakeTrie es ps ns) where
  -- a walk that has no frame
  over_walking : (cells : List Cell) (stack : List Frame) (leaf place : ℕ) → stack ≡ [] → IsBegun ns cells stack leaf place → IsWalking v g es ns cells stack leaf
  over_walking cells stack leaf place e h = subst (λ cs. IsWalking v g es ns cs stack leaf) (sym h.0) (subst (λ st. IsWalking v g es ns [] st leaf) (sym e) (record {
    cells = λ k h. absurd (omega arith);
    frames = All-nil (IsFrame g (length ns) 0);
    walk = record { apart = λ i j d p q. absurd (omega arith); leaf_apart = λ s c. absurd (omega (arith, c.1)) };
    marked = λ i j d p q. absurd (omega arith);
  }))

  -- gives nothing,
  over_comes : (place : ℕ) → length (content_at ns 0).pairs ≤ place → (p : Posting) → WalkComes v g es ns [] [] 0 place p → ⊥
  over_comes place over p (inl (i, k, w, e)) = omega arith
  over_comes place over p (inr (m, s, c, cover, held)) = omega (arith, c.1)

  -- since nothing is stored
  over_holds : (stack : List Frame) → stack ≡ [] → (IsBare (content_at ns 0) × (stack ≡ [])) ⊎ (¬ (IsBare (content_at ns 0)) × (stack ≡ root_frame ∷ [])) → (p : Posting) → Contains (pairs_of ns) p → ⊥
  over_holds stack e (inl (z, none)) p c =
      let h = stored_held ns p c in
      let s = a.whole h.0 p h.2 in
      bare_reaches es ps ns a 0 (omega (arith, h.1)) z (s.0, h.0, p, s.1, h.2)
  over_holds stack e (inr (z, one)) p c = let n : length stack ≡ 0 = ap length e in let m : length stack ≡ 1 = ap length one in omega (arith, n, m)

  over_asked : (cells : List Cell) (stack : List Frame) (leaf place : ℕ) → stack ≡ [] → IsBegun ns cells stack leaf place
      → IsAsked f (pairs_of ns) (IsWide v) (Stands v) query (WalkComes v g es ns cells stack leaf place)
  over_asked cells stack leaf place e h =
      let over : length (content_at ns 0).pairs ≤ place = h.2 in
      subst (λ cs. IsAsked f (pairs_of ns) (IsWide v) (Stands v) query (WalkComes v g es ns cs stack leaf place)) (sym h.0)
      (subst (λ st. IsAsked f (pairs_of ns) (IsWide v) (Stands v) query (WalkComes v g es ns [] st leaf place)) (sym e)
      (subst (λ l. IsAsked f (pairs_of ns) (IsWide v) (Stands v) query (WalkComes v g es ns [] [] l place)) (sym h.1)
      (record {
        stored = λ p c. absurd (over_comes place over p c);
        wide = λ p c. absurd (over_comes place over p c);
        all = λ p c s. absurd (over_holds stack e h.3 p c);
      })))

  pub started_walking : (cells : List Cell) (stack : List Frame) (leaf place : ℕ) → IsQueryOf f query stack g → IsBegun ns cells stack leaf place → IsWalking v g es ns cells stack leaf
  started_walking cells stack leaf place (inl copy) h = begun_walking f v query g es ps ns a copy cells stack leaf place h
  started_walking cells stack leaf place (inr e) h = over_walking cells stack leaf place e.0 h

  pub started_asked : (cells : List Cell) (stack : List Frame) (leaf place : ℕ) → IsQueryOf f query stack g → IsStored f es ns → IsBegun ns cells stack leaf place
      → IsAsked f (pairs_of ns) (IsWide v) (Stands v) query (WalkComes v g es ns cells stack leaf place)
  started_asked cells stack leaf place (inl copy) stored h = begun_asked f v query g es ps ns a copy stored cells stack leaf place h
  started_asked cells stack leaf place (inr e) stored h = over_asked cells stack leaf place e.0 h

  pub started_exact : (cells : List Cell) (stack : List Frame) (leaf place : ℕ) → IsQueryOf f query stack g → IsStored f es ns → IsBegun ns cells stack leaf place
      → (p : Posting) → Contains (pairs_of ns) p → IsWide v (tree_at f p.0) (tree_at f query) → WalkComes v g es ns cells stack leaf place p
  started_exact cells stack leaf place (inl copy) stored h = begun_exact f v query g es ps ns a copy stored cells stack leaf place h
  started_exact cells stack leaf place (inr e) stored h = λ p c wide. absurd (over_holds stack e.0 h.3 p c)

-- a query that is begun is one
pub started_query : (f : Forest) (query : ℕ) (stack : List Frame) (g : Graph) → IsQueryOf f query stack g → AreQuery g
started_query f query stack g (inl copy) = copy.query
started_query f query stack g (inr e) = e.1

-- the same tree under another name
pub trie_of : (es fs : List Edge) (ps qs : PlaceLists) (ns ms : List Content) → es ≡ fs → ps ≡ qs → ns ≡ ms → MakeTrie es ps ns → MakeTrie fs qs ms
trie_of es fs ps qs ns ms e g h a = subst (MakeTrie fs qs) h (subst (λ xs. MakeTrie fs xs ns) g (subst (λ xs. MakeTrie xs ps ns) e a))
