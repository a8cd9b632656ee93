-- What a tree keeps of its atoms.
use Rattle.std.proofs.Common.{inl, inr, ◌≡◌, ◌<◌, ℕ, zero, suc, List, [], ◌∷◌, ◌++◌, length, Contains, false, refl, sym, ◌∙◌, ap, subst, arith}
use Rattle.std.proofs.lemmas.List.Elements.{Contains-append_left, Contains-append_right, Contains-append_cases}
use Rattle.std.proofs.Common.{Bool, true, cond, nat_lt, Some, None, ap₂}
use Rattle.std.proofs.lemmas.Bool.Decides.{nat_tests}
use Rattle.std.proofs.lemmas.List.Quantifiers.{position-Some}
use Rattle.std.proofs.lemmas.List.Sums.{position_or_len_is}
use Rattle.inst_logic.specs.declared.symbol.Sym.{Sym}
use Rattle.inst_logic.specs.Tree.{Tree, var, app, Trees, none, more}
use Rattle.inst_logic.specs.Equal.{sym_eq}
use Rattle.inst_logic.specs.WellFormed.{count_of}
use Rattle.term_bank.specs.Forest.{Forest, Extends, KeepsPlaces, no_symbol, number_of, symbol_at, tree_at}
use Rattle.term_index.specs.declared.label.Label.TheVariants.{Symbol}
use Rattle.term_index.specs.Labels.{labels, all_labels}
use Rattle.term_index.specs.Numbered.{IsNumbered, AreNumbered}
use Rattle.term_index.specs.Paths.{Leads}
use Rattle.term_index.specs.Pairs.{Posting}
use Rattle.term_index.specs.Nodes.{Content}
use Rattle.term_index.specs.Paths.{Holds}
use Rattle.term_index.specs.State.{State, pairs_of, Fits}

-- a pair that a node holds is among the pairs
pub held_stored : (ns : List Content) (n : ℕ) (p : Posting) → Holds ns n p → Contains (pairs_of ns) p
held_stored [] n p h = absurd (omega (arith, h.1))
held_stored (c ∷ ns) zero p h = Contains-append_left c.pairs (pairs_of ns) p h
held_stored (c ∷ ns) (suc n) p h = Contains-append_right c.pairs (pairs_of ns) p (held_stored ns n p h)

-- and the other way round
pub stored_held : (ns : List Content) (p : Posting) → Contains (pairs_of ns) p → (n : ℕ) × (n < length ns) × Holds ns n p
stored_held [] p h = absurd (omega (arith, h.1))
stored_held (c ∷ ns) p h = elim (Contains-append_cases c.pairs (pairs_of ns) p h)
    [ inl k ↦ (0, omega arith, k) | inr k ↦ (let r = stored_held ns p k in (suc r.0, omega (arith, r.1), r.2)) ]

pub empty_tree : (f : Forest) (s : State) → pairs_of s.nodes ≡ [] → Fits f s
empty_tree f s e fresh n p h = let k = held_stored s.nodes n p h in let z : length (pairs_of s.nodes) ≡ 0 = ap length e in absurd (omega (arith, k.1))

module _ (f g : Forest) (keeps : KeepsPlaces no_symbol f.symbols g.symbols) where
  -- the number of a symbol stays
  number_stays : (s : Sym) → number_of f.symbols s < length f.symbols → number_of g.symbols s ≡ number_of f.symbols s
  number_stays s h =
      let n = number_of f.symbols s in
      let r = position-Some (sym_eq s) f.symbols n no_symbol (found n h) in
      position_or_len_is (sym_eq s) g.symbols n no_symbol (omega (arith, keeps.0)) (λ k p. ap (sym_eq s) (keeps.1 k (omega arith)) ∙ r.2 k p) (λ _. ap (sym_eq s) (keeps.1 n h) ∙ r.1)
    where
      found : (n : ℕ) → n < length f.symbols → cond (nat_lt n (length f.symbols)) (Some n) None ≡ Some n
      found n p = by (nat_lt n (length f.symbols)) refl
        where
          by : (b : Bool) → nat_lt n (length f.symbols) ≡ b → cond b (Some n) None ≡ Some n
          by true e = refl
          by false e = absurd (grind (arith, nat_tests))

  mutual
    labels_stay : (t : Tree) → IsNumbered f t → labels g t ≡ labels f t
    labels_stay (var v) h = refl
    labels_stay (app s ts) h = ap₂ (λ n xs. Symbol n (count_of ts) ∷ xs) (number_stays s h.0) (all_labels_stay ts h.2)

    all_labels_stay : (ts : Trees) → AreNumbered f ts → all_labels g ts ≡ all_labels f ts
    all_labels_stay none h = refl
    all_labels_stay (more t ts) h = ap₂ (λ xs ys. xs ++ ys) (labels_stay t h.0) (all_labels_stay ts h.1)

  mutual
    numbered_stays : (t : Tree) → IsNumbered f t → IsNumbered g t
    numbered_stays (var v) h = tt
    numbered_stays (app s ts) h =
        (omega (arith, number_stays s h.0, h.0, keeps.0), ap (symbol_at g.symbols) (number_stays s h.0) ∙ keeps.1 (number_of f.symbols s) h.0 ∙ h.1, all_numbered_stay ts h.2)

    all_numbered_stay : (ts : Trees) → AreNumbered f ts → AreNumbered g ts
    all_numbered_stay none h = tt
    all_numbered_stay (more t ts) h = (numbered_stays t h.0, all_numbered_stay ts h.1)

pub grown_tree : (f g : Forest) (s : State) → Extends f g → Fits f s → Fits g s
grown_tree f g s e h fresh n p k =
    let r = h fresh n p k in
    let same : tree_at g p.0 ≡ tree_at f p.0 = e.trees.1 p.0 r.0 in (
      omega (arith, r.0, e.trees.0),
      subst (λ t. Leads s.edges 0 (labels g t) n) (sym same) (subst (λ ls. Leads s.edges 0 ls n) (sym (labels_stay f g e.symbols (tree_at f p.0) r.2)) r.1),
      subst (IsNumbered g) (sym same) (numbered_stays f g e.symbols (tree_at f p.0) r.2),
    )
