-- The entries of a map after an insertion, and the nodes of a set.
use Rattle.std.proofs.Common.{◌≡◌, ℕ, zero, suc, ◌+◌, ◌<◌, List, [], ◌∷◌, length, Bool, true, false, ◌++◌, refl, ap, sym, ◌||◌, ◌∙◌, arith, Result, Ok, Err, IfOk, inl, inr, get_or, Some, not, if◌then◌else◌}
use Rattle.std.specs.Map.{keys_of}
use Rattle.std.specs.List.{position_or_len, position, list_any}
use Rattle.std.proofs.lemmas.List.Quantifiers.{position-Some}
use Rattle.std.proofs.lemmas.Slice.Eq.{bytes_eq-Decides}
use Rattle.std.proofs.lemmas.Bool.Decides.{Decides-eqb}
use Rattle.inst_logic.proofs.SameLemmas.{and_both}
use Rattle.std.proofs.lemmas.List.{length_push, get_or_push}
use Rattle.indexmap.specs.IndexMap.{insert_entry}
use Rattle.indexmap.specs.IndexSet.{insert_key}
use Rattle.term_bank.specs.declared.node.Node.{Node}
use Rattle.term_bank.specs.declared.node.Node.TheVariants.{Var, Constant, Unary, Binary, Many}
use Rattle.term_bank.specs.Nodes.{IsGrownBy, IsNumbered, node_in}
pub use Rattle.term_bank.specs.NodeLaws.{node_eq, node_same}

pub node_itself : (n : Node) → node_eq n n ≡ true
node_itself (Var s) = (Decides-eqb s s).1 refl
node_itself (Constant s) = (Decides-eqb s s).1 refl
node_itself (Unary s xs) = and_both _ _ ((Decides-eqb s s).1 refl) ((bytes_eq-Decides xs xs).1 refl)
node_itself (Binary s xs) = and_both _ _ ((Decides-eqb s s).1 refl) ((bytes_eq-Decides xs xs).1 refl)
node_itself (Many s xs) = and_both _ _ ((Decides-eqb s s).1 refl) ((bytes_eq-Decides xs xs).1 refl)

-- what an insertion makes of the entries
pub record IsInserted {K V : Type 0} (none : K × V) (es fs : List (K × V)) (e : K × V) (i : ℕ) : Type 0 where
  pub grown : IsGrownBy (λ (x : K × V). x.0) none es fs e
  pub within : i < length fs
  pub at : (get_or fs i none).0 ≡ e.0

module _ {K V : Type 0} (eq : K → K → Bool) (same_key : (k l : K) → eq k l ≡ true → k ≡ l) (itself : (k : K) → eq k k ≡ true) (none : K × V) where
  -- an entry whose key is there with the same value changes nothing, and a new one goes last
  pub inserted : (es : List (K × V)) (e : K × V) → ((i : ℕ) → i < length es → (get_or es i none).0 ≡ e.0 → (get_or es i none).1 ≡ e.1)
      → IsInserted none es (insert_entry eq es e.0 e.1) e (position_or_len (eq e.0) (keys_of es))
  inserted [] e same = record { grown = inr (refl, λ i h. absurd (omega arith)); within = omega arith; at = refl }
  inserted (x ∷ es) e same = by (eq e.0 x.0) refl (λ p. inserted es e p)
    where
      by : (b : Bool) → eq e.0 x.0 ≡ b → (((i : ℕ) → i < length es → (get_or es i none).0 ≡ e.0 → (get_or es i none).1 ≡ e.1) → IsInserted none es (insert_entry eq es e.0 e.1) e (position_or_len (eq e.0) (keys_of es)))
          → IsInserted none (x ∷ es) (insert_entry eq (x ∷ es) e.0 e.1) e (position_or_len (eq e.0) (keys_of (x ∷ es)))
      by true h rest =
          let k : e.0 ≡ x.0 = same_key e.0 x.0 h in
          let v : x.1 ≡ e.1 = same 0 (omega arith) (sym k) in
          rw h (record { grown = inl (λ i. (x.0, sym v i) ∷ es); within = omega arith; at = sym k })
      by false h rest =
          let r = rest (λ i p. same (suc i) (omega arith)) in
          rw h (record { grown = more r.grown; within = omega (arith, r.within); at = next (position_or_len (eq e.0) (keys_of es)) r.at })
        where
          next : (j : ℕ) → (get_or (insert_entry eq es e.0 e.1) j none).0 ≡ e.0 → (get_or (x ∷ insert_entry eq es e.0 e.1) (1 + j) none).0 ≡ e.0
          next j p = let q : 1 + j ≡ suc j = omega arith in ap (λ i. (get_or (x ∷ insert_entry eq es e.0 e.1) i none).0) q ∙ p

          more : IsGrownBy (λ (y : K × V). y.0) none es (insert_entry eq es e.0 e.1) e → IsGrownBy (λ (y : K × V). y.0) none (x ∷ es) (x ∷ insert_entry eq es e.0 e.1) e
          more (inl g) = inl (ap (λ ys. x ∷ ys) g)
          more (inr g) = inr (ap (λ ys. x ∷ ys) g.0, absent)
            where
              absent : (i : ℕ) → i < length (x ∷ es) → ¬ ((get_or (x ∷ es) i none).0 ≡ e.0)
              absent zero p q = let t : eq e.0 x.0 ≡ true = ap (eq e.0) q ∙ itself e.0 in absurd (cc)
              absent (suc i) p q = g.1 i (omega arith) q

-- where a node is found
pub node_found : (ns : List Node) (n : Node) (i : ℕ) → position (node_eq n) ns ≡ Some i → (i < length ns) × (node_in ns i ≡ n)
node_found ns n i e = let p = position-Some (node_eq n) ns i (Var 0) e in (p.0, sym (node_same n (node_in ns i) p.1))

-- a node that the set has, and one that it lacks
abbrev IsPlaced : List Node → Node → ℕ → Bool → Type 0
IsPlaced ns n i true = (i < length ns) × (node_in ns i ≡ n)
IsPlaced ns n i false = (i ≡ length ns) × ((j : ℕ) → j < length ns → ¬ (node_in ns j ≡ n))

placed : (ns : List Node) (n : Node) → IsPlaced ns n (position_or_len (node_eq n) ns) (list_any (node_eq n) ns)
placed [] n = (refl, λ j h. absurd (omega arith))
placed (x ∷ ns) n = by (node_eq n x) refl (list_any (node_eq n) ns) (placed ns n)
  where
    later : (j : ℕ) → node_in (x ∷ ns) (1 + j) ≡ node_in ns j
    later j = let q : 1 + j ≡ suc j = omega arith in ap (λ i. node_in (x ∷ ns) i) q

    more : (b : Bool) (j : ℕ) → node_eq n x ≡ false → IsPlaced ns n j b → IsPlaced (x ∷ ns) n (1 + j) b
    more true j h p = (omega (arith, p.0), later j ∙ p.1)
    more false j h p = (omega (arith, p.0), absent)
      where
        absent : (i : ℕ) → i < length (x ∷ ns) → ¬ (node_in (x ∷ ns) i ≡ n)
        absent zero q e = let t : node_eq n x ≡ true = ap (node_eq n) e ∙ node_itself n in absurd (cc)
        absent (suc i) q e = p.1 i (omega arith) e

    by : (b : Bool) → node_eq n x ≡ b → (any : Bool) → IsPlaced ns n (position_or_len (node_eq n) ns) any → IsPlaced (x ∷ ns) n (position_or_len (node_eq n) (x ∷ ns)) (node_eq n x || any)
    by true h any p = rw h (omega arith, sym (node_same n x h))
    by false h any p = rw h (more any (position_or_len (node_eq n) ns) h p)

-- what an insertion of a node makes of the nodes
pub numbered : (ns : List Node) (n : Node) → IsNumbered ns (insert_key node_eq ns n) n (position_or_len (node_eq n) ns) (not (list_any (node_eq n) ns))
numbered ns n = by (list_any (node_eq n) ns) (position_or_len (node_eq n) ns) (placed ns n)
  where
    by : (b : Bool) (i : ℕ) → IsPlaced ns n i b → IsNumbered ns (if b then ns else ns ++ n ∷ []) n i (not b)
    by true i p = record { within = p.0; at = p.1; known = λ _. refl; grown = λ e. absurd (cc) }
    by false i p = record { within = omega (arith, p.0, length_push ns n); at = get_or_push ns n (Var 0) i (sym p.0); known = λ e. absurd (cc); grown = λ _. (refl, p.1) }

pub if_ok_both : {A E : Type 0} (P Q R : A → Type 0) (r : Result A E) → IfOk r P → IfOk r Q → ((x : A) → P x → Q x → R x) → IfOk r R
if_ok_both P Q R (Ok x) p q f = f x p q
if_ok_both P Q R (Err e) p q f = p
