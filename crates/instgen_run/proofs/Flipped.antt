-- The atoms at which two valuations differ.
use Rattle.std.proofs.Common.{◌≡◌, ◌≢◌, ℕ, zero, suc, ◌<◌, ◌≤◌, List, [], ◌∷◌, refl, sym, ap, ◌∙◌, subst as transport, map, length, arith, Bool, false, All, AllPairs, Some, get_or}
use Rattle.std.specs.Prelude.{slice_get}
use Rattle.std.specs.List.Sorted.{IsStrictlyIncreasing}
use Rattle.std.proofs.lemmas.List.Kept.{AllPairs-from_increasing}
use Rattle.inst_logic.specs.Tree.{Tree}
use Rattle.inst_calculus.proofs.Membership.{◌∈◌, contains_in, in_contains, in_all, all_in, in_map, from_map}
use Rattle.inst_calculus.proofs.Distinct.{length_map}
use Rattle.inst_calculus.proofs.Items.{same_item}
use Rattle.inst_logic.proofs.ShownLaws.{slice_get_contains}
use Rattle.cert_format.proofs.Numbers.{slice_get_of_map}
use Rattle.prop_logic.specs.Valuation.{value_at, AreChanges}
use Rattle.engine_laws.specs.Valuations.{AreFlips}
use Rattle.term_bank.specs.Forest.{Forest, tree_at, AreIds}
use Rattle.ground_abs.specs.Abstracts.{atoms_in, AreAtomsIn}
use Rattle.instgen_run.specs.Flips.{AreAtomsAt}
use Rattle.instgen_run.proofs.Works.{slice_get_map}

-- what differs is below the lengths
past_end : (bits : List Bool) (k n : ℕ) → length bits ≤ n → n ≤ k → value_at bits k ≡ false
past_end [] k n l h = refl
past_end (b ∷ bits) zero zero l h = absurd (omega arith)
past_end (b ∷ bits) zero (suc n) l h = absurd (omega arith)
past_end (b ∷ bits) (suc k) zero l h = absurd (omega arith)
past_end (b ∷ bits) (suc k) (suc n) l h = past_end bits k n (omega arith) (omega arith)

below_or_past : (k n : ℕ) → Dec (k < n)
below_or_past k n = native.Mathlib.Decide.dec_lt k n

pub changed_below : (old new : List Bool) (n : ℕ) (numbers : List ℕ) → AreChanges old new numbers → length old ≤ n → length new ≤ n → All (λ k. k < n) numbers
changed_below old new n numbers h a b = in_all (λ k. k < n) numbers (λ k i. go k ((h k).0 (in_contains k numbers i)) (below_or_past k n))
  where
    go : (k : ℕ) → value_at old k ≢ value_at new k → Dec (k < n) → k < n
    go k d (yes l) = l
    go k d (no l) = absurd (d (past_end old k n a (omega arith) ∙ sym (past_end new k n b (omega arith))))

-- the atoms of the numbers
from_atoms : (ids numbers atoms : List ℕ) → AreAtomsAt ids numbers atoms → (a : ℕ) → a ∈ atoms → (n : ℕ) × (n ∈ numbers) × (slice_get ids n ≡ Some a)
from_atoms ids numbers atoms h a i =
    let j : Some a ∈ map (slice_get ids) numbers = transport (λ xs. Some a ∈ xs) h (in_map Some a atoms i) in
    let (n, k, e) = from_map (slice_get ids) (Some a) numbers j in (n, k, e)

to_atoms : (ids numbers atoms : List ℕ) → AreAtomsAt ids numbers atoms → (n a : ℕ) → n ∈ numbers → slice_get ids n ≡ Some a → a ∈ atoms
to_atoms ids numbers atoms h n a i e =
    let j : slice_get ids n ∈ map Some atoms = transport (λ xs. slice_get ids n ∈ xs) (sym h) (in_map (slice_get ids) n numbers i) in
    let (b, k, q) = from_map Some (slice_get ids n) atoms j in
    let same : b ≡ a = same_item (slice_get ids n) b a (sym q) e in transport (λ x. x ∈ atoms) same k

pub atoms_are_ids : (f : Forest) (ids numbers atoms : List ℕ) → AreIds f ids → AreAtomsAt ids numbers atoms → AreIds f atoms
atoms_are_ids f ids numbers atoms within at = in_all (λ a. a < length f.trees) atoms (λ a i.
    let (n, j, e) = from_atoms ids numbers atoms at a i in all_in (λ a. a < length f.trees) ids within a (contains_in a ids (slice_get_contains ids n a e)))

module _ (f : Forest) (ids : List ℕ) (old new : List Bool) (numbers atoms : List ℕ) (fits : AreAtomsIn f ids) (changes : AreChanges old new numbers) (rising : IsStrictlyIncreasing numbers) (at : AreAtomsAt ids numbers atoms) where
  distinct_atoms : AllPairs (λ s t. s ≢ t) (map (tree_at f) atoms)
  distinct_atoms i j d l m e =
      let short : length (map (tree_at f) atoms) ≡ length atoms = length_map (tree_at f) atoms in
      let long : length atoms ≡ length numbers = sym (length_map Some atoms) ∙ ap length at ∙ length_map (slice_get ids) numbers in
      let p = at_place numbers atoms at i (omega arith) in
      let q = at_place numbers atoms at j (omega arith) in
      let same : tree_at f (get_or atoms i 0) ≡ tree_at f (get_or atoms j 0) = sym (get_or_map atoms i d (omega arith)) ∙ e ∙ get_or_map atoms j d (omega arith) in
      let n : get_or numbers i 0 ≡ get_or numbers j 0 = fits.atoms.once (get_or numbers i 0) (get_or numbers j 0) (tree_at f (get_or atoms i 0)) (slice_get_map (tree_at f) ids (get_or numbers i 0) (get_or atoms i 0) p)
      (slice_get_map (tree_at f) ids (get_or numbers j 0) (get_or atoms j 0) q ∙ ap Some (sym same)) in
      let r : get_or numbers i 0 < get_or numbers j 0 = AllPairs-from_increasing numbers rising i j 0 l (omega arith) in
      omega arith
    where
      at_place : (ns bs : List ℕ) → AreAtomsAt ids ns bs → (k : ℕ) → k < length bs → slice_get ids (get_or ns k 0) ≡ Some (get_or bs k 0)
      at_place ns [] h k l = absurd (omega arith)
      at_place [] (b ∷ bs) h k l = absurd (cc h)
      at_place (x ∷ ns) (b ∷ bs) h zero l = cc h
      at_place (x ∷ ns) (b ∷ bs) h (suc k) l = at_place ns bs (let t : map Some bs ≡ map (slice_get ids) ns = cc h in t) k (omega arith)

      get_or_map : (bs : List ℕ) (k : ℕ) (d : Tree) → k < length bs → get_or (map (tree_at f) bs) k d ≡ tree_at f (get_or bs k 0)
      get_or_map [] k d l = absurd (omega arith)
      get_or_map (b ∷ bs) zero d l = refl
      get_or_map (b ∷ bs) (suc k) d l = get_or_map bs k d (omega arith)

  pub are_flips : AreFlips (atoms_in f ids) old new (map (tree_at f) atoms)
  are_flips = record {
    once = distinct_atoms;
    each = λ t i.
        let (a, j, e) = from_map (tree_at f) t atoms (contains_in t (map (tree_at f) atoms) i) in
        let (n, k, q) = from_atoms ids numbers atoms at a j in
        (n, slice_get_map (tree_at f) ids n a q ∙ ap Some e, (changes n).0 (in_contains n numbers k));
    all = λ n t e d.
        let (a, q, same) = slice_get_of_map (tree_at f) ids n t e in
        let i = to_atoms ids numbers atoms at n a (contains_in n numbers ((changes n).1 d)) q in
        in_contains t (map (tree_at f) atoms) (transport (λ x. x ∈ map (tree_at f) atoms) same (in_map (tree_at f) a atoms i));
  }
