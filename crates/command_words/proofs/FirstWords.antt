-- The first word, as a word and as bytes.
use Rattle.std.proofs.Common.{◌≡◌, ◌∙◌, ℕ, List, [], ◌∷◌, Some, true, false, ap, map, sym}
use Rattle.std.proofs.Math.Dec.{eqb}
use Rattle.std.proofs.lemmas.Bool.{eq-eqb}
use Rattle.std.specs.Prelude.{slice_get}
use Rattle.std.specs.Str.{bytes_eq}
use Rattle.std.proofs.lemmas.Slice.Eq.{bytes_eq-Decides}

pub first_word : {X : Type 0} (f : X → List ℕ) (xs : List X) (x : X) (t : List ℕ) → Some x ≡ slice_get xs 0 → bytes_eq (f x) t ≡ true → slice_get (map f xs) 0 ≡ Some t
first_word f [] x t e same = absurd cc
first_word f (y ∷ ys) x t e same =
    let is : y ≡ x = cc in
    ap Some (ap f is ∙ (bytes_eq-Decides (f x) t).0 same)

-- the byte by which the words of commands differ
abbrev pub second : List ℕ → ℕ
second (x ∷ y ∷ more) = y
second _ = 0

pub differ : (u v : List ℕ) → eqb (second u) (second v) ≡ false → u ≡ v → ⊥
differ u v apart same =
    let yes = eq-eqb (second u) (second v) (ap second same) in
    let no : true ≡ false = sym yes ∙ apart in
    absurd cc
