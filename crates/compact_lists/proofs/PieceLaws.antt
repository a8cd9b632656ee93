-- Pieces of a list.
use Rattle.std.proofs.Common.{◌≡◌, ◌≤◌, ◌<◌, ◌+◌, ◌-◌, ◌∙◌, ℕ, zero, suc, List, [], ◌∷◌, ◌++◌, length, drop, take, get_or, refl, sym, ap, subst, arith, Some}
use Rattle.std.specs.Prelude.{slice_range, slice_get}
use Rattle.std.proofs.lemmas.List.{length-append, drop-append-le, take-append-le, take-append-drop, length-take-le, length-drop}
use Rattle.std.proofs.Math.Seq.{drop-append_seam, take-length}
use Rattle.compact_lists.specs.Pieces.{AreEnds, start_at, cuts}

pub length_cuts : {X : Type 0} (xs : List X) (from : ℕ) (ends : List ℕ) → length (cuts xs from ends) ≡ length ends
length_cuts xs from [] = refl
length_cuts xs from (end ∷ ends) = ap suc (length_cuts xs end ends)

pub from_within : (from : ℕ) (ends : List ℕ) (n : ℕ) → AreEnds from ends n → from ≤ n
from_within from [] n a = omega arith
from_within from (end ∷ ends) n a = omega (arith, from_within end ends n a.1)

pub end_within : (from : ℕ) (ends : List ℕ) (n i : ℕ) → AreEnds from ends n → i < length ends → get_or ends i 0 ≤ n
end_within from [] n i a h = absurd (omega arith)
end_within from (end ∷ ends) n zero a h = from_within end ends n a.1
end_within from (end ∷ ends) n (suc i) a h = end_within end ends n i a.1 (omega arith)

pub start_below : (from : ℕ) (ends : List ℕ) (n i : ℕ) → AreEnds from ends n → i < length ends → start_at from ends i ≤ get_or ends i 0
start_below from [] n i a h = absurd (omega arith)
start_below from (end ∷ ends) n zero a h = a.0
start_below from (end ∷ ends) n (suc zero) a h = start_below end ends n zero a.1 (omega arith)
start_below from (end ∷ ends) n (suc (suc i)) a h = start_below end ends n (suc i) a.1 (omega arith)

pub cut_at : {X : Type 0} (xs : List X) (from : ℕ) (ends : List ℕ) (i : ℕ) → i < length ends → slice_get (cuts xs from ends) i ≡ Some (slice_range xs (start_at from ends i) (get_or ends i 0))
cut_at xs from [] i h = absurd (omega arith)
cut_at xs from (end ∷ ends) zero h = refl
cut_at xs from (end ∷ ends) (suc zero) h = cut_at xs end ends zero (omega arith)
cut_at xs from (end ∷ ends) (suc (suc i)) h = cut_at xs end ends (suc i) (omega arith)

pub ends_more : (from : ℕ) (ends : List ℕ) (n m : ℕ) → n ≤ m → AreEnds from ends n → AreEnds from (ends ++ m ∷ []) m
ends_more from [] n m h a = (omega arith, refl)
ends_more from (end ∷ ends) n m h a = (a.0, ends_more end ends n m h a.1)

last_cut : {X : Type 0} (xs c : List X) (from m : ℕ) → from ≡ length xs → m ≡ length xs + length c → slice_range (xs ++ c) from m ≡ c
last_cut xs c from m h e =
    let k : m - length xs ≡ length c = omega arith in
    rw (h, k, drop-append_seam xs c, take-length c)

other_cut : {X : Type 0} (xs c : List X) (from end : ℕ) → from ≤ end → end ≤ length xs → slice_range (xs ++ c) from end ≡ slice_range xs from end
other_cut xs c from end h w =
    let inside : end - from ≤ length (drop from xs) = simp length-drop (omega arith) in
    rw (drop-append-le from xs c (omega arith), take-append-le (end - from) (drop from xs) c inside)

pub cuts_more : {X : Type 0} (xs c : List X) (from : ℕ) (ends : List ℕ) (m : ℕ) → m ≡ length xs + length c → AreEnds from ends (length xs) → cuts (xs ++ c) from (ends ++ m ∷ []) ≡ cuts xs from ends ++ c ∷ []
cuts_more xs c from [] m e a = ap (λ p. p ∷ []) (last_cut xs c from m a e)
cuts_more xs c from (end ∷ ends) m e a = rw (other_cut xs c from end a.0 (from_within end ends (length xs) a.1), cuts_more xs c end ends m e a.1)

-- one piece more, behind the others
pub ends_after : {X : Type 0} (xs c ys : List X) (ends es : List ℕ) (m : ℕ) → m ≡ length xs + length c → ys ≡ xs ++ c → es ≡ ends ++ m ∷ [] → AreEnds 0 ends (length xs) → AreEnds 0 es (length ys)
ends_after xs c ys ends es m e y s a = rw (s, y, length-append xs c, ← e) (ends_more 0 ends (length xs) m (omega arith) a)

pub cuts_after : {X : Type 0} (xs c ys : List X) (ends es : List ℕ) (m : ℕ) → m ≡ length xs + length c → ys ≡ xs ++ c → es ≡ ends ++ m ∷ [] → AreEnds 0 ends (length xs) → cuts ys 0 es ≡ cuts xs 0 ends ++ c ∷ []
cuts_after xs c ys ends es m e y s a = rw (s, y) (cuts_more xs c 0 ends m e a)

-- the first pieces alone
ends_kept : (from : ℕ) (ends : List ℕ) (n count : ℕ) → count ≤ length ends → AreEnds from ends n → AreEnds from (take count ends) (start_at from ends count)
ends_kept from ends n zero h a = refl
ends_kept from [] n (suc count) h a = absurd (omega arith)
ends_kept from (end ∷ ends) n (suc zero) h a = (a.0, refl)
ends_kept from (end ∷ ends) n (suc (suc count)) h a = (a.0, ends_kept end ends n (suc count) (omega arith) a.1)

start_within : (from : ℕ) (ends : List ℕ) (n count : ℕ) → count ≤ length ends → AreEnds from ends n → start_at from ends count ≤ n
start_within from ends n zero h a = from_within from ends n a
start_within from ends n (suc count) h a = end_within from ends n count a (omega arith)

take_cuts : {X : Type 0} (xs : List X) (from : ℕ) (ends : List ℕ) (count : ℕ) → cuts xs from (take count ends) ≡ take count (cuts xs from ends)
take_cuts xs from ends zero = refl
take_cuts xs from [] (suc count) = refl
take_cuts xs from (end ∷ ends) (suc count) = ap (λ p. slice_range xs from end ∷ p) (take_cuts xs end ends count)

cuts_within : {X : Type 0} (xs c : List X) (from : ℕ) (ends : List ℕ) → AreEnds from ends (length xs) → cuts (xs ++ c) from ends ≡ cuts xs from ends
cuts_within xs c from [] a = refl
cuts_within xs c from (end ∷ ends) a = rw (other_cut xs c from end a.0 (from_within end ends (length xs) a.1), cuts_within xs c end ends a.1)

kept_ends : {X : Type 0} (xs : List X) (ends : List ℕ) (count : ℕ) → count ≤ length ends → AreEnds 0 ends (length xs) → AreEnds 0 (take count ends) (length (take (start_at 0 ends count) xs))
kept_ends xs ends count h a =
    let end = start_at 0 ends count in
    let size : length (take end xs) ≡ end = length-take-le end xs (start_within 0 ends (length xs) count h a) in
    subst (AreEnds 0 (take count ends)) (sym size) (ends_kept 0 ends (length xs) count h a)

kept_cuts : {X : Type 0} (xs : List X) (ends : List ℕ) (count : ℕ) → count ≤ length ends → AreEnds 0 ends (length xs) → cuts (take (start_at 0 ends count) xs) 0 (take count ends) ≡ take count (cuts xs 0 ends)
kept_cuts xs ends count h a =
    let end = start_at 0 ends count in
    sym (cuts_within (take end xs) (drop end xs) 0 (take count ends) (kept_ends xs ends count h a)) ∙ ap (λ ys. cuts ys 0 (take count ends)) (take-append-drop end xs) ∙ take_cuts xs 0 ends count

pub ends_after_cut : {X : Type 0} (xs ys : List X) (ends es : List ℕ) (end count : ℕ) → count ≤ length ends → end ≡ start_at 0 ends count → ys ≡ take end xs → es ≡ take count ends → AreEnds 0 ends (length xs) → AreEnds 0 es (length ys)
ends_after_cut xs ys ends es end count h at y s a = rw (s, y, at) (kept_ends xs ends count h a)

pub cuts_after_cut : {X : Type 0} (xs ys : List X) (ends es : List ℕ) (end count : ℕ) → count ≤ length ends → end ≡ start_at 0 ends count → ys ≡ take end xs → es ≡ take count ends → AreEnds 0 ends (length xs) → cuts ys 0 es ≡ take count (cuts xs 0 ends)
cuts_after_cut xs ys ends es end count h at y s a = rw (s, y, at) (kept_cuts xs ends count h a)
