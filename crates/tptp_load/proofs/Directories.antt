-- The directory of a name.
use Rattle.std.proofs.Common.{◌≡◌, ℕ, ◌+◌, ◌<◌, ◌≤◌, List, [], ◌∷◌, ◌++◌, refl, ap, sym, ◌∙◌, Bool, true, false, cond, take, get_or, length, arith}
use Rattle.std.specs.Prelude.{◌||◌, nat_eq}
use Rattle.std.specs.List.{list_any}
use Rattle.std.specs.Str.{IsUtf8, IsCharBoundary}
use Rattle.std.proofs.lemmas.Str.{IsCharBoundary-start, IsCharBoundary-after_ascii}
use Rattle.std.proofs.lemmas.List.{take_more}
use Rattle.std.proofs.lemmas.Grind.{get_or_default_zero}
use Rattle.tptp_load.specs.Includes.{directory}

directory_none : (bs : List ℕ) → list_any (nat_eq 47) bs ≡ false → directory bs ≡ []
directory_none [] h = refl
directory_none (b ∷ bs) h = ap (λ c. cond c (b ∷ directory bs) []) h

ends : (b : ℕ) (bs : List ℕ) (c : Bool) → list_any (nat_eq 47) (bs ++ 47 ∷ []) ≡ true → (nat_eq 47 b || list_any (nat_eq 47) (bs ++ 47 ∷ [])) ≡ true
ends b bs c h = by (nat_eq 47 b)
  where
    by : (d : Bool) → (d || list_any (nat_eq 47) (bs ++ 47 ∷ [])) ≡ true
    by true = refl
    by false = h

has_slash : (bs : List ℕ) → list_any (nat_eq 47) (bs ++ 47 ∷ []) ≡ true
has_slash [] = refl
has_slash (b ∷ bs) = ends b bs true (has_slash bs)

pub directory_slash : (bs : List ℕ) → directory (bs ++ 47 ∷ []) ≡ bs ++ 47 ∷ []
directory_slash [] = refl
directory_slash (b ∷ bs) = ap (λ c. cond c (b ∷ directory (bs ++ 47 ∷ [])) []) (has_slash (b ∷ bs)) ∙ ap (λ l. b ∷ l) (directory_slash bs)

any_more : (bs : List ℕ) (b : ℕ) → nat_eq 47 b ≡ false → list_any (nat_eq 47) (bs ++ b ∷ []) ≡ list_any (nat_eq 47) bs
any_more [] b h = ap (λ c. c || false) h
any_more (x ∷ bs) b h = ap (λ c. nat_eq 47 x || c) (any_more bs b h)

pub directory_other : (bs : List ℕ) (b : ℕ) → nat_eq 47 b ≡ false → directory (bs ++ b ∷ []) ≡ directory bs
directory_other [] b h = ap (λ c. cond (c || false) (b ∷ []) []) h
directory_other (x ∷ bs) b h = λ i. cond (any_more (x ∷ bs) b h i) (x ∷ directory_other bs b h i) []

-- the directory of a front ends here
pub record EndsAt (name : List ℕ) (i end : ℕ) : Type 0 where
  pub value : take end name ≡ directory (take i name)
  pub within : end ≤ i
  pub boundary : IsUtf8 name → IsCharBoundary name end

pub ends_here : (name : List ℕ) (i : ℕ) (d : ℕ) → i < length name → get_or name i d ≡ 47 → EndsAt name (i + 1) (i + 1)
ends_here name i d lt h = record {
  value = take_more name i d lt ∙ ap (λ b. take i name ++ b ∷ []) h ∙ sym (directory_slash (take i name)) ∙ ap (λ b. directory (take i name ++ b ∷ [])) (sym h) ∙ ap directory (sym (take_more name i d lt));
  within = omega arith;
  boundary = λ u. IsCharBoundary-after_ascii name i u lt (let z : get_or name i 0 ≡ get_or name i d = sym (get_or_default_zero name i d lt) in omega (arith, z, h));
}

pub ends_before : (name : List ℕ) (i end : ℕ) (d : ℕ) → i < length name → nat_eq 47 (get_or name i d) ≡ false → EndsAt name i end → EndsAt name (i + 1) end
ends_before name i end d lt h e = record {
  value = e.value ∙ sym (directory_other (take i name) (get_or name i d) h) ∙ ap directory (sym (take_more name i d lt));
  within = omega (arith, e.within);
  boundary = e.boundary;
}

pub ends_first : (name : List ℕ) → EndsAt name 0 0
ends_first name = record { value = refl; within = omega arith; boundary = λ u. IsCharBoundary-start name u }
