-- What stands behind the literals of a clause is no sign of equality.
use Rattle.std.proofs.Common.{ℕ, true, false, List, ◌∷◌, ap}
use Rattle.std.specs.Prelude.{nat_eq}
use Rattle.cert_format.specs.Spelling.{IsEqualitySign}
use Rattle.cert_format.proofs.Clauses.{first, rest_of}

pub comma_no_sign : (x : List ℕ) → ¬ IsEqualitySign (44 ∷ x)
comma_no_sign x (true, y, e) = let q = ap (λ (xs : List ℕ). nat_eq (first xs) 32) e in cc
comma_no_sign x (false, y, e) = let q = ap (λ (xs : List ℕ). nat_eq (first xs) 32) e in cc

pub bar_no_sign : (x : List ℕ) → ¬ IsEqualitySign (32 ∷ 124 ∷ x)
bar_no_sign x (true, y, e) = let q = ap (λ (xs : List ℕ). nat_eq (first (rest_of xs)) 61) e in cc
bar_no_sign x (false, y, e) = let q = ap (λ (xs : List ℕ). nat_eq (first (rest_of xs)) 33) e in cc
