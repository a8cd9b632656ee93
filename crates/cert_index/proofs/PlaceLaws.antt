-- Places that a look-up gives, or none.
use Rattle.std.proofs.Common.{◌≡◌, ℕ, List, refl, subst, Option, None, Some}
use Rattle.std.specs.Prelude.{IfSome}
use Rattle.cert_values.specs.declared.member.Member.{Member}
use Rattle.cert_index.specs.Places.{IsPlaceOf}

pub no_place : {A : Type 0} (o : Option A) → ((a : A) → o ≡ Some a → ⊥) → o ≡ None
no_place None none = refl
no_place (Some a) none = absurd (none a refl)

pub place_some : (P : Member → Type 0) (ms : List Member) (o : Option ℕ) (k : ℕ) → IfSome o (IsPlaceOf P ms) → o ≡ Some k → IsPlaceOf P ms k
place_some P ms o k h is = subst (λ x. IfSome x (IsPlaceOf P ms)) is h
