-- Signs of two literals that are compared.
use Rattle.std.proofs.Common.{◌≡◌, refl}
use Rattle.std.specs.Prelude.{Bool, true, false}
use Rattle.std.specs.Bool.{beq}

pub signs_same : (p q : Bool) → beq p q ≡ true → p ≡ q
signs_same true true e = refl
signs_same true false e = absurd (cc)
signs_same false true e = absurd (cc)
signs_same false false e = refl

pub signs_differ : (p q : Bool) → beq p q ≡ false → ¬ (p ≡ q)
signs_differ true true e same = absurd (cc)
signs_differ true false e same = absurd (cc)
signs_differ false true e same = absurd (cc)
signs_differ false false e same = absurd (cc)
