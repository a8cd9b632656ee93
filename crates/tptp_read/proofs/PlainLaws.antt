-- Literals whose first token opens nothing.
use Rattle.std.proofs.Common.{◌≡◌, ℕ, zero, suc, false, List, refl}
use Rattle.tptp_read.specs.Stream.{Tok}
use Rattle.tptp_read.specs.Parse.{begins_with}
use Rattle.tptp_read.specs.ParseClause.{negated_with, negated_at, simple_at}
use Rattle.tptp_read.specs.Shapes.{negated_plain, simple_plain}

pub no_parenthesis : (n d : ℕ) (ts : List Tok) → begins_with 40 ts ≡ false → negated_at n d ts ≡ negated_plain d ts
unfolding negated_at negated_with negated_plain
no_parenthesis zero d ts e = rw e refl
no_parenthesis (suc n) d ts e = rw e refl

pub no_negation : (d : ℕ) (ts : List Tok) → begins_with 126 ts ≡ false → simple_at d ts ≡ simple_plain d ts
unfolding simple_at simple_plain
no_negation d ts e = rw e refl
