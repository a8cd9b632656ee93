-- How a count of reads rises.
use Rattle.std.proofs.Common.{◌≡◌, ℕ, ◌+◌, ◌≤◌, Option, None, Some, refl, sym, subst, arith}
use Rattle.std.proofs.lemmas.Grind.{common_steps}
use Rattle.outside_io.specs.Causes.{one_more, RisesByOne, RisesAtMost}

one_more_at_most : (n : ℕ) → one_more n ≤ n + 1
one_more_at_most n = grind (arith, common_steps)

-- nothing was read yet
pub no_reads : (count : Option ℕ) → RisesAtMost 0 count count
no_reads None = refl
no_reads (Some n) = omega arith

-- after some reads one more
pub one_read : (n m : ℕ) (a b c : Option ℕ) → RisesAtMost n a b → RisesByOne b c → n + 1 ≤ m → RisesAtMost m a c
one_read n m None b c h r le = subst (λ x. RisesByOne x c) h r
one_read n m (Some x) None c h r le = absurd h
one_read n m (Some x) (Some y) c h r le = subst (RisesAtMost m (Some x)) (sym r) (let l = one_more_at_most y in omega arith)
