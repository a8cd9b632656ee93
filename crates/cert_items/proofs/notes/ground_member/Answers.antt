use Rattle.std.proofs.Common.{◌≢◌, ◌∷◌, ◌++◌, ◌<◌, ◌^◌, List, ℕ}
use Rattle.std.specs.Prelude.{codes, decimal}
use Rattle.cert_items.proofs.Reading.{none_if}
use Rattle.cert_items.proofs.notes.ground_member.Goals as goal

pub returns-in_err-after-clause-none : goal.returns-in_err-after-clause-none
returns-in_err-after-clause-none c =
    none_if _ ((n : ℕ) (rest : List ℕ) → n < 2 ^ 64 → c.args.bytes.now ≢ codes "ground(m" ++ (decimal n ++ 41 ∷ rest)) (λ n rest h e. c.in_err-after.ensures.none (decimal n ++ 41 ∷ rest) e)
