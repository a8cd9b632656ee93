use Rattle.std.proofs.Common.{◌≡◌, ℕ, List, subst}
use Rattle.inst_logic.specs.declared.signed.Signed.{Signed}
use Rattle.inst_logic.specs.Derivations.{at_number}
use Rattle.cert_check.specs.Firsts.{IsFirstWrongOf}
use Rattle.cert_check.proofs.Differences.{first_of_trees}
use Rattle.cert_check.proofs.difference.difference.Goals as goal

pub returns : goal.returns
returns c =
    let P = λ (xs ys : List (List (Signed ℕ))). IsFirstWrongOf (λ n. at_number xs n ≡ at_number ys n) c.different_ids.result in
    let right = subst (λ (ys : List (List (Signed ℕ))). P c.as_slice.result.now ys) c.as_slice-2.ensures c.different_ids.ensures in
    first_of_trees c.args.bank.now c.distinct.ensures c.args.xs.now c.args.ys.now c.requires.left c.requires.right c.different_ids.result
    (subst (λ (xs : List (List (Signed ℕ))). P xs c.args.ys.now) c.as_slice.ensures right)
