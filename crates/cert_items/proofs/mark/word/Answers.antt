use Rattle.std.proofs.Common.{◌≡◌, ◌≢◌, ◌++◌, List, ℕ, Bor, IfSome, IfNone}
use Rattle.std.specs.Prelude.{Option, Some, None, MatchOption}
use Rattle.std.proofs.lemmas.Bool.{eqb-true, eq-eqb}
use Rattle.std.proofs.lemmas.Slice.Eq.{strip_prefix_is}
use Rattle.cert_items.proofs.mark.word.Goals as goal

-- what stands behind the word, or that it does not stand there
found : (s p : List ℕ) (r : Option (Bor (List ℕ))) → MatchOption r ((rest : List ℕ) → s ≢ p ++ rest) (λ x. s ≡ p ++ x.now) → IfSome r (λ x. s ≡ p ++ x.now) × IfNone r ((rest : List ℕ) → s ≢ p ++ rest)
found s p None m = (tt, m)
found s p (Some x) m = (m, tt)

pub returns-clause-some : goal.returns-clause-some
returns-clause-some c =
    (found c.args.bytes.now c.args.word.now c.strip_prefix.result
    (strip_prefix_is (λ a b. (eqb-true a b, eq-eqb a b)) c.args.bytes.now c.args.word.now c.strip_prefix.result c.strip_prefix.ensures.cases)).0

pub returns-clause-none : goal.returns-clause-none
returns-clause-none c =
    (found c.args.bytes.now c.args.word.now c.strip_prefix.result
    (strip_prefix_is (λ a b. (eqb-true a b, eq-eqb a b)) c.args.bytes.now c.args.word.now c.strip_prefix.result c.strip_prefix.ensures.cases)).1
