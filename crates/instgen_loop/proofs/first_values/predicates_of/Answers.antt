use Rattle.std.proofs.Common.{◌<◌, ◌≤◌, ◌++◌, ◌∷◌, [], ℕ, List, arith, sym, subst}
use Rattle.std.proofs.lemmas.List.Elements.{All-push, All-weaker}
use Rattle.inst_logic.specs.declared.signed.Signed.{Signed}
use Rattle.prop_logic.specs.Literal.{AtomsBelow}
use Rattle.instgen_loop.proofs.first_values.predicates_of.Goals as goal

-- one literal more, and a number above its atom too
one_more : (m n : ℕ) (c : List (Signed ℕ)) (l : Signed ℕ) → m ≤ n → l.atom < n → AtomsBelow m c → AtomsBelow n (c ++ l ∷ [])
one_more m n c l more here below = All-push (λ (k : Signed ℕ). k.atom < n) c l (All-weaker (λ (k : Signed ℕ). k.atom < m) (λ (k : Signed ℕ). k.atom < n) (λ (k : Signed ℕ) low. omega arith) c below) here

pub loop-l-preserved : goal.loop-l-preserved
loop-l-preserved c =
    subst (AtomsBelow c.greater-count.result) (sym c.in_ok-push.ensures.items)
    (one_more c.loop-l.count c.greater-count.result c.loop-l.lits.items (record { positive = c.l-item.result.positive; atom = c.unwrap_or-atom.result }) c.greater-count.ensures.first
    (omega (arith, c.greater-count.ensures.second, c.in_ok-next_number.ensures)) c.loop-l.invariant)
