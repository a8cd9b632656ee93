use Rattle.std.proofs.Common.{◌≡◌, ℕ, ◌<◌, [], ◌∷◌, get_or}
use Rattle.std.specs.Prelude.{Any}
use Rattle.inst_logic.specs.declared.signed.Signed.{Signed}
use Rattle.cert_values.specs.declared.member.Member.{Member}
use Rattle.cert_index.proofs.covers.unit_place.Given as goal

abbrev pub invariant-loop-literal : goal.invariant-loop-literal
invariant-loop-literal l = (i : ℕ) (x : Signed ℕ) → i < l.literal-index → ¬ Any (λ (m : Member). m.clause ≡ get_or l.literals i x ∷ []) l._members
