use Rattle.std.proofs.Common.{◌≡◌, [], ◌∷◌, Some, sym, subst}
use Rattle.std.specs.Prelude.{slice_get}
use Rattle.prop_logic.proofs.ListLaws.{slice_get_append}
use Rattle.cdcl_core.proofs.names.lengthen.Goals as goal

pub loop-hints-preserved : goal.loop-hints-preserved
loop-hints-preserved c = λ k h e. subst (λ xs. slice_get xs k ≡ Some h) (sym c.in_ok-push.ensures.items) (slice_get_append c.loop-hints.hints.items (c.none.result ∷ []) k h (c.loop-hints.invariant k h e))
