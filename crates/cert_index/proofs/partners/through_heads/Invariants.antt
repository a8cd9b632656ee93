use Rattle.std.proofs.Common.{◌≤◌, length}
use Rattle.std.specs.Prelude.{unwrap_or}
use Rattle.indexmap.specs.IndexMap.{get}
use Rattle.clause_form.specs.Literals.{id_eq}
use Rattle.cert_index.specs.Partners.{Head, AreChained, IsNext}
use Rattle.cert_index.proofs.partners.through_heads.Given as goal

abbrev pub invariant-loop-i : goal.invariant-loop-i
invariant-loop-i l = record {
  within : l.i ≤ length l.heads.items;
  chained : AreChained l.heads.items l.same.items l.i;
  first : (h : Head) → IsNext l.heads.items h l.i (unwrap_or (get id_eq l.first h) (length l.heads.items));
}

abbrev pub decreases-loop-i : goal.decreases-loop-i
decreases-loop-i l = l.i
