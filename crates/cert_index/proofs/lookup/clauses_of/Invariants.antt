use Rattle.std.proofs.Common.{◌≡◌, ℕ, ◌<◌, List, get_or, Some, None}
use Rattle.std.specs.Cmp.Lexicographic.{pointwise}
use Rattle.indexmap.specs.IndexMap.{get}
use Rattle.inst_logic.specs.declared.signed.Signed.{Signed}
use Rattle.clause_form.specs.Literals.{id_eq}
use Rattle.cert_values.specs.declared.member.Member.{Member}
use Rattle.cert_index.specs.Places.{IsPlaceOf}
use Rattle.cert_index.proofs.lookup.clauses_of.Given as goal

abbrev pub invariant-loop-i : goal.invariant-loop-i
invariant-loop-i l = record {
  found : (c : List (Signed ℕ)) (k : ℕ) → get (pointwise id_eq) l.clauses c ≡ Some k → IsPlaceOf (λ m. m.clause ≡ c) l.members k;
  there : (k : ℕ) (d : Member) → k < l.i → ¬ (get (pointwise id_eq) l.clauses (get_or l.members k d).clause ≡ None);
}
