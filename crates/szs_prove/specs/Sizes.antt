-- How large refutations are.
use Rattle.std.specs.Prelude.{◌≡◌, ℕ, ◌+◌, List, length}
use Rattle.inst_logic.specs.Clauses.{TreeClause}
use Rattle.cert_format.specs.Certificate.{Refutation}
use Rattle.cert_format.specs.Validity.{IsValidByLines}
use Rattle.szs_prove.specs.declared.sizes.Size.{Size}
use Rattle.szs_prove.specs.Chains.{chain_clauses}

abbrev pub size_of : Refutation → Size
size_of r = record { clauses = length r.base.inputs; members = length r.base.members; steps = length r.steps }

-- a valid refutation of the clauses, in their order, has this size
pub record AreRefutedIn (clauses : List TreeClause) (size : Size) : Type 0 where
  pub refutation : Refutation
  pub valid : IsValidByLines refutation
  pub inputs : refutation.base.inputs ≡ clauses
  pub measured : size ≡ size_of refutation

-- the chain of n constants has n + 2 clauses, and a valid refutation of this size
pub record IsRefutedIn (n : ℕ) (size : Size) : Type 0 where
  pub clauses : size.clauses ≡ n + 2
  pub refuted : AreRefutedIn (chain_clauses n) size
