-- The stages of a check. What a stage asks is passed where each complaint that it may make does not apply; of other complaints it
-- asks nothing.
use Rattle.std.specs.Prelude.{◌≡◌, ℕ, List, IsTrue, Some}
use Rattle.inst_logic.specs.declared.symbol.Sym.{Sym}
use Rattle.inst_logic.specs.Tree.{Tree}
use Rattle.inst_logic.specs.Clauses.{TreeClause}
use Rattle.inst_logic.specs.Derivations.{at_number}
use Rattle.inst_logic.specs.WellFormed.{is_constant}
use Rattle.inst_calculus.specs.Entries.{Origin}
use Rattle.inst_calculus.specs.Steps.{Step, EndsEmpty}
use Rattle.cert_format.specs.Certificate.{Base}
use Rattle.cert_format.specs.Validity.{IsFirstOrigin, IsRightAxiom, IsRightFirstMember, IsRightMember, IsRightStep}
use Rattle.cert_format.specs.declared.complaint.Complaint.{Complaint}
use Rattle.cert_format.specs.declared.complaint.Complaint.TheVariants.{Axiom, Member as Derived, Bot, Step as Shown, NotEmpty}
use Rattle.cert_check.specs.declared.base.Lemmas.{Lemmas}
use Rattle.cert_check.specs.declared.base.Lemmas.TheVariants.{Allowed, Refused}

-- where lemmas are refused, the origin is one of the first format
abbrev pub IsAllowedOrigin : Lemmas → Origin → Type 0
IsAllowedOrigin Allowed o = Unit {0}
IsAllowedOrigin Refused o = IsFirstOrigin o

-- member n is what its origin gives, and this is an allowed one
abbrev pub IsAllowedMember : Lemmas → Base → ℕ → Type 0
IsAllowedMember Allowed b n = IsRightMember b n
IsAllowedMember Refused b n = IsRightFirstMember b n

-- the axioms and the members pass
abbrev pub MembersPass : Lemmas → Base → Complaint → Type 0
MembersPass lemmas b (Axiom n) = IsRightAxiom b n
MembersPass lemmas b (Derived n) = IsAllowedMember lemmas b n
MembersPass lemmas b _ = Unit {0}

-- the ground constant passes
abbrev pub ConstantPasses : Sym → Complaint → Type 0
ConstantPasses bot Bot = IsTrue (is_constant bot)
ConstantPasses bot _ = Unit {0}

-- where there is a step n, it has a hint and is shown from the given clauses and the steps before it
abbrev pub IsRightStepNumber : List TreeClause → List (Step Tree) → ℕ → Type 0
IsRightStepNumber given steps n = (s : Step Tree) → at_number steps n ≡ Some s → IsRightStep given steps n s

-- the steps and their end pass
abbrev pub StepsPass : List TreeClause → List (Step Tree) → Complaint → Type 0
StepsPass given steps (Shown n) = IsRightStepNumber given steps n
StepsPass given steps NotEmpty = EndsEmpty steps
StepsPass given steps _ = Unit {0}
