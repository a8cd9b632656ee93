-- How the logic stores the clauses of statements.
use Rattle.std.specs.Prelude.{◌≡◌, ℕ, zero, suc, List, Bool, true, false, refl}
use Rattle.std.specs.Coded.{Coded, code_by, coded×, coded_ℕ, coded_list}
use Rattle.std.proofs.Common.{ap}
use Rattle.inst_logic.specs.Clauses.{TreeClause}
use Rattle.inst_logic.specs.TreeCode.{clause_code}
use Rattle.tptp_load.specs.Includes.{Stated}

abbrev number_of : Bool → ℕ
number_of false = 0
number_of true = 1

abbrev of_number : ℕ → Bool
of_number zero = false
of_number (suc n) = true

back : (b : Bool) → of_number (number_of b) ≡ b
back false = refl
back true = refl

abbrev parts : Stated → List ℕ × (ℕ × TreeClause)
parts s = (s.name, (number_of s.always, s.clause))

abbrev of_parts : List ℕ × (ℕ × TreeClause) → Stated
of_parts p = record { name = p.0; always = of_number p.1.0; clause = p.1.1 }

pub parts_back : (s : Stated) → of_parts (parts s) ≡ s
parts_back s = ap (λ (b : Bool). record s { always = b }) (back s.always)

abbrev pub stated_code : Coded Stated
stated_code = code_by (List ℕ × (ℕ × TreeClause)) (coded× (coded_list coded_ℕ) (coded× coded_ℕ clause_code)) parts of_parts parts_back
