-- Certificates of each kind, by their values over a bank.
use Rattle.std.specs.Prelude.{List, []}
use Rattle.inst_calculus.specs.Models.{SelectedClause}
use Rattle.cert_format.specs.Certificate.{Certificate, first_refutation, refutation, saturation, covered, selected_members}
use Rattle.cert_values.specs.declared.certificate.FirstRefutation.{FirstRefutation}
use Rattle.cert_values.specs.declared.certificate.Refutation.{Refutation}
use Rattle.cert_values.specs.declared.certificate.Saturation.{Saturation}
use Rattle.cert_values.specs.declared.certificate.Covered.{Covered}
use Rattle.cert_values.specs.Values.{first_of, refutation_of, saturation_of, covered_of}

abbrev pub first_value : FirstRefutation → Certificate
first_value r = first_refutation (first_of r)

abbrev pub refutation_value : Refutation → Certificate
refutation_value r = refutation (refutation_of r)

abbrev pub saturation_value : Saturation → Certificate
saturation_value s = saturation (saturation_of s)

abbrev pub covered_value : Covered → Certificate
covered_value c = covered (covered_of c)

-- the saturation without what covers its clauses
abbrev pub uncovered_value : Covered → Certificate
uncovered_value c = saturation (covered_of c).saturation

-- the members of a saturation with their selected literals
abbrev pub selected_of : Certificate → List SelectedClause
selected_of (first_refutation r) = []
selected_of (refutation r) = []
selected_of (saturation s) = selected_members s
selected_of (covered c) = selected_members c.saturation
