-- The answers of the checker.
use Rattle.std.specs.Prelude.{⊤}
use Rattle.cert_format.specs.Validity.{IsFirstComplaint}
use Rattle.cert_format.specs.declared.complaint.Complaint.{Complaint}
use Rattle.cert_check.specs.declared.error.CheckError.{CheckError}
use Rattle.cert_check.specs.declared.error.CheckError.TheVariants as errors

-- the complaint is the first that applies; want of memory has no cause
abbrev pub IsCheckCause : (Complaint → Type 0) → CheckError → Type 0
IsCheckCause Passes (errors.Complaint complaint) = IsFirstComplaint Passes complaint
IsCheckCause Passes errors.Memory = ⊤
