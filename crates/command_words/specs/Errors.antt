-- Whether an error is want of memory.
use Rattle.std.specs.Prelude.{Bool, true, false}
use Rattle.tptp_read.specs.declared.text.ReadError.{ReadError}
use Rattle.tptp_read.specs.declared.text.ReadError.TheVariants.{Memory}

abbrev pub wants_memory : ReadError → Bool
wants_memory Memory = true
wants_memory _ = false
