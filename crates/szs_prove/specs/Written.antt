-- What a sink has when the program ends.
use Rattle.std.specs.Prelude.{◌≡◌, ◌⊎◌, ℕ, List, IsTrue, Result, Ok, Err}
use Rattle.std.specs.Io.KnownBytes.{Appends}
use Rattle.outside_io.specs.Causes.{Rose}
use Rattle.outside_io.specs.Seen.{Seen}
use Rattle.outside_io.specs.Taken.{AppendsProperPrefix}
use Rattle.outside_io.specs.declared.library.Trouble.{Trouble}
use Rattle.outside_io.specs.declared.library.Trouble.TheVariants as trouble
use Rattle.szs_prove.specs.declared.exit.Exit.{Exit}
use Rattle.szs_prove.specs.declared.exit.Exit.TheVariants.{WriteFault, Memory}

-- how the program ends after a write with this result, where it should end so after the whole
abbrev pub exit_after : {A : Type 0} → Result A Trouble → Exit → Exit
exit_after (Ok done) wanted = wanted
exit_after (Err trouble.Failed) wanted = WriteFault
exit_after (Err trouble.Memory) wanted = Memory

-- The text was written whole, and the program ends as it should; or the sink failed, or wanted memory as it may, and has a prefix
-- of the text.
abbrev pub IsWritten : Seen → Seen → List ℕ → Exit → Exit → Type 0
IsWritten old new text wanted exit =
    ((exit ≡ wanted) × Appends old.taken new.taken text)
    ⊎ ((exit ≡ WriteFault) × AppendsProperPrefix old.taken new.taken text × Rose old.faults new.faults)
    ⊎ ((exit ≡ Memory) × AppendsProperPrefix old.taken new.taken text × IsTrue old.may_want)
