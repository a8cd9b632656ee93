-- What a sink has once the text of an answer was written.
use Rattle.std.proofs.Common.{◌≡◌, ◌∙◌, ℕ, List, inl, inr, subst}
use Rattle.std.specs.Prelude.{Result, Ok, Err}
use Rattle.std.specs.Io.KnownBytes.{Appends}
use Rattle.outside_io.specs.Seen.{Seen, Writes}
use Rattle.outside_io.specs.Taken.{AppendsProperPrefix}
use Rattle.outside_io.specs.declared.library.Trouble.{Trouble}
use Rattle.outside_io.specs.declared.library.Trouble.TheVariants as trouble
use Rattle.szs_prove.specs.Written.{IsWritten, exit_after}
use Rattle.szs_prove.specs.declared.exit.Exit.{Exit}

pub ended : {A : Type 0} (old new : Seen) (text said : List ℕ) (r : Result A Trouble) (own wanted exit : Exit) → text ≡ said → own ≡ wanted → exit ≡ exit_after r own
    → Writes {A = A} old new text r → IsWritten old new said wanted exit
ended old new text said (Ok done) own wanted exit same is e w = inl (e ∙ is, subst (Appends old.taken new.taken) same w.taken)
ended old new text said (Err trouble.Failed) own wanted exit same is e w = inr (inl (e, subst (AppendsProperPrefix old.taken new.taken) same w.taken.0, w.taken.1))
ended old new text said (Err trouble.Memory) own wanted exit same is e w = inr (inr (e, subst (AppendsProperPrefix old.taken new.taken) same w.taken.0, w.taken.1))
