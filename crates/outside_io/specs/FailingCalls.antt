-- Which calls of a device in memory fail.
use Rattle.std.specs.Prelude.{ℕ, ◌+◌, ◌-◌, ◌^◌, List, Bool, ◌&&◌, nat_lt, nat_eq, if◌then◌else◌}
use Rattle.std.specs.List.{list_any}
use Rattle.outside_io.specs.Causes.{one_more}

-- the numbers of the calls that fail, counted from 1, how many calls there were, and how many of them failed
pub record FailingCalls : Type 0 where
  pub fail : List ℕ
  pub calls : ℕ
  pub faults : ℕ

-- the next call is one that fails; after the last number none is
abbrev pub fails_next : FailingCalls → Bool
fails_next f = nat_lt f.calls (2 ^ 64 - 1) && list_any (λ number. nat_eq number (f.calls + 1)) f.fail

-- one more call was counted, and one more fault where it fails
abbrev pub after_call : FailingCalls → FailingCalls
after_call f = record { fail = f.fail; calls = one_more f.calls; faults = if fails_next f then one_more f.faults else f.faults }
