-- Logs of solves as plain lists.
use Rattle.instgen_run.specs.declared.event_log.EventLog.TheInside.{Inside}
use Rattle.instgen_run.specs.Logs.{Log}

abbrev pub log_in : Inside → Log
log_in a = record { flips = a.flips.items; solves = a.solves.items }
