use Rattle.std.proofs.Common.{◌≡◌, arith, List, ℕ, ◌+◌, ◌++◌, ap, ◌∙◌, length}
use Rattle.instgen_run.specs.Logs.{Log, with_solve}
use Rattle.instgen_run.proofs.Logged.{log_pushed}
use Rattle.instgen_run.proofs.event_log.EventLog.push_solved.Goals as goal

pub returns : goal.returns
returns c =
    let a = c.self.inside in
    let flips = c.in_ok-extend_from_slice.ensures.items ∙ ap (λ (fs : List ℕ). a.flips.items ++ fs) c.as_slice-added.ensures in
    let count : c.in_ok-small.field-0 ≡ length a.flips.items + length c.args.flips.now = omega (arith, c.in_ok-small.ensures, c.len.ensures, ap length c.as_slice-added.ensures) in
    log_pushed (record { flips = a.flips.items; solves = a.solves.items }) c.args.flips.now c.extend_from_slice.new.self.items c.in_ok-small.field-0 c.in_ok-small-2.field-0 c.args.entries c.push.new.self.items flips c.in_ok-push.ensures.items count c.in_ok-small-2.ensures
    ∙ ap (λ (l : Log). with_solve l c.args.flips.now c.args.entries) c.self.view_is
