use Rattle.std.proofs.Common.{arith}
use Rattle.tptp_write.proofs.Walks.{opened}
use Rattle.tptp_write.proofs.terms.open.Goals as goal

pub returns-in_ok-push-in-len1-up : goal.returns-in_ok-push-in-len1-up
returns-in_ok-push-in-len1-up c =
    let q = c.in_ok-push_steps-in-len1-up.ensures in
    let h = opened c.args.text.now.items c.push_bytes.new.text.items c.args.steps.now.items c.push_steps.new.steps.items c.push.new.self.items c.as_slice.result.now _ c.args.args.now
    c.in_ok-push_bytes-in-len1-up.ensures (record { text = q.text; size = q.size }) c.in_ok-push-in-len1-up.ensures.items c.as_slice.ensures (omega (arith, c.in-len1-up.len_at_least)) c.first-item.is in
    record { text = h.text; size = h.size }
