use Rattle.std.proofs.Common.{List, ℕ, inl, inr, sym, subst}
use Rattle.cert_index.specs.Chains.{IsAddedAlike}
use Rattle.cert_index.proofs.MeetingLaws.{alike_pushed}
use Rattle.cert_index.proofs.meetings.add_alike.Goals as goal

pub returns-then-differs : goal.returns-then-differs
returns-then-differs c = record { kept = λ k h. h; added = inr (c.differs.ensures c.if-differs.true); only = λ k h. inl h }

pub returns : goal.returns
returns c =
    subst (λ (js : List ℕ). IsAddedAlike c.args.fingerprints.now c.args.p c.args.q c.args.alike.now.items js) (sym c.in_ok-push.ensures.items)
    (alike_pushed c.args.fingerprints.now c.args.p c.args.q c.args.alike.now.items)
