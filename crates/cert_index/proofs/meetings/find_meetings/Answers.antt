use Rattle.std.proofs.lemmas.Result.{IfOk-weaker}
use Rattle.cert_index.proofs.MeetingLaws.{meetings_told}
use Rattle.cert_index.proofs.meetings.find_meetings.Goals as goal

pub returns : goal.returns
returns c cert count apart told =
    IfOk-weaker c.meetings_of_all.result _ _ (λ m h. meetings_told cert c.args.heads.now c.args.fingerprints.now m count apart told h) c.meetings_of_all.ensures
