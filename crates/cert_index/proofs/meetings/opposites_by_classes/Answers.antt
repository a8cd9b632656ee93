use Rattle.std.proofs.Common.{◌≡◌, ◌∙◌, length, sym, subst}
use Rattle.std.proofs.lemmas.Result.{IfOk-weaker}
use Rattle.cert_index.specs.Chains.{AreOpposites}
use Rattle.cert_index.proofs.MeetingLaws.{opposites_narrow}
use Rattle.cert_index.proofs.meetings.opposites_by_classes.Goals as goal

pub find_opposites-requires-clause-chains : goal.find_opposites-requires-clause-chains
find_opposites-requires-clause-chains c = record { chained = c.in_ok-classes.ensures.chained; first = c.in_ok-classes.ensures.first }

pub find_opposites-requires-clause-count : goal.find_opposites-requires-clause-count
find_opposites-requires-clause-count c = c.requires ∙ sym c.in_ok-classes.ensures.count

pub returns : goal.returns
returns c =
    let hs = c.args.heads.now in
    let ps = c.args.fingerprints.now in
    let ns = c.in_ok-classes.classes.heads.items in
    let count : length ps ≡ length ns = c.requires ∙ sym c.in_ok-classes.ensures.count in
    IfOk-weaker c.find_opposites.result _ _
    (λ vs h. opposites_narrow hs ps ns vs c.in_ok-classes.ensures.count c.in_ok-classes.ensures.narrow (subst (λ n. AreOpposites ns ps n vs) count h)) c.find_opposites.ensures
