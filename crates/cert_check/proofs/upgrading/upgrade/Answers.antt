use Rattle.std.proofs.Common.{List, ap, sym, ◌∙◌, subst, map, length}
use Rattle.std.proofs.lemmas.List.{length-map}
use Rattle.inst_logic.specs.Clauses.{TreeClause}
use Rattle.inst_logic.proofs.Items.{lists_equal}
use Rattle.cert_format.specs.Upgrades.{IsUpgrade}
use Rattle.cert_format.specs.declared.complaint.Complaint.TheVariants.{Member as Derived, Bot, Ground}
use Rattle.term_bank.specs.Forest.{clause_at}
use Rattle.cert_values.specs.declared.certificate.FirstRefutation.{FirstRefutation}
use Rattle.cert_values.specs.Values.{first_of, refutation_of}
use Rattle.cert_check.proofs.GroundMembers.{abstractions, count_same}
use Rattle.cert_check.proofs.Sources.{upgraded, upgraded_whole}
use Rattle.cert_check.proofs.upgrading.upgrade.Goals as goal

pub lines_of-requires-clause-members : goal.lines_of-requires-clause-members
lines_of-requires-clause-members c n = c.into_cert-base.ensures.valid (Derived n)

pub lines_of-requires-clause-bot : goal.lines_of-requires-clause-bot
lines_of-requires-clause-bot c = c.into_cert-base.ensures.valid Bot

pub lines_of-requires-clause-count : goal.lines_of-requires-clause-count
lines_of-requires-clause-count c =
    let r = c.into_cert-base.result in
    let f = r.base.bank in
    sym (length-map r.grounds (clause_at f))
    ∙ ap (λ (cs : List TreeClause). length cs) (lists_equal (map (clause_at f) r.grounds) (abstractions r.bot f r.base.members) (λ n. c.into_cert-base.ensures.valid (Ground n)))
    ∙ count_same r.bot f r.base.members

pub returns-clause-upgrade : goal.returns-clause-upgrade
returns-clause-upgrade c =
    let r = c.into_cert-base.result in
    let b = c.lines_of.new.base in
    let ls = c.in_ok-lines.lines in
    subst (λ (x : FirstRefutation). IsUpgrade (first_of x) (refutation_of (record { base = b; bot = r.bot; grounds = ls; steps = r.steps }))) c.into_cert-base.ensures.is
    (upgraded r c.into_cert-base.ensures.whole b c.lines_of.ensures.kept ls c.in_ok-lines.ensures.lines)

pub returns-clause-valid : goal.returns-clause-valid
returns-clause-valid c =
    let r = c.into_cert-base.result in
    let b = c.lines_of.new.base in
    let ls = c.in_ok-lines.lines in
    c.valid_can_be_upgraded.ensures.valid (first_of r) (refutation_of (record { base = b; bot = r.bot; grounds = ls; steps = r.steps })) c.into_cert-base.ensures.valid
    (upgraded r c.into_cert-base.ensures.whole b c.lines_of.ensures.kept ls c.in_ok-lines.ensures.lines)

pub returns-clause-whole : goal.returns-clause-whole
returns-clause-whole c =
    upgraded_whole c.into_cert-base.result c.into_cert-base.ensures.whole c.lines_of.new.base c.lines_of.ensures.kept c.in_ok-lines.lines c.in_ok-lines.ensures.lines c.in_ok-lines.ensures.whole
