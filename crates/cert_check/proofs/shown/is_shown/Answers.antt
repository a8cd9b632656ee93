use Rattle.std.proofs.Common.{◌∙◌, ◌-◌, length, sym, ap, arith, false, None, Some}
use Rattle.std.specs.Prelude.{option_copied}
use Rattle.std.proofs.lemmas.List.{length-map}
use Rattle.std.proofs.lemmas.Result.{IfOk-weaker}
use Rattle.term_bank.specs.Forest.{clause_at}
use Rattle.cert_values.proofs.Kept.{covered_whole}
use Rattle.cert_values.specs.Values.{by_of, covered_of, saturation_of}
use Rattle.cert_check.proofs.Closings.{canonical_members}
use Rattle.cert_check.proofs.InputScans.{member_ids, stated_ids}
use Rattle.cert_check.proofs.Refutations.{whole_base}
use Rattle.cert_check.proofs.Saturations.{keeps_grown, keeps_saturation}
use Rattle.cert_check.proofs.ShownLaws.{by_there, none_shows, short_list, shown_alone, shown_there, whole_by_at}
use Rattle.cert_check.proofs.shown.is_shown.Goals as goal

pub returns-in-None-clause-shown : goal.returns-in-None-clause-shown
returns-in-None-clause-shown c =
    let cert = c.args.cert.now in
    let long = length-map cert.shown (by_of cert.cert.base.bank) in
    shown_alone cert.cert c.requires.comparable.base c.args.k (sym c.in-None.ensures) (covered_of cert).shown c.requires.number c.is_past.result
    (λ e. let less = c.is_past.ensures.0 e in omega (arith, less, long)) (λ e. let more = short_list c.is_past.result (length cert.shown) c.args.k c.is_past.ensures e in omega (arith, more, long))

pub returns-in-None-get-clause-shown : goal.returns-in-None-get-clause-shown
returns-in-None-get-clause-shown c =
    let cert = c.args.cert.now in
    shown_there cert.cert c.requires.comparable.base c.args.k c.in-Some.c.now (sym c.in-Some.ensures) (covered_of cert).shown false None (by_there cert c.args.k None c.requires.number (sym c.get.ensures ∙ ap option_copied c.in-None-get.is))
    (none_shows (saturation_of cert.cert).base.members (clause_at cert.cert.base.bank c.in-Some.c.now))

pub justifies-requires-clause-members : goal.justifies-requires-clause-members
justifies-requires-clause-members c = member_ids c.args.cert.now.cert c.requires.comparable.whole.cert

pub justifies-requires-clause-members_canonical : goal.justifies-requires-clause-members_canonical
justifies-requires-clause-members_canonical c = canonical_members c.args.cert.now.cert c.requires.comparable.base

pub justifies-requires-clause-clause : goal.justifies-requires-clause-clause
justifies-requires-clause-clause c = stated_ids c.args.cert.now.cert c.requires.comparable.whole.cert c.args.k c.in-Some.c.now (sym c.in-Some.ensures)

pub justifies-requires-clause-by : goal.justifies-requires-clause-by
justifies-requires-clause-by c = whole_by_at c.args.cert.now c.requires.comparable.whole (c.args.k - 1) c.in-Some-get.by.now (sym c.get.ensures ∙ ap option_copied c.in-Some-get.is)

pub returns-in-Some-get-clause-whole : goal.returns-in-Some-get-clause-whole
returns-in-Some-get-clause-whole c =
    let cert = c.args.cert.now in
    let g = c.justifies.new.bank in
    IfOk-weaker c.justifies.result _ _ (λ r h.
    covered_whole cert (record cert.cert { base = record cert.cert.base { bank = g } }) c.requires.comparable.whole (keeps_saturation cert.cert (record cert.cert.base { bank = g }) (keeps_grown cert.cert.base g c.justifies.ensures.grows.0))
    (whole_base cert.cert.base g c.requires.comparable.whole.cert c.justifies.ensures.grows.0 (c.justifies.ensures.grows.1 c.requires.comparable.whole.cert.bank))) c.justifies.ensures.justified

pub returns-in-Some-get-clause-shown : goal.returns-in-Some-get-clause-shown
returns-in-Some-get-clause-shown c =
    let cert = c.args.cert.now in
    let f = cert.cert.base.bank in
    IfOk-weaker c.justifies.result _ _ (λ r h.
    shown_there cert.cert c.requires.comparable.base c.args.k c.in-Some.c.now (sym c.in-Some.ensures) (covered_of cert).shown r (Some (by_of f c.in-Some-get.by.now))
    (by_there cert c.args.k (Some c.in-Some-get.by.now) c.requires.number (sym c.get.ensures ∙ ap option_copied c.in-Some-get.is)) h) c.justifies.ensures.justified
