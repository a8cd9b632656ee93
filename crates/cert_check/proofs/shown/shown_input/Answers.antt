use Rattle.std.proofs.Common.{sym, subst, List}
use Rattle.std.specs.Prelude.{All}
use Rattle.std.proofs.lemmas.Option.{IfSome_then}
use Rattle.std.proofs.lemmas.Result.{IfOk-weaker}
use Rattle.cert_values.specs.declared.member.Member.{Member}
use Rattle.cert_values.specs.Wholes.{IsWholeClause}
use Rattle.cert_check.specs.Grounds.{AreCanonicalMembers}
use Rattle.cert_index.specs.Lookups.{IsLookup}
use Rattle.cert_check.specs.Names.{IsShownBy, IsUnshown}
use Rattle.cert_check.proofs.Closings.{canonical_members}
use Rattle.cert_check.proofs.InputScans.{stated_whole}
use Rattle.cert_check.proofs.NameLaws.{if_none_then}
use Rattle.cert_check.proofs.Refutations.{whole_base}
use Rattle.cert_check.proofs.ShownLaws.{input_right, input_shown, input_wrong, nothing_stated}
use Rattle.cert_check.proofs.shown.shown_input.Goals as goal

pub returns-in-None-clause-none : goal.returns-in-None-clause-none
returns-in-None-clause-none c some = absurd (nothing_stated c.args.cert.now c.requires.ready.base c.args.k (sym c.in-None.ensures) some)

pub find_shown-requires-clause-members : goal.find_shown-requires-clause-members
find_shown-requires-clause-members c = subst (λ (ms : List Member). All (λ m. IsWholeClause c.args.cert.now.base.bank m.clause) ms) (sym c.as_slice.ensures) c.requires.ready.whole.members

pub find_shown-requires-clause-members_canonical : goal.find_shown-requires-clause-members_canonical
find_shown-requires-clause-members_canonical c = subst (AreCanonicalMembers c.args.cert.now.base.bank) (sym c.as_slice.ensures) (canonical_members c.args.cert.now c.requires.ready.base)

pub find_shown-requires-clause-lookup : goal.find_shown-requires-clause-lookup
find_shown-requires-clause-lookup c = subst (λ (ms : List Member). IsLookup c.args.cert.now.base.bank ms c.args.lookup.now) (sym c.as_slice.ensures) c.requires.ready.lookup

pub find_shown-requires-clause-clause : goal.find_shown-requires-clause-clause
find_shown-requires-clause-clause c = stated_whole c.args.cert.now c.requires.ready.whole c.args.k c.in-Some.c.now (sym c.in-Some.ensures)

pub returns-in-Some-clause-whole : goal.returns-in-Some-clause-whole
returns-in-Some-clause-whole c =
    IfOk-weaker c.find_shown.result _ _
    (λ r h. whole_base c.args.cert.now.base c.find_shown.new.bank c.requires.ready.whole c.find_shown.ensures.extends (c.find_shown.ensures.formed c.requires.ready.whole.bank))
    c.find_shown.ensures.some

pub returns-in-Some-clause-some : goal.returns-in-Some-clause-some
returns-in-Some-clause-some c =
    let cert = c.args.cert.now in
    let g = c.find_shown.new.bank in
    IfOk-weaker c.find_shown.result _ _ (λ o h. IfSome_then o h (λ by k.
    input_shown cert c.requires.ready.base c.args.k c.in-Some.c.now (sym c.in-Some.ensures) (record cert { base = record cert.base { bank = g } }) by
    (subst (λ (ms : List Member). IsShownBy cert.base.bank g ms c.in-Some.c.now by) c.as_slice.ensures k))) c.find_shown.ensures.some

pub returns-in-Some-clause-right : goal.returns-in-Some-clause-right
returns-in-Some-clause-right c =
    let cert = c.args.cert.now in
    let g = c.find_shown.new.bank in
    IfOk-weaker c.find_shown.result _ _ (λ o h. IfSome_then o h (λ by k.
    input_right cert c.requires.ready.base c.args.k c.in-Some.c.now (sym c.in-Some.ensures) (record cert { base = record cert.base { bank = g } }) by
    (subst (λ (ms : List Member). IsShownBy cert.base.bank g ms c.in-Some.c.now by) c.as_slice.ensures k))) c.find_shown.ensures.some

pub returns-in-Some-clause-none : goal.returns-in-Some-clause-none
returns-in-Some-clause-none c =
    let cert = c.args.cert.now in
    IfOk-weaker c.find_shown.result _ _ (λ o h. if_none_then o h (λ none stated.
    input_wrong cert c.requires.ready.base c.args.k c.in-Some.c.now (sym c.in-Some.ensures)
    (subst (λ (ms : List Member). IsUnshown cert.base.bank ms c.in-Some.c.now) c.as_slice.ensures none))) c.find_shown.ensures.none
