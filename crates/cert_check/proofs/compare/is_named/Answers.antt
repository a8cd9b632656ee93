use Rattle.std.proofs.Common.{◌∙◌, sym, ap, subst, get_or, List}
use Rattle.std.proofs.lemmas.Result.{IfOk-weaker}
use Rattle.term_bank.proofs.Growth.{extends_trans}
use Rattle.cert_values.specs.declared.member.Member.{Member}
use Rattle.cert_values.specs.Wholes.{IsWholeClause}
use Rattle.cert_values.proofs.Grown.{clause_grown}
use Rattle.cert_inference.specs.Instances.{IsInstanceOf}
use Rattle.cert_check.proofs.Closings.{canonical_members}
use Rattle.cert_check.proofs.CompareLaws.{by_later, instance_canonical, named_right, named_wrong}
use Rattle.cert_check.proofs.CoverLaws.{members_later, canonical_later}
use Rattle.cert_check.proofs.NameLaws.{member_ids}
use Rattle.cert_check.proofs.Refutations.{whole_base}
use Rattle.cert_check.proofs.Saturations.{keeps_grown, keeps_saturation}
use Rattle.cert_check.proofs.compare.is_named.Goals as goal

pub is_instance-requires-clause-member : goal.is_instance-requires-clause-member
is_instance-requires-clause-member c =
    let same = c.index-members-due.is ∙ ap (λ (ms : List Member). get_or ms c.args.due.own c.index-members-due.result) c.as_slice-members.ensures in
    (subst (λ (m : Member). IsWholeClause c.args.cert.now.base.bank m.clause) (sym same) (c.requires.whole.members c.args.due.own c.index-members-due.result c.requires.within)).ids

pub returns-then-not-branch-clause-whole : goal.returns-then-not-branch-clause-whole
returns-then-not-branch-clause-whole c =
    whole_base c.args.cert.now.base c.is_instance.new.bank c.requires.whole c.is_instance.ensures.extends (c.is_instance.ensures.formed c.requires.whole.bank c.requires.terms)

pub returns-then-not-branch-clause-named : goal.returns-then-not-branch-clause-named
returns-then-not-branch-clause-named c =
    let same = c.index-members-due.is ∙ ap (λ (ms : List Member). get_or ms c.args.due.own c.index-members-due.result) c.as_slice-members.ensures in
    named_wrong c.args.cert.now c.is_instance.new.bank c.is_instance.ensures.extends c.requires.whole c.args.rooms.now.bindings.entries c.args.due.side c.args.due.own c.index-members-due.result c.requires.within same
    c.args.cover.now c.requires.cover (subst (IsInstanceOf c.args.cert.now.base.bank c.args.rooms.now.bindings.entries c.args.due.side c.index-members-due.result.clause c.args.cover.now.clause) c.if-not-branch.true c.in_ok-is_instance.ensures.instance)

pub holds_by-requires-clause-clause : goal.holds_by-requires-clause-clause
holds_by-requires-clause-clause c = (clause_grown c.args.cert.now.base.bank c.is_instance.new.bank c.is_instance.ensures.extends c.args.cover.now.clause c.requires.cover.clause).ids

pub holds_by-requires-clause-canonical : goal.holds_by-requires-clause-canonical
holds_by-requires-clause-canonical c =
    let f = c.args.cert.now.base.bank in
    let es = c.args.rooms.now.bindings.entries in
    instance_canonical f c.is_instance.new.bank c.is_instance.ensures.extends es c.args.due.side c.index-members-due.result.clause c.args.cover.now.clause c.requires.cover.clause.ids c.requires.bindings
    (subst (IsInstanceOf f es c.args.due.side c.index-members-due.result.clause c.args.cover.now.clause) c.if-not-branch.false c.in_ok-is_instance.ensures.instance)

pub holds_by-requires-clause-members : goal.holds_by-requires-clause-members
holds_by-requires-clause-members c = member_ids c.is_instance.new.bank c.args.cert.now.base.members (members_later c.args.cert.now.base.bank c.is_instance.new.bank c.is_instance.ensures.extends c.args.cert.now.base.members c.requires.whole.members)

pub holds_by-requires-clause-members_canonical : goal.holds_by-requires-clause-members_canonical
holds_by-requires-clause-members_canonical c =
    canonical_later c.args.cert.now.base.bank c.is_instance.new.bank c.is_instance.ensures.extends c.args.cert.now.base.members c.requires.whole.members (canonical_members c.args.cert.now c.requires.base)

pub holds_by-requires-clause-by : goal.holds_by-requires-clause-by
holds_by-requires-clause-by c = by_later c.args.cert.now.base.bank c.is_instance.new.bank c.is_instance.ensures.extends c.args.cover.now.by c.requires.cover.by

pub returns-clause-kept : goal.returns-clause-kept
returns-clause-kept c =
    let cert = c.args.cert.now in
    let h = c.holds_by.new.bank in
    keeps_saturation cert (record cert.base { bank = h }) (keeps_grown cert.base h (extends_trans cert.base.bank c.is_instance.new.bank h c.is_instance.ensures.extends c.holds_by.ensures.grows.0))

pub returns-clause-whole : goal.returns-clause-whole
returns-clause-whole c =
    let cert = c.args.cert.now in
    let g = c.is_instance.new.bank in
    let h = c.holds_by.new.bank in
    IfOk-weaker c.holds_by.result _ _ (λ r k.
    whole_base cert.base h c.requires.whole (extends_trans cert.base.bank g h c.is_instance.ensures.extends c.holds_by.ensures.grows.0)
    (c.holds_by.ensures.grows.1 (c.is_instance.ensures.formed c.requires.whole.bank c.requires.terms))) c.holds_by.ensures.holds

pub returns-clause-named : goal.returns-clause-named
returns-clause-named c =
    let same = c.index-members-due.is ∙ ap (λ (ms : List Member). get_or ms c.args.due.own c.index-members-due.result) c.as_slice-members.ensures in
    IfOk-weaker c.holds_by.result _ _ (λ r h.
    named_right c.args.cert.now c.is_instance.new.bank c.is_instance.ensures.extends c.requires.whole c.args.rooms.now.bindings.entries c.args.due.side c.args.due.own c.index-members-due.result c.requires.within same
    c.args.cover.now c.requires.cover (subst (IsInstanceOf c.args.cert.now.base.bank c.args.rooms.now.bindings.entries c.args.due.side c.index-members-due.result.clause c.args.cover.now.clause) c.if-not-branch.false c.in_ok-is_instance.ensures.instance) r
    (λ w long. h w (long ∙ sym c.len.ensures))) c.holds_by.ensures.holds
