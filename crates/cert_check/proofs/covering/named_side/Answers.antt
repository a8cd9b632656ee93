use Rattle.std.proofs.Common.{◌∙◌, ap, sym, subst, refl, false, true, ◌≡◌, List, get_or}
use Rattle.std.proofs.lemmas.Option.{IfSome_then}
use Rattle.std.proofs.lemmas.Result.{IfOk-weaker}
use Rattle.term_bank.specs.Forest.{clause_at}
use Rattle.inst_logic.specs.Clauses.{IsCanonical}
use Rattle.cert_values.specs.declared.member.Member.{Member}
use Rattle.cert_values.specs.Wholes.{IsWholeClause}
use Rattle.cert_check.specs.Grounds.{AreCanonicalMembers}
use Rattle.cert_index.specs.Lookups.{IsLookup}
use Rattle.cert_check.specs.Names.{NamesInstance}
use Rattle.cert_check.proofs.Closings.{canonical_members, covered_here}
use Rattle.cert_check.proofs.NameLaws.{side_named, if_none_then}
use Rattle.cert_check.proofs.Refutations.{whole_base}
use Rattle.cert_check.proofs.covering.named_side.Goals as goal

pub named_instance-requires-clause-members_canonical : goal.named_instance-requires-clause-members_canonical
named_instance-requires-clause-members_canonical c = subst (AreCanonicalMembers c.args.cert.now.base.bank) (sym c.as_slice-members.ensures) (canonical_members c.args.cert.now c.requires.ready.base)

pub named_instance-requires-clause-lookup : goal.named_instance-requires-clause-lookup
named_instance-requires-clause-lookup c = subst (λ (ms : List Member). IsLookup c.args.cert.now.base.bank ms c.args.lookup.now) (sym c.as_slice-members.ensures) c.requires.ready.lookup

pub named_instance-requires-clause-clause : goal.named_instance-requires-clause-clause
named_instance-requires-clause-clause c =
    let same = c.index-members-due.is ∙ ap (λ (ms : List Member). get_or ms c.args.due.own c.index-members-due.result) c.as_slice-members.ensures in
    subst (λ (m : Member). IsWholeClause c.args.cert.now.base.bank m.clause) (sym same) (c.requires.ready.whole.members c.args.due.own c.index-members-due.result c.requires.within)

pub named_instance-requires-clause-canonical : goal.named_instance-requires-clause-canonical
named_instance-requires-clause-canonical c =
    let same = c.index-members-due.is ∙ ap (λ (ms : List Member). get_or ms c.args.due.own c.index-members-due.result) c.as_slice-members.ensures in
    subst (λ (m : Member). IsCanonical (clause_at c.args.cert.now.base.bank m.clause)) (sym same) (canonical_members c.args.cert.now c.requires.ready.base c.args.due.own c.index-members-due.result c.requires.within)

pub returns-clause-whole : goal.returns-clause-whole
returns-clause-whole c =
    IfOk-weaker c.named_instance.result _ _
    (λ r h. whole_base c.args.cert.now.base c.named_instance.new.bank c.requires.ready.whole c.named_instance.ensures.extends c.named_instance.ensures.formed)
    c.named_instance.ensures.some

pub returns-clause-some : goal.returns-clause-some
returns-clause-some c =
    let cert = c.args.cert.now in
    let g = c.named_instance.new.bank in
    let m = c.index-members-due.result in
    let same = c.index-members-due.is ∙ ap (λ (ms : List Member). get_or ms c.args.due.own m) c.as_slice-members.ensures in
    IfOk-weaker c.named_instance.result _ _ (λ o h. IfSome_then o h (λ d k.
    side_named cert (record cert { base = record cert.base { bank = g } }) c.args.due.own m c.requires.within same c.args.bindings.now.entries c.args.due.side d
    (subst (λ (ms : List Member). NamesInstance cert.base.bank g c.args.bindings.now.entries c.args.due.side ms m.clause d) c.as_slice-members.ensures k)))
    c.named_instance.ensures.some

pub returns-clause-covered : goal.returns-clause-covered
returns-clause-covered c =
    let cert = c.args.cert.now in
    IfOk-weaker c.named_instance.result _ _ (λ o h. IfSome_then o h (λ d k.
    covered_here cert c.requires.ready.placed c.args.bindings.now.entries c.args.due.side c.args.due.own c.index-members-due.result c.as_slice-members.result.now c.as_slice-members.ensures c.requires.within c.index-members-due.is true
    (λ s resolved. ((λ t. k s resolved), (λ h. refl)))))
    c.named_instance.ensures.covered

pub returns-clause-none : goal.returns-clause-none
returns-clause-none c =
    let cert = c.args.cert.now in
    IfOk-weaker c.named_instance.result _ _ (λ o h. if_none_then o h (λ none.
    covered_here cert c.requires.ready.placed c.args.bindings.now.entries c.args.due.side c.args.due.own c.index-members-due.result c.as_slice-members.result.now c.as_slice-members.ensures c.requires.within c.index-members-due.is false
    (λ s resolved. ((λ t. absurd (let e : false ≡ true = t in cc)), (λ covered. absurd (none s resolved covered))))))
    c.named_instance.ensures.none
