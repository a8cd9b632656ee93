use Rattle.cert_check.proofs.CoverLaws.{members_later, canonical_later}
use Rattle.cert_check.proofs.Interning.{whole_formed}
use Rattle.cert_index.proofs.LookupLaws.{lookup_later}
use Rattle.cert_check.proofs.NameLaws.{formed_whole, instance_covered, instance_named, instance_open, by_some, by_none}
use Rattle.cert_check.proofs.naming.named_instance.Goals as goal

pub find_by-requires-clause-members : goal.find_by-requires-clause-members
find_by-requires-clause-members c = members_later c.args.bank.now c.conclude_clause.new.bank c.conclude_clause.ensures.extends c.args.members.now c.requires.members

pub find_by-requires-clause-members_canonical : goal.find_by-requires-clause-members_canonical
find_by-requires-clause-members_canonical c = canonical_later c.args.bank.now c.conclude_clause.new.bank c.conclude_clause.ensures.extends c.args.members.now c.requires.members c.requires.members_canonical

pub find_by-requires-clause-lookup : goal.find_by-requires-clause-lookup
find_by-requires-clause-lookup c = lookup_later c.args.bank.now c.conclude_clause.new.bank c.conclude_clause.ensures.extends c.args.members.now c.requires.members c.args.lookup.now c.requires.lookup

pub find_by-requires-clause-clause : goal.find_by-requires-clause-clause
find_by-requires-clause-clause c =
    formed_whole c.conclude_clause.new.bank c.in_ok-clause.clause c.in_ok-clause.ensures.ids (c.in_ok-clause.ensures.atoms c.requires.terms (whole_formed c.args.bank.now c.args.of.now.clause.now c.requires.clause))

pub returns-in-None-clause-none : goal.returns-in-None-clause-none
returns-in-None-clause-none c =
    let f = c.args.bank.now in
    let g = c.conclude_clause.new.bank in
    let d = c.in_ok-clause.clause in
    let inside = formed_whole g d c.in_ok-clause.ensures.ids (c.in_ok-clause.ensures.atoms c.requires.terms (whole_formed f c.args.of.now.clause.now c.requires.clause)) in
    let unmet = by_none g c.args.members.now c.len.result _ d c.len.ensures c.in_ok-find_by.field-0 c.in_ok-find_by.ensures.none c.in-None.is in
    instance_open f g c.find_by.new.bank c.conclude_clause.ensures.extends c.find_by.ensures.extends c.args.members.now c.requires.members c.args.of.now.bindings.now.entries c.args.of.now.side c.args.of.now.clause.now d inside
    (λ s resolved. (c.in_ok-clause.ensures.made s resolved).1) unmet

pub returns-in-Some-clause-some : goal.returns-in-Some-clause-some
returns-in-Some-clause-some c =
    let f = c.args.bank.now in
    let g = c.conclude_clause.new.bank in
    let d = c.in_ok-clause.clause in
    let inside = formed_whole g d c.in_ok-clause.ensures.ids (c.in_ok-clause.ensures.atoms c.requires.terms (whole_formed f c.args.of.now.clause.now c.requires.clause)) in
    let covers = by_some g c.find_by.new.bank c.args.members.now c.len.result _ d c.len.ensures c.in_ok-find_by.field-0 c.in-Some.by c.in_ok-find_by.ensures.some c.in-Some.is in
    instance_named f g c.find_by.new.bank c.conclude_clause.ensures.extends c.find_by.ensures.extends c.args.members.now c.requires.members c.args.of.now.bindings.now.entries c.args.of.now.side c.args.of.now.clause.now d inside
    (λ s resolved. (c.in_ok-clause.ensures.made s resolved).1) c.in-Some.by covers

pub returns-in-Some-clause-covered : goal.returns-in-Some-clause-covered
returns-in-Some-clause-covered c =
    let f = c.args.bank.now in
    let g = c.conclude_clause.new.bank in
    let d = c.in_ok-clause.clause in
    let inside = formed_whole g d c.in_ok-clause.ensures.ids (c.in_ok-clause.ensures.atoms c.requires.terms (whole_formed f c.args.of.now.clause.now c.requires.clause)) in
    let covers = by_some g c.find_by.new.bank c.args.members.now c.len.result _ d c.len.ensures c.in_ok-find_by.field-0 c.in-Some.by c.in_ok-find_by.ensures.some c.in-Some.is in
    instance_covered f g c.find_by.new.bank c.conclude_clause.ensures.extends c.find_by.ensures.extends c.args.members.now c.requires.members c.args.of.now.bindings.now.entries c.args.of.now.side c.args.of.now.clause.now d inside
    (λ s resolved. (c.in_ok-clause.ensures.made s resolved).1) covers.covered
