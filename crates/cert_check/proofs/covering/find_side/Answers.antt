use Rattle.std.proofs.Common.{suc, subst, sym, true, false}
use Rattle.std.proofs.lemmas.Option.{IfSome_then}
use Rattle.std.proofs.lemmas.Result.{IfOk-weaker}
use Rattle.unify_core.specs.Bindings.{Bound_list}
use Rattle.unify_core.specs.Chains.{AreBindings}
use Rattle.unify_core.specs.Terms.{AreTerms}
use Rattle.unify_core.proofs.Stays.{bindings_stay}
use Rattle.clause_form.proofs.Concluded.{terms_later}
use Rattle.cert_check.specs.Closings.{IsSideCovered}
use Rattle.cert_check.specs.Names.{NamesSide}
use Rattle.cert_check.proofs.NameLaws.{if_none_then}
use Rattle.cert_check.proofs.ReadyLaws.{ready_kept}
use Rattle.cert_check.proofs.SeenLaws.{covered_before, names_before}
use Rattle.cert_check.proofs.covering.find_side.Goals as goal

pub named_side-requires-clause-ready : goal.named_side-requires-clause-ready
named_side-requires-clause-ready c = ready_kept c.args.cert.now c.seen_side.new.cert c.args.lookup.now c.requires.ready c.seen_side.ensures.kept c.in_ok-named.ensures.whole

pub named_side-requires-clause-bindings : goal.named_side-requires-clause-bindings
named_side-requires-clause-bindings c =
    let g = c.seen_side.new.cert.base.bank in
    subst (λ (b : Bound_list). AreBindings g b.entries) (sym c.seen_side.ensures.bindings) (bindings_stay c.args.cert.now.base.bank g c.args.room.now.pair.bindings.entries c.seen_side.ensures.kept.base.bank c.requires.bindings)

pub named_side-requires-clause-terms : goal.named_side-requires-clause-terms
named_side-requires-clause-terms c =
    let g = c.seen_side.new.cert.base.bank in
    subst (λ (b : Bound_list). AreTerms g b.entries) (sym c.seen_side.ensures.bindings) (terms_later c.args.cert.now.base.bank g c.args.room.now.pair.bindings.entries c.seen_side.ensures.kept.base.bank c.requires.bindings c.requires.terms)

pub returns-clause-some : goal.returns-clause-some
returns-clause-some c =
    let mid = c.seen_side.new.cert in
    let x = c.args.due.side in
    let n = suc c.args.due.own in
    IfOk-weaker c.named_side.result _ _ (λ o h. IfSome_then o h (λ d k.
    names_before c.args.cert.now mid c.named_side.new.cert c.requires.ready.whole c.seen_side.ensures.kept c.args.room.now.pair.bindings.entries x n c.requires.bindings d
    (subst (λ (b : Bound_list). NamesSide mid c.named_side.new.cert b.entries x n d) c.seen_side.ensures.bindings k))) c.named_side.ensures.some

pub returns-clause-covered : goal.returns-clause-covered
returns-clause-covered c =
    let mid = c.seen_side.new.cert in
    let x = c.args.due.side in
    let n = suc c.args.due.own in
    IfOk-weaker c.named_side.result _ _ (λ o h. IfSome_then o h (λ d k.
    covered_before c.args.cert.now mid c.named_side.new.cert c.requires.ready.whole c.seen_side.ensures.kept c.args.room.now.pair.bindings.entries x n c.requires.bindings true
    (subst (λ (b : Bound_list). IsSideCovered mid b.entries x n true) c.seen_side.ensures.bindings k))) c.named_side.ensures.covered

pub returns-clause-none : goal.returns-clause-none
returns-clause-none c =
    let mid = c.seen_side.new.cert in
    let x = c.args.due.side in
    let n = suc c.args.due.own in
    IfOk-weaker c.named_side.result _ _ (λ o h. if_none_then o h (λ k.
    covered_before c.args.cert.now mid c.named_side.new.cert c.requires.ready.whole c.seen_side.ensures.kept c.args.room.now.pair.bindings.entries x n c.requires.bindings false
    (subst (λ (b : Bound_list). IsSideCovered mid b.entries x n false) c.seen_side.ensures.bindings k))) c.named_side.ensures.none
