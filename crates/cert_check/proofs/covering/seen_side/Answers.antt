use Rattle.std.proofs.Common.{ℕ, List, suc, subst, sym}
use Rattle.inst_logic.specs.declared.signed.Signed.{Signed}
use Rattle.cert_values.specs.declared.certificate.By.{By}
use Rattle.cert_values.specs.Wholes.{IsWholeCover}
use Rattle.cert_check.specs.Compared.{IsNamedRight}
use Rattle.cert_check.specs.Names.{NamesSide}
use Rattle.cert_check.proofs.SeenLaws.{named_again, named_covered}
use Rattle.cert_check.proofs.covering.seen_side.Goals as goal

pub returns-clause-some : goal.returns-clause-some
returns-clause-some c =
    let old = c.args.cert.now in
    let new = c.is_named.new.cert in
    let es = c.args.pair.now.bindings.entries in
    let x = c.args.due.side in
    let n = suc c.args.due.own in
    let v = c.in-Some-get.cover.now in
    let got = c.in-Some-get.ensures.lookup.3 in
    let whole = subst (IsWholeCover old.base.bank) (sym (got.1 v)) (c.requires.covers c.in-Some.at v got.0) in
    let named = subst (IsNamedRight old es x n v) c.if-not-branch.false c.in_ok-is_named.ensures.named in
    subst (λ (d : List (Signed ℕ)). NamesSide old new es x n (record { clause = d; by = c.in_ok-by.by })) (sym c.in_ok-clause.ensures)
    (subst (λ (b : By). NamesSide old new es x n (record { clause = v.clause; by = b })) (sym c.in_ok-by.ensures) (named_again old new new c.requires.whole c.is_named.ensures.kept es x n v whole named))

pub returns-clause-covered : goal.returns-clause-covered
returns-clause-covered c =
    let es = c.args.pair.now.bindings.entries in
    let x = c.args.due.side in
    let n = suc c.args.due.own in
    let v = c.in-Some-get.cover.now in
    named_covered c.args.cert.now c.requires.placed es x n v (subst (IsNamedRight c.args.cert.now es x n v) c.if-not-branch.false c.in_ok-is_named.ensures.named)
