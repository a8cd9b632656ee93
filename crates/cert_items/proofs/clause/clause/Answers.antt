use Rattle.std.proofs.Common.{◌≡◌, ◌∷◌, ◌++◌, [], Bool, List, ℕ, sym, subst}
use Rattle.inst_logic.specs.declared.signed.Signed.{Signed}
use Rattle.cert_items.specs.Roots.{IsLiteralAt, NoFormHead}
use Rattle.cert_items.specs.ClauseTexts.{HasRead, ended_by}
use Rattle.term_bank.proofs.Growth.{grows_trans}
use Rattle.cert_items.proofs.Reading.{is_none, is_some}
use Rattle.cert_items.proofs.Clauses.{no_clause, read_literal}
use Rattle.cert_items.proofs.clause.clause.Goals as goal

pub returns-in_default-2-clause-none : goal.returns-in_default-2-clause-none
returns-in_default-2-clause-none c =
    let h = subst (λ (e : Bool). HasRead c.loop-ended.bank c.loop-ended.literals e c.args.bytes.now c.loop-ended.rest.now) c.loop-ended-test.true c.loop-ended.invariant.read in
    no_clause c.loop-ended.bank c.loop-ended.literals c.args.bytes.now c.loop-ended.rest.now c.in_default.ensures.none h (is_none c.in_ok-next.field-0 (NoFormHead c.loop-ended.rest.now) c.in_default-2.is c.in_ok-next.ensures.none)

pub loop-ended-preserved : goal.loop-ended-preserved
loop-ended-preserved c =
    let h = subst (λ (e : Bool). HasRead c.loop-ended.bank c.loop-ended.literals e c.args.bytes.now c.loop-ended.rest.now) c.loop-ended-test.true c.loop-ended.invariant.read in
    let a = is_some c.in_ok-next.field-0 c.in-Some-2.next (λ next. (l : Signed ℕ) × (c.item.new.literals ≡ c.loop-ended.literals ++ l ∷ []) × IsLiteralAt c.item.new.bank l c.loop-ended.rest.now (ended_by next.ended next.rest.now)) c.in-Some-2.is c.in_ok-next.ensures.some in
    record {
      read = subst (λ (xs : List (Signed ℕ)). HasRead c.item.new.bank xs c.in-Some-2.next.ended c.args.bytes.now c.in-Some-2.next.rest.now) (sym a.1) (read_literal c.loop-ended.bank c.item.new.bank c.loop-ended.literals a.0 c.args.bytes.now c.loop-ended.rest.now c.in-Some-2.next.ended c.in-Some-2.next.rest.now h c.item.ensures.grows.0 a.2);
      grows = grows_trans c.args.bank.now c.loop-ended.bank c.item.new.bank c.loop-ended.invariant.grows c.item.ensures.grows;
    }
