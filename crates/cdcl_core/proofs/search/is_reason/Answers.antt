use Rattle.std.proofs.Common.{ℕ, ◌≢◌, Some, take, sym, subst, arith, rules}
use Rattle.std.specs.Prelude.{All}
use Rattle.std.proofs.lemmas.List.{take_all}
use Rattle.std.proofs.lemmas.List.Elements.{All-push}
use Rattle.inst_logic.specs.declared.signed.Signed.{Signed}
use Rattle.cdcl_trail.specs.Trail.{reason_of}
use Rattle.cdcl_core.proofs.EntryLaws.{take_item}
use Rattle.cdcl_core.proofs.search.is_reason.Goals as goal

pub loop-i-preserved : goal.loop-i-preserved
loop-i-preserved c =
    let clause = c.args.clause.now in
    let i = c.loop-i.i in
    let Other : Signed ℕ → Type 0 = λ l. reason_of c.args.trail.now.trail.entries l.atom ≢ Some c.args.number in
    let here : Other c.at.result = search rules in
    subst (All Other) (sym (take_item clause i c.at.result c.at.ensures)) (All-push Other (take i clause) c.at.result c.loop-i.invariant here)

pub returns : goal.returns
returns c = λ no.
    let Other : Signed ℕ → Type 0 = λ l. reason_of c.args.trail.now.trail.entries l.atom ≢ Some c.args.number in
    subst (All Other) (take_all c.loop-i.i c.args.clause.now (omega arith)) c.loop-i.invariant
