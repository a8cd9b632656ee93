use Rattle.std.proofs.Common.{◌≡◌, ◌↔◌, ◌∙◌, IsTrue, arith, sym, true, false, refl, length, nat_eq, Contains}
use Rattle.term_bank.proofs.Maps.{if_ok_both}
use Rattle.std.proofs.lemmas.Result.{IfOk-weaker}
use Rattle.std.proofs.lemmas.Bool.Decides.{Decides-eqb}
use Rattle.inst_logic.specs.EqualLaws.{signed_eq_decides}
use Rattle.inst_calculus.specs.Saturation.{IsCovered}
use Rattle.inst_logic.specs.Clauses.{TreeClause}
use Rattle.term_bank.specs.Forest.{clause_at}
use Rattle.instgen_run.specs.Clauses.{HasShorterPart, Item, clauses_in}
use Rattle.instgen_run.proofs.Covers.{covered_by_empty, covered_by_key, covered_or_not, has_key}
use Rattle.instgen_run.proofs.entries.is_covered.Goals as goal

pub returns-then-entries-clause-covered : goal.returns-then-entries-clause-covered
returns-then-entries-clause-covered g c = λ d q. (
  λ t. covered_by_empty c.args.entries.now.bank c.args.entries.now.clauses.entries c.args.d.now d g.I.PartnerIndex.pairs c.args.entries.now c.requires.firsts c.if-entries.true (omega arith),
  λ k. refl,
)

pub returns-then-contains_key-clause-covered : goal.returns-then-contains_key-clause-covered
returns-then-contains_key-clause-covered g c = λ d q.
    let es = c.args.entries.now.clauses.entries in
    let (e, i, p) = (has_key _ (signed_eq_decides nat_eq Decides-eqb) es c.args.d.now c.contains_key.result c.contains_key.ensures).0 c.if-contains_key.true in
    (λ t. covered_by_key c.args.entries.now.bank es c.args.d.now d e i p, λ k. refl)

pub returns-clause-covered : goal.returns-clause-covered
returns-clause-covered g c =
    let e = c.args.entries.now in
    let es = e.clauses.entries in
    let d = c.args.d.now in
    if_ok_both (λ r. r ≡ true → HasShorterPart e.bank es d c.args.len) (λ r. r ≡ false → e.has_empty ≡ false → ¬ HasShorterPart e.bank es d c.args.len)
    (λ r. (x : TreeClause) → length x ≡ c.args.len → IsTrue r ↔ IsCovered (clauses_in e.bank es) x (clause_at e.bank d)) c.has_shorter.result c.has_shorter.ensures.yes c.has_shorter.ensures.no
    (λ r yes no. covered_or_not e.bank es d c.args.len r c.distinct.ensures c.requires.entries c.requires.clause c.requires.canonical
    (λ t. let w : false ≡ true = sym c.if-branch.false ∙ (c.in_ok-long_tautology.ensures.trees e.bank c.distinct.ensures c.requires.clause).1 t in cc) ((has_key _ (signed_eq_decides nat_eq Decides-eqb) es d c.contains_key.result c.contains_key.ensures).1 c.if-contains_key.false) yes (λ q. no q c.if-entries.false))

pub returns-clause-new : goal.returns-clause-new
returns-clause-new g c =
    let es = c.args.entries.now.clauses.entries in
    let d = c.args.d.now in
    IfOk-weaker c.has_shorter.result (λ r. r ≡ true → HasShorterPart c.args.entries.now.bank es d c.args.len) (λ r. r ≡ false → (e : Item) → Contains es e → ¬ (e.0 ≡ d))
    (λ r h q. (has_key _ (signed_eq_decides nat_eq Decides-eqb) es d c.contains_key.result c.contains_key.ensures).1 c.if-contains_key.false) c.has_shorter.ensures.yes
