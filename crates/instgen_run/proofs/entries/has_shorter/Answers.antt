use Rattle.std.proofs.Common.{◌≡◌, rules, arith, false, All}
use Rattle.std.proofs.lemmas.Result.{IfOk-weaker}
use Rattle.instgen_run.specs.Clauses.{HasShorterPart, IsPast}
use Rattle.instgen_run.proofs.Covers.{none_is_shorter, none_is_so_short, unit_is_shorter}
use Rattle.instgen_run.proofs.entries.has_shorter.Goals as goal

pub returns-then-len-le1-clause-no : goal.returns-then-len-le1-clause-no
returns-then-len-le1-clause-no g c = λ q no_empty.
    let e = c.args.entries.now in
    none_is_so_short g.I.PartnerIndex.pairs e e.clauses.entries c.args.d.now c.args.len c.requires.firsts (omega arith) no_empty

pub returns-then-branch-clause-yes : goal.returns-then-branch-clause-yes
returns-then-branch-clause-yes g c = λ q.
    let e = c.args.entries.now in
    let (l, j, k) = c.in_ok-has_unit.ensures.yes (search rules) in
    unit_is_shorter g.I.PartnerIndex.pairs e e.clauses.entries c.args.d.now c.args.len (omega arith) l j k

pub returns-clause-no : goal.returns-clause-no
returns-clause-no g c =
    let e = c.args.entries.now in
    let pairs = g.I.PartnerIndex.pairs in
    IfOk-weaker c.has_shorter_first.result (λ r. r ≡ false → All (IsPast e.bank (pairs e.first) e.clauses.entries c.args.d.now c.args.len) c.args.d.now) (λ r. r ≡ false → e.has_empty ≡ false → ¬ HasShorterPart e.bank e.clauses.entries c.args.d.now c.args.len)
    (λ r past q no_empty. none_is_shorter pairs e e.clauses.entries c.args.d.now c.args.len c.requires.firsts c.distinct.ensures c.requires.entries c.requires.clause c.requires.bounded no_empty (c.in_ok-has_unit.ensures.no (search rules)) (past q))
    c.has_shorter_first.ensures.no
