use Rattle.std.proofs.Common.{Bor, List, ℕ}
use Rattle.cert_items.specs.ClauseTexts.{IsClauseText, NoClause}
use Rattle.cert_items.proofs.Reading.{is_none, is_some}
use Rattle.cert_items.proofs.PrintableClauses.{read_printable, no_printable, not_canonical}
use Rattle.cert_items.proofs.printable.printable_clause.Goals as goal

pub returns-in_default-clause-none : goal.returns-in_default-clause-none
returns-in_default-clause-none c = no_printable c.args.bytes.now (is_none c.in_ok-rest.field-0 (NoClause c.args.bytes.now) c.in_default.is c.in_ok-rest.ensures.none)

pub returns-then-branch-clause-some : goal.returns-then-branch-clause-some
returns-then-branch-clause-some c =
    let h = is_some c.in_ok-rest.field-0 c.in-Some.rest (λ (x : Bor (List ℕ)). IsClauseText c.clause.new.bank c.clause.new.literals c.args.bytes.now x.now) c.in-Some.is c.in_ok-rest.ensures.some in
    (read_printable c.clause.new.bank c.is_canonical.new.bank c.clause.new.literals c.args.bytes.now c.in-Some.rest.now c.is_canonical.ensures.grows.0 h (c.in_ok-is_canonical.ensures.is.0 c.if-branch.true)).text

pub returns-then-branch-clause-printable : goal.returns-then-branch-clause-printable
returns-then-branch-clause-printable c =
    let h = is_some c.in_ok-rest.field-0 c.in-Some.rest (λ (x : Bor (List ℕ)). IsClauseText c.clause.new.bank c.clause.new.literals c.args.bytes.now x.now) c.in-Some.is c.in_ok-rest.ensures.some in
    (read_printable c.clause.new.bank c.is_canonical.new.bank c.clause.new.literals c.args.bytes.now c.in-Some.rest.now c.is_canonical.ensures.grows.0 h (c.in_ok-is_canonical.ensures.is.0 c.if-branch.true)).test

pub returns-then-branch-clause-whole : goal.returns-then-branch-clause-whole
returns-then-branch-clause-whole c =
    let h = is_some c.in_ok-rest.field-0 c.in-Some.rest (λ (x : Bor (List ℕ)). IsClauseText c.clause.new.bank c.clause.new.literals c.args.bytes.now x.now) c.in-Some.is c.in_ok-rest.ensures.some in
    (read_printable c.clause.new.bank c.is_canonical.new.bank c.clause.new.literals c.args.bytes.now c.in-Some.rest.now c.is_canonical.ensures.grows.0 h (c.in_ok-is_canonical.ensures.is.0 c.if-branch.true)).whole

pub returns-else-branch-clause-none : goal.returns-else-branch-clause-none
returns-else-branch-clause-none c d rest p e =
    let h = is_some c.in_ok-rest.field-0 c.in-Some.rest (λ (x : Bor (List ℕ)). IsClauseText c.clause.new.bank c.clause.new.literals c.args.bytes.now x.now) c.in-Some.is c.in_ok-rest.ensures.some in
    let yes = c.in_ok-is_canonical.ensures.is.1 (not_canonical c.clause.new.bank c.clause.new.literals c.args.bytes.now c.in-Some.rest.now h d rest p e) in
    let bad = c.if-branch.false in
    cc
