use Rattle.std.proofs.Common.{◌≡◌, ◌∙◌, inl, inr, sym, false, true, subst, Option, ℕ}
use Rattle.std.specs.Prelude.{Any, IfNone}
use Rattle.inst_logic.specs.Clauses.{Subsumes}
use Rattle.cert_values.specs.declared.member.Member.{Member}
use Rattle.term_bank.specs.Forest.{clause_at}
use Rattle.cert_check.proofs.NameLaws.{member_ids, part_shows, place_same, tautology_shows}
use Rattle.cert_index.proofs.PlaceLaws.{place_some}
use Rattle.cert_check.proofs.shown.find_shown.Goals as goal

pub part_of-requires-clause-place : goal.part_of-requires-clause-place
part_of-requires-clause-place c =
    place_same c.args.bank.now c.args.c.now c.args.members.now c.in-Some.k (c.requires.lookup.clauses.found c.args.c.now c.in-Some.k (sym c.place_of.ensures ∙ c.in-Some.is))

pub returns-in-Some-clause-some : goal.returns-in-Some-clause-some
returns-in-Some-clause-some c =
    let f = c.args.bank.now in
    part_shows f c.part_of.new.bank c.args.members.now c.args.c.now c.in-Some.k
    (place_same f c.args.c.now c.args.members.now c.in-Some.k (c.requires.lookup.clauses.found c.args.c.now c.in-Some.k (sym c.place_of.ensures ∙ c.in-Some.is))) c.in_ok-by.by c.in_ok-by.ensures.part

pub returns-then-branch-clause-some : goal.returns-then-branch-clause-some
returns-then-branch-clause-some c =
    tautology_shows c.args.bank.now c.args.bank.now c.args.members.now c.args.c.now ((c.in_ok-long_tautology.ensures.trees c.args.bank.now c.distinct.ensures c.requires.clause.ids).0 c.if-branch.true)

pub subsuming_place_from-requires-clause-members : goal.subsuming_place_from-requires-clause-members
subsuming_place_from-requires-clause-members c = member_ids c.args.bank.now c.args.members.now c.requires.members

pub returns-in-None-clause-none : goal.returns-in-None-clause-none
returns-in-None-clause-none c =
    let f = c.args.bank.now in
    let ms = c.args.members.now in
    let longer = subst (λ (o : Option ℕ). IfNone o (¬ (Any (λ (m : Member). Subsumes (clause_at f m.clause) (clause_at f c.args.c.now)) ms))) c.in-None.is c.in_ok-subsuming_place_from.ensures.none in
    λ met. elim met [
      | inl t ↦ let e : false ≡ true = sym c.if-branch.false ∙ (c.in_ok-long_tautology.ensures.trees f c.distinct.ensures c.requires.clause.ids).1 t in cc
      | inr any ↦ longer any
    ]

pub part_of-requires-in-Some-2-clause-place : goal.part_of-requires-in-Some-2-clause-place
part_of-requires-in-Some-2-clause-place c =
    place_some (λ m. Subsumes (clause_at c.args.bank.now m.clause) (clause_at c.args.bank.now c.args.c.now)) c.args.members.now c.in_ok-subsuming_place_from.field-0 c.in-Some-2.k c.in_ok-subsuming_place_from.ensures.some c.in-Some-2.is

pub returns-in_ok-by-in-Some-2-clause-some : goal.returns-in_ok-by-in-Some-2-clause-some
returns-in_ok-by-in-Some-2-clause-some c =
    let f = c.args.bank.now in
    part_shows f c.part_of-in-Some-2.new.bank c.args.members.now c.args.c.now c.in-Some-2.k
    (place_some (λ m. Subsumes (clause_at f m.clause) (clause_at f c.args.c.now)) c.args.members.now c.in_ok-subsuming_place_from.field-0 c.in-Some-2.k c.in_ok-subsuming_place_from.ensures.some c.in-Some-2.is)
    c.in_ok-by-in-Some-2.by c.in_ok-by-in-Some-2.ensures.part
