use Rattle.std.proofs.Common.{◌≡◌, ◌∙◌, sym, false, true, subst, Option, ℕ}
use Rattle.std.specs.Prelude.{Any, IfNone}
use Rattle.inst_logic.specs.Signed.{IsTautology}
use Rattle.cert_values.specs.declared.member.Member.{Member}
use Rattle.term_bank.specs.Forest.{clause_at}
use Rattle.cert_index.specs.Shorter.{ShorterOf}
use Rattle.cert_check.specs.Names.{IsCoverBy}
use Rattle.cert_check.proofs.NameLaws.{tautology_covers, variant_covers, part_covers, none_covers, member_ids, place_subsumes}
use Rattle.cert_index.proofs.PlaceLaws.{no_place, place_some}
use Rattle.cert_check.proofs.naming.find_by.Goals as goal

pub returns-then-branch-clause-some : goal.returns-then-branch-clause-some
returns-then-branch-clause-some c =
    tautology_covers c.args.bank.now c.args.bank.now c.args.members.now c.args.len c.args.c.now ((c.in_ok-long_tautology.ensures.trees c.args.bank.now c.distinct.ensures c.requires.clause.ids).0 c.if-branch.true)

pub variant_of-requires : goal.variant_of-requires
variant_of-requires c = (c.requires.lookup.clauses.found c.args.c.now c.in-Some.k (sym c.place_of.ensures ∙ c.in-Some.is)).within

pub returns-in-Some-clause-some : goal.returns-in-Some-clause-some
returns-in-Some-clause-some c =
    let f = c.args.bank.now in
    let ms = c.args.members.now in
    subst (IsCoverBy f f ms c.args.len c.args.c.now) (sym c.variant_of.ensures)
    (variant_covers f f ms c.args.len c.args.c.now c.distinct.ensures (member_ids f ms c.requires.members) c.requires.members_canonical c.requires.clause.ids c.requires.canonical c.in-Some.k
    (c.requires.lookup.clauses.found c.args.c.now c.in-Some.k (sym c.place_of.ensures ∙ c.in-Some.is)))

pub shorter_place-requires-clause-members : goal.shorter_place-requires-clause-members
shorter_place-requires-clause-members c = member_ids c.args.bank.now c.args.members.now c.requires.members

pub part_of-requires-clause-place : goal.part_of-requires-clause-place
part_of-requires-clause-place c =
    let f = c.args.bank.now in
    place_subsumes f c.args.len c.args.c.now c.args.members.now c.in-Some-2.k (place_some (ShorterOf f c.args.len c.args.c.now) c.args.members.now c.in_ok-shorter_place.field-0 c.in-Some-2.k c.in_ok-shorter_place.ensures.some c.in-Some-2.is)

pub returns-in-None-clause-none : goal.returns-in-None-clause-none
returns-in-None-clause-none c =
    let f = c.args.bank.now in
    let ms = c.args.members.now in
    let other : ¬ (IsTautology (clause_at f c.args.c.now)) =
    λ t. let e : false ≡ true = sym c.if-branch.false ∙ (c.in_ok-long_tautology.ensures.trees f c.distinct.ensures c.requires.clause.ids).1 t in cc in
    let unknown : ¬ (Any (λ (m : Member). m.clause ≡ c.args.c.now) ms) = c.requires.lookup.clauses.none c.args.c.now (sym c.place_of.ensures ∙ no_place c.place_of.result c.in_default.not-Some) in
    let longer = subst (λ (o : Option ℕ). IfNone o (¬ (Any (ShorterOf f c.args.len c.args.c.now) ms))) c.in-None.is c.in_ok-shorter_place.ensures.none in
    none_covers f ms c.args.len c.args.c.now c.distinct.ensures (member_ids f ms c.requires.members) c.requires.members_canonical c.requires.clause.ids c.requires.canonical other unknown longer

pub returns-in_ok-by-in-Some-2-clause-some : goal.returns-in_ok-by-in-Some-2-clause-some
returns-in_ok-by-in-Some-2-clause-some c =
    let f = c.args.bank.now in
    part_covers f c.part_of.new.bank c.args.members.now c.args.len c.args.c.now c.in-Some-2.k
    (place_some (ShorterOf f c.args.len c.args.c.now) c.args.members.now c.in_ok-shorter_place.field-0 c.in-Some-2.k c.in_ok-shorter_place.ensures.some c.in-Some-2.is) c.in_ok-by-in-Some-2.by c.in_ok-by-in-Some-2.ensures.part
