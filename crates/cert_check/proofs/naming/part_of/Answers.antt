use Rattle.std.proofs.Common.{List, Option, ℕ, map, subst}
use Rattle.std.specs.Prelude.{All, IfNone, IfSome}
use Rattle.inst_logic.specs.Clauses.{Subsumes}
use Rattle.cert_format.specs.TermLists.{IsPartBy}
use Rattle.cert_values.specs.Wholes.{IsWholeTerm}
use Rattle.term_bank.specs.Forest.{clause_at, tree_at}
use Rattle.std.proofs.Common.{get_or}
use Rattle.cert_check.proofs.NameLaws.{part_is}
use Rattle.cert_check.proofs.naming.part_of.Goals as goal

pub unreachable-requires : goal.unreachable-requires
unreachable-requires c =
    let f = c.args.bank.now in
    let ms = c.args.members.now in
    let m = c.index-members-k.result in
    let none = subst (λ (o : Option (List ℕ)). IfNone o (¬ (Subsumes (clause_at f (get_or ms c.args.k m).clause) (clause_at f c.args.c.now)))) c.in-None.is c.in_ok-terms.ensures.none in
    none (c.requires.place.holds m)

pub returns-clause-part : goal.returns-clause-part
returns-clause-part c =
    let f = c.args.bank.now in
    let g = c.part_terms.new.bank in
    let ms = c.args.members.now in
    let m = c.index-members-k.result in
    let ids = c.in-Some.terms in
    let part = subst (λ (o : Option (List ℕ)). IfSome o (λ is. IsPartBy (clause_at f (get_or ms c.args.k m).clause) (clause_at f c.args.c.now) (map (tree_at g) is))) c.in-Some.is c.in_ok-terms.ensures.some in
    let whole = subst (λ (o : Option (List ℕ)). IfSome o (All (IsWholeTerm g))) c.in-Some.is c.in_ok-terms.ensures.terms in
    part_is f g ms c.args.k c.args.c.now ids whole m c.requires.place.within part
