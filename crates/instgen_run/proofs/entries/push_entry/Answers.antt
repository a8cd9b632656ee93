use Rattle.std.proofs.Common.{◌≡◌, ◌++◌, ◌∷◌, [], refl, sym, ◌∙◌, subst, nat_eq, List}
use Rattle.std.proofs.lemmas.Bool.Decides.{Decides-eqb}
use Rattle.inst_logic.specs.EqualLaws.{signed_eq_decides}
use Rattle.inst_calculus.proofs.Membership.{in_contains}
use Rattle.instgen_run.specs.Clauses.{AreFirsts, Item}
use Rattle.indexmap.specs.IndexMap.{insert_entry}
use Rattle.std.specs.Cmp.Lexicographic.{pointwise}
use Rattle.inst_logic.specs.Equal.{signed_eq}
use Rattle.instgen_run.proofs.Firsts.{firsts_over, new_key}
use Rattle.instgen_run.proofs.entries.push_entry.Goals as goal

pub returns-clause-pushed : goal.returns-clause-pushed
returns-clause-pushed g c =
    c.in_ok-insert.ensures.entries
    ∙ subst (λ (m : List Item). insert_entry (pointwise (signed_eq nat_eq)) m c.args.clause c.args.origin ≡ c.args.entries.now.clauses.entries ++ (c.args.clause, c.args.origin) ∷ [])
    (sym c.in_ok-add_first.ensures.clauses)
    (new_key _ (signed_eq_decides nat_eq Decides-eqb) c.args.entries.now.clauses.entries c.args.clause c.args.origin (λ e i. c.requires.new e (in_contains e c.args.entries.now.clauses.entries i)))

pub returns-clause-firsts : goal.returns-clause-firsts
returns-clause-firsts g c =
    let pairs = g.I.PartnerIndex.pairs in
    let later = record c.add_first.new.entries { clauses = c.insert.new.self } in
    firsts_over pairs c.add_first.new.entries later later.clauses.entries refl
    (subst (AreFirsts pairs c.add_first.new.entries) (sym (returns-clause-pushed g c)) (c.in_ok-add_first.ensures.firsts c.args.origin))
