use Rattle.std.proofs.Common.{◌∙◌, ap, sym, subst, length}
use Rattle.inst_logic.specs.Clauses.{TreeClause}
use Rattle.inst_calculus.specs.Parts.{IsProperPart, chosen}
use Rattle.inst_calculus.specs.Unrolling.{implied_by, part_terms}
use Rattle.instgen_run.proofs.Parted.{same_part}
use Rattle.instgen_loop.proofs.records.how_part.Goals as goal

pub part_terms-requires-clause-keep : goal.part_terms-requires-clause-keep
part_terms-requires-clause-keep c =
    let (clause, p) = c.requires.part in
    same_part c.conclusion_at.new.bank c.in_ok-conclusion.conclusion.clause c.args.lemma.keep
    (subst (λ (w : TreeClause). IsProperPart (length w) c.args.lemma.keep) (sym (c.in_ok-conclusion.ensures.clause p.whole p.conclusion)) p.part)

pub returns-clause-told : goal.returns-clause-told
returns-clause-told c = λ bot e clause p.
    let constant = c.in_ok-conclusion.ensures.extends.trees.1 c.args.room.now.constant c.requires.constant.0 ∙ e in
    ap (implied_by c.args.lemma.premises) (c.in_ok-terms.ensures.terms bot constant
    ∙ ap (λ (w : TreeClause). part_terms bot w (chosen w c.args.lemma.keep)) (c.in_ok-conclusion.ensures.clause p.whole p.conclusion))
