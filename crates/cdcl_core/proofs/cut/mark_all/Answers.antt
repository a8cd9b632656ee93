use Rattle.std.proofs.Common.{take, ◌∙◌, subst}
use Rattle.std.specs.Prelude.{All}
use Rattle.std.proofs.lemmas.List.{take_all}
use Rattle.std.proofs.lemmas.List.Elements.{All-more}
use Rattle.cdcl_core.specs.Cut.{CitesOnly, IsMarked}
use Rattle.cdcl_core.proofs.NeedLaws.{all_cite_weaker}
use Rattle.cdcl_core.proofs.cut.mark_all.Goals as goal

pub loop-hint-preserved : goal.loop-hint-preserved
loop-hint-preserved c =
    let f = c.mark_cited.ensures in
    let Old = IsMarked c.loop-hint.needed in
    let New = IsMarked c.mark_cited.new.needed in
    let limit = c.args.limit in
    let i = c.loop-hint.hint-index in
    let d = c.hint-item.result in
    record {
      cited = All-more (CitesOnly New limit) c.args.hints.now i d c.loop-hint-test.true (all_cite_weaker Old New limit (take i c.args.hints.now) f.kept c.loop-hint.invariant.cited) (subst (CitesOnly New limit) (c.hint.ensures ∙ c.hint-item.is) f.cited);
      kept = λ k m. f.kept k (c.loop-hint.invariant.kept k m);
      above = λ k past m. c.loop-hint.invariant.above k past (f.above k past m);
    }

pub returns-clause-cited : goal.returns-clause-cited
returns-clause-cited c = subst (All (CitesOnly (IsMarked c.loop-hint.needed) c.args.limit)) (take_all c.loop-hint.hint-index c.args.hints.now c.loop-hint-test.false) c.loop-hint.invariant.cited
