use Rattle.std.proofs.Common.{◌+◌, ◌∙◌, sym, subst, inl, inr, [], ◌∷◌, ◌++◌, map, arith, List}
use Rattle.std.proofs.lemmas.Bool.{false≢true}
use Rattle.inst_logic.proofs.Numbers.{last_or_before}
use Rattle.inst_calculus.specs.Models.{SelectedClause, IsTrueBy}
use Rattle.finite_model.specs.Flattening.{applied, element}
use Rattle.finite_model.proofs.cell_reading.value_at.Goals as goal

pub loop-i-preserved : goal.loop-i-preserved
loop-i-preserved g c = record {
  same = c.in_ok-found.ensures.same ∙ c.loop-i.invariant.same;
  ready = c.in_ok-found.ensures.ready;
  keeps = g.met.T.TruthTest.keeps_on _ _ _ c.loop-i.invariant.keeps c.in_ok-found.ensures.keeps;
  none_before = λ d h t. elim (last_or_before d (c.loop-i.i + 1) (omega (arith, h.within))) [
    | inl before ↦ c.loop-i.invariant.none_before d (record { above = h.above; within = omega (arith, before) }) t
    | inr last ↦
        let here : IsTrueBy (g.T.TruthTest.members c.args.test.now) (applied c.args.sym.now (map element c.args.es.now ++ element (c.loop-i.i + 1) ∷ [])) =
        subst (λ e. IsTrueBy (g.T.TruthTest.members c.args.test.now) (applied c.args.sym.now (map element c.args.es.now ++ element e ∷ []))) last t in
        let now : IsTrueBy (g.T.TruthTest.members c.loop-i.test) (applied c.args.sym.now (map element c.args.es.now ++ element (c.loop-i.i + 1) ∷ [])) =
        subst (λ (ms : List SelectedClause). IsTrueBy ms (applied c.args.sym.now (map element c.args.es.now ++ element (c.loop-i.i + 1) ∷ []))) (sym c.loop-i.invariant.same) here in
        absurd (false≢true (sym c.if-found.false ∙ c.in_ok-found.ensures.truth.1 now))
  ];
}

pub unreachable-requires : goal.unreachable-requires
unreachable-requires g c =
    let (e, (element, true_at)) = c.requires.some in
    absurd (c.loop-i.invariant.none_before e (record { above = element.above; within = omega (arith, element.within) }) true_at)
