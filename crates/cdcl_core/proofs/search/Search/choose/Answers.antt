use Rattle.std.proofs.Common.{length, refl, sym, ap, subst, arith}
use Rattle.std.specs.Prelude.{All}
use Rattle.cdcl_core.specs.Phases.{IsSaved}
use Rattle.cdcl_core.specs.declared.search.Search.{Search}
use Rattle.cdcl_core.proofs.StepLaws.{unset_of, decided_kept, decided_advances, chosen_search}
use Rattle.cdcl_core.proofs.KeptLaws.{kept_same}
use Rattle.cdcl_core.proofs.EndLaws.{satisfied}
use Rattle.cdcl_core.proofs.search.Search.choose.Goals as goal

pub decide-requires-clause-unset : goal.decide-requires-clause-unset
decide-requires-clause-unset c = unset_of c.args.self.now.trail.trail.entries c.in-Some.atom c.in-Some.ensures.some.1

pub returns-in-Some-clause-goes : goal.returns-in-Some-clause-goes
returns-in-Some-clause-goes c = λ assumptions s all.
    let old = c.args.self.now in
    let new : Search = record old { trail = c.decide.new.self; next = c.in-Some.atom; activity = c.active_atom.new.activity } in
    let kept = decided_kept old new _ c.decide.ensures.trail c.decide.ensures.attached refl refl refl refl c.requires.kept in
    (chosen_search assumptions old new _ c.decide.ensures.trail kept refl refl s all, decided_advances old new _ c.requires.trail c.decide.ensures.trail refl)

pub returns-in_ok-valuation-in-None-clause-goes : goal.returns-in_ok-valuation-in-None-clause-goes
returns-in_ok-valuation-in-None-clause-goes c = λ assumptions s all.
    let old = c.args.self.now in
    let valuation = c.in_ok-valuation-in-None.valuation in
    let saved = c.save.ensures in
    record {
      kept = kept_same old (record old { activity = c.active_atom.new.activity; phases = c.save.new.self }) refl refl refl refl (λ p. saved.phases) c.requires.kept;
      same = record { atoms = refl; added = refl };
      answered = record {
        within = omega (arith, ap length c.in_ok-valuation-in-None.ensures, saved.phases.size);
        makes_true = satisfied assumptions old valuation c.requires.kept c.requires.trail c.requires.stable
            (λ k h e. c.in-None.ensures.none k (omega (arith, h, c.len-atoms.ensures, c.requires.kept.phases.size)) e)
            (subst (λ x. All (IsSaved x) old.trail.trail.entries) (sym c.in_ok-valuation-in-None.ensures) saved.whole) all;
      };
    }
