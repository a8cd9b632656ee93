use Rattle.std.proofs.Common.{ℕ, ◌<◌, length, All, sym, subst, List}
use Rattle.instgen_run.specs.Flips.{AreAtomsAt}
use Rattle.instgen_run.proofs.Flipped.{changed_below, atoms_are_ids, are_flips}
use Rattle.instgen_run.proofs.flips.flips_between.Goals as goal

pub atoms_at-requires : goal.atoms_at-requires
atoms_at-requires c =
    subst (All (λ n. n < length c.args.abstraction.now.ids)) (sym c.deref.ensures.value)
    (changed_below c.args.old.now c.args.new.now (length c.args.abstraction.now.ids) c.in_ok-numbers.numbers.items c.in_ok-numbers.ensures.exact c.requires.old c.requires.new)

pub returns-clause-below : goal.returns-clause-below
returns-clause-below c = changed_below c.args.old.now c.args.new.now (length c.args.abstraction.now.ids) c.in_ok-numbers.numbers.items c.in_ok-numbers.ensures.exact c.requires.old c.requires.new

pub returns-clause-ids : goal.returns-clause-ids
returns-clause-ids c = atoms_are_ids c.args._bank.now c.args.abstraction.now.ids c.deref.result.now c.in_ok-atoms.atoms c.requires.fits.within c.in_ok-atoms.ensures

pub returns-clause-flips : goal.returns-clause-flips
returns-clause-flips c =
    are_flips c.args._bank.now c.args.abstraction.now.ids c.args.old.now c.args.new.now c.in_ok-numbers.numbers.items c.in_ok-atoms.atoms c.requires.fits c.in_ok-numbers.ensures.exact c.in_ok-numbers.ensures.rising
    (subst (λ (ns : List ℕ). AreAtomsAt c.args.abstraction.now.ids ns c.in_ok-atoms.atoms) c.deref.ensures.value c.in_ok-atoms.ensures)
