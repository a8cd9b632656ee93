use Rattle.instgen_loop.specs.PartTerms.{AreBoundTerms}
use Rattle.instgen_loop.proofs.part_terms.bound_terms.Given as goal

abbrev pub invariant-loop-v : goal.invariant-loop-v
invariant-loop-v l = AreBoundTerms l.bindings.entries l.constant l.v l.terms
