use Rattle.std.proofs.Common.{◌∙◌, ◌+◌, sym, subst}
use Rattle.term_index.specs.Paths.{IsChild}
use Rattle.term_index.proofs.Growing.{found_child}
use Rattle.term_index.proofs.paths.child.Goals as goal

pub returns-in-Some : goal.returns-in-Some
returns-in-Some c =
    let es = c.args.edges.now.keys in
    let r = found_child es c.in_ok-from.from c.args.label c.in-Some.k (sym c.get_index_of.ensures.index ∙ c.in-Some.is) in
    record { some = subst (λ n. IsChild es n c.args.label (c.in-Some.k + 1)) c.in_ok-from.ensures.same r }
