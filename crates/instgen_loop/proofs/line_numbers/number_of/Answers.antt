use Rattle.std.proofs.Common.{◌∙◌, ap, sym, List, ℕ}
use Rattle.std.specs.Map.{lookup}
use Rattle.inst_logic.specs.declared.signed.Signed.{Signed}
use Rattle.inst_calculus.proofs.Membership.{contains_in, in_contains}
use Rattle.instgen_loop.specs.Refuting.{ground_clause}
use Rattle.instgen_loop.proofs.LineNumbers.{found, not_missing, same}
use Rattle.instgen_loop.proofs.line_numbers.number_of.Goals as goal

pub unreachable-requires : goal.unreachable-requires
unreachable-requires c =
    let es = c.args.index.now.entries in
    let g = ground_clause c.args.abstraction.now.ids c.args.literals.now in
    let (n, i) = c.requires.found in
    not_missing es g n (contains_in (g, n) es i) (ap (λ (d : List (Signed ℕ)). lookup (same d) es) (sym c.in_ok-clause.ensures) ∙ sym (c.in-None.ensures ∙ c.get.ensures.value))

pub returns : goal.returns
returns c =
    let es = c.args.index.now.entries in
    let g = ground_clause c.args.abstraction.now.ids c.args.literals.now in
    in_contains (g, c.in-Some.number) es (found es g c.in-Some.number (ap (λ (d : List (Signed ℕ)). lookup (same d) es) (sym c.in_ok-clause.ensures) ∙ sym (c.in-Some.ensures ∙ c.get.ensures.value)))
