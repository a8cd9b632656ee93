use Rattle.std.proofs.Common.{◌∙◌, ap, List, ℕ, map}
use Rattle.inst_logic.specs.declared.signed.Signed.{Signed}
use Rattle.inst_logic.specs.Clauses.{order_of}
use Rattle.term_bank.specs.Forest.{clause_at}
use Rattle.unify_core.specs.Bindings.{Bound_list}
use Rattle.unify_core.proofs.Lists.{if_ok}
use Rattle.unify_core.proofs.Runs.{no_bindings}
use Rattle.clause_form.proofs.Led.{led_reading, led_is_reading, led_formed, unbound, unbound_resolved, unbound_formed, left_order, left_met, left_trees}
use Rattle.clause_form.proofs.Readings.{atoms_within}
use Rattle.clause_form.proofs.renumber.canonical_atoms.Goals as goal

pub build_atoms-requires-clause-leaves : goal.build_atoms-requires-clause-leaves
build_atoms-requires-clause-leaves c = no_bindings c.args.bank.now _ (ap (λ (x : Bound_list). x.entries) c.new-none.ensures)

pub build_atoms-requires-clause-ids : goal.build_atoms-requires-clause-ids
build_atoms-requires-clause-ids c =
    atoms_within c.args.bank.now c.args.c.now (map (λ (l : Signed ℕ). l.atom) c.as_slice.result.now) (ap (λ (ls : List (Signed ℕ)). map (λ l. l.atom) ls) c.as_slice.ensures) c.requires

pub returns-clause-trees : goal.returns-clause-trees
returns-clause-trees c =
    let f = c.args.bank.now in
    let order = order_of (clause_at f c.args.c.now) in
    let atoms = ap (λ (ls : List (Signed ℕ)). map (λ l. l.atom) ls) c.as_slice.ensures in
    if_ok _ _ c.build_atoms.result c.build_atoms.ensures.built
    (λ b made.
    (made (led_reading f unbound (left_order order)) (left_order order) (led_is_reading f _ unbound (left_order order) (unbound_resolved f _ (ap (λ (x : Bound_list). x.entries) c.new-none.ensures))) (left_met f c.args.c.now (map (λ (l : Signed ℕ). l.atom) c.as_slice.result.now) atoms))
    ∙ left_trees f c.args.c.now (map (λ (l : Signed ℕ). l.atom) c.as_slice.result.now) order atoms)

pub returns-clause-formed : goal.returns-clause-formed
returns-clause-formed c old =
    let f = c.args.bank.now in
    let order = order_of (clause_at f c.args.c.now) in
    let atoms = ap (λ (ls : List (Signed ℕ)). map (λ l. l.atom) ls) c.as_slice.ensures in
    c.build_atoms.ensures.formed (led_reading f unbound (left_order order)) (left_order order) (led_is_reading f _ unbound (left_order order) (unbound_resolved f _ (ap (λ (x : Bound_list). x.entries) c.new-none.ensures)))
    (left_met f c.args.c.now (map (λ (l : Signed ℕ). l.atom) c.as_slice.result.now) atoms) (led_formed f unbound (left_order order) old unbound_formed) old
