use Rattle.std.proofs.Common.{map, ap, ◌∙◌}
use Rattle.inst_logic.specs.Signed.{complement}
use Rattle.prop_logic.specs.declared.literal.Step.{Step}
use Rattle.cdcl_core.proofs.GoLaws.{refuted_ends}
use Rattle.cdcl_core.proofs.search.Search.refutation_answer.Goals as goal

pub returns : goal.returns
returns c = λ assumptions within.
    let s = c.args.self.now in
    let core = c.args.core in
    let last : Step = record { clause = c.in_ok-complements.field-0; hints = c.args.hints.items } in
    let derivation = c.in_ok-derivation.derivation in
    refuted_ends assumptions core s last derivation (c.in_ok-complements.ensures ∙ ap (map complement) c.as_slice.ensures) within c.requires.kept c.requires.atoms
    c.requires.closes c.in_ok-derivation.ensures
