use Rattle.std.proofs.Common.{ℕ, Bool, ap, ap₂, ◌∙◌}
use Rattle.inst_logic.specs.declared.signed.Signed.{Signed}
use Rattle.cdcl_trail.specs.Packed.{literal_of}
use Rattle.cdcl_trail.specs.declared.watch.Watch.{Watch}
use Rattle.cdcl_trail.proofs.PackedLaws.{literal_again}
use Rattle.cdcl_trail.proofs.packed_watch.PackedWatch.of.Goals as goal

pub returns : goal.returns
returns c =
    let w : Watch = c.args.watch in
    ap₂ (λ (n : ℕ) (b : Bool). record { number = n; blocker = literal_of c.slot.result; binary = b }) c.word.ensures.number c.word.ensures.binary
    ∙ ap (λ (l : Signed ℕ). record { number = w.number; blocker = l; binary = w.binary }) (ap literal_of c.slot.ensures ∙ literal_again w.blocker.positive w.blocker.atom)
