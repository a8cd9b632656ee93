use Rattle.std.proofs.Common.{ℕ, ◌≡◌, List, drop, map, ◌↔◌}
use Rattle.inst_logic.specs.declared.signed.Signed.{Signed}
use Rattle.prop_logic.specs.Literal.{cited}
use Rattle.prop_logic.specs.Analysis.{ClosesAll}
use Rattle.proof_log.specs.Marks.{room, Holds}
use Rattle.proof_log.proofs.propagation.closes.Given as goal

-- the marks stand for a set G from which the hints that are left lead on
abbrev pub invariant-loop-i : goal.invariant-loop-i
invariant-loop-i l = record {
  same_room : room l.marks ≡ room l.fn.marks;
  left : (F : List (Signed ℕ)) → Holds l.fn.marks F → (G : List (Signed ℕ)) × Holds l.marks G
      × (ClosesAll F (map (cited l.given l.earlier) l.hints) ↔ ClosesAll G (map (cited l.given l.earlier) (drop l.i l.hints)));
}
