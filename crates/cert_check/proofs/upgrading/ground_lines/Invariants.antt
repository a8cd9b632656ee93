use Rattle.std.proofs.Common.{take}
use Rattle.inst_logic.specs.declared.symbol.Sym.{Sym}
use Rattle.inst_logic.specs.Tree.{app, none}
use Rattle.term_bank.specs.Forest.{IsAt}
use Rattle.cert_values.specs.Values.{base_of}
use Rattle.cert_values.specs.Wholes.{IsWholeBase, KeepsBase}
use Rattle.cert_check.specs.Sources.{AreGroundLines}
use Rattle.cert_check.proofs.upgrading.ground_lines.Given as goal

abbrev pub invariant-loop-i : goal.invariant-loop-i
invariant-loop-i l = record {
  kept : KeepsBase l.fn.base l.base;
  whole : IsWholeBase l.base;
  lines : (bot : Sym) → IsAt l.fn.base.bank l.constant (app bot none) → AreGroundLines l.base.bank (base_of l.fn.base) bot (take l.i l.grounds) l.lines;
}
