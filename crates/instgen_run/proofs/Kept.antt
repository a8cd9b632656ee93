-- What a solve and the work after it keep.
use Rattle.std.proofs.Common.{◌≡◌, ℕ, List, sym, subst as transport, true}
use Rattle.inst_logic.specs.declared.symbol.Sym.{Sym}
use Rattle.inst_logic.specs.declared.signed.Signed.{Signed}
use Rattle.inst_logic.specs.Clauses.{TreeClause}
use Rattle.term_bank.specs.Forest.{Forest, Extends}
use Rattle.term_bank.proofs.Growth.{extends_trans}
use Rattle.instgen_run.specs.declared.state.Run.{Run}
use Rattle.instgen_run.specs.Running.{IsRunningWith, KeepsTruth, KeepsRunning}

pub bank_settled : (a b c : Forest) → Extends a b → c ≡ b → Extends a c
bank_settled a b c h e = transport (Extends a) (sym e) h

pub bank_on : (a b c d : Forest) → Extends a b → c ≡ b → Extends c d → Extends a d
bank_on a b c d h e k = extends_trans a c d (bank_settled a b c h e) k

pub with_on : {S I C : Type 0} (atoms : S → ℕ) (added : S → List (List (Signed ℕ))) (old mid new : Run S I C) (bot : Sym) (cs : List TreeClause) (budget : ℕ) → KeepsTruth atoms added old mid → KeepsRunning atoms added mid new
    → IsRunningWith atoms added old bot cs budget → IsRunningWith atoms added new bot cs budget
with_on atoms added old mid new bot cs budget solved works (v, b, h) = let (w, k) = solved bot cs budget v b h in (w, true, works bot cs budget w k)
