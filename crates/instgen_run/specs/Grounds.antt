-- The propositional side of a run.
use Rattle.std.specs.Prelude.{◌≡◌, ℕ, List, length, All, Contains}
use Rattle.inst_logic.specs.declared.symbol.Sym.{Sym}
use Rattle.inst_logic.specs.declared.signed.Signed.{Signed}
use Rattle.inst_logic.specs.Tree.{Tree}
use Rattle.inst_logic.specs.Clauses.{TreeClause}
use Rattle.term_bank.specs.Forest.{Forest}
use Rattle.inst_calculus.specs.Abstraction.{AreAbstracted, abstract_literals}
use Rattle.ground_abs.specs.Abstracts.{atoms_in, AreAtomsIn}
use Rattle.instgen_run.specs.declared.ground.Ground.{Ground}

-- the tree is the atom of a literal of one of the abstractions
pub record IsUsed (bot : Sym) (cs : List TreeClause) (t : Tree) : Type 0 where
  pub clause : TreeClause
  pub literal : Signed Tree
  pub listed : Contains cs clause
  pub among : Contains (abstract_literals bot clause) literal
  pub atom : literal.atom ≡ t

-- The solver has the numbered atoms and the abstractions of the clauses, one for one, and each numbered atom is one of theirs.
pub record IsLinked {S : Type 0} (f : Forest) (g : Ground S) (atoms : ℕ) (added : List (List (Signed ℕ))) (bot : Sym) (cs : List TreeClause) : Type 0 where
  pub constant : g.abstraction.bot ≡ bot
  pub fits : AreAtomsIn f g.abstraction.ids
  pub count : atoms ≡ length g.abstraction.ids
  pub given : added ≡ g.literals
  pub same : AreAbstracted bot (atoms_in f g.abstraction.ids) g.literals cs
  pub used : All (IsUsed bot cs) (atoms_in f g.abstraction.ids)
