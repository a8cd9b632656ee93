-- A refuted run with its ground lines and the steps over them, and the refutation that is made of these.
use Rattle.std.specs.Prelude.{◌≡◌, ℕ, List, map}
use Rattle.inst_logic.specs.Clauses.{TreeClause}
use Rattle.term_bank.specs.Forest.{AreDistinct}
use Rattle.cert_values.specs.declared.certificate.Refutation.{Refutation}
use Rattle.instgen_run.specs.declared.event.Event.{Event}
use Rattle.instgen_loop.specs.declared.hand_over.Remains.{Remains}
use Rattle.instgen_loop.specs.declared.refuted.RefutedRun.{RefutedRun}
use Rattle.instgen_loop.specs.declared.refuted.Shown.{Shown}
use Rattle.instgen_loop.specs.Derived.{IsDerived}
use Rattle.instgen_loop.specs.Endings.{IsRefuted}
use Rattle.instgen_loop.specs.LineNumbers.{AreLineNumbers}
use Rattle.instgen_loop.specs.Lines.{AreLinesOf}
use Rattle.instgen_loop.specs.Refuting.{base_from, ground_step}

-- The run as its abstractions were refuted, over the bank as it is now, and its lines; the derivation that is held now is one over
-- the lines.
pub record IsShownOf (clauses : List TreeClause) (names : List (List ℕ)) (r : RefutedRun) (journal : List Event) (s : Shown) : Type 0 where
  pub before : RefutedRun
  pub same : before.remains ≡ r.remains
  pub refuted : IsRefuted clauses names before journal
  pub distinct : AreDistinct r.remains.bank.trees
  pub bot : s.bot ≡ before.abstraction.bot
  pub lines : AreLinesOf clauses before s.grounds
  pub derived : IsDerived r s.grounds
  pub numbers : List ℕ
  pub numbered : AreLineNumbers s.grounds r.abstraction.ids r.literals numbers
  pub steps : s.steps ≡ map (ground_step r.abstraction.ids numbers) r.derivation

-- the remains with what was shown
pub record IsMadeOf (names : List (List ℕ)) (remains : Remains) (s : Shown) (r : Refutation) : Type 0 where
  pub base : r.base ≡ base_from names remains
  pub bot : r.bot ≡ s.bot
  pub grounds : r.grounds ≡ s.grounds
  pub steps : r.steps ≡ s.steps
