use Rattle.std.proofs.Common.{◌≡◌, ◌⊎◌, false, Contains}
use Rattle.term_bank.specs.Forest.{tree_at, Extends}
use Rattle.term_index.specs.Views.{Stands}
use Rattle.term_index.specs.Pairs.{Posting}
use Rattle.worked_index.proofs.partners.partners_of.Given as goal

-- each partner came or still comes
abbrev pub invariant-loop-item : goal.invariant-loop-item
invariant-loop-item g l =
    let index = g.I.PartnerIndex in
    (goal.iterator-loop-item g).can_next l.item-iterator ×
    (goal.iterator-loop-item g).is_finite l.item-iterator ×
    record {
      fresh : l.item-iterator.ended ≡ false;
      same : l.item-iterator.index.now ≡ l.index;
      extends : Extends l.fn.bank l.bank;
      fits : index.fits l.bank l.index;
      all : (p : Posting) → Contains (index.pairs l.index) p → Stands l.fn.view (tree_at l.fn.bank p.0) (tree_at l.fn.bank l.fn.query)
          → index.to_come l.item-iterator.index.now l.item-iterator.cursor p ⊎ Contains l.entries.items p.1;
    }
