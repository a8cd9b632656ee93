use Rattle.std.proofs.Common.{ap, ◌∙◌, map, ◌++◌, ◌∷◌, []}
use Rattle.term_bank.specs.MeasureTables.{MeasureTable}
use Rattle.term_bank.specs.ShortMeasures.{measures_of}
use Rattle.term_bank.proofs.MeasureLists.{entry_pushed}
use Rattle.term_bank.proofs.measure_list.MeasureList.push_reserved.Goals as goal

pub returns : goal.returns
returns c =
    let new = c.entry_of-entry.new.long.items in
    record {
      items = ap (map (measures_of new)) c.push_reserved.ensures.items
          ∙ entry_pushed c.self.inside.long.items new c.entry_of-entry.ensures.keeps c.self.inside.short.items c.entry_of-entry.result c.args.measures c.self.invariant c.entry_of-entry.ensures.measures
          ∙ ap (λ (t : MeasureTable). t.items ++ c.args.measures ∷ []) c.self.view_is;
    }
