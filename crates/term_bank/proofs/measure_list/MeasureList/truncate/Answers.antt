use Rattle.std.proofs.Common.{ap, sym, ◌∙◌, map, take}
use Rattle.std.proofs.lemmas.List.{take-map}
use Rattle.term_bank.specs.MeasureTables.{MeasureTable}
use Rattle.term_bank.specs.ShortMeasures.{measures_of}
use Rattle.term_bank.proofs.measure_list.MeasureList.truncate.Goals as goal

pub returns : goal.returns
returns c =
    let long = measures_of c.self.inside.long.items in
    record { items = ap (map long) c.truncate.ensures.items ∙ sym (take-map long c.args.len c.self.inside.short.items) ∙ ap (λ (t : MeasureTable). take c.args.len t.items) c.self.view_is }
