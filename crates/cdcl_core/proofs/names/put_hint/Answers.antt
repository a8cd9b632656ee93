use Rattle.std.proofs.Common.{◌∙◌}
use Rattle.prop_logic.proofs.ListLaws.{slice_get_set, slice_get_set_other}
use Rattle.cdcl_core.proofs.names.put_hint.Goals as goal

pub returns : goal.returns
returns c =
    let hints = c.lengthen.new.hints.items in
    let n = c.args.number in
    record {
      here = slice_get_set hints n c.args.hint c.in_ok-lengthen.ensures.room;
      others = λ k g other e. slice_get_set_other hints n k c.args.hint other ∙ c.in_ok-lengthen.ensures.kept k g e;
    }
