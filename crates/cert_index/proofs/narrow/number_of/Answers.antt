use Rattle.std.proofs.Common.{◌∙◌}
use Rattle.cert_index.proofs.NarrowLaws.{classes_kept, same_number}
use Rattle.cert_index.proofs.narrow.number_of.Goals as goal

pub returns-clause-number : goal.returns-clause-number
returns-clause-number c = c.in_ok-number.ensures.index ∙ same_number c.args.classes.now.keys c.insert_full.new.self.keys c.args.class c.in_ok-number.ensures.keys

pub returns-clause-grown : goal.returns-clause-grown
returns-clause-grown c = classes_kept c.args.classes.now.keys c.insert_full.new.self.keys c.args.class c.in_ok-number.ensures.keys
