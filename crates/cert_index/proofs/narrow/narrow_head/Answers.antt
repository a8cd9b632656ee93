use Rattle.std.proofs.Common.{◌∙◌, ap, refl}
use Rattle.std.specs.List.{position_or_len}
use Rattle.cert_index.specs.declared.narrow.Class.{Class}
use Rattle.cert_index.specs.Narrow.{class_eq}
use Rattle.cert_index.proofs.narrow.narrow_head.Goals as goal

pub returns-clause-is : goal.returns-clause-is
returns-clause-is c = record {
  sign = refl;
  number = c.in_ok-number.ensures.number ∙ ap (λ (x : Class). position_or_len (class_eq x) c.number_of.new.classes.keys) c.class_of.ensures;
  known = c.in_ok-number.ensures.known;
}
