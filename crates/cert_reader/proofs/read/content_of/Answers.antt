use Rattle.std.proofs.Common.{sym, subst}
use Rattle.term_bank.specs.Forest.{Forest}
use Rattle.cert_reader.specs.Bodies.{IsComplete}
use Rattle.cert_reader.specs.Groups.{items_of, AreGroups}
use Rattle.cert_reader.proofs.Causes.{refused_syntax, complete_is, bad_line_is, from_nothing}
use Rattle.cert_reader.proofs.Pushes.{empty_items}
use Rattle.cert_reader.proofs.read.content_of.Goals as goal

pub returns-in-Ok-Complete-clause-groups : goal.returns-in-Ok-Complete-clause-groups
returns-in-Ok-Complete-clause-groups c =
    let k = c.in-Ok-Complete in
    subst (λ (f : Forest). AreGroups c.args.shape f c.read_items.new.groups) (sym c.into_bank.ensures) (k.ensures.groups k.field-0-is)

pub returns-in-Ok-Complete-clause-complete : goal.returns-in-Ok-Complete-clause-complete
returns-in-Ok-Complete-clause-complete c text h form name p =
    let s = c.args.shape in
    let g = c.read_items.new.groups in
    let k = c.in-Ok-Complete in
    let first = from_nothing text h (items_of s c.new-reader.result c.new-groups.result) c.args.lines c.args.bytes.now (empty_items s c.new-reader.result c.new-groups.result c.new-groups.ensures) p in
    subst (λ (f : Forest). IsComplete text h (items_of s f g)) (sym c.into_bank.ensures)
    (complete_is text h (items_of s c.read_items.new.reader g) k.field-0 k.field-0-is (k.ensures.ends text h form name first))

pub returns-in-Ok-BadLine-clause-refused : goal.returns-in-Ok-BadLine-clause-refused
returns-in-Ok-BadLine-clause-refused c text h form name p v =
    let s = c.args.shape in
    let k = c.in-Ok-BadLine in
    let first = from_nothing text h (items_of s c.new-reader.result c.new-groups.result) c.args.lines c.args.bytes.now (empty_items s c.new-reader.result c.new-groups.result c.new-groups.ensures) p in
    refused_syntax text k.line (bad_line_is text h (items_of s c.read_items.new.reader c.read_items.new.groups) k.field-0 k.line k.field-0-is (k.ensures.ends text h form name first)) v
