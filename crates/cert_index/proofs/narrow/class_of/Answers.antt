use Rattle.std.proofs.Common.{◌∙◌, ap, sym}
use Rattle.cert_index.proofs.NarrowLaws.{class_by}
use Rattle.cert_index.proofs.narrow.class_of.Goals as goal

pub returns-then-contains : goal.returns-then-contains
returns-then-contains c = sym (ap (class_by c.args.head.now.atom c.args.fingerprint.now.own.first) (sym c.contains.ensures ∙ c.if-contains.true))

pub returns : goal.returns
returns c = ap (λ m. record { symbol = c.args.head.now.atom; mark = m }) c.first_mark.ensures ∙ sym (ap (class_by c.args.head.now.atom c.args.fingerprint.now.own.first) (sym c.contains.ensures ∙ c.if-contains.false))
