use Rattle.std.proofs.Common.{◌≡◌, sym, ap, ◌∙◌, Some}
use Rattle.std.specs.Prelude.{option_copied}
use Rattle.inst_logic.specs.Derivations.{at_number}
use Rattle.cert_inference.specs.Conclusions.{literal_of}
use Rattle.cert_inference.proofs.Conclusions.{member_whole, literal_atom, concluded, when_ok}
use Rattle.cert_inference.proofs.inference.conclusion.Goals as goal

pub conclude_at-requires-clause-clause : goal.conclude_at-requires-clause-clause
conclude_at-requires-clause-clause c =
    let at : at_number c.args.members.now c.args.premises.from ≡ Some c.in-Some.member.now = sym c.numbered_item.ensures ∙ ap option_copied c.in-Some.is in
    member_whole c.args.bank.now c.args.members.now c.args.premises.from c.in-Some.member.now c.requires.members at

pub conclude_at-requires-clause-left : goal.conclude_at-requires-clause-left
conclude_at-requires-clause-left c =
    let at : literal_of c.args.members.now c.args.premises.from c.args.premises.place ≡ Some c.in-Some-literal_at.l = sym c.literal_at.ensures ∙ c.in-Some-literal_at.is in
    literal_atom c.args.bank.now c.args.members.now c.args.premises.from c.args.premises.place c.in-Some-literal_at.l c.requires.members at

pub conclude_at-requires-clause-right : goal.conclude_at-requires-clause-right
conclude_at-requires-clause-right c =
    let at : literal_of c.args.members.now c.args.premises.partner c.args.premises.other ≡ Some c.in-Some-literal_at-2.m = sym c.literal_at-2.ensures ∙ c.in-Some-literal_at-2.is in
    literal_atom c.args.bank.now c.args.members.now c.args.premises.partner c.args.premises.other c.in-Some-literal_at-2.m c.requires.members at

pub returns-clause-concludes : goal.returns-clause-concludes
returns-clause-concludes c =
    let f = c.args.bank.now in
    let g = c.conclude_at.new.bank in
    let ms = c.args.members.now in
    let member = c.in-Some.member.now in
    let k = c.in-Some-literal_at.l in
    let l = c.in-Some-literal_at-2.m in
    let at : at_number ms c.args.premises.from ≡ Some member = sym c.numbered_item.ensures ∙ ap option_copied c.in-Some.is in
    let kat : literal_of ms c.args.premises.from c.args.premises.place ≡ Some k = sym c.literal_at.ensures ∙ c.in-Some-literal_at.is in
    let lat : literal_of ms c.args.premises.partner c.args.premises.other ≡ Some l = sym c.literal_at-2.ensures ∙ c.in-Some-literal_at-2.is in
    when_ok _ _ (concluded f g ms c.args.premises.from c.args.premises.place c.args.premises.partner c.args.premises.other member k l at kat lat) c.conclude_at.result c.conclude_at.ensures.concludes
