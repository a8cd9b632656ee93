use Rattle.std.proofs.Common.{◌≡◌, sym, ap, ◌∙◌, Some}
use Rattle.std.specs.Prelude.{option_copied}
use Rattle.std.proofs.lemmas.Result.{IfOk-weaker}
use Rattle.inst_logic.specs.Derivations.{at_number}
use Rattle.cert_inference.specs.Conclusions.{literal_of}
use Rattle.cert_inference.proofs.Conclusions.{concluded_clause, literal_atom, member_whole}
use Rattle.cert_inference.proofs.inference.is_conclusion.Goals as goal

pub is_concluded_at-requires-clause-from : goal.is_concluded_at-requires-clause-from
is_concluded_at-requires-clause-from c =
    let p = c.args.claim.now.premises in
    let at : at_number c.args.members.now p.from ≡ Some c.in-Some.member.now = sym c.numbered_item.ensures ∙ ap option_copied c.in-Some.is in
    member_whole c.args.bank.now c.args.members.now p.from c.in-Some.member.now c.requires.members at

pub is_concluded_at-requires-clause-left : goal.is_concluded_at-requires-clause-left
is_concluded_at-requires-clause-left c =
    let p = c.args.claim.now.premises in
    let at : literal_of c.args.members.now p.from p.place ≡ Some c.in-Some-literal_at.l = sym c.literal_at.ensures ∙ c.in-Some-literal_at.is in
    literal_atom c.args.bank.now c.args.members.now p.from p.place c.in-Some-literal_at.l c.requires.members at

pub is_concluded_at-requires-clause-right : goal.is_concluded_at-requires-clause-right
is_concluded_at-requires-clause-right c =
    let p = c.args.claim.now.premises in
    let at : literal_of c.args.members.now p.partner p.other ≡ Some c.in-Some-literal_at-2.m = sym c.literal_at-2.ensures ∙ c.in-Some-literal_at-2.is in
    literal_atom c.args.bank.now c.args.members.now p.partner p.other c.in-Some-literal_at-2.m c.requires.members at

pub returns-clause-gives : goal.returns-clause-gives
returns-clause-gives c =
    let p = c.args.claim.now.premises in
    let ms = c.args.members.now in
    let member = c.in-Some.member.now in
    let k = c.in-Some-literal_at.l in
    let l = c.in-Some-literal_at-2.m in
    let at : at_number ms p.from ≡ Some member = sym c.numbered_item.ensures ∙ ap option_copied c.in-Some.is in
    let kat : literal_of ms p.from p.place ≡ Some k = sym c.literal_at.ensures ∙ c.in-Some-literal_at.is in
    let lat : literal_of ms p.partner p.other ≡ Some l = sym c.literal_at-2.ensures ∙ c.in-Some-literal_at-2.is in
    IfOk-weaker c.is_concluded_at.result _ _ (concluded_clause c.args.bank.now ms p.from p.place p.partner p.other member k l at kat lat c.args.claim.now.clause.now c.requires.clause) c.is_concluded_at.ensures.concluded
