use Rattle.std.proofs.Common.{◌≡◌, sym, ap, ◌∙◌, Some}
use Rattle.std.specs.Prelude.{option_copied}
use Rattle.std.proofs.lemmas.Result.{IfOk-weaker}
use Rattle.inst_logic.specs.Clauses.{IsCanonical}
use Rattle.inst_logic.specs.Derivations.{at_number}
use Rattle.inst_logic.proofs.ShownLaws.{at_number_contains}
use Rattle.inst_calculus.proofs.Membership.{all_in, contains_in}
use Rattle.term_bank.specs.Forest.{clause_at}
use Rattle.cert_values.specs.declared.member.Member.{Member}
use Rattle.cert_inference.specs.Conclusions.{literal_of}
use Rattle.cert_inference.proofs.Conclusions.{member_whole, literal_atom}
use Rattle.cert_check.proofs.SourceTerms.{unify_named, terms_concluded}
use Rattle.cert_check.proofs.source.conclusion_terms.Goals as goal

pub unified_terms-requires-clause-clause : goal.unified_terms-requires-clause-clause
unified_terms-requires-clause-clause c =
    let at : at_number c.args.members.now c.args.premises.from ≡ Some c.in-Some.member.now = sym c.numbered_item.ensures ∙ ap option_copied c.in-Some.is in
    member_whole c.args.bank.now c.args.members.now c.args.premises.from c.in-Some.member.now c.requires.members at

pub unified_terms-requires-clause-canonical : goal.unified_terms-requires-clause-canonical
unified_terms-requires-clause-canonical c =
    let ms = c.args.members.now in
    let m = c.in-Some.member.now in
    let at : at_number ms c.args.premises.from ≡ Some m = sym c.numbered_item.ensures ∙ ap option_copied c.in-Some.is in
    all_in (λ (x : Member). IsCanonical (clause_at c.args.bank.now x.clause)) ms c.requires.canonical m (contains_in m ms (at_number_contains ms c.args.premises.from m at))

pub unified_terms-requires-clause-left : goal.unified_terms-requires-clause-left
unified_terms-requires-clause-left c =
    let at : literal_of c.args.members.now c.args.premises.from c.args.premises.place ≡ Some c.in-Some-literal_at.l = sym c.literal_at.ensures ∙ c.in-Some-literal_at.is in
    literal_atom c.args.bank.now c.args.members.now c.args.premises.from c.args.premises.place c.in-Some-literal_at.l c.requires.members at

pub unified_terms-requires-clause-right : goal.unified_terms-requires-clause-right
unified_terms-requires-clause-right c =
    let at : literal_of c.args.members.now c.args.premises.partner c.args.premises.other ≡ Some c.in-Some-literal_at-2.m = sym c.literal_at-2.ensures ∙ c.in-Some-literal_at-2.is in
    literal_atom c.args.bank.now c.args.members.now c.args.premises.partner c.args.premises.other c.in-Some-literal_at-2.m c.requires.members at

pub unified_terms-requires-clause-unify : goal.unified_terms-requires-clause-unify
unified_terms-requires-clause-unify c =
    let ms = c.args.members.now in
    let p = c.args.premises in
    let kat : literal_of ms p.from p.place ≡ Some c.in-Some-literal_at.l = sym c.literal_at.ensures ∙ c.in-Some-literal_at.is in
    let lat : literal_of ms p.partner p.other ≡ Some c.in-Some-literal_at-2.m = sym c.literal_at-2.ensures ∙ c.in-Some-literal_at-2.is in
    unify_named c.args.bank.now ms p.from p.place p.partner p.other c.in-Some-literal_at.l c.in-Some-literal_at-2.m kat lat c.requires.conclude.0 c.requires.conclude.1

pub returns-clause-terms : goal.returns-clause-terms
returns-clause-terms c =
    let f = c.args.bank.now in
    let ms = c.args.members.now in
    let p = c.args.premises in
    let member = c.in-Some.member.now in
    let at : at_number ms p.from ≡ Some member = sym c.numbered_item.ensures ∙ ap option_copied c.in-Some.is in
    let kat : literal_of ms p.from p.place ≡ Some c.in-Some-literal_at.l = sym c.literal_at.ensures ∙ c.in-Some-literal_at.is in
    let lat : literal_of ms p.partner p.other ≡ Some c.in-Some-literal_at-2.m = sym c.literal_at-2.ensures ∙ c.in-Some-literal_at-2.is in
    IfOk-weaker c.unified_terms.result _ _ (λ ids h. terms_concluded f c.unified_terms.new.bank ms p.from p.place p.partner p.other member c.in-Some-literal_at.l c.in-Some-literal_at-2.m at kat lat ids h)
    c.unified_terms.ensures.terms
