use Rattle.std.proofs.Common.{◌≡◌, List, ap, sym, ◌∙◌, get_or, map, subst, ◌+◌, arith, Some}
use Rattle.std.specs.Prelude.{All, IfOk, Result, Ok, Err, option_copied}
use Rattle.std.proofs.lemmas.Result.{IfOk-weaker}
use Rattle.inst_logic.specs.Clauses.{IsCanonical}
use Rattle.inst_logic.specs.Derivations.{at_number}
use Rattle.inst_calculus.specs.Entries.{inst}
use Rattle.term_bank.specs.Forest.{clause_at}
use Rattle.term_bank.proofs.Growth.{extends_trans}
use Rattle.cert_values.specs.declared.member.Member.{Member}
use Rattle.cert_values.specs.Values.{base_of, entry_of, origin_of}
use Rattle.cert_values.specs.Wholes.{IsWholeClause}
use Rattle.cert_values.proofs.Grown.{terms_grown}
use Rattle.cert_check.specs.Sources.{AreConclusionTerms, Conclude}
use Rattle.cert_check.proofs.Rightness.{entry_there}
use Rattle.cert_check.proofs.GroundMembers.{canonical_members}
use Rattle.cert_check.proofs.Refutations.{whole_base}
use Rattle.cert_check.proofs.Rightness.{member_ids}
use Rattle.cert_check.proofs.SourceLaws.{variables_whole}
use Rattle.cert_check.proofs.Sources.{concludes_before, no_lemma_there, number_there, positive_number, input_source, instance_source, source_grown}
use Rattle.cert_check.proofs.source.source_at.Goals as goal

three_ok : {A E : Type 0} (r : Result A E) (P Q S R : A → Type 0) → ((x : A) → P x → Q x → S x → R x) → IfOk r P → IfOk r Q → IfOk r S → IfOk r R
three_ok (Ok x) P Q S R h p q s = h x p q s
three_ok (Err e) P Q S R h p q s = p

pub own_variables-requires-clause-clause : goal.own_variables-requires-clause-clause
own_variables-requires-clause-clause c =
    let b = c.args.base.now in
    let m = c.index-as_slice-i.result in
    let i = c.args.i in
    let is : m ≡ get_or b.members i m = c.index-as_slice-i.is ∙ ap (λ (xs : List Member). get_or xs i m) c.as_slice.ensures in
    member_ids b.bank b.members i m c.requires.whole.members c.requires.within is

pub own_variables-requires-clause-canonical : goal.own_variables-requires-clause-canonical
own_variables-requires-clause-canonical c =
    let b = c.args.base.now in
    let m = c.index-as_slice-i.result in
    let i = c.args.i in
    let is : m ≡ get_or b.members i m = c.index-as_slice-i.is ∙ ap (λ (xs : List Member). get_or xs i m) c.as_slice.ensures in
    subst (λ (x : Member). IsCanonical (clause_at b.bank x.clause)) (sym is) (canonical_members b (λ n e at. (c.requires.members n e at).1) i m c.requires.within)

pub returns-in_ok-terms-in-Input-clause-whole : goal.returns-in_ok-terms-in-Input-clause-whole
returns-in_ok-terms-in-Input-clause-whole c =
    whole_base c.args.base.now c.own_variables.new.bank c.requires.whole c.own_variables.ensures.extends (c.own_variables.ensures.formed c.requires.whole.bank)

pub returns-in_ok-terms-in-Input-clause-source : goal.returns-in_ok-terms-in-Input-clause-source
returns-in_ok-terms-in-Input-clause-source c =
    let b = c.args.base.now in
    let m = c.index-as_slice-i.result in
    let i = c.args.i in
    let is : m ≡ get_or b.members i m = c.index-as_slice-i.is ∙ ap (λ (xs : List Member). get_or xs i m) c.as_slice.ensures in
    let at = entry_there b i m c.requires.within is in
    let g = c.own_variables.new.bank in
    let terms = c.in_ok-terms-in-Input.terms in
    let variables = c.in_ok-terms-in-Input.ensures.variables in
    input_source b c.requires.members g (i + 1) (entry_of b.bank m) (record { input = c.in-Input.input; terms = terms }) at (ap origin_of c.in-Input.is) variables
    (variables_whole g _ terms variables)

pub conclusion_terms-requires-clause-members : goal.conclusion_terms-requires-clause-members
conclusion_terms-requires-clause-members c =
    let b = c.args.base.now in
    subst (λ (ms : List Member). All (λ m. IsWholeClause b.bank m.clause) ms) (sym c.as_slice-members.ensures) c.requires.whole.members

pub conclusion_terms-requires-clause-canonical : goal.conclusion_terms-requires-clause-canonical
conclusion_terms-requires-clause-canonical c =
    let b = c.args.base.now in
    subst (λ (ms : List Member). All (λ m. IsCanonical (clause_at b.bank m.clause)) ms) (sym c.as_slice-members.ensures) (canonical_members b (λ n e at. (c.requires.members n e at).1))

pub conclusion_terms-requires-clause-conclude : goal.conclusion_terms-requires-clause-conclude
conclusion_terms-requires-clause-conclude c =
    let b = c.args.base.now in
    let m = c.index-as_slice-i.result in
    let i = c.args.i in
    let is : m ≡ get_or b.members i m = c.index-as_slice-i.is ∙ ap (λ (xs : List Member). get_or xs i m) c.as_slice.ensures in
    let at = entry_there b i m c.requires.within is in
    let v = c.in-Inst in
    let origin : origin_of m.origin ≡ inst v.from v.place v.partner v.other = ap origin_of v.is in
    let before = concludes_before b c.requires.members (i + 1) v.from v.place v.partner v.other (entry_of b.bank m) at origin in
    subst (λ (ms : List Member). Conclude (map (entry_of b.bank) ms) v.from v.place v.partner v.other) (sym c.as_slice-members.ensures) before.1

pub unreachable-requires : goal.unreachable-requires
unreachable-requires c =
    let b = c.args.base.now in
    let m = c.index-as_slice-i.result in
    let i = c.args.i in
    let is : m ≡ get_or b.members i m = c.index-as_slice-i.is ∙ ap (λ (xs : List Member). get_or xs i m) c.as_slice.ensures in
    let at = entry_there b i m c.requires.within is in
    let v = c.in-Inst in
    let origin : origin_of m.origin ≡ inst v.from v.place v.partner v.other = ap origin_of v.is in
    let before = concludes_before b c.requires.members (i + 1) v.from v.place v.partner v.other (entry_of b.bank m) at origin in
    let below = before.0 in
    let count = c.requires.sources.count_of in
    let positive = positive_number (base_of b).members v.from before.1.1.entry before.1.1.entry_at in
    number_there c.args.sources.now v.from positive (omega (arith, below, count)) (sym c.numbered_item.ensures ∙ ap option_copied c.in_default.is)

pub unreachable-requires-in-Lemma : goal.unreachable-requires-in-Lemma
unreachable-requires-in-Lemma c =
    let b = c.args.base.now in
    let m = c.index-as_slice-i.result in
    let i = c.args.i in
    let is : m ≡ get_or b.members i m = c.index-as_slice-i.is ∙ ap (λ (xs : List Member). get_or xs i m) c.as_slice.ensures in
    let at = entry_there b i m c.requires.within is in
    let v = c.in-Lemma in
    no_lemma_there b c.requires.members (i + 1) v.from v.place v.partner v.other v.keep v.premises (entry_of b.bank m) at (ap origin_of v.is)

pub source_under-requires-clause-source : goal.source_under-requires-clause-source
source_under-requires-clause-source c =
    let b = c.args.base.now in
    let s = c.in-Some.source.now in
    let there : at_number c.args.sources.now c.in-Inst.from ≡ Some s = sym c.numbered_item.ensures ∙ ap option_copied c.in-Some.is in
    terms_grown b.bank c.conclusion_terms.new.bank c.conclusion_terms.ensures.extends s.terms (c.requires.sources.each c.in-Inst.from s there).terms

pub returns-in-Some-clause-whole : goal.returns-in-Some-clause-whole
returns-in-Some-clause-whole c =
    let b = c.args.base.now in
    let f = c.conclusion_terms.new.bank in
    let g = c.source_under.new.bank in
    let whole = whole_base b g c.requires.whole (extends_trans b.bank f g c.conclusion_terms.ensures.extends c.source_under.ensures.extends)
    (c.source_under.ensures.formed (c.conclusion_terms.ensures.formed c.requires.whole.bank)) in
    IfOk-weaker c.source_under.result _ _ (λ _ _. whole) c.source_under.ensures.terms

pub returns-in-Some-clause-source : goal.returns-in-Some-clause-source
returns-in-Some-clause-source c =
    let b = c.args.base.now in
    let m = c.index-as_slice-i.result in
    let i = c.args.i in
    let is : m ≡ get_or b.members i m = c.index-as_slice-i.is ∙ ap (λ (xs : List Member). get_or xs i m) c.as_slice.ensures in
    let at = entry_there b i m c.requires.within is in
    let v = c.in-Inst in
    let f = c.conclusion_terms.new.bank in
    let g = c.source_under.new.bank in
    let r = c.in-Some.source.now in
    let there : at_number c.args.sources.now v.from ≡ Some r = sym c.numbered_item.ensures ∙ ap option_copied c.in-Some.is in
    let source = source_grown b.bank f c.conclusion_terms.ensures.extends (base_of b) v.from r (c.requires.sources.each v.from r there) in
    let ids = c.in_ok-terms-in-Inst.terms in
    let made = subst (λ (ms : List Member). AreConclusionTerms f (map (entry_of b.bank) ms) v.from v.place v.partner v.other ids) c.as_slice-members.ensures c.in_ok-terms-in-Inst.ensures.terms in
    three_ok c.source_under.result _ _ _ _
    (λ s inputs trees terms.
    instance_source b c.requires.members g f (i + 1) v.from v.place v.partner v.other (entry_of b.bank m) at (ap origin_of v.is) ids made r s source inputs trees terms)
    c.source_under.ensures.input c.source_under.ensures.trees c.source_under.ensures.terms
