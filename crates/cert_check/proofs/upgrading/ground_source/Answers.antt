use Rattle.std.proofs.Common.{◌≡◌, List, ap, sym, ◌∙◌, get_or, subst, ◌+◌}
use Rattle.std.specs.Prelude.{IfOk, Result, Ok, Err}
use Rattle.std.proofs.lemmas.Result.{IfOk-weaker}
use Rattle.inst_logic.specs.Clauses.{IsCanonical}
use Rattle.term_bank.specs.Forest.{clause_at}
use Rattle.cert_values.specs.declared.member.Member.{Member}
use Rattle.cert_values.specs.Values.{entry_of}
use Rattle.cert_check.proofs.Rightness.{entry_there}
use Rattle.cert_check.proofs.GroundMembers.{canonical_members}
use Rattle.cert_check.proofs.Refutations.{whole_base}
use Rattle.cert_check.proofs.Rightness.{member_ids}
use Rattle.cert_check.proofs.Sources.{given_terms}
use Rattle.cert_check.proofs.upgrading.ground_source.Goals as goal

both_ok : {A E : Type 0} (r : Result A E) (P Q R : A → Type 0) → ((x : A) → P x → Q x → R x) → IfOk r P → IfOk r Q → IfOk r R
both_ok (Ok x) P Q R h p q = h x p q
both_ok (Err e) P Q R h p q = p

pub id_for_each_variable-requires-clause-clause : goal.id_for_each_variable-requires-clause-clause
id_for_each_variable-requires-clause-clause c =
    let b = c.args.base.now in
    let m = c.index-as_slice-i.result in
    let is : m ≡ get_or b.members c.args.i m = c.index-as_slice-i.is ∙ ap (λ (xs : List Member). get_or xs c.args.i m) c.as_slice.ensures in
    member_ids b.bank b.members c.args.i m c.requires.whole.members c.requires.within is

pub id_for_each_variable-requires-clause-canonical : goal.id_for_each_variable-requires-clause-canonical
id_for_each_variable-requires-clause-canonical c =
    let b = c.args.base.now in
    let m = c.index-as_slice-i.result in
    let is : m ≡ get_or b.members c.args.i m = c.index-as_slice-i.is ∙ ap (λ (xs : List Member). get_or xs c.args.i m) c.as_slice.ensures in
    subst (λ (x : Member). IsCanonical (clause_at b.bank x.clause)) (sym is) (canonical_members b (λ n e at. (c.requires.members n e at).1) c.args.i m c.requires.within)

pub returns-clause-whole : goal.returns-clause-whole
returns-clause-whole c =
    let whole = whole_base c.args.base.now c.source_under.new.bank c.requires.whole c.source_under.ensures.extends (c.source_under.ensures.formed c.requires.whole.bank) in
    IfOk-weaker c.source_under.result _ _ (λ _ _. whole) c.source_under.ensures.terms

pub returns-clause-given : goal.returns-clause-given
returns-clause-given c =
    let b = c.args.base.now in
    let m = c.index-as_slice-i.result in
    let is : m ≡ get_or b.members c.args.i m = c.index-as_slice-i.is ∙ ap (λ (xs : List Member). get_or xs c.args.i m) c.as_slice.ensures in
    let at = entry_there b c.args.i m c.requires.within is in
    both_ok c.source_under.result _ _ _ (λ s inputs trees bot constant.
    given_terms b c.requires.members c.source_under.new.bank b.bank bot c.args.constant (c.args.i + 1) (entry_of b.bank m) at constant c.in_ok-constants.constants c.in_ok-constants.ensures.same c.in_ok-constants.ensures.enough
    c.args.source.now s c.requires.source inputs trees) c.source_under.ensures.input c.source_under.ensures.trees
