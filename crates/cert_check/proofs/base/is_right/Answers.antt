use Rattle.std.proofs.Common.{◌≡◌, ℕ, List, All, refl, sym, subst, ap, ◌∙◌, get_or, map, ◌+◌}
use Rattle.inst_calculus.specs.Parts.{AreWithin}
use Rattle.std.proofs.lemmas.Result.{IfOk-weaker}
use Rattle.term_bank.specs.Forest.{clause_at}
use Rattle.cert_values.specs.Wholes.{IsWholeClause}
use Rattle.cert_values.specs.Values.{entry_of}
use Rattle.cert_inference.specs.declared.inference.Premises.{Premises}
use Rattle.cert_inference.specs.Conclusions.{MembersGive}
use Rattle.cert_check.specs.Parts.{IsPartGiven}
use Rattle.cert_values.specs.declared.member.Member.{Member}
use Rattle.cert_check.proofs.MemberOrigins.{right_inst, right_part, premises_before}
use Rattle.cert_check.proofs.Rightness.{right_input, ids_of, member_ids}
use Rattle.cert_check.proofs.Refutations.{whole_base, not_true}
use Rattle.cert_check.proofs.base.is_right.Goals as goal

pub input_gives-requires-clause-inputs : goal.input_gives-requires-clause-inputs
input_gives-requires-clause-inputs c = ids_of c.args.base.now.bank c.args.base.now.inputs c.requires.whole.inputs

pub input_gives-requires-clause-axioms : goal.input_gives-requires-clause-axioms
input_gives-requires-clause-axioms c = ids_of c.args.base.now.bank c.args.base.now.axioms c.requires.whole.axioms

pub input_gives-requires-clause-clause : goal.input_gives-requires-clause-clause
input_gives-requires-clause-clause c =
    let b = c.args.base.now in
    let m = c.index-members-i.result in
    let is : m ≡ get_or b.members c.args.i m = c.index-members-i.is ∙ ap (λ (xs : List Member). get_or xs c.args.i m) c.as_slice-members.ensures in
    member_ids b.bank b.members c.args.i m c.requires.whole.members c.requires.within is

pub returns-in-Input-clause-whole : goal.returns-in-Input-clause-whole
returns-in-Input-clause-whole c =
    let whole = whole_base c.args.base.now c.input_gives.new.bank c.requires.whole c.input_gives.ensures.extends (c.input_gives.ensures.formed c.requires.whole.bank) in
    IfOk-weaker c.input_gives.result _ _ (λ _ _. whole) c.input_gives.ensures.gives

pub returns-in-Input-clause-right : goal.returns-in-Input-clause-right
returns-in-Input-clause-right c =
    let b = c.args.base.now in
    let m = c.index-members-i.result in
    let is : m ≡ get_or b.members c.args.i m = c.index-members-i.is ∙ ap (λ (xs : List Member). get_or xs c.args.i m) c.as_slice-members.ensures in
    let by = right_input b c.args.i m c.in-Input.k c.requires.axioms c.requires.within is c.in-Input.is in
    IfOk-weaker c.input_gives.result _ _ (λ _ g. (λ t. by.0 (g.0 t), λ r. g.1 (by.1 r))) c.input_gives.ensures.gives

pub members_give-requires-clause-members : goal.members_give-requires-clause-members
members_give-requires-clause-members c =
    let b = c.args.base.now in
    subst (λ (ms : List Member). All (λ m. IsWholeClause b.bank m.clause) ms) (sym c.as_slice-members.ensures) c.requires.whole.members

pub members_give-requires-clause-clause : goal.members_give-requires-clause-clause
members_give-requires-clause-clause c =
    let b = c.args.base.now in
    let m = c.index-members-i.result in
    let is : m ≡ get_or b.members c.args.i m = c.index-members-i.is ∙ ap (λ (xs : List Member). get_or xs c.args.i m) c.as_slice-members.ensures in
    member_ids b.bank b.members c.args.i m c.requires.whole.members c.requires.within is

pub returns-in-Inst-clause-whole : goal.returns-in-Inst-clause-whole
returns-in-Inst-clause-whole c =
    let whole = whole_base c.args.base.now c.members_give.new.bank c.requires.whole c.members_give.ensures.extends (c.members_give.ensures.formed c.requires.whole.bank) in
    IfOk-weaker c.members_give.result _ _ (λ _ _. whole) c.members_give.ensures.gives

pub returns-in-Inst-clause-right : goal.returns-in-Inst-clause-right
returns-in-Inst-clause-right c =
    let b = c.args.base.now in
    let m = c.index-members-i.result in
    let v = c.in-Inst in
    let is : m ≡ get_or b.members c.args.i m = c.index-members-i.is ∙ ap (λ (xs : List Member). get_or xs c.args.i m) c.as_slice-members.ensures in
    let by = right_inst b c.args.i m v.from v.place v.partner v.other c.requires.within is v.is in
    let P = λ (ms : List Member) (p : Premises). MembersGive (map (entry_of b.bank) ms) (c.args.i + 1) p.from p.place p.partner p.other (clause_at b.bank m.clause) in
    let members = c.as_slice-members.ensures in
    let of = c.new.ensures in
    IfOk-weaker c.members_give.result _ _
    (λ _ g. (
      (λ t. by.0 (subst (P b.members) of (subst (λ (ms : List Member). P ms c.new.result) members (g.0 t)))),
      (λ r. g.1 (subst (λ (ms : List Member). P ms c.new.result) (sym members) (subst (P b.members) (sym of) (by.1 r)))),
    )) c.members_give.ensures.gives

pub returns-then-not-are_within-clause-right : goal.returns-then-not-are_within-clause-right
returns-then-not-are_within-clause-right c =
    let b = c.args.base.now in
    let m = c.index-members-i.result in
    let is : m ≡ get_or b.members c.args.i m = c.index-members-i.is ∙ ap (λ (xs : List Member). get_or xs c.args.i m) c.as_slice-members.ensures in (
      (λ t. absurd cc),
      (λ r.
          let before = premises_before b c.args.i m c.in-Lemma.from c.in-Lemma.place c.in-Lemma.partner c.in-Lemma.other c.in-Lemma.keep c.in-Lemma.premises c.requires.within is c.in-Lemma.is r in
          absurd (not_true c.are_within.result c.are_within.result refl c.if-not-are_within.true (c.are_within.ensures.1 (subst (AreWithin c.args.i) (sym c.as_slice.ensures) before)))),
    )

pub members_give_part-requires-clause-members : goal.members_give_part-requires-clause-members
members_give_part-requires-clause-members c =
    let b = c.args.base.now in
    subst (λ (ms : List Member). All (λ m. IsWholeClause b.bank m.clause) ms) (sym c.as_slice-members.ensures) c.requires.whole.members

pub members_give_part-requires-clause-clause : goal.members_give_part-requires-clause-clause
members_give_part-requires-clause-clause c =
    let b = c.args.base.now in
    let m = c.index-members-i.result in
    let is : m ≡ get_or b.members c.args.i m = c.index-members-i.is ∙ ap (λ (xs : List Member). get_or xs c.args.i m) c.as_slice-members.ensures in
    member_ids b.bank b.members c.args.i m c.requires.whole.members c.requires.within is

pub returns-else-not-are_within-clause-whole : goal.returns-else-not-are_within-clause-whole
returns-else-not-are_within-clause-whole c =
    let whole = whole_base c.args.base.now c.members_give_part.new.bank c.requires.whole c.members_give_part.ensures.extends (c.members_give_part.ensures.formed c.requires.whole.bank) in
    IfOk-weaker c.members_give_part.result _ _ (λ _ _. whole) c.members_give_part.ensures.gives

pub returns-else-not-are_within-clause-right : goal.returns-else-not-are_within-clause-right
returns-else-not-are_within-clause-right c =
    let b = c.args.base.now in
    let m = c.index-members-i.result in
    let i = c.args.i in
    let v = c.in-Lemma in
    let is : m ≡ get_or b.members i m = c.index-members-i.is ∙ ap (λ (xs : List Member). get_or xs i m) c.as_slice-members.ensures in
    let before = subst (AreWithin i) c.as_slice.ensures (c.are_within.ensures.0 c.if-not-are_within.false) in
    let by = right_part b i m v.from v.place v.partner v.other v.keep v.premises c.requires.within is v.is before in
    let P = λ (ms : List Member) (p : Premises) (keep : List ℕ). IsPartGiven (map (entry_of b.bank) ms) (i + 1) p.from p.place p.partner p.other keep (clause_at b.bank m.clause) in
    let members = c.as_slice-members.ensures in
    let of = c.new-in-Lemma.ensures in
    let keep = c.as_slice-in-Lemma.ensures in
    IfOk-weaker c.members_give_part.result _ _
    (λ _ g. (
      (λ t. by.0 (subst (P b.members (record { from = v.from; place = v.place; partner = v.partner; other = v.other })) keep
          (subst (λ (p : Premises). P b.members p c.as_slice-in-Lemma.result.now) of (subst (λ (ms : List Member). P ms c.new-in-Lemma.result c.as_slice-in-Lemma.result.now) members (g.0 t))))),
      (λ r. g.1 (subst (λ (ms : List Member). P ms c.new-in-Lemma.result c.as_slice-in-Lemma.result.now) (sym members)
          (subst (λ (p : Premises). P b.members p c.as_slice-in-Lemma.result.now) (sym of)
          (subst (P b.members (record { from = v.from; place = v.place; partner = v.partner; other = v.other })) (sym keep) (by.1 r))))),
    )) c.members_give_part.ensures.gives
