-- What a member's origin gives, and whether it is right.
use Rattle.std.proofs.Common.{◌≡◌, ℕ, suc, ◌+◌, ◌<◌, List, ◌++◌, ap, sym, ◌∙◌, map, subst, arith, length, get_or, Some}
use Rattle.std.specs.Prelude.{Option, option_map, ◌↔◌}
use Rattle.std.proofs.lemmas.List.{map-append}
use Rattle.std.proofs.lemmas.Option.{slice_get-get_or, same_Some}
use Rattle.inst_logic.specs.declared.signed.Signed.{Signed}
use Rattle.inst_logic.specs.Clauses.{TreeClause}
use Rattle.inst_logic.specs.Derivations.{at_number}
use Rattle.inst_calculus.specs.Axioms.{equality_axioms, with_axioms}
use Rattle.inst_calculus.specs.Entries.{Entry}
use Rattle.std.specs.Prelude.{All}
use Rattle.std.proofs.lemmas.List.Elements.{All-get_or}
use Rattle.inst_calculus.proofs.Membership.{all_in, in_all}
use Rattle.inst_calculus.proofs.StepLaws.{at_number_map}
use Rattle.cert_values.specs.Wholes.{IsWholeClause}
use Rattle.term_bank.specs.Forest.{Forest, IsClauseOf, clause_at}
use Rattle.cert_format.specs.Validity.{Gives, IsFirstOrigin, IsRightAxiom, IsRightMember}
use Rattle.cert_values.specs.declared.member.Member.{Member}
use Rattle.cert_values.specs.declared.member.Origin.{Origin}
use Rattle.cert_values.specs.declared.member.Origin.TheVariants.{Input}
use Rattle.cert_values.specs.declared.certificate.Base.{Base}
use Rattle.cert_values.specs.Values.{base_of, entry_of, origin_of}
use Rattle.cert_check.specs.Inputs.{GivesInput}
use Rattle.cert_check.specs.Stages.{IsAllowedMember, IsAllowedOrigin}
use Rattle.cert_check.specs.declared.base.Lemmas.{Lemmas}
use Rattle.cert_check.specs.declared.base.Lemmas.TheVariants.{Allowed, Refused}
use Rattle.inst_logic.proofs.Items.{lists_equal}

-- the inputs and axioms as ids stand for the inputs and their axioms
pub all_inputs : (b : Base) → ((n : ℕ) → IsRightAxiom (base_of b) n) → map (clause_at b.bank) (b.inputs ++ b.axioms) ≡ with_axioms (map (clause_at b.bank) b.inputs)
all_inputs b right =
    map-append (clause_at b.bank) b.inputs b.axioms
    ∙ ap (λ xs. map (clause_at b.bank) b.inputs ++ xs) (lists_equal (map (clause_at b.bank) b.axioms) (equality_axioms (map (clause_at b.bank) b.inputs)) right)

-- the item at a place
pub item_there : {A : Type 0} (ms : List A) (i : ℕ) (x : A) → i < length ms → x ≡ get_or ms i x → at_number ms (i + 1) ≡ Some x
item_there ms i x within is = (let e : i + 1 ≡ suc i = omega arith in ap (at_number ms) e) ∙ slice_get-get_or ms i x within ∙ ap Some (sym is)

-- and the entry of a member
pub entry_there : (b : Base) (i : ℕ) (x : Member) → i < length b.members → x ≡ get_or b.members i x → at_number (base_of b).members (i + 1) ≡ Some (entry_of b.bank x)
entry_there b i x within is = at_number_map (entry_of b.bank) b.members (i + 1) ∙ ap (λ (o : Option Member). option_map (entry_of b.bank) o) (item_there b.members i x within is)

module _ (b : Base) (i : ℕ) (m : Member) (within : i < length b.members) (is : m ≡ get_or b.members i m) where
  same_there : (e : Entry) → at_number (base_of b).members (i + 1) ≡ Some e → entry_of b.bank m ≡ e
  same_there e at = same_Some (entry_of b.bank m) e (sym (entry_there b i m within is) ∙ at)

  -- a member is right exactly where its origin gives its clause
  pub right_by : Gives (base_of b) (i + 1) (origin_of m.origin) (clause_at b.bank m.clause) ↔ IsRightMember (base_of b) (i + 1)
  right_by = (
    (λ g e at. subst (λ (x : Entry). Gives (base_of b) (i + 1) x.origin x.clause) (same_there e at) g),
    (λ right. right (entry_of b.bank m) (entry_there b i m within is)),
  )

  -- and allowed where its origin is too
  pub allowed_by : (lemmas : Lemmas) → (IsAllowedOrigin lemmas (origin_of m.origin) × IsRightMember (base_of b) (i + 1)) ↔ IsAllowedMember lemmas (base_of b) (i + 1)
  allowed_by Allowed = ((λ h. h.1), (λ r. (tt, r)))
  allowed_by Refused = (
    (λ h e at. (subst (λ (x : Entry). IsFirstOrigin x.origin) (same_there e at) h.0, h.1 e at)),
    (λ r. ((r (entry_of b.bank m) (entry_there b i m within is)).0, (λ e at. (r e at).1))),
  )

pub right_input : (b : Base) (i : ℕ) (m : Member) (k : ℕ) → ((n : ℕ) → IsRightAxiom (base_of b) n) → i < length b.members → m ≡ get_or b.members i m → m.origin ≡ Input k
    → GivesInput (map (clause_at b.bank) (b.inputs ++ b.axioms)) k (clause_at b.bank m.clause) ↔ IsRightMember (base_of b) (i + 1)
right_input b i m k axioms within is origin =
    let by = right_by b i m within is in
    let c = clause_at b.bank m.clause in (
      (λ g. by.0 (subst (λ (o : Origin). Gives (base_of b) (i + 1) (origin_of o) c) (sym origin) (subst (λ (ds : List TreeClause). GivesInput ds k c) (all_inputs b axioms) g))),
      (λ r. subst (λ (ds : List TreeClause). GivesInput ds k c) (sym (all_inputs b axioms)) (subst (λ (o : Origin). Gives (base_of b) (i + 1) (origin_of o) c) origin (by.1 r))),
    )

pub ids_of : (f : Forest) (cs : List (List (Signed ℕ))) → All (IsWholeClause f) cs → All (IsClauseOf f) cs
ids_of f cs h = in_all (IsClauseOf f) cs (λ c i. let k : IsWholeClause f c = all_in (IsWholeClause f) cs h c i in k.ids)

pub member_ids : (f : Forest) (ms : List Member) (i : ℕ) (m : Member) → All (λ x. IsWholeClause f x.clause) ms → i < length ms → m ≡ get_or ms i m → IsClauseOf f m.clause
member_ids f ms i m h within is =
    let k : IsWholeClause f m.clause = subst (λ (x : Member). IsWholeClause f x.clause) (sym is) (All-get_or (λ (x : Member). IsWholeClause f x.clause) ms i m within h) in k.ids
