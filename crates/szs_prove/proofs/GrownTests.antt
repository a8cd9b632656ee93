-- The trees of selected literals serve a certificate whose bank has grown.
use Rattle.std.proofs.Common.{◌≡◌, ◌↔◌, ℕ, zero, suc, ◌<◌, ◌^◌, List, [], length, Bool, true, false, refl, sym, ap, ◌∙◌, subst as transport, arith, Contains}
use Rattle.std.specs.Prelude.{IfOk, IsTrue, OnOk, Result, Ok, Err}
use Rattle.inst_logic.specs.declared.signed.Signed.{Signed}
use Rattle.inst_logic.specs.Tree.{Tree}
use Rattle.inst_logic.specs.Substitution.{tree_vars}
use Rattle.inst_logic.specs.Measure.{is_function_free}
use Rattle.inst_logic.specs.WellFormed.{AreFormedClauses, IsAtom}
use Rattle.inst_calculus.specs.Models.{IsTrueBy, SelectedClause}
use Rattle.term_bank.specs.Forest.{AreDistinct, IsAt, arguments_of, is_ground, literal_tree, tree_at}
use Rattle.term_bank.proofs.GroundTrees.{ground_by_variables}
use Rattle.term_index.specs.Pairs.{Posting}
use Rattle.term_index.specs.State.{State, pairs_of, Fits}
use Rattle.term_index.specs.StateLaws.{grown_tree}
use Rattle.cert_format.specs.Certificate as format
use Rattle.cert_format.specs.Certificate.{selected_members}
use Rattle.cert_format.specs.Validity.{IsNamed, IsRightMember, SelectsAt}
use Rattle.cert_format.specs.declared.complaint.Complaint.TheVariants.{Member as Derived, Place}
use Rattle.cert_values.specs.declared.certificate.Covered.{Covered}
use Rattle.cert_values.specs.declared.certificate.Saturation.{Saturation}
use Rattle.saturation_cert.specs.Truths.{AreSelected}
use Rattle.cert_values.specs.SelectedLiteral.{IsSelectedLiteral}
use Rattle.cert_values.specs.Values.{saturation_of, covered_of}
use Rattle.cert_values.specs.Wholes.{AreLight, HasPlaces, IsGroundAtom, IsWholeCovered, IsWholeSaturation, KeepsCovered, KeepsSaturation}
use Rattle.cert_values.proofs.Chosen.{literal_of_member, number_within}
use Rattle.cert_values.proofs.Kept.{saturation_same}
use Rattle.saturation_cert.proofs.Stores.{same_tree}
use Rattle.szs_prove.specs.SaturationTests.{IsReady}
use Rattle.szs_prove.proofs.LightMembers.{Numbered, members_are_light}

module _ (c d : Saturation) (whole : IsWholeSaturation c) (kept : KeepsSaturation c d) where
  same : saturation_of d ≡ saturation_of c
  same = saturation_same c d whole kept

  literal_grown : (n : ℕ) (l : Signed ℕ) → IsSelectedLiteral c n l → IsSelectedLiteral d n l
  literal_grown n l s = record {
    member = s.member;
    is = transport (λ (x : format.Saturation). SelectsAt x n s.member) (sym same) s.is;
    within = omega (arith, s.within, kept.base.bank.trees.0);
    literal = s.literal ∙ (λ i. record { positive = l.positive; atom = sym (kept.base.bank.trees.1 l.atom s.within) i });
  }

  module _ (distinct : AreDistinct d.base.bank.trees) (sign : Bool) (ps : List Posting) (h : AreSelected c sign ps) (p : Posting) where
    abbrev l : Signed ℕ
    l = record { positive = sign; atom = p.0 }

    stored : (n : ℕ) (k : Signed ℕ) → n ≡ p.1 → IsSelectedLiteral d n l → IsSelectedLiteral c n k → Contains ps p
    stored n k number t s =
        let trees : literal_tree d.base.bank l ≡ literal_tree d.base.bank k = same_tree d n k (literal_grown n k s) l t in
        let atoms : p.0 ≡ k.atom = distinct p.0 k.atom t.within (literal_grown n k s).within (ap (λ (x : Signed Tree). x.atom) trees) in
        let signs : sign ≡ k.positive = ap (λ (x : Signed Tree). x.positive) trees in
        (h p).1 (transport (λ m. IsSelectedLiteral c m l) number
        (transport (λ (x : Signed ℕ). IsSelectedLiteral c n x) (λ i. record { positive = sym signs i; atom = sym atoms i }) s))

    from : (n : ℕ) → n ≡ p.1 → IsSelectedLiteral d p.1 l → Contains ps p
    from zero e t = absurd (omega (arith, e, (number_within d p.1 l t).0))
    from (suc m) e t =
        let u = transport (λ k. IsSelectedLiteral d k l) (sym e) t in
        let (k, s, q) = literal_of_member c whole m u.member (transport (λ (x : format.Saturation). SelectsAt x (suc m) u.member) same u.is) in
        stored (suc m) k e u s

  pub selected_grown : AreDistinct d.base.bank.trees → (sign : Bool) (ps : List Posting) → AreSelected c sign ps → AreSelected d sign ps
  selected_grown distinct sign ps h p = (λ i. literal_grown p.1 (record { positive = sign; atom = p.0 }) ((h p).0 i), λ t. from distinct sign ps h p p.1 refl t)

pub ready_grown : (c d : Covered) (positive negative : State) → IsReady c positive negative → KeepsCovered c d → IsWholeCovered d → AreDistinct d.cert.base.bank.trees → IsReady d positive negative
ready_grown c d positive negative ready kept whole distinct =
    let same : saturation_of d.cert ≡ saturation_of c.cert = saturation_same c.cert d.cert ready.whole.cert kept.cert in
    record {
      whole = whole;
      placed = transport HasPlaces (sym same) ready.placed;
      light = transport (λ (s : format.Saturation). AreLight (selected_members s)) (sym same) ready.light;
      positive_fits = grown_tree c.cert.base.bank d.cert.base.bank positive kept.cert.base.bank ready.positive_fits;
      negative_fits = grown_tree c.cert.base.bank d.cert.base.bank negative kept.cert.base.bank ready.negative_fits;
      positives = selected_grown c.cert d.cert ready.whole.cert kept.cert distinct true (pairs_of positive.nodes) ready.positives;
      negatives = selected_grown c.cert d.cert ready.whole.cert kept.cert distinct false (pairs_of negative.nodes) ready.negatives;
    }

-- a certificate that is read is that one
pub ready_read : (c d r : Covered) (positive negative : State) → IsReady c positive negative → KeepsCovered c d → IsWholeCovered d → r ≡ d → AreDistinct r.cert.base.bank.trees → IsReady r positive negative
ready_read c d r positive negative ready kept whole is distinct =
    transport (λ (x : Covered). IsReady x positive negative) (sym is)
    (ready_grown c d positive negative ready kept whole (transport (λ (x : Covered). AreDistinct x.cert.base.bank.trees) is distinct))

pub ready_after : (c d r : Covered) (positive negative : State) → IsReady c positive negative → KeepsCovered c d → IsWholeCovered d → r ≡ d → AreDistinct r.cert.base.bank.trees → IsReady d positive negative
ready_after c d r positive negative ready kept whole is distinct =
    ready_grown c d positive negative ready kept whole (transport (λ (x : Covered). AreDistinct x.cert.base.bank.trees) is distinct)

pub ground_atom : (d r : Covered) (id : ℕ) (a : Tree) → r ≡ d → IsAt d.cert.base.bank id a → IsAtom a → tree_vars a ≡ [] → IsGroundAtom r.cert.base.bank id
ground_atom d r id a is at formed free =
    transport (λ (x : Covered). IsGroundAtom x.cert.base.bank id) (sym is)
    (record { within = at.0; atom = transport IsAtom (sym at.1) formed; variable_free = ap is_ground at.1 ∙ (ground_by_variables a).1 free })

-- the truth that is told is that by the members
pub truth_told : {E : Type 0} (c d r : Covered) (id : ℕ) (a : Tree) → r ≡ d → covered_of d ≡ covered_of c → IsAt d.cert.base.bank id a → (t : Result Bool E)
    → IfOk t (λ b. IsTrue b ↔ IsTrueBy (selected_members (saturation_of r.cert)) (tree_at r.cert.base.bank id)) → IfOk t (λ b. IsTrue b ↔ IsTrueBy (selected_members (saturation_of c.cert)) a)
truth_told c d r id a is same at t h =
    let sat : saturation_of r.cert ≡ saturation_of c.cert = ap (λ (x : Covered). saturation_of x.cert) is ∙ ap (λ (x : format.Covered). x.saturation) same in
    let here : tree_at r.cert.base.bank id ≡ a = ap (λ (x : Covered). tree_at x.cert.base.bank id) is ∙ at.1 in
    transport (λ (s : format.Saturation). IfOk t (λ b. IsTrue b ↔ IsTrueBy (selected_members s) a)) sat
    (transport (λ (u : Tree). IfOk t (λ b. IsTrue b ↔ IsTrueBy (selected_members (saturation_of r.cert)) u)) here h)

-- ---- filled trees

pub named_places : (c : Covered) → IsNamed (covered_of c) → HasPlaces (saturation_of c.cert)
named_places c named n = named (Place n)

-- what is so where four things are
pub where_all : {T E : Type 0} {A B C D X : Type 0} (r : Result T E) → OnOk r A → OnOk r B → OnOk r C → OnOk r D → (A → B → C → D → X) → OnOk r X
where_all (Ok x) a b c d f = f a b c d
where_all (Err e) a b c d f = tt

pub filled : (c r : Covered) (positive negative : State) → r ≡ c → IsWholeCovered c → IsNamed (covered_of c) → AreLight (selected_members (saturation_of r.cert))
    → Fits r.cert.base.bank positive → Fits r.cert.base.bank negative → AreSelected r.cert true (pairs_of positive.nodes) → AreSelected r.cert false (pairs_of negative.nodes)
    → IsReady c positive negative
filled c r positive negative is whole named light fits_one fits_other positives negatives =
    let ready : IsReady r positive negative = record {
      whole = transport IsWholeCovered (sym is) whole;
      placed = transport (λ (x : Covered). HasPlaces (saturation_of x.cert)) (sym is) (named_places c named);
      light = light;
      positive_fits = fits_one;
      negative_fits = fits_other;
      positives = positives;
      negatives = negatives;
    } in
    transport (λ (x : Covered). IsReady x positive negative) is ready

pub placed_read : (c r : Covered) → r ≡ c → IsNamed (covered_of c) → HasPlaces (saturation_of r.cert)
placed_read c r is named = transport (λ (x : Covered). HasPlaces (saturation_of x.cert)) (sym is) (named_places c named)

pub light_read : (c r : Covered) → r ≡ c → AreFormedClauses (covered_of c).saturation.base.inputs → IsTrue (is_function_free (covered_of c).saturation.base.inputs) → IsNamed (covered_of c)
    → ((n : ℕ) (m : SelectedClause) → SelectsAt (saturation_of r.cert) n m → length (arguments_of m.selected.atom) < 2 ^ 63) → Numbered → AreLight (selected_members (saturation_of r.cert))
light_read c r is formed free named short numbered =
    let same : (covered_of c).saturation ≡ saturation_of r.cert = ap (λ (x : Covered). saturation_of x.cert) (sym is) in
    members_are_light (saturation_of r.cert) (transport (λ (s : format.Saturation). AreFormedClauses s.base.inputs) same formed) (transport (λ (s : format.Saturation). IsTrue (is_function_free s.base.inputs)) same free)
    (λ n. transport (λ (s : format.Saturation). IsRightMember s.base n) same (named (Derived n))) short numbered
