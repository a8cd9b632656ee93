-- Decisions of what was held back, and how they stay where a run reads.
use Rattle.std.proofs.Common.{◌≡◌, ◌⊎◌, ℕ, zero, suc, ◌-◌, ◌^◌, ◌≤◌, ◌<◌, List, [], ◌∷◌, ◌++◌, refl, sym, ap, ◌∙◌, subst as transport, take, length, min, arith, All, Contains, Option, Some, None, inl, inr}
use Rattle.std.specs.Prelude.{slice_get}
use Rattle.std.proofs.lemmas.List.Elements.{All-push}
use Rattle.inst_logic.specs.declared.signed.Signed.{Signed}
use Rattle.inst_logic.specs.Tree.{Tree}
use Rattle.inst_logic.specs.Derivations.{at_number}
use Rattle.inst_logic.specs.Clauses.{TreeClause, instance, canonical_form}
use Rattle.inst_logic.specs.Measure.{clause_size}
use Rattle.inst_logic.specs.Unifiers.{Sided, IsMostGeneral, IsUnifier, IsProper}
use Rattle.inst_calculus.specs.Entries.{Entry, entry_clauses}
use Rattle.inst_calculus.specs.Saturation.{IsCovered}
use Rattle.inst_calculus.specs.Conclusions.{IsConclusion}
use Rattle.inst_calculus.proofs.Membership.{◌∈◌, contains_in, in_contains, in_all, all_in}
use Rattle.inst_calculus.proofs.Items.{same_item}
use Rattle.inst_calculus.proofs.Choice.{proper_of_choice}
use Rattle.inst_calculus.proofs.OneConclusion.{one_conclusion}
use Rattle.inst_calculus.proofs.CanonicalForms.{canonical_of_canonical}
use Rattle.inst_calculus.proofs.CoveredInstances.{covered_when_renamed}
use Rattle.engine_laws.specs.Pairs.{Held, IsStillSelected, IsCoveredNow, IsDecided}
use Rattle.term_bank.specs.Forest.{Forest, IsClauseOf, clause_at, tree_at}
use Rattle.term_bank.proofs.Growth.{extends_trans}
use Rattle.cert_values.specs.Values.{origin_of}
use Rattle.unify_core.specs.Sides.{IsResolvedBy}
use Rattle.unify_core.specs.declared.side.Side.TheVariants.{Left}
use Rattle.instgen_run.specs.declared.state.Run.{Run}
use Rattle.instgen_run.specs.Clauses.{Item, AreEntries, entries_in, clauses_in}
use Rattle.instgen_run.specs.Loops.{items, held_of, IsSelectedAtom, IsLiteralPlace}
use Rattle.instgen_run.specs.Running.{entries_of, Reads, MayInfer}
use Rattle.instgen_run.specs.Deciding.{IsOpenHeld, IsDecision, IsOneDecision, IsCoveredOrSize, IsLesser, IsSomeConclusion}
use Rattle.instgen_run.proofs.Grown.{entries_stay}
use Rattle.instgen_run.proofs.Selected.{place_positive}
use Rattle.instgen_run.proofs.Works.{at_number_map}
use Rattle.instgen_run.proofs.Inferred.{same_clauses}
use Rattle.instgen_run.proofs.Runs.{concluded, concludes}

-- Reads

pub reads_none : {S I C : Type 0} (r : Run S I C) → Reads r r
reads_none r = record { bank = record { trees = (omega arith, λ i l. refl); symbols = (omega arith, λ i l. refl) }; rest = refl }

pub reads_more : {S I C : Type 0} (a b c : Run S I C) → Reads a b → Reads b c → Reads a c
reads_more {S} {I} {C} a b c g h = record {
  bank = extends_trans a.entries.bank b.entries.bank c.entries.bank g.bank h.bank;
  rest = h.rest ∙ ap (λ (x : Run S I C). record x { entries = record x.entries { bank = c.entries.bank }; bindings = c.bindings }) g.rest;
}

pub entries_read : {S I C : Type 0} (old new : Run S I C) → Reads old new → AreEntries old.entries.bank (items old) → entries_of new ≡ entries_of old
entries_read {S} {I} {C} old new reads entries =
    ap (λ (r : Run S I C). entries_in r.entries.bank (items r)) reads.rest
    ∙ entries_stay old.entries.bank new.entries.bank reads.bank (items old) (λ x i. all_in (λ (x : Item). IsClauseOf old.entries.bank x.0) (items old) entries.ids x i)

pub items_read : {S I C : Type 0} (old new : Run S I C) → Reads old new → items new ≡ items old
items_read {S} {I} {C} old new reads = ap (λ (r : Run S I C). items r) reads.rest

pub places_read : {S I C : Type 0} (old new : Run S I C) → Reads old new → new.selection.places ≡ old.selection.places
places_read {S} {I} {C} old new reads = ap (λ (r : Run S I C). r.selection.places) reads.rest

pub held_read : {S I C : Type 0} (old new : Run S I C) → Reads old new → new.held.items ≡ old.held.items
held_read {S} {I} {C} old new reads = ap (λ (r : Run S I C). r.held.items) reads.rest

-- Decisions of some of what was held back

pub record IsLeastOf {S I C : Type 0} (r : Run S I C) (hs : List Held) (size : ℕ) : Type 0 where
  pub still : List Held
  pub decided : All (IsDecided (entries_of r) r.selection.places still) hs
  pub open_at : (h : Held) → Contains still h → (n : ℕ) × IsOpenHeld r h n × (size ≤ n)
  pub at : Held
  pub at_still : Contains still at
  pub at_open : IsOpenHeld r at size

abbrev pub IsDecisionOf : {S I C : Type 0} → Run S I C → List Held → Option ℕ → Type 0
IsDecisionOf r hs None = All (IsDecided (entries_of r) r.selection.places []) hs
IsDecisionOf r hs (Some size) = IsLeastOf r hs size

open_over : {S I C : Type 0} (r s : Run S I C) → entries_of s ≡ entries_of r → s.selection.places ≡ r.selection.places → (h : Held) (n : ℕ) → IsOpenHeld r h n → IsOpenHeld s h n
open_over r s e p h n k =
    let (c, u) = transport (λ (es : List Entry). (x : IsConclusion es h.from h.place h.partner h.other k.clause) × (¬ IsCovered (entry_clauses es) x.entry.clause (instance x.unifier.left x.entry.clause))) (sym e) (k.concluded, k.uncovered) in
    record { clause = k.clause; concluded = c; still = transport (λ ps. IsStillSelected ps h) (sym p) k.still; uncovered = u; size_is = k.size_is }

decided_over : {S I C : Type 0} (r s : Run S I C) → entries_of s ≡ entries_of r → s.selection.places ≡ r.selection.places → (still hs : List Held)
    → All (IsDecided (entries_of r) r.selection.places still) hs → All (IsDecided (entries_of s) s.selection.places still) hs
decided_over r s e p still hs d =
    transport (λ (es : List Entry). All (IsDecided es s.selection.places still) hs) (sym e) (transport (λ (ps : List ℕ). All (IsDecided (entries_of r) ps still) hs) (sym p) d)

pub decision_over : {S I C : Type 0} (r s : Run S I C) → entries_of s ≡ entries_of r → s.selection.places ≡ r.selection.places → (hs : List Held) (o : Option ℕ) → IsDecisionOf r hs o → IsDecisionOf s hs o
decision_over r s e p hs None d = decided_over r s e p [] hs d
decision_over r s e p hs (Some size) d = record {
  still = d.still;
  decided = decided_over r s e p d.still hs d.decided;
  open_at = λ h i. let (n, o, le) = d.open_at h i in (n, open_over r s e p h n o, le);
  at = d.at;
  at_still = d.at_still;
  at_open = open_over r s e p d.at size d.at_open;
}

dropped : (es : List Entry) (places : List ℕ) (still : List Held) (h : Held) → (¬ IsStillSelected places h) ⊎ IsCoveredNow es h → IsDecided es places still h
dropped es places still h (inl n) = inl n
dropped es places still h (inr c) = inr (inl c)

wider : (es : List Entry) (places : List ℕ) (still later : List Held) → ((x : Held) → x ∈ still → x ∈ later) → (hs : List Held) → All (IsDecided es places still) hs → All (IsDecided es places later) hs
wider es places still later more hs d = in_all (IsDecided es places later) hs (λ h i. go h (all_in (IsDecided es places still) hs d h i))
  where
    go : (h : Held) → IsDecided es places still h → IsDecided es places later h
    go h (inl n) = inl n
    go h (inr (inl c)) = inr (inl c)
    go h (inr (inr k)) = inr (inr (in_contains h later (more h (contains_in h still k))))

module _ {S I C : Type 0} (r : Run S I C) (hs : List Held) (h : Held) where
  first_open : (n : ℕ) → All (IsDecided (entries_of r) r.selection.places []) hs → IsOpenHeld r h n → IsLeastOf r (hs ++ h ∷ []) n
  first_open n d k = record {
    still = h ∷ [];
    decided = All-push (IsDecided (entries_of r) r.selection.places (h ∷ [])) hs h (wider (entries_of r) r.selection.places [] (h ∷ []) (λ x i. absurd i) hs d) (inr (inr (in_contains h (h ∷ []) (inl refl))));
    open_at = λ x i. go x (contains_in x (h ∷ []) i);
    at = h;
    at_still = in_contains h (h ∷ []) (inl refl);
    at_open = k;
  }
    where
      go : (x : Held) → x ∈ (h ∷ []) → (m : ℕ) × IsOpenHeld r x m × (n ≤ m)
      go x (inl e) = (n, transport (λ y. IsOpenHeld r y n) (sym e) k, omega arith)
      go x (inr i) = absurd i

  one_dropped : (n : ℕ) → IsLeastOf r hs n → (¬ IsStillSelected r.selection.places h) ⊎ IsCoveredNow (entries_of r) h → IsLeastOf r (hs ++ h ∷ []) n
  one_dropped n d k = record {
    still = d.still;
    decided = All-push (IsDecided (entries_of r) r.selection.places d.still) hs h d.decided (dropped (entries_of r) r.selection.places d.still h k);
    open_at = d.open_at;
    at = d.at;
    at_still = d.at_still;
    at_open = d.at_open;
  }

  one_open : (m n k : ℕ) → IsLeastOf r hs m → IsOpenHeld r h n → k ≤ m → k ≤ n → (k ≡ m) ⊎ (k ≡ n) → IsLeastOf r (hs ++ h ∷ []) k
  one_open m n k d o lm ln which = go which
    where
      decided_now : All (IsDecided (entries_of r) r.selection.places (h ∷ d.still)) (hs ++ h ∷ [])
      decided_now = All-push (IsDecided (entries_of r) r.selection.places (h ∷ d.still)) hs h (wider (entries_of r) r.selection.places d.still (h ∷ d.still) (λ x i. inr i) hs d.decided) (inr (inr (in_contains h (h ∷ d.still) (inl refl))))

      each : (x : Held) → x ∈ (h ∷ d.still) → (i : ℕ) × IsOpenHeld r x i × (k ≤ i)
      each x (inl e) = (n, transport (λ y. IsOpenHeld r y n) (sym e) o, ln)
      each x (inr i) = let (j, u, le) = d.open_at x (in_contains x d.still i) in (j, u, omega (arith, lm, le))

      go : (k ≡ m) ⊎ (k ≡ n) → IsLeastOf r (hs ++ h ∷ []) k
      go (inl e) = record {
        still = h ∷ d.still;
        decided = decided_now;
        open_at = λ x i. each x (contains_in x (h ∷ d.still) i);
        at = d.at;
        at_still = in_contains d.at (h ∷ d.still) (inr (contains_in d.at d.still d.at_still));
        at_open = transport (IsOpenHeld r d.at) (sym e) d.at_open;
      }
      go (inr e) = record {
        still = h ∷ d.still;
        decided = decided_now;
        open_at = λ x i. each x (contains_in x (h ∷ d.still) i);
        at = h;
        at_still = in_contains h (h ∷ d.still) (inl refl);
        at_open = transport (IsOpenHeld r h) (sym e) o;
      }

  pub decision_step : (o p q : Option ℕ) → IsDecisionOf r hs o → IsOneDecision r h p → IsLesser o p q → IsDecisionOf r (hs ++ h ∷ []) q
  decision_step None None q d k e = transport (IsDecisionOf r (hs ++ h ∷ [])) (sym e) (All-push (IsDecided (entries_of r) r.selection.places []) hs h d (dropped (entries_of r) r.selection.places [] h k))
  decision_step None (Some n) q d k e = transport (IsDecisionOf r (hs ++ h ∷ [])) (sym e) (first_open n d k)
  decision_step (Some m) None q d k e = transport (IsDecisionOf r (hs ++ h ∷ [])) (sym e) (one_dropped m d k)
  decision_step (Some m) (Some n) q d k (least, e, lm, ln, which) = transport (IsDecisionOf r (hs ++ h ∷ [])) (sym e) (one_open m n least d k lm ln which)

pub decision_of_all : {S I C : Type 0} (r : Run S I C) (o : Option ℕ) → IsDecisionOf r (held_of r) o → IsDecision r o
decision_of_all r None d = d
decision_of_all r (Some size) d = record { still = d.still; decided = d.decided; open_at = d.open_at; at = d.at; at_still = d.at_still; at_open = d.at_open }

pub take_next : {X : Type 0} (xs : List X) (k : ℕ) (x : X) → slice_get xs k ≡ Some x → take (suc k) xs ≡ take k xs ++ x ∷ []
take_next [] k x e = absurd cc
take_next (y ∷ ys) zero x e = ap (λ z. z ∷ []) (same_item (Some y) y x refl e)
take_next (y ∷ ys) (suc k) x e = ap (λ zs. y ∷ zs) (take_next ys k x e)

-- One that was held back

pub has_literal : (es : List Item) (places : List ℕ) → ((i : ℕ) → i < length places → IsLiteralPlace es places i) → (n : ℕ) (e : Item) → n ≤ length places → at_number es n ≡ Some e → 0 < length e.0
has_literal es places h zero e le at = absurd cc
has_literal es places h (suc i) e le at =
    let k = h i (omega arith) in
    let q : length k.item.0 ≡ length e.0 = ap (λ (x : Item). length x.0) (same_item (slice_get es i) k.item e k.item_at at) in
    let p = place_positive k.item.0 k.place k.literal k.literal_at in
    omega (arith, p.0, p.1)

-- covered as what was made, or as the instance
pub cover_of_made : (f : Forest) (es : List Item) (c e x : TreeClause) → e ≡ canonical_form x
    → (IsCovered (clauses_in f es) c e → IsCovered (entry_clauses (entries_in f es)) c x) × (IsCovered (entry_clauses (entries_in f es)) c x → IsCovered (clauses_in f es) c e)
cover_of_made f es c e x made =
    let q : canonical_form e ≡ canonical_form x = ap canonical_form made ∙ canonical_of_canonical x in (
      λ k. covered_when_renamed (entry_clauses (entries_in f es)) c e x (transport (λ cs. IsCovered cs c e) (sym (same_clauses f es)) k) q,
      λ k. transport (λ cs. IsCovered cs c e) (same_clauses f es) (covered_when_renamed (entry_clauses (entries_in f es)) c x e k (sym q)),
    )

-- the literal of the entry is the selected one
literal_held : {S I C : Type 0} (r : Run S I C) (n place a : ℕ) (e : Entry) (l : Signed Tree) → at_number (entries_of r) n ≡ Some e → at_number e.clause place ≡ Some l → at_number r.selection.places n ≡ Some place
    → (s : IsSelectedAtom r n a) → l ≡ record { positive = s.literal.positive; atom = tree_at r.entries.bank s.literal.atom }
literal_held r n place a e l at lit here s =
    let f = r.entries.bank in
    let k = at_number_map (λ (x : Item). record { clause = clause_at f x.0; origin = origin_of x.1 }) (items r) n s.item s.item_at in
    let same = same_item (at_number (entries_of r) n) e (record { clause = clause_at f s.item.0; origin = origin_of s.item.1 }) at k in
    let q : place ≡ s.place = same_item (at_number r.selection.places n) place s.place here s.place_at in
    let literal : at_number (clause_at f s.item.0) s.place ≡ Some (record { positive = s.literal.positive; atom = tree_at f s.literal.atom }) = at_number_map (λ (x : Signed ℕ). record { positive = x.positive; atom = tree_at f x.atom }) s.item.0 s.place s.literal s.literal_at in
    same_item (at_number e.clause place) l (record { positive = s.literal.positive; atom = tree_at f s.literal.atom }) lit
    (ap (λ (x : Entry). at_number x.clause place) same ∙ ap (at_number (clause_at f s.item.0)) q ∙ literal)

module _ {S I C : Type 0} (r : Run S I C) (h : Held) (c : TreeClause) (k : IsConclusion (entries_of r) h.from h.place h.partner h.other c) (still : IsStillSelected r.selection.places h)
    (a b : ℕ) (first : IsSelectedAtom r h.from a) (second : IsSelectedAtom r h.partner b) where
  f : Forest
  f = r.entries.bank

  left : k.literal ≡ record { positive = first.literal.positive; atom = tree_at r.entries.bank first.literal.atom }
  left = literal_held r h.from h.place a k.entry k.literal k.entry_at k.literal_at still.from_place first

  right : k.other_literal ≡ record { positive = second.literal.positive; atom = tree_at r.entries.bank second.literal.atom }
  right = literal_held r h.partner h.other b k.partner_entry k.other_literal k.partner_at k.other_at still.partner_place second

  left_atom : k.literal.atom ≡ tree_at r.entries.bank a
  left_atom = ap (λ (x : Signed Tree). x.atom) left ∙ ap (tree_at r.entries.bank) (sym first.atom)

  right_atom : k.other_literal.atom ≡ tree_at r.entries.bank b
  right_atom = ap (λ (x : Signed Tree). x.atom) right ∙ ap (tree_at r.entries.bank) (sym second.atom)

  general : IsMostGeneral k.unifier (tree_at r.entries.bank a) (tree_at r.entries.bank b)
  general = transport (λ x. IsMostGeneral k.unifier x (tree_at r.entries.bank b)) left_atom (transport (λ y. IsMostGeneral k.unifier k.literal.atom y) right_atom k.most_general)

  -- its literals have a unifier
  pub unifies_held : ((s : Sided) → ¬ IsUnifier s (tree_at r.entries.bank a) (tree_at r.entries.bank b)) → ⊥
  unifies_held none = none k.unifier general.unifies

  -- what unifies its literals may infer
  pub may_held : (s : Sided) → IsResolvedBy r.entries.bank r.bindings.entries s → IsMostGeneral s (tree_at r.entries.bank a) (tree_at r.entries.bank b) → MayInfer r Left h.from h.partner
  may_held s resolved g = (
    record {
      literals = record {
        left = first.literal;
        right = second.literal;
        left_at = record { item = first.item; place = first.place; item_at = first.item_at; place_at = first.place_at; literal_at = first.literal_at };
        right_at = record { item = second.item; place = second.place; item_at = second.item_at; place_at = second.place_at; literal_at = second.literal_at };
        opposite = λ e. k.opposite (ap (λ (x : Signed Tree). x.positive) left ∙ e ∙ sym (ap (λ (x : Signed Tree). x.positive) right));
      };
      unifier = s;
      resolved = resolved;
      most_general = transport (λ x. IsMostGeneral s x (tree_at r.entries.bank second.literal.atom)) (ap (tree_at r.entries.bank) first.atom)
          (transport (λ y. IsMostGeneral s (tree_at r.entries.bank a) y) (ap (tree_at r.entries.bank) second.atom) g);
    },
    transport (IsProper s.left) (ap (tree_at r.entries.bank) first.atom)
        ((proper_of_choice (tree_at r.entries.bank a) (tree_at r.entries.bank b) k.unifier s general g (tree_at r.entries.bank a)).0 (transport (IsProper k.unifier.left) left_atom k.proper)),
  )

-- each conclusion at the four numbers is that of the pair
module _ {S I C : Type 0} (r : Run S I C) (h : Held) (still : IsStillSelected r.selection.places h) (m : MayInfer r Left h.from h.partner) where
  concluded_here : IsConclusion (entries_of r) h.from h.place h.partner h.other (canonical_form (concluded r Left h.from h.partner m))
  concluded_here =
      let p : m.0.literals.left_at.place ≡ h.place = same_item (at_number r.selection.places h.from) m.0.literals.left_at.place h.place m.0.literals.left_at.place_at still.from_place in
      let q : m.0.literals.right_at.place ≡ h.other = same_item (at_number r.selection.places h.partner) m.0.literals.right_at.place h.other m.0.literals.right_at.place_at still.partner_place in
      transport (λ x. IsConclusion (entries_of r) h.from x h.partner h.other (canonical_form (concluded r Left h.from h.partner m))) p
      (transport (λ y. IsConclusion (entries_of r) h.from m.0.literals.left_at.place h.partner y (canonical_form (concluded r Left h.from h.partner m))) q (concludes r Left h.from h.partner m))

  same_held : (es : List Entry) → entries_of r ≡ es → (c : TreeClause) (k : IsConclusion es h.from h.place h.partner h.other c)
      → (k.entry.clause ≡ clause_at r.entries.bank m.0.literals.left_at.item.0) × (c ≡ canonical_form (concluded r Left h.from h.partner m))
  same_held es e = transport (λ (xs : List Entry). (c : TreeClause) (k : IsConclusion xs h.from h.place h.partner h.other c)
      → (k.entry.clause ≡ clause_at r.entries.bank m.0.literals.left_at.item.0) × (c ≡ canonical_form (concluded r Left h.from h.partner m))) e (λ c k.
      let l = m.0.literals.left_at in
      let f = r.entries.bank in
      let at = at_number_map (λ (x : Item). record { clause = clause_at f x.0; origin = origin_of x.1 }) (items r) h.from l.item l.item_at in (
        ap (λ (x : Entry). x.clause) (same_item (at_number (entries_of r) h.from) k.entry (record { clause = clause_at f l.item.0; origin = origin_of l.item.1 }) k.entry_at at),
        one_conclusion (entries_of r) h.from h.place h.partner h.other c (canonical_form (concluded r Left h.from h.partner m)) k concluded_here,
      ))

  pub decided_here : (new : Run S I C) → entries_of new ≡ entries_of r → new.selection.places ≡ r.selection.places → IsSomeConclusion (entries_of r) h → (o : Option ℕ)
      → IsCoveredOrSize new (clause_at r.entries.bank m.0.literals.left_at.item.0) (concluded r Left h.from h.partner m) o → IsOneDecision new h o
  decided_here new e p some None covered = inr (λ c k.
      let (q, s) = same_held (entries_of new) (sym e) c k in
      transport (λ x. IsCovered (entry_clauses (entries_of new)) x (instance k.unifier.left k.entry.clause)) (sym q)
      (covered_when_renamed (entry_clauses (entries_of new)) (clause_at r.entries.bank m.0.literals.left_at.item.0) (concluded r Left h.from h.partner m) (instance k.unifier.left k.entry.clause) covered (sym s ∙ k.conclusion)))
  decided_here new e p (c, old) (Some n) (uncovered, sized) =
      let k = transport (λ (es : List Entry). IsConclusion es h.from h.place h.partner h.other c) (sym e) old in
      let (q, s) = same_held (entries_of new) (sym e) c k in
      record {
        clause = c;
        concluded = k;
        still = transport (λ ps. IsStillSelected ps h) (sym p) still;
        uncovered = λ covered. uncovered (covered_when_renamed (entry_clauses (entries_of new)) (clause_at r.entries.bank m.0.literals.left_at.item.0) (instance k.unifier.left k.entry.clause) (concluded r Left h.from h.partner m)
            (transport (λ x. IsCovered (entry_clauses (entries_of new)) x (instance k.unifier.left k.entry.clause)) q covered) (sym k.conclusion ∙ s));
        size_is = sized ∙ ap (λ x. min (clause_size x) (2 ^ 64 - 1)) (sym s);
      }
