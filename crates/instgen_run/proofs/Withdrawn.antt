-- An entry leaves its index and waits again, and chooses again.
use Rattle.std.proofs.Common.{◌≡◌, ◌⊎◌, ◌↔◌, inl, inr, ℕ, zero, suc, ◌-◌, ◌<◌, ◌≤◌, List, [], ◌∷◌, ◌++◌, refl, sym, ap, ◌∙◌, subst as transport, map, length, arith, Contains, Bool, true, false, Some, get_or}
use Rattle.std.specs.Prelude.{slice_get, option_map, OnOk, IfOk, Result, Ok, Err}
use Rattle.std.proofs.lemmas.Option.{slice_get-map, same_Some}
use Rattle.std.proofs.Math.ListN.{set}
use Rattle.std.proofs.lemmas.List.{length-set}
use native.Mathlib.Decide.{ℕ_discrete}
use Rattle.inst_logic.specs.declared.signed.Signed.{Signed}
use Rattle.inst_logic.specs.Derivations.{at_number}
use Rattle.inst_calculus.proofs.Membership.{◌∈◌, contains_in, in_contains, in_all, all_in, in_left, in_right, in_either}
use Rattle.inst_calculus.proofs.Items.{same_item}
use Rattle.prop_logic.proofs.ListLaws.{slice_get_set, slice_get_set_other}
use Rattle.engine_laws.specs.Pairs.{IsWorked, AreWorked}
use Rattle.engine_laws.proofs.WorkedPairs.{pair_stays_worked}
use Rattle.term_bank.specs.Forest.{Forest, clause_at}
use Rattle.cert_values.specs.Values.{origin_of}
use Rattle.inst_calculus.proofs.Distinct.{length_map}
use Rattle.term_index.specs.Pairs.{Posting, Removes}
use Rattle.instgen_select.specs.Passives.{Passive_list}
use Rattle.instgen_select.specs.Queues.{numbers}
use Rattle.instgen_run.specs.declared.state.Run.{Run}
use Rattle.instgen_run.specs.declared.queue.Partners.{Partners}
use Rattle.instgen_run.specs.Clauses.{Item}
use Rattle.instgen_run.specs.Loops.{items, held_of, ArePartners, IsStored, IsSigned, IsSelectedAtom, IsSelectedLiteral, IsLiteralPlace}
use Rattle.instgen_run.specs.Running.{entries_of}
use Rattle.instgen_run.specs.Selections.{Placing}
use Rattle.instgen_run.specs.Choosing.{IsChoice, IsUnderWay, AreNumbersPlaced}
use Rattle.prop_logic.specs.Literal.{AllAtomsBelow}
use Rattle.engine_laws.proofs.Lists.{slice_get_there}
use Rattle.instgen_run.proofs.Selected.{place_positive}
use Rattle.instgen_run.proofs.Tending.{indexed_pair, indexed_by}
use Rattle.instgen_run.proofs.UnderWay.{chosen, chosen_below, chosen_under_way, chosen_numbers, taken_under_way, taken_numbers}
use Rattle.instgen_run.specs.Settling.{AreSelectable, IsOrderly, Reselects, Requeues}
use Rattle.instgen_run.specs.Tended.{AreOnce, indexed_of}

-- The pair of an entry

-- a number has one selected literal
one_literal : {S I C : Type 0} (r : Run S I C) (n : ℕ) (k l : Signed ℕ) → IsSelectedLiteral r n k → IsSelectedLiteral r n l → k ≡ l
one_literal r n k l g h =
    let item : g.item ≡ h.item = same_item (at_number (items r) n) g.item h.item g.item_at h.item_at in
    let place : g.place ≡ h.place = same_item (at_number r.selection.places n) g.place h.place g.place_at h.place_at in
    same_item (at_number h.item.0 h.place) k l (ap (λ (x : Item). at_number x.0 h.place) (sym item) ∙ ap (at_number g.item.0) (sym place) ∙ g.literal_at) h.literal_at

selected_literal : {S I C : Type 0} (r : Run S I C) (n a : ℕ) → (h : IsSelectedAtom r n a) → IsSelectedLiteral r n h.literal
selected_literal r n a h = record { item = h.item; place = h.place; item_at = h.item_at; place_at = h.place_at; literal_at = h.literal_at }

one_atom : {S I C : Type 0} (r : Run S I C) (n a b : ℕ) → IsSelectedAtom r n a → IsSelectedAtom r n b → a ≡ b
one_atom r n a b g h = g.atom ∙ ap (λ (l : Signed ℕ). l.atom) (one_literal r n g.literal h.literal (selected_literal r n a g) (selected_literal r n b h)) ∙ sym h.atom

one_sign : {S I C : Type 0} (r : Run S I C) (n : ℕ) (b c : Bool) → IsSigned r n b → IsSigned r n c → b ≡ c
one_sign r n b c (k, g, e) (l, h, f) = sym e ∙ ap (λ (x : Signed ℕ). x.positive) (one_literal r n k l g h) ∙ f

true_is_not_false : true ≡ false → ⊥
true_is_not_false e = cc

same_pair : (p q : Posting) → p.0 ≡ q.0 → p.1 ≡ q.1 → p ≡ q
same_pair p q e f = λ i. (e i, f i)

-- The pair of an entry is removed

module _ {S I C : Type 0} (pairs : I → List Posting) (fits : Forest → I → Type 0) (r : Run S I C) (p s : Partners I C) (n a : ℕ) (selected : IsSelectedAtom r n a) (partners : ArePartners pairs fits r p) where
  -- the pair of n stands in the index of its sign alone, with its atom
  abbrev IsOwn : Posting → Type 0
  IsOwn q = (q.1 ≡ n) → q ≡ (a, n)

  own_positive : (q : Posting) → Contains (pairs p.positive) q → IsOwn q
  own_positive q i e = same_pair q (a, n) (one_atom r n q.0 a (transport (λ m. IsSelectedAtom r m q.0) e (partners.positive_stored q i).2) selected) e

  own_negative : (q : Posting) → Contains (pairs p.negative) q → IsOwn q
  own_negative q i e = same_pair q (a, n) (one_atom r n q.0 a (transport (λ m. IsSelectedAtom r m q.0) e (partners.negative_stored q i).2) selected) e

  module _ (sign : IsSigned r n true) (same : s.negative ≡ p.negative) where
    not_negative : (q : Posting) → Contains (pairs p.negative) q → ¬ (q.1 ≡ n)
    not_negative q i e = true_is_not_false (one_sign r n true false sign (transport (λ m. IsSigned r m false) e (partners.negative_signed q i)))

    back_negative : (q : Posting) → Contains (pairs s.negative) q → Contains (pairs p.negative) q
    back_negative q i = transport (λ x. Contains (pairs x) q) same i

    pub positive_there : Contains (indexed_of pairs p) n → Contains (pairs p.positive) (a, n)
    positive_there i = let (q, e, k) = indexed_pair pairs p n i in elim k [ inl b ↦ transport (Contains (pairs p.positive)) (own_positive q b e) b | inr c ↦ absurd (not_negative q c e) ]

    pub removed_positive : (fit : fits r.entries.bank s.positive) → ((q : Posting) → Contains (pairs s.positive) q ↔ (Contains (pairs p.positive) q × ¬ (q ≡ (a, n)))) → ArePartners pairs fits r s
    removed_positive fit left = record {
      positive_fits = fit;
      negative_fits = transport (fits r.entries.bank) (sym same) partners.negative_fits;
      positive_stored = λ q i. partners.positive_stored q ((left q).0 i).0;
      negative_stored = λ q i. partners.negative_stored q (back_negative q i);
      positive_signed = λ q i. partners.positive_signed q ((left q).0 i).0;
      negative_signed = λ q i. partners.negative_signed q (back_negative q i);
    }

    pub stays_positive : ((q : Posting) → Contains (pairs s.positive) q ↔ (Contains (pairs p.positive) q × ¬ (q ≡ (a, n)))) → (m : ℕ) → Contains (indexed_of pairs s) m ↔ (Contains (indexed_of pairs p) m × ¬ (m ≡ n))
    stays_positive left m = (
      λ i. let (q, e, k) = indexed_pair pairs s m i in elim k [
        | inl b ↦ (transport (Contains (indexed_of pairs p)) e (indexed_by pairs p q (inl ((left q).0 b).0)), λ f. ((left q).0 b).1 (own_positive q ((left q).0 b).0 (e ∙ f)))
        | inr c ↦ (transport (Contains (indexed_of pairs p)) e (indexed_by pairs p q (inr (back_negative q c))), λ f. not_negative q (back_negative q c) (e ∙ f))
      ],
      λ (i, d). let (q, e, k) = indexed_pair pairs p m i in transport (Contains (indexed_of pairs s)) e (indexed_by pairs s q (elim k [
        | inl b ↦ inl ((left q).1 (b, λ f. d (sym e ∙ ap (λ (x : Posting). x.1) f)))
        | inr c ↦ inr (transport (λ x. Contains (pairs x) q) (sym same) c)
      ])),
    )

  module _ (sign : IsSigned r n false) (same : s.positive ≡ p.positive) where
    not_positive : (q : Posting) → Contains (pairs p.positive) q → ¬ (q.1 ≡ n)
    not_positive q i e = true_is_not_false (one_sign r n true false (transport (λ m. IsSigned r m true) e (partners.positive_signed q i)) sign)

    back_positive : (q : Posting) → Contains (pairs s.positive) q → Contains (pairs p.positive) q
    back_positive q i = transport (λ x. Contains (pairs x) q) same i

    pub negative_there : Contains (indexed_of pairs p) n → Contains (pairs p.negative) (a, n)
    negative_there i = let (q, e, k) = indexed_pair pairs p n i in elim k [ inl b ↦ absurd (not_positive q b e) | inr c ↦ transport (Contains (pairs p.negative)) (own_negative q c e) c ]

    pub removed_negative : (fit : fits r.entries.bank s.negative) → ((q : Posting) → Contains (pairs s.negative) q ↔ (Contains (pairs p.negative) q × ¬ (q ≡ (a, n)))) → ArePartners pairs fits r s
    removed_negative fit left = record {
      positive_fits = transport (fits r.entries.bank) (sym same) partners.positive_fits;
      negative_fits = fit;
      positive_stored = λ q i. partners.positive_stored q (back_positive q i);
      negative_stored = λ q i. partners.negative_stored q ((left q).0 i).0;
      positive_signed = λ q i. partners.positive_signed q (back_positive q i);
      negative_signed = λ q i. partners.negative_signed q ((left q).0 i).0;
    }

    pub stays_negative : ((q : Posting) → Contains (pairs s.negative) q ↔ (Contains (pairs p.negative) q × ¬ (q ≡ (a, n)))) → (m : ℕ) → Contains (indexed_of pairs s) m ↔ (Contains (indexed_of pairs p) m × ¬ (m ≡ n))
    stays_negative left m = (
      λ i. let (q, e, k) = indexed_pair pairs s m i in elim k [
        | inl b ↦ (transport (Contains (indexed_of pairs p)) e (indexed_by pairs p q (inl (back_positive q b))), λ f. not_positive q (back_positive q b) (e ∙ f))
        | inr c ↦ (transport (Contains (indexed_of pairs p)) e (indexed_by pairs p q (inr ((left q).0 c).0)), λ f. ((left q).0 c).1 (own_negative q ((left q).0 c).0 (e ∙ f)))
      ],
      λ (i, d). let (q, e, k) = indexed_pair pairs p m i in transport (Contains (indexed_of pairs s)) e (indexed_by pairs s q (elim k [
        | inl b ↦ inl (transport (λ x. Contains (pairs x) q) (sym same) b)
        | inr c ↦ inr ((left q).1 (c, λ f. d (sym e ∙ ap (λ (x : Posting). x.1) f)))
      ])),
    )

-- what is left where the pair was not there
pub none_removed : (ps qs : List Posting) (x : Posting) → (¬ Contains ps x) → qs ≡ ps → (q : Posting) → Contains qs q ↔ (Contains ps q × ¬ (q ≡ x))
none_removed ps qs x n e q = (λ i. let j = transport (λ zs. Contains zs q) e i in (j, λ f. n (transport (Contains ps) f j)), λ (i, d). transport (λ zs. Contains zs q) (sym e) i)

pub what_is_left : {E : Type 0} (res : Result Bool E) (ps qs : List Posting) (x : Posting) → IfOk res (λ r. r ≡ true → Removes x ps qs) → IfOk res (λ r. r ≡ false → (¬ Contains ps x) × (qs ≡ ps))
    → OnOk res ((q : Posting) → Contains qs q ↔ (Contains ps q × ¬ (q ≡ x)))
what_is_left (Ok true) ps qs x there absent = (there refl).1
what_is_left (Ok false) ps qs x there absent = let (n, e) = absent refl in none_removed ps qs x n e
what_is_left (Err e) ps qs x there absent = tt

-- whether the entry was there
pub was_there : {E : Type 0} (res : Result Bool E) (ps qs : List Posting) (x : Posting) (Q : Type 0) → IfOk res (λ r. r ≡ true → Removes x ps qs) → (Contains ps x → Q) → IfOk res (λ r. r ≡ true → Q)
was_there (Ok r) ps qs x Q there f = λ e. f (there e).0
was_there (Err e) ps qs x Q there f = tt

pub is_there : {E : Type 0} (res : Result Bool E) (ps qs : List Posting) (x : Posting) (Q : Type 0) → IfOk res (λ r. r ≡ false → (¬ Contains ps x) × (qs ≡ ps)) → (Q → Contains ps x) → IfOk res (λ r. Q → r ≡ true)
is_there (Ok true) ps qs x Q absent f = λ q. refl
is_there (Ok false) ps qs x Q absent f = λ q. absurd ((absent refl).0 (f q))
is_there (Err e) ps qs x Q absent f = tt

pub on_ok_map : {X E : Type 0} (P Q : Type 0) (r : Result X E) → OnOk r P → (P → Q) → OnOk r Q
on_ok_map P Q (Ok x) p f = f p
on_ok_map P Q (Err e) p f = tt

-- The entry waits again

once_end : (xs : List ℕ) (n : ℕ) → AreOnce xs → (¬ Contains xs n) → AreOnce (xs ++ n ∷ [])
once_end [] n h d = (λ i. contains_in n [] i, tt)
once_end (x ∷ xs) n h d = (
  λ i. elim (in_either x xs (n ∷ []) (contains_in x (xs ++ n ∷ []) i)) [
    | inl a ↦ h.0 (in_contains x xs a)
    | inr b ↦ elim b [ inl e ↦ d (in_contains n (x ∷ xs) (inl (sym e))) | inr c ↦ c ]
  ],
  once_end xs n h.1 (λ i. d (in_contains n (x ∷ xs) (inr (contains_in n xs i)))),
)

module _ {S I C : Type 0} (atoms : S → ℕ) (pairs : I → List Posting) (fits : Forest → I → Type 0) (r : Run S I C) (p s : Partners I C) (n : ℕ) (h : IsOrderly atoms pairs fits r p)
    (within : (0 < n) × (n ≤ length r.selection.places)) (partners : ArePartners pairs fits r s)
    (stays : (m : ℕ) → Contains (indexed_of pairs s) m ↔ (Contains (indexed_of pairs p) m × ¬ (m ≡ n))) where
  worked : AreWorked (entries_of r) r.selection.places (held_of r) (indexed_of pairs s)
  worked i j a b = h.tended.worked i j ((stays i).0 a).0 ((stays j).0 b).0

  pub withdrawn_absent : ¬ Contains (indexed_of pairs s) n
  withdrawn_absent i = ((stays n).0 i).1 refl

  -- it was not in its index
  pub withdrawn_before : (¬ Contains (indexed_of pairs p) n) → IsOrderly atoms pairs fits r s
  withdrawn_before none = record {
    safe = h.safe;
    partners = partners;
    tended = record {
      once = h.tended.once;
      positive = h.tended.positive;
      apart = λ m i j. h.tended.apart m i ((stays m).0 j).0;
      queued = λ i l. elim (h.tended.queued i l) [ inl a ↦ inl a | inr b ↦ inr ((stays (suc i)).1 (b, λ e. none (transport (Contains (indexed_of pairs p)) e b))) ];
      worked = worked;
    };
  }

  -- it was there, and stands at the end of the queue now
  module _ (q : Passive_list) (there : Contains (indexed_of pairs p) n) (put : numbers q.items ≡ numbers r.queue.items ++ n ∷ []) where
    parts : (m : ℕ) → Contains (numbers q.items) m → Contains (numbers r.queue.items) m ⊎ (m ≡ n)
    parts m i = elim (in_either m (numbers r.queue.items) (n ∷ []) (transport (λ xs. m ∈ xs) put (contains_in m (numbers q.items) i))) [
      | inl a ↦ inl (in_contains m (numbers r.queue.items) a)
      | inr b ↦ elim b [ inl e ↦ inr e | inr c ↦ absurd c ]
    ]

    into : (m : ℕ) → Contains (numbers r.queue.items) m ⊎ (m ≡ n) → Contains (numbers q.items) m
    into m i = in_contains m (numbers q.items) (transport (λ xs. m ∈ xs) (sym put) (elim i [
      | inl a ↦ in_left m (numbers r.queue.items) (n ∷ []) (contains_in m (numbers r.queue.items) a)
      | inr e ↦ in_right m (numbers r.queue.items) (n ∷ []) (inl e)
    ]))

    queued : (i : ℕ) → i < length (items r) → Contains (numbers q.items) (suc i) ⊎ Contains (indexed_of pairs s) (suc i)
    queued i l = go (h.tended.queued i l) (ℕ_discrete (suc i) n)
      where
        go : Contains (numbers r.queue.items) (suc i) ⊎ Contains (indexed_of pairs p) (suc i) → Dec (suc i ≡ n) → Contains (numbers q.items) (suc i) ⊎ Contains (indexed_of pairs s) (suc i)
        go (inl a) d = inl (into (suc i) (inl a))
        go (inr b) (yes e) = inl (into (suc i) (inr e))
        go (inr b) (no d) = inr ((stays (suc i)).1 (b, d))

    pub withdrawn_now : IsOrderly atoms pairs fits (record r { queue = q }) s
    withdrawn_now = record {
      safe = record {
        entries = h.safe.entries;
        firsts = h.safe.firsts;
        stored = h.safe.stored;
        numbered = h.safe.numbered;
        notes = h.safe.notes;
        known = h.safe.known;
        count = h.safe.count;
        waiting = in_all (λ m. m ≤ length (items r)) (numbers q.items) (λ m i. elim (parts m (in_contains m (numbers q.items) i)) [
          | inl a ↦ all_in (λ m. m ≤ length (items r)) (numbers r.queue.items) h.safe.waiting m (contains_in m (numbers r.queue.items) a)
          | inr e ↦ let k = h.safe.within in let l = within.1 in omega arith
        ]);
        within = h.safe.within;
        placed = h.safe.placed;
      };
      partners = record {
        positive_fits = partners.positive_fits;
        negative_fits = partners.negative_fits;
        positive_stored = λ x i. let (a, b, c) = partners.positive_stored x i in (a, b, record { item = c.item; place = c.place; literal = c.literal; item_at = c.item_at; place_at = c.place_at; literal_at = c.literal_at; atom = c.atom });
        negative_stored = λ x i. let (a, b, c) = partners.negative_stored x i in (a, b, record { item = c.item; place = c.place; literal = c.literal; item_at = c.item_at; place_at = c.place_at; literal_at = c.literal_at; atom = c.atom });
        positive_signed = λ x i. let (l, c, e) = partners.positive_signed x i in (l, record { item = c.item; place = c.place; item_at = c.item_at; place_at = c.place_at; literal_at = c.literal_at }, e);
        negative_signed = λ x i. let (l, c, e) = partners.negative_signed x i in (l, record { item = c.item; place = c.place; item_at = c.item_at; place_at = c.place_at; literal_at = c.literal_at }, e);
      };
      tended = record {
        once = transport AreOnce (sym put) (once_end (numbers r.queue.items) n h.tended.once (λ i. h.tended.apart n i there));
        positive = in_all (λ m. 0 < m) (numbers q.items) (λ m i. elim (parts m (in_contains m (numbers q.items) i)) [
          | inl a ↦ all_in (λ m. 0 < m) (numbers r.queue.items) h.tended.positive m (contains_in m (numbers r.queue.items) a)
          | inr e ↦ let k = within.0 in omega arith
        ]);
        apart = λ m i j. elim (parts m i) [ inl a ↦ h.tended.apart m a ((stays m).0 j).0 | inr e ↦ ((stays m).0 j).1 e ];
        queued = queued;
        worked = worked;
      };
    }

-- whether it was there or not
pub withdrawn : {S I C : Type 0} (atoms : S → ℕ) (pairs : I → List Posting) (fits : Forest → I → Type 0) (r new : Run S I C) (p s : Partners I C) (n : ℕ) (removed : Bool) → IsOrderly atoms pairs fits r p
    → (0 < n) × (n ≤ length r.selection.places) → ArePartners pairs fits r s → ((m : ℕ) → Contains (indexed_of pairs s) m ↔ (Contains (indexed_of pairs p) m × ¬ (m ≡ n)))
    → (removed ≡ true → Contains (indexed_of pairs p) n) → (Contains (indexed_of pairs p) n → removed ≡ true) → Requeues r new n removed → IsOrderly atoms pairs fits new s
withdrawn atoms pairs fits r new p s n true h within partners stays there absent (e, put) =
    transport (λ x. IsOrderly atoms pairs fits x s) (sym e) (withdrawn_now atoms pairs fits r p s n h within partners stays new.queue (there refl) put)
withdrawn atoms pairs fits r new p s n false h within partners stays there absent e =
    transport (λ x. IsOrderly atoms pairs fits x s) (sym e) (withdrawn_before atoms pairs fits r p s n h within partners stays (λ i. true_is_not_false (sym (absent i))))

-- The entry chooses another literal

at_number_set_other : {X : Type 0} (xs : List X) (k m : ℕ) (x : X) → ¬ (m ≡ suc k) → at_number (set xs k x) m ≡ at_number xs m
at_number_set_other xs k zero x d = refl
at_number_set_other xs k (suc m) x d = slice_get_set_other xs k m x (λ e. d (ap suc e))

number_before : (n : ℕ) → 0 < n → n ≡ suc (n - 1)
number_before n l = omega arith

item_before : {X : Type 0} (xs : List X) (n : ℕ) (x : X) → at_number xs n ≡ Some x → slice_get xs (n - 1) ≡ Some x
item_before xs zero x e = absurd cc
item_before xs (suc k) x e = ap (slice_get xs) (let q : suc k - 1 ≡ k = omega arith in q) ∙ e

pub place_there : {X : Type 0} (c : List X) (p : ℕ) → (0 < p) × (p ≤ length c) → (l : X) × (at_number c p ≡ Some l)
place_there c zero h = absurd (omega (arith, h.0))
place_there c (suc k) h = slice_get_there c k (let m = h.1 in omega arith)

-- a clause of numbers has as many literals as its entry
pub same_length : (literals : List (List (Signed ℕ))) (es : List Item) (i : ℕ) (clause : List (Signed ℕ)) (item : Item) → map (λ (c : List (Signed ℕ)). length c) literals ≡ map (λ (e : Item). length e.0) es
    → slice_get literals i ≡ Some clause → slice_get es i ≡ Some item → length clause ≡ length item.0
same_length literals es i clause item lengths p q =
    same_Some (length clause) (length item.0)
    (sym (slice_get-map (λ (c : List (Signed ℕ)). length c) literals i ∙ ap (option_map (λ (c : List (Signed ℕ)). length c)) p) ∙ ap (λ xs. slice_get xs i) lengths ∙ slice_get-map (λ (e : Item). length e.0) es i ∙ ap (option_map (λ (e : Item). length e.0)) q)

pub old_place : {S I C : Type 0} (r : Run S I C) (bits : List Bool) (n old : ℕ) (clause : List (Signed ℕ)) → AreSelectable r bits → ((i : ℕ) → i < length r.selection.places → IsLiteralPlace (items r) r.selection.places i)
    → (0 < n) × (n ≤ length r.selection.places) → at_number r.selection.places n ≡ Some old → at_number r.ground.literals n ≡ Some clause → (0 < old) × (old ≤ length clause)
old_place r bits zero old clause selectable placed within p q = absurd (omega (arith, within.0))
old_place r bits (suc i) old clause selectable placed within p q =
    let h = placed i (let m = within.1 in omega arith) in
    let same : h.place ≡ old = same_item (slice_get r.selection.places i) h.place old h.place_at p in
    let long : length clause ≡ length h.item.0 = same_length r.ground.literals (items r) i clause h.item selectable.lengths q h.item_at in
    let k = place_positive h.item.0 h.place h.literal h.literal_at in
    (transport (λ x. 0 < x) same k.0, transport (λ x. x ≤ length clause) same (transport (λ m. h.place ≤ m) (sym long) k.1))

module _ {S I C : Type 0} (atoms : S → ℕ) (pairs : I → List Posting) (fits : Forest → I → Type 0) (r : Run S I C) (p : Partners I C) (bits : List Bool) (n place atom : ℕ) (clause : List (Signed ℕ))
    (h : IsOrderly atoms pairs fits r p) (selectable : AreSelectable r bits) (within : (0 < n) × (n ≤ length r.selection.places)) (absent : ¬ Contains (indexed_of pairs p) n)
    (numbered_at : at_number r.ground.literals n ≡ Some clause) (choice : IsChoice clause bits place atom) (users : List (List ℕ)) where
  abbrev later : Placing
  later = record { places = set r.selection.places (n - 1) place; users = users }

  kept : (m : ℕ) → ¬ (m ≡ n) → at_number (set r.selection.places (n - 1) place) m ≡ at_number r.selection.places m
  kept m d = at_number_set_other r.selection.places (n - 1) m place (λ e. d (e ∙ sym (number_before n within.0)))

  literal_place : (k : ℕ) → k < length r.selection.places → slice_get r.ground.literals k ≡ Some clause → (i : ℕ) → i < length r.selection.places → IsLiteralPlace (items r) (set r.selection.places k place) i
  literal_place k w e i l = go (ℕ_discrete i k) (h.safe.placed i l)
    where
      go : Dec (i ≡ k) → IsLiteralPlace (items r) r.selection.places i → IsLiteralPlace (items r) (set r.selection.places k place) i
      go (yes q) g =
          let long : length clause ≡ length g.item.0 = same_length r.ground.literals (items r) k clause g.item selectable.lengths e (ap (slice_get (items r)) (sym q) ∙ g.item_at) in
          let inside = place_positive clause place choice.0 choice.1 in
          let (l, at) = place_there g.item.0 place (inside.0, transport (λ m. place ≤ m) long inside.1) in
          record { item = g.item; place = place; literal = l; item_at = g.item_at; place_at = ap (slice_get (set r.selection.places k place)) q ∙ slice_get_set r.selection.places k place w; literal_at = at }
      go (no d) g = record { item = g.item; place = g.place; literal = g.literal; item_at = g.item_at; place_at = slice_get_set_other r.selection.places k i place d ∙ g.place_at; literal_at = g.literal_at }

  selected_stays : (q : Posting) → Contains (indexed_of pairs p) q.1 → IsStored r q → IsStored (record r { selection = later }) q
  selected_stays q i (a, b, c) = (
    a,
    transport (λ m. q.1 ≤ m) (sym (length-set r.selection.places (n - 1) place)) b,
    record { item = c.item; place = c.place; literal = c.literal; item_at = c.item_at; place_at = kept q.1 (λ e. absent (transport (Contains (indexed_of pairs p)) e i)) ∙ c.place_at; literal_at = c.literal_at; atom = c.atom },
  )

  signed_stays : (q : Posting) (b : Bool) → Contains (indexed_of pairs p) q.1 → IsSigned r q.1 b → IsSigned (record r { selection = later }) q.1 b
  signed_stays q b i (l, c, e) = (l, record { item = c.item; place = c.place; item_at = c.item_at; place_at = kept q.1 (λ e. absent (transport (Contains (indexed_of pairs p)) e i)) ∙ c.place_at; literal_at = c.literal_at }, e)

  append_none : {X : Type 0} (xs : List X) → xs ++ [] ≡ xs
  append_none [] = refl
  append_none (x ∷ xs) = ap (λ ys. x ∷ ys) (append_none xs)

  pub selected_orderly : IsOrderly atoms pairs fits (record r { selection = later }) p
  selected_orderly = record {
    safe = record {
      entries = h.safe.entries;
      firsts = h.safe.firsts;
      stored = h.safe.stored;
      numbered = h.safe.numbered;
      notes = h.safe.notes;
      known = h.safe.known;
      count = h.safe.count;
      waiting = h.safe.waiting;
      within = transport (λ m. m ≤ length (items r)) (sym (length-set r.selection.places (n - 1) place)) h.safe.within;
      placed = λ i l. literal_place (n - 1) (let a = within.0 in let b = within.1 in omega arith) (item_before r.ground.literals n clause numbered_at) i (transport (λ m. i < m) (length-set r.selection.places (n - 1) place) l);
    };
    partners = record {
      positive_fits = h.partners.positive_fits;
      negative_fits = h.partners.negative_fits;
      positive_stored = λ q i. selected_stays q (indexed_by pairs p q (inl i)) (h.partners.positive_stored q i);
      negative_stored = λ q i. selected_stays q (indexed_by pairs p q (inr i)) (h.partners.negative_stored q i);
      positive_signed = λ q i. signed_stays q true (indexed_by pairs p q (inl i)) (h.partners.positive_signed q i);
      negative_signed = λ q i. signed_stays q false (indexed_by pairs p q (inr i)) (h.partners.negative_signed q i);
    };
    tended = record {
      once = h.tended.once;
      positive = h.tended.positive;
      apart = h.tended.apart;
      queued = h.tended.queued;
      worked = λ i j a b. transport (λ es. IsWorked es (set r.selection.places (n - 1) place) (held_of r) i j) (append_none (entries_of r))
          (pair_stays_worked (entries_of r) [] r.selection.places (set r.selection.places (n - 1) place) (held_of r) (held_of r) i j (in_all (Contains (held_of r)) (held_of r) (λ x k. in_contains x (held_of r) k))
          (within_entries i a) (within_entries j b) (kept i (λ e. absent (transport (Contains (indexed_of pairs p)) e a))) (kept j (λ e. absent (transport (Contains (indexed_of pairs p)) e b))) (h.tended.worked i j a b));
    };
  }
    where
      within_entries : (m : ℕ) → Contains (indexed_of pairs p) m → m ≤ length (entries_of r)
      within_entries m i =
          let (q, e, k) = indexed_pair pairs p m i in
          let l : q.1 ≤ length r.selection.places = elim k [ inl a ↦ (h.partners.positive_stored q a).1 | inr b ↦ (h.partners.negative_stored q b).1 ] in
          let long : length (entries_of r) ≡ length (items r) = length_map (λ (x : Item). record { clause = clause_at r.entries.bank x.0; origin = origin_of x.1 }) (items r) in
          let w : length r.selection.places ≤ length (items r) = h.safe.within in
          transport (λ x. x ≤ length (entries_of r)) e (omega arith)

module _ {S I C : Type 0} (atoms : S → ℕ) (pairs : I → List Posting) (fits : Forest → I → Type 0) (old mid : Run S I C) (p : Partners I C) (rest : mid ≡ record old { queue = mid.queue })
    (bits : List Bool) (n place atom : ℕ) (clause : List (Signed ℕ)) (selectable : AreSelectable old bits) (within : (0 < n) × (n ≤ length old.selection.places))
    (numbered_at : at_number old.ground.literals n ≡ Some clause) (choice : IsChoice clause bits place atom)
    (s : Placing) (made : s ≡ record { places = set mid.selection.places (n - 1) place; users = set mid.selection.users atom (get_or mid.selection.users atom [] ++ n ∷ []) }) where
  mid_selectable : AreSelectable mid bits
  mid_selectable = transport (λ x. AreSelectable x bits) (sym rest) (record { lengths = selectable.lengths; hold = selectable.hold; below = selectable.below; placed = selectable.placed })

  pub reselected_orderly : IsOrderly atoms pairs fits mid p → (¬ Contains (indexed_of pairs p) n) → IsOrderly atoms pairs fits (record mid { selection = s }) p
  reselected_orderly h absent = transport (λ x. IsOrderly atoms pairs fits (record mid { selection = x }) p) (sym made)
      (selected_orderly atoms pairs fits mid p bits n place atom clause h mid_selectable (transport (λ x. (0 < n) × (n ≤ length x.selection.places)) (sym rest) within) absent
      (transport (λ x. at_number x.ground.literals n ≡ Some clause) (sym rest) numbered_at) choice (set mid.selection.users atom (get_or mid.selection.users atom [] ++ n ∷ [])))

  below : atom < length old.selection.users
  below = transport (λ m. m < length old.selection.users) choice.3 (chosen_below old.ground.literals (length old.selection.users) (n - 1) clause place choice.0 selectable.below (item_before old.ground.literals n clause numbered_at) choice.1)

  inside : n - 1 < length old.selection.places
  inside = let a = within.0 in let b = within.1 in omega arith

  at_index : slice_get old.ground.literals (n - 1) ≡ Some clause
  at_index = item_before old.ground.literals n clause numbered_at

  -- in the words of the step from an index
  stepped : s ≡ chosen old.ground.literals bits old.selection (n - 1) place atom clause inside at_index choice below
  stepped = made ∙ ap (λ (x : Run S I C). record { places = set x.selection.places (n - 1) place; users = set x.selection.users atom (get_or x.selection.users atom [] ++ n ∷ []) }) rest
      ∙ ap (λ m. record { places = set old.selection.places (n - 1) place; users = set old.selection.users atom (get_or old.selection.users atom [] ++ m ∷ []) }) (number_before n within.0)

  pub reselected_under_way : (left others : List ℕ) → IsUnderWay old.ground.literals bits left (n ∷ others) old.selection → IsUnderWay old.ground.literals bits left others s
  reselected_under_way left others h = transport (IsUnderWay old.ground.literals bits left others) (sym stepped)
      (chosen_under_way old.ground.literals bits old.selection (n - 1) place atom clause inside at_index choice below left others (transport (λ m. IsUnderWay old.ground.literals bits left (m ∷ others) old.selection) (number_before n within.0) h))

  pub reselected_selectable : AreSelectable (record mid { selection = s }) bits
  reselected_selectable = record {
    lengths = mid_selectable.lengths;
    hold = mid_selectable.hold;
    below = transport (λ m. AllAtomsBelow m mid.ground.literals) (ap (λ (x : Run S I C). length x.selection.users) rest ∙ sym (ap (λ (x : Placing). length x.users) stepped ∙ length-set old.selection.users atom (get_or old.selection.users atom [] ++ suc (n - 1) ∷ []))) mid_selectable.below;
    placed = transport AreNumbersPlaced (sym stepped) (chosen_numbers old.ground.literals bits old.selection (n - 1) place atom clause inside at_index choice below selectable.placed);
  }

-- Lists of users change

module _ {S I C : Type 0} (atoms : S → ℕ) (pairs : I → List Posting) (fits : Forest → I → Type 0) (r : Run S I C) (p : Partners I C) (h : IsOrderly atoms pairs fits r p) (us : List (List ℕ)) where
  stored_with : (q : Posting) → IsStored r q → IsStored (record r { selection = record { places = r.selection.places; users = us } }) q
  stored_with q (a, b, c) = (a, b, record { item = c.item; place = c.place; literal = c.literal; item_at = c.item_at; place_at = c.place_at; literal_at = c.literal_at; atom = c.atom })

  signed_with : (n : ℕ) (b : Bool) → IsSigned r n b → IsSigned (record r { selection = record { places = r.selection.places; users = us } }) n b
  signed_with n b (l, c, e) = (l, record { item = c.item; place = c.place; item_at = c.item_at; place_at = c.place_at; literal_at = c.literal_at }, e)

  orderly_with : IsOrderly atoms pairs fits (record r { selection = record { places = r.selection.places; users = us } }) p
  orderly_with = record {
    safe = record { entries = h.safe.entries; firsts = h.safe.firsts; stored = h.safe.stored; numbered = h.safe.numbered; notes = h.safe.notes; known = h.safe.known; count = h.safe.count; waiting = h.safe.waiting; within = h.safe.within; placed = h.safe.placed };
    partners = record {
      positive_fits = h.partners.positive_fits;
      negative_fits = h.partners.negative_fits;
      positive_stored = λ q i. stored_with q (h.partners.positive_stored q i);
      negative_stored = λ q i. stored_with q (h.partners.negative_stored q i);
      positive_signed = λ q i. signed_with q.1 true (h.partners.positive_signed q i);
      negative_signed = λ q i. signed_with q.1 false (h.partners.negative_signed q i);
    };
    tended = record { once = h.tended.once; positive = h.tended.positive; apart = h.tended.apart; queued = h.tended.queued; worked = h.tended.worked };
  }

  pub orderly_users : (s : Placing) → s ≡ record { places = r.selection.places; users = us } → IsOrderly atoms pairs fits (record r { selection = s }) p
  orderly_users s e = transport (λ x. IsOrderly atoms pairs fits (record r { selection = x }) p) (sym e) orderly_with

module _ {S I C : Type 0} (r : Run S I C) (bits : List Bool) (selectable : AreSelectable r bits) (a : ℕ) (below : a < length r.selection.users) (s : Placing)
    (made : s ≡ record { places = r.selection.places; users = set r.selection.users a [] }) where
  pub taken_selectable : AreSelectable (record r { selection = s }) bits
  taken_selectable = transport (λ x. AreSelectable (record r { selection = x }) bits) (sym made) (record {
    lengths = selectable.lengths;
    hold = selectable.hold;
    below = transport (λ m. AllAtomsBelow m r.ground.literals) (sym (length-set r.selection.users a [])) selectable.below;
    placed = taken_numbers r.ground.literals bits r.selection a below selectable.placed;
  })

  pub taken_away : (entries left : List ℕ) → slice_get r.selection.users a ≡ Some entries → IsUnderWay r.ground.literals bits (a ∷ left) [] r.selection → IsUnderWay r.ground.literals bits left entries s
  taken_away entries left e h = transport (IsUnderWay r.ground.literals bits left entries) (sym made) (taken_under_way r.ground.literals bits r.selection a entries left e h)

  pub taken_reselects : (new : Run S I C) → Reselects (record r { selection = s }) new → Reselects r new
  taken_reselects new h = record {
    rest = h.rest;
    count = h.count ∙ ap (λ (x : Placing). length x.places) made;
    users = h.users ∙ ap (λ (x : Placing). length x.users) made ∙ length-set r.selection.users a [];
  }

-- One call after the other

pub reselects_more : {S I C : Type 0} (old mid new : Run S I C) → Reselects old mid → Reselects mid new → Reselects old new
reselects_more {S} {I} {C} old mid new g h = record { rest = h.rest ∙ ap (λ (x : Run S I C). record x { selection = new.selection; queue = new.queue }) g.rest; count = h.count ∙ g.count; users = h.users ∙ g.users }

pub under_way_on : {S I C : Type 0} (old mid : Run S I C) → Reselects old mid → (A B : List (List (Signed ℕ)) → Type 0) → (A mid.ground.literals → B mid.ground.literals) → A old.ground.literals → B old.ground.literals
under_way_on {S} {I} {C} old mid h A B f a = let same = ap (λ (x : Run S I C). x.ground.literals) h.rest in transport B same (f (transport A (sym same) a))
