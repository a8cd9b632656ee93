-- What is worked and stored is tended.
use Rattle.std.proofs.Common.{◌≡◌, ◌⊎◌, ◌↔◌, inl, inr, ℕ, zero, suc, ◌+◌, ◌<◌, ◌≤◌, List, [], ◌∷◌, ◌++◌, refl, sym, ap, ◌∙◌, subst as transport, length, arith, All, Contains, Bool, true, false, Some}
use Rattle.std.specs.Prelude.{OnOk, Result, Ok, Err}
use Rattle.inst_logic.specs.declared.signed.Signed.{Signed}
use Rattle.inst_logic.specs.Tree.{Tree}
use Rattle.inst_logic.specs.Derivations.{at_number}
use Rattle.inst_calculus.specs.Entries.{Entry}
use Rattle.inst_calculus.specs.Models.{SelectedClause}
use Rattle.inst_calculus.proofs.Membership.{◌∈◌, contains_in, in_contains, in_all, all_in, in_left, in_right, in_either, in_map, from_map}
use Rattle.engine_laws.specs.Places.{IsPlaced}
use Rattle.engine_laws.specs.Pairs.{IsWorked}
use Rattle.inst_calculus.proofs.Items.{same_item}
use Rattle.engine_laws.proofs.WorkedPairs.{one_more_is_worked}
use Rattle.term_bank.specs.Forest.{Forest, tree_at, clause_at}
use Rattle.term_index.specs.Pairs.{Posting, Adds}
use Rattle.instgen_select.specs.Passives.{Passive_list}
use Rattle.instgen_select.specs.Queues.{numbers}
use Rattle.cert_values.specs.Values.{origin_of}
use Rattle.instgen_run.specs.declared.state.Run.{Run}
use Rattle.instgen_run.specs.declared.queue.Partners.{Partners}
use Rattle.instgen_run.specs.Clauses.{Item, AreEntries}
use Rattle.instgen_run.specs.Loops.{items, held_of, Goes, after, IsSigned, IsPairWorked, ArePartners, IsStored, IsSelectedAtom}
use Rattle.instgen_run.specs.Running.{entries_of}
use Rattle.instgen_run.specs.Tended.{AreTended, AreOnce, indexed_of}
use Rattle.instgen_run.proofs.Works.{at_number_map, pair_stays}
use Rattle.instgen_run.proofs.Waiting.{IsTaken, there as was_there, kept, others}
use Rattle.instgen_run.proofs.Opposites.{signed_stays}

-- Same signs

placed_sign : {S I C : Type 0} (r : Run S I C) (n : ℕ) (b : Bool) (m : SelectedClause) → IsSigned r n b → IsPlaced (entries_of r) r.selection.places n m → m.selected.positive ≡ b
placed_sign r n b m (l, h, e) k =
    let f = r.entries.bank in
    let entry = at_number_map (λ (x : Item). record { clause = clause_at f x.0; origin = origin_of x.1 }) (items r) n h.item h.item_at in
    let same = same_item (at_number (entries_of r) n) k.entry (record { clause = clause_at f h.item.0; origin = origin_of h.item.1 }) k.entry_at entry in
    let q : k.place ≡ h.place = same_item (at_number r.selection.places n) k.place h.place k.place_at h.place_at in
    let literal : at_number (clause_at f h.item.0) h.place ≡ Some (record { positive = l.positive; atom = tree_at f l.atom }) =
    at_number_map (λ (x : Signed ℕ). record { positive = x.positive; atom = tree_at f x.atom }) h.item.0 h.place l h.literal_at in
    ap (λ (x : Signed Tree). x.positive) (same_item (at_number k.entry.clause k.place) m.selected (record { positive = l.positive; atom = tree_at f l.atom }) k.selected
    (ap (λ (x : Entry). at_number x.clause k.place) same ∙ ap (at_number (clause_at f h.item.0)) q ∙ literal)) ∙ e

pub same_sign_worked : {S I C : Type 0} (r : Run S I C) (i j : ℕ) (b : Bool) → IsSigned r i b → IsSigned r j b → IsPairWorked r i j
same_sign_worked r i j b h k = (
  λ m n l o opposite s g p. absurd (opposite (placed_sign r i b m h l ∙ sym (placed_sign r j b n k o))),
  λ n m o l opposite s g p. absurd (opposite (placed_sign r j b n k o ∙ sym (placed_sign r i b m h l))),
)

-- Entries of the indexes

module _ {I C : Type 0} (pairs : I → List Posting) (p : Partners I C) where
  pub indexed_pair : (n : ℕ) → Contains (indexed_of pairs p) n → (q : Posting) × (q.1 ≡ n) × (Contains (pairs p.positive) q ⊎ Contains (pairs p.negative) q)
  indexed_pair n h =
      let (q, i, e) = from_map (λ (x : Posting). x.1) n (pairs p.positive ++ pairs p.negative) (contains_in n (indexed_of pairs p) h) in
      (q, e, elim (in_either q (pairs p.positive) (pairs p.negative) i) [ inl a ↦ inl (in_contains q (pairs p.positive) a) | inr b ↦ inr (in_contains q (pairs p.negative) b) ])

  pub indexed_by : (q : Posting) → Contains (pairs p.positive) q ⊎ Contains (pairs p.negative) q → Contains (indexed_of pairs p) q.1
  indexed_by q h = in_contains q.1 (indexed_of pairs p) (in_map (λ (x : Posting). x.1) q (pairs p.positive ++ pairs p.negative)
      (elim h [ inl a ↦ in_left q (pairs p.positive) (pairs p.negative) (contains_in q (pairs p.positive) a) | inr b ↦ in_right q (pairs p.positive) (pairs p.negative) (contains_in q (pairs p.negative) b) ]))

-- Queues without repeats

once_split : (xs : List ℕ) (n : ℕ) (ys : List ℕ) → AreOnce (xs ++ n ∷ ys) → AreOnce (xs ++ ys) × (¬ Contains (xs ++ ys) n)
once_split [] n ys h = (h.1, h.0)
once_split (x ∷ xs) n ys h =
    let (a, b) = once_split xs n ys h.1 in (
      (λ i. h.0 (in_contains x (xs ++ n ∷ ys) (elim (in_either x xs ys (contains_in x (xs ++ ys) i)) [ inl k ↦ in_left x xs (n ∷ ys) k | inr k ↦ in_right x xs (n ∷ ys) (inr k) ])), a),
      λ i. elim (contains_in n (x ∷ (xs ++ ys)) i) [ inl e ↦ h.0 (in_contains x (xs ++ n ∷ ys) (in_right x xs (n ∷ ys) (inl (sym e)))) | inr k ↦ b (in_contains n (xs ++ ys) k) ],
    )

pub above : (k n m : ℕ) → m ∈ after k n → k < m
above k zero m i = absurd i
above k (suc n) m (inl e) = omega arith
above k (suc n) m (inr i) = let h = above (suc k) n m i in omega arith

pub there : (k n m : ℕ) → k < m → m ≤ k + n → m ∈ after k n
there k zero m a b = absurd (omega arith)
there k (suc n) m a b = elim (same_or_above (suc k) m (omega arith)) [ inl e ↦ inl e | inr l ↦ inr (there (suc k) n m l (omega arith)) ]
  where
    same_or_above : (j m : ℕ) → j ≤ m → (m ≡ j) ⊎ (j < m)
    same_or_above zero zero h = inl refl
    same_or_above zero (suc m) h = inr (omega arith)
    same_or_above (suc j) zero h = absurd (omega arith)
    same_or_above (suc j) (suc m) h = elim (same_or_above j m (omega arith)) [ inl e ↦ inl (ap suc e) | inr l ↦ inr (omega arith) ]

pub after_once : (k n : ℕ) → AreOnce (after k n)
after_once k zero = tt
after_once k (suc n) = (λ i. let h = above (suc k) n (suc k) (contains_in (suc k) (after (suc k) n) i) in omega arith, after_once (suc k) n)

once_joined : (xs : List ℕ) (k n : ℕ) → AreOnce xs → ((x : ℕ) → x ∈ xs → x ≤ k) → AreOnce (xs ++ after k n)
once_joined [] k n h b = after_once k n
once_joined (x ∷ xs) k n h b = (
  λ i. elim (in_either x xs (after k n) (contains_in x (xs ++ after k n) i)) [ inl a ↦ h.0 (in_contains x xs a) | inr c ↦ let l = above k n x c in let m = b x (inl refl) in omega arith ],
  once_joined xs k n h.1 (λ y i. b y (inr i)),
)

-- what was there, and what was taken out and is stored
pub tended_on : {S I C : Type 0} (pairs : I → List Posting) (old new : Run S I C) (q : Passive_list) (p s : Partners I C) (n : ℕ) → IsTaken old.queue.items q.items n → Goes (record old { queue = q }) new
    → AreEntries old.entries.bank (items old) → All (λ k. k ≤ length (items old)) (numbers old.queue.items) → ((m : ℕ) → Contains (indexed_of pairs p) m → m ≤ length (items old))
    → ((m : ℕ) → Contains (indexed_of pairs p) m → IsPairWorked new n m) → ((m : ℕ) → Contains (indexed_of pairs s) m ↔ ((m ≡ n) ⊎ Contains (indexed_of pairs p) m)) → AreTended pairs old p → AreTended pairs new s
tended_on pairs old new q p s n picked goes entries waiting within now stored h = record {
  once = transport AreOnce (sym queue) (once_joined (numbers q.items) k count rest.0 (λ x i. below x (from_rest x i)));
  positive = in_all (λ x. 0 < x) (numbers new.queue.items) (λ x i. elim (parts x (in_contains x (numbers new.queue.items) i)) [ inl a ↦ all_in (λ x. 0 < x) (numbers old.queue.items) h.positive x (contains_in x (numbers old.queue.items) (from_rest x a)) | inr b ↦ let l = above k count x b in omega arith ]);
  apart = λ x i j. elim (parts x i) [ inl a ↦ old_apart x a ((stored x).0 j) | inr b ↦ new_apart x (above k count x b) ((stored x).0 j) ];
  queued = λ i l. go i l (low_or_high i k);
  worked = λ i j a b. one_more_is_worked (entries_of new) new.selection.places (held_of new) (indexed_of pairs p) n
      (λ x y c d. (pair_stays (record old { queue = q }) new goes entries x y (within x c) (within y d) (h.worked x y c d, h.worked y x d c)).0)
      (in_all (λ m. IsWorked (entries_of new) new.selection.places (held_of new) n m × IsWorked (entries_of new) new.selection.places (held_of new) m n) (indexed_of pairs p) (λ m i. now m (in_contains m (indexed_of pairs p) i)))
      i j (front i a) (front j b);
}
  where
    k : ℕ
    k = length (items old)

    count : ℕ
    count = goes.waits.0

    total : count + k ≡ length (items new)
    total = goes.waits.1

    queue : numbers new.queue.items ≡ numbers q.items ++ after k count
    queue = goes.waits.2

    rest : AreOnce (numbers q.items) × (¬ Contains (numbers q.items) n)
    rest = transport (λ zs. AreOnce zs × (¬ Contains zs n)) (sym picked.after) (once_split picked.front n picked.back (transport AreOnce picked.before h.once))

    from_rest : (x : ℕ) → x ∈ numbers q.items → Contains (numbers old.queue.items) x
    from_rest x i = kept old.queue.items q.items n picked x (in_contains x (numbers q.items) i)

    below : (x : ℕ) → Contains (numbers old.queue.items) x → x ≤ k
    below x i = all_in (λ y. y ≤ k) (numbers old.queue.items) waiting x (contains_in x (numbers old.queue.items) i)

    parts : (x : ℕ) → Contains (numbers new.queue.items) x → (x ∈ numbers q.items) ⊎ (x ∈ after k count)
    parts x i = in_either x (numbers q.items) (after k count) (transport (λ zs. x ∈ zs) queue (contains_in x (numbers new.queue.items) i))

    into : (x : ℕ) → (x ∈ numbers q.items) ⊎ (x ∈ after k count) → Contains (numbers new.queue.items) x
    into x i = in_contains x (numbers new.queue.items) (transport (λ zs. x ∈ zs) (sym queue) (elim i [ inl a ↦ in_left x (numbers q.items) (after k count) a | inr b ↦ in_right x (numbers q.items) (after k count) b ]))

    old_apart : (x : ℕ) → x ∈ numbers q.items → (x ≡ n) ⊎ Contains (indexed_of pairs p) x → ⊥
    old_apart x a (inl e) = rest.1 (transport (Contains (numbers q.items)) e (in_contains x (numbers q.items) a))
    old_apart x a (inr i) = h.apart x (from_rest x a) i

    new_apart : (x : ℕ) → k < x → (x ≡ n) ⊎ Contains (indexed_of pairs p) x → ⊥
    new_apart x l (inl e) = let m = below n (was_there old.queue.items q.items n picked) in omega arith
    new_apart x l (inr i) = let m = within x i in omega arith

    front : (m : ℕ) → Contains (indexed_of pairs s) m → Contains (n ∷ indexed_of pairs p) m
    front m i = in_contains m (n ∷ indexed_of pairs p) (elim ((stored m).0 i) [ inl e ↦ inl e | inr j ↦ inr (contains_in m (indexed_of pairs p) j) ])

    low_or_high : (i j : ℕ) → (i < j) ⊎ (j ≤ i)
    low_or_high zero zero = inr (omega arith)
    low_or_high zero (suc j) = inl (omega arith)
    low_or_high (suc i) zero = inr (omega arith)
    low_or_high (suc i) (suc j) = elim (low_or_high i j) [ inl l ↦ inl (omega arith) | inr l ↦ inr (omega arith) ]

    old_one : (i : ℕ) → Contains (numbers old.queue.items) (suc i) ⊎ Contains (indexed_of pairs p) (suc i) → Contains (numbers new.queue.items) (suc i) ⊎ Contains (indexed_of pairs s) (suc i)
    old_one i (inl a) = elim (others old.queue.items q.items n picked (suc i) a) [ inl e ↦ inr ((stored (suc i)).1 (inl e)) | inr b ↦ inl (into (suc i) (inl (contains_in (suc i) (numbers q.items) b))) ]
    old_one i (inr b) = inr ((stored (suc i)).1 (inr b))

    go : (i : ℕ) → i < length (items new) → (i < k) ⊎ (k ≤ i) → Contains (numbers new.queue.items) (suc i) ⊎ Contains (indexed_of pairs s) (suc i)
    go i l (inl m) = old_one i (h.queued i m)
    go i l (inr m) = inl (into (suc i) (inr (there k count (suc i) (omega arith) (let e = total in omega arith))))

-- what was worked with the other sign is worked with all
pub worked_with_all : {S I C : Type 0} (pairs : I → List Posting) (old new : Run S I C) (p : Partners I C) (n : ℕ) (b : Bool) (same other : List Posting) → Goes old new → AreEntries old.entries.bank (items old)
    → IsSigned old n b → ((q : Posting) → Contains same q → IsSigned old q.1 b) → ((q : Posting) → Contains (pairs p.positive) q ⊎ Contains (pairs p.negative) q → Contains same q ⊎ Contains other q)
    → ((q : Posting) → Contains other q → IsPairWorked new n q.1) → (m : ℕ) → Contains (indexed_of pairs p) m → IsPairWorked new n m
worked_with_all pairs old new p n b same other goes entries sign signs parts worked m i =
    let (q, e, h) = indexed_pair pairs p m i in
    transport (IsPairWorked new n) e (elim (parts q h) [ inl a ↦ same_sign_worked new n q.1 b (signed_stays old new goes n b sign) (signed_stays old new goes q.1 b (signs q a)) | inr c ↦ worked q c ])

-- the entries of the indexes have numbers of entries with places
pub indexed_within : {S I C : Type 0} (pairs : I → List Posting) (fits : Forest → I → Type 0) (r : Run S I C) (p : Partners I C) → ArePartners pairs fits r p → (m : ℕ) → Contains (indexed_of pairs p) m → m ≤ length r.selection.places
indexed_within pairs fits r p h m i =
    let (q, e, k) = indexed_pair pairs p m i in
    transport (λ x. x ≤ length r.selection.places) e (elim k [ inl a ↦ (h.positive_stored q a).1 | inr b ↦ (h.negative_stored q b).1 ])

-- One more pair

module _ {S I C : Type 0} (pairs : I → List Posting) (fits : Forest → I → Type 0) (r : Run S I C) (p s : Partners I C) (n a : ℕ) (within : (0 < n) × (n ≤ length r.selection.places)) (selected : IsSelectedAtom r n a) (partners : ArePartners pairs fits r p) where
  module _ (sign : IsSigned r n true) (fit : fits r.entries.bank s.positive) (adds : Adds (a, n) (pairs p.positive) (pairs s.positive)) (same : s.negative ≡ p.negative) where
    pub partners_positive : ArePartners pairs fits r s
    partners_positive = record {
      positive_fits = fit;
      negative_fits = transport (fits r.entries.bank) (sym same) partners.negative_fits;
      positive_stored = λ q i. elim ((adds q).0 i) [ inl e ↦ transport (IsStored r) (sym e) (within.0, within.1, selected) | inr j ↦ partners.positive_stored q j ];
      negative_stored = λ q i. partners.negative_stored q (transport (λ x. Contains (pairs x) q) same i);
      positive_signed = λ q i. elim ((adds q).0 i) [ inl e ↦ transport (λ (x : Posting). IsSigned r x.1 true) (sym e) sign | inr j ↦ partners.positive_signed q j ];
      negative_signed = λ q i. partners.negative_signed q (transport (λ x. Contains (pairs x) q) same i);
    }

    pub stored_positive : (m : ℕ) → Contains (indexed_of pairs s) m ↔ ((m ≡ n) ⊎ Contains (indexed_of pairs p) m)
    stored_positive m = (
      λ i. let (q, e, k) = indexed_pair pairs s m i in elim k [ inl b ↦ new q e ((adds q).0 b) | inr c ↦ inr (transport (Contains (indexed_of pairs p)) e (indexed_by pairs p q (inr (transport (λ x. Contains (pairs x) q) same c)))) ],
      λ i. elim i [ inl e ↦ transport (Contains (indexed_of pairs s)) (sym e) (indexed_by pairs s (a, n) (inl ((adds (a, n)).1 (inl refl)))) | inr j ↦ old j ],
    )
      where
        new : (q : Posting) → q.1 ≡ m → (q ≡ (a, n)) ⊎ Contains (pairs p.positive) q → (m ≡ n) ⊎ Contains (indexed_of pairs p) m
        new q e (inl f) = inl (sym e ∙ ap (λ (x : Posting). x.1) f)
        new q e (inr b) = inr (transport (Contains (indexed_of pairs p)) e (indexed_by pairs p q (inl b)))

        old : Contains (indexed_of pairs p) m → Contains (indexed_of pairs s) m
        old j = let (q, e, k) = indexed_pair pairs p m j in transport (Contains (indexed_of pairs s)) e
            (indexed_by pairs s q (elim k [ inl b ↦ inl ((adds q).1 (inr b)) | inr c ↦ inr (transport (λ x. Contains (pairs x) q) (sym same) c) ]))

  module _ (sign : IsSigned r n false) (fit : fits r.entries.bank s.negative) (adds : Adds (a, n) (pairs p.negative) (pairs s.negative)) (same : s.positive ≡ p.positive) where
    pub partners_negative : ArePartners pairs fits r s
    partners_negative = record {
      positive_fits = transport (fits r.entries.bank) (sym same) partners.positive_fits;
      negative_fits = fit;
      positive_stored = λ q i. partners.positive_stored q (transport (λ x. Contains (pairs x) q) same i);
      negative_stored = λ q i. elim ((adds q).0 i) [ inl e ↦ transport (IsStored r) (sym e) (within.0, within.1, selected) | inr j ↦ partners.negative_stored q j ];
      positive_signed = λ q i. partners.positive_signed q (transport (λ x. Contains (pairs x) q) same i);
      negative_signed = λ q i. elim ((adds q).0 i) [ inl e ↦ transport (λ (x : Posting). IsSigned r x.1 false) (sym e) sign | inr j ↦ partners.negative_signed q j ];
    }

    pub stored_negative : (m : ℕ) → Contains (indexed_of pairs s) m ↔ ((m ≡ n) ⊎ Contains (indexed_of pairs p) m)
    stored_negative m = (
      λ i. let (q, e, k) = indexed_pair pairs s m i in elim k [ inl c ↦ inr (transport (Contains (indexed_of pairs p)) e (indexed_by pairs p q (inl (transport (λ x. Contains (pairs x) q) same c)))) | inr b ↦ new q e ((adds q).0 b) ],
      λ i. elim i [ inl e ↦ transport (Contains (indexed_of pairs s)) (sym e) (indexed_by pairs s (a, n) (inr ((adds (a, n)).1 (inl refl)))) | inr j ↦ old j ],
    )
      where
        new : (q : Posting) → q.1 ≡ m → (q ≡ (a, n)) ⊎ Contains (pairs p.negative) q → (m ≡ n) ⊎ Contains (indexed_of pairs p) m
        new q e (inl f) = inl (sym e ∙ ap (λ (x : Posting). x.1) f)
        new q e (inr b) = inr (transport (Contains (indexed_of pairs p)) e (indexed_by pairs p q (inr b)))

        old : Contains (indexed_of pairs p) m → Contains (indexed_of pairs s) m
        old j = let (q, e, k) = indexed_pair pairs p m j in transport (Contains (indexed_of pairs s)) e
            (indexed_by pairs s q (elim k [ inl c ↦ inl (transport (λ x. Contains (pairs x) q) (sym same) c) | inr b ↦ inr ((adds q).1 (inr b)) ]))

pub on_ok_both : {X E : Type 0} (P Q : Type 0) (r : Result X E) → OnOk r P → OnOk r Q → OnOk r (P × Q)
on_ok_both P Q (Ok x) p q = (p, q)
on_ok_both P Q (Err e) p q = tt

pub within : {X : Type 0} (ps : List ℕ) (xs : List X) (m : ℕ) → m ≤ length ps → length ps ≤ length xs → m ≤ length xs
within ps xs m a b = omega arith
