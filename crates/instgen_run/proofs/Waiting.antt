-- Picks from the queue, and partners as a run goes on.
use Rattle.std.proofs.Common.{◌≡◌, ◌⊎◌, inl, inr, map, ℕ, ◌+◌, ◌<◌, ◌≤◌, List, ◌∷◌, ◌++◌, refl, sym, ap, ◌∙◌, subst as transport, length, length-append, append_assoc, append-nil, arith, All, Contains, Bool, true, false, []}
use Rattle.inst_calculus.proofs.Membership.{◌∈◌, contains_in, in_contains, in_all, all_in, in_left, in_right, in_either}
use Rattle.inst_calculus.proofs.Distinct.{map_append, length_map}
use Rattle.term_bank.specs.Forest.{Forest, Extends}
use Rattle.term_index.specs.Pairs.{Posting}
use Rattle.instgen_select.specs.Queues.{Waiting, numbers, IsTakenOut}
use Rattle.instgen_select.specs.Passives.{Passive_list, IsLetGo}
use Rattle.instgen_run.specs.declared.state.Run.{Run}
use Rattle.instgen_run.specs.declared.queue.Partners.{Partners}
use Rattle.engine_laws.specs.Pairs.{AreQueuedOrIndexed}
use Rattle.instgen_run.specs.Clauses.{AreEntries}
use Rattle.instgen_run.specs.Loops.{items, IsConsistent, IsStored, ArePartners, AreWaiting, AreReady, Goes, IsSigned, after}
use Rattle.instgen_run.specs.Tended.{AreTended, AreOnce, indexed_of}
use Rattle.instgen_run.proofs.Works.{selected_stays}
use Rattle.instgen_run.proofs.Selected.{same_places}
use Rattle.instgen_run.proofs.Opposites.{signed_stays}

-- the number stood in the queue, and the others stay
pub record IsTaken (old new : List Waiting) (n : ℕ) : Type 0 where
  pub count : length old ≡ length new + 1
  pub front : List ℕ
  pub back : List ℕ
  pub before : numbers old ≡ front ++ n ∷ back
  pub after : numbers new ≡ front ++ back

pub taken : (old new : List Waiting) (n : ℕ) → IsTakenOut old new n → IsTaken old new n
taken old new n h =
    let first : Waiting → ℕ = λ x. x.0 in
    let item : Waiting = (n, h.size) in
    record {
      count = let a : length old ≡ length h.front + length (item ∷ h.back) = ap length h.before ∙ length-append h.front (item ∷ h.back) in
          let b : length new ≡ length h.front + length h.back = ap length h.after ∙ length-append h.front h.back in omega arith;
      front = map first h.front;
      back = map first h.back;
      before = ap (map first) h.before ∙ map_append first h.front (item ∷ h.back);
      after = ap (map first) h.after ∙ map_append first h.front h.back;
    }

-- a pick takes the number out of all that waits
pub picked_by : (old new : Passive_list) (n : ℕ) → IsLetGo old new n → IsTaken old.items new.items n
picked_by old new n h = taken old.items new.items n (record {
  size = h.ready.size;
  front = h.ready.front;
  back = h.ready.back ++ h.apart;
  before = h.before ∙ ap (λ xs. xs ++ h.apart) h.ready.before ∙ append_assoc h.ready.front ((n, h.ready.size) ∷ h.ready.back) h.apart;
  after = h.after ∙ ap (λ xs. xs ++ h.apart) h.ready.after ∙ append_assoc h.ready.front h.ready.back h.apart;
})

nothing : {X : Type 0} (xs : List X) → length xs ≡ 0 → xs ≡ []
nothing [] e = refl
nothing (x ∷ xs) e = absurd (omega arith)

pub no_numbers : (xs : List Waiting) → numbers xs ≡ [] → xs ≡ []
no_numbers [] e = refl
no_numbers (x ∷ xs) e = absurd cc

-- where nothing waits apart, a pick leaves it so
pub none_apart : (old new : Passive_list) (n : ℕ) → IsLetGo old new n → numbers old.items ≡ numbers old.ready → numbers new.items ≡ numbers new.ready
none_apart old new n h same =
    let a : length old.items ≡ length old.ready + length h.apart = ap length h.before ∙ length-append old.ready h.apart in
    let b : length old.items ≡ length old.ready = sym (length_map (λ (x : Waiting). x.0) old.items) ∙ ap length same ∙ length_map (λ (x : Waiting). x.0) old.ready in
    let e : h.apart ≡ [] = nothing h.apart (omega arith) in
    ap numbers (h.after ∙ ap (λ xs. new.ready ++ xs) e ∙ append-nil new.ready)

-- it takes one
pub fewer_ready : (old mid new : Passive_list) (n : ℕ) → IsLetGo old mid n → new.ready ≡ mid.ready → length new.ready < length old.ready
fewer_ready old mid new n h e =
    let a = (taken old.ready mid.ready n h.ready).count in
    let b : length new.ready ≡ length mid.ready = ap length e in omega arith

module _ (old new : List Waiting) (n : ℕ) (h : IsTaken old new n) where
  pub there : Contains (numbers old) n
  there = in_contains n (numbers old) (transport (λ xs. n ∈ xs) (sym h.before) (in_right n h.front (n ∷ h.back) (inl refl)))

  pub kept : (m : ℕ) → Contains (numbers new) m → Contains (numbers old) m
  kept m i = in_contains m (numbers old) (transport (λ xs. m ∈ xs) (sym h.before)
      (elim (in_either m h.front h.back (transport (λ xs. m ∈ xs) h.after (contains_in m (numbers new) i))) [ inl a ↦ in_left m h.front (n ∷ h.back) a | inr b ↦ in_right m h.front (n ∷ h.back) (inr b) ]))

  pub others : (m : ℕ) → Contains (numbers old) m → (m ≡ n) ⊎ Contains (numbers new) m
  others m i = elim (in_either m h.front (n ∷ h.back) (transport (λ xs. m ∈ xs) h.before (contains_in m (numbers old) i))) [
    | inl a ↦ inr (back (in_left m h.front h.back a))
    | inr b ↦ elim b [ inl e ↦ inl e | inr d ↦ inr (back (in_right m h.front h.back d)) ]
  ]
    where
      back : m ∈ (h.front ++ h.back) → Contains (numbers new) m
      back j = in_contains m (numbers new) (transport (λ xs. m ∈ xs) (sym h.after) j)

module _ {S I C : Type 0} (pairs : I → List Posting) (fits : Forest → I → Type 0) (r : Run S I C) where
  module _ (q : Passive_list) (n : ℕ) (picked : IsTaken r.queue.items q.items n) where
    fewer : (P : ℕ → Type 0) → All P (numbers r.queue.items) → All P (numbers q.items)
    fewer P h = in_all P (numbers q.items) (λ m i. all_in P (numbers r.queue.items) h m (contains_in m (numbers r.queue.items) (kept r.queue.items q.items n picked m (in_contains m (numbers q.items) i))))

    pub safe_picked : (atoms : S → ℕ) → IsConsistent atoms pairs fits r → IsConsistent atoms pairs fits (record r { queue = q })
    safe_picked atoms h = record {
      entries = h.entries;
      firsts = h.firsts;
      stored = h.stored;
      numbered = h.numbered;
      notes = h.notes;
      known = h.known;
      count = h.count;
      waiting = fewer (λ k. k ≤ length (items r)) h.waiting;
      within = h.within;
      placed = h.placed;
    }

  module _ (q : Passive_list) (n : ℕ) (picked : IsLetGo r.queue q n) where
    pub still_ready : AreReady r → AreReady (record r { queue = q })
    still_ready h =
        in_all (λ k. (0 < k) × (k ≤ length r.selection.places)) (numbers q.ready) (λ m i. all_in (λ k. (0 < k) × (k ≤ length r.selection.places)) (numbers r.queue.ready) h m
        (contains_in m (numbers r.queue.ready) (kept r.queue.ready q.ready n (taken r.queue.ready q.ready n picked.ready) m (in_contains m (numbers q.ready) i))))

    pub picked_waits : AreReady r → (0 < n) × (n ≤ length r.selection.places)
    picked_waits h = all_in (λ k. (0 < k) × (k ≤ length r.selection.places)) (numbers r.queue.ready) h n
        (contains_in n (numbers r.queue.ready) (there r.queue.ready q.ready n (taken r.queue.ready q.ready n picked.ready)))

  -- another queue
  module _ (q : Passive_list) where
    pub partners_requeued : (p : Partners I C) → ArePartners pairs fits r p → ArePartners pairs fits (record r { queue = q }) p
    partners_requeued p h = record {
      positive_fits = h.positive_fits;
      negative_fits = h.negative_fits;
      positive_stored = λ x i. same x (h.positive_stored x i);
      negative_stored = λ x i. same x (h.negative_stored x i);
      positive_signed = λ x i. sign x.1 true (h.positive_signed x i);
      negative_signed = λ x i. sign x.1 false (h.negative_signed x i);
    }
      where
        sign : (m : ℕ) (b : Bool) → IsSigned r m b → IsSigned (record r { queue = q }) m b
        sign m b (l, k, e) = (l, record { item = k.item; place = k.place; item_at = k.item_at; place_at = k.place_at; literal_at = k.literal_at }, e)

        same : (x : Posting) → IsStored r x → IsStored (record r { queue = q }) x
        same x (a, b, k) = (a, b, record { item = k.item; place = k.place; literal = k.literal; item_at = k.item_at; place_at = k.place_at; literal_at = k.literal_at; atom = k.atom })

    -- of the same entries
    module _ (same : q.items ≡ r.queue.items) where
      pub safe_requeued : (atoms : S → ℕ) → IsConsistent atoms pairs fits r → IsConsistent atoms pairs fits (record r { queue = q })
      safe_requeued atoms h = record {
        entries = h.entries;
        firsts = h.firsts;
        stored = h.stored;
        numbered = h.numbered;
        notes = h.notes;
        known = h.known;
        count = h.count;
        waiting = transport (λ (ws : List Waiting). All (λ k. k ≤ length (items r)) (numbers ws)) (sym same) h.waiting;
        within = h.within;
        placed = h.placed;
      }

      pub tended_requeued : (p : Partners I C) → AreTended pairs r p → AreTended pairs (record r { queue = q }) p
      tended_requeued p h = record {
        once = transport (λ (ws : List Waiting). AreOnce (numbers ws)) (sym same) h.once;
        positive = transport (λ (ws : List Waiting). All (λ n. 0 < n) (numbers ws)) (sym same) h.positive;
        apart = transport (λ (ws : List Waiting). (n : ℕ) → Contains (numbers ws) n → ¬ Contains (indexed_of pairs p) n) (sym same) h.apart;
        queued = transport (λ (ws : List Waiting). AreQueuedOrIndexed (numbers ws) (indexed_of pairs p) (length (items r))) (sym same) h.queued;
        worked = h.worked;
      }

    -- all that waits may be picked
    pub ready_now : q.ready ≡ r.queue.items → AreWaiting r → AreReady (record r { queue = q })
    ready_now same h = transport (λ (ws : List Waiting). All (λ n. (0 < n) × (n ≤ length r.selection.places)) (numbers ws)) (sym same) h

  pub partners_stay : (new : Run S I C) (p : Partners I C) → Goes r new → AreEntries r.entries.bank (items r) → ((f g : Forest) (s : I) → Extends f g → fits f s → fits g s) → ArePartners pairs fits r p → ArePartners pairs fits new p
  partners_stay new p goes entries grown h = record {
    positive_fits = grown r.entries.bank new.entries.bank p.positive goes.bank h.positive_fits;
    negative_fits = grown r.entries.bank new.entries.bank p.negative goes.bank h.negative_fits;
    positive_stored = λ x i. stays x (h.positive_stored x i);
    negative_stored = λ x i. stays x (h.negative_stored x i);
    positive_signed = λ x i. signed_stays r new goes x.1 true (h.positive_signed x i);
    negative_signed = λ x i. signed_stays r new goes x.1 false (h.negative_signed x i);
  }
    where
      stays : (x : Posting) → IsStored r x → IsStored new x
      stays x (a, b, k) = (a, transport (λ (ps : List ℕ). x.1 ≤ length ps) (sym (same_places goes.selection)) b, selected_stays r new goes entries x.1 x.0 k)

  -- where no entry was appended nothing was queued
  pub nothing_queued : (new : Run S I C) → Goes r new → length (items new) ≤ length (items r) → numbers new.queue.items ≡ numbers r.queue.items
  nothing_queued new goes l =
      let (count, e, q) = goes.waits in
      let none : count ≡ 0 = omega arith in
      q ∙ ap (λ n. numbers r.queue.items ++ after (length (items r)) n) none ∙ append-nil (numbers r.queue.items)
