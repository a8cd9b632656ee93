-- Each entry has a true place after a solve.
use Rattle.std.proofs.Common.{◌≡◌, ℕ, ◌+◌, ◌<◌, ◌≤◌, List, [], ◌∷◌, ◌++◌, inl, inr, refl, sym, ap, ◌∙◌, subst as transport, map, length, length-append, arith, All, Contains, Bool, true, false}
use Rattle.std.proofs.lemmas.List.Elements.{All-nil}
use Rattle.inst_logic.specs.declared.signed.Signed.{Signed}
use Rattle.inst_logic.specs.Derivations.{at_number}
use Rattle.inst_logic.specs.Truth.{IsTrueClause}
use Rattle.inst_logic.specs.Tree.{Tree}
use Rattle.inst_calculus.proofs.Membership.{contains_in, in_contains, in_all, all_in}
use Rattle.inst_calculus.proofs.Distinct.{length_map}
use Rattle.prop_logic.specs.Valuation.{IsHeld, AreChanges}
use Rattle.engine_laws.specs.Pairs.{IsWorked}
use Rattle.engine_laws.proofs.Lists.{slice_get_there, at_number_front}
use Rattle.engine_laws.proofs.WorkedPairs.{pair_stays_worked}
use Rattle.term_bank.specs.Forest.{Forest, AreIds, clause_at, tree_at}
use Rattle.engine_laws.specs.Valuations.{AreFlips}
use Rattle.ground_abs.specs.Abstracts.{atoms_in}
use Rattle.term_index.specs.Pairs.{Posting}
use Rattle.cert_values.specs.Values.{origin_of}
use Rattle.instgen_run.specs.Logs.{Log, with_solve}
use Rattle.instgen_run.specs.declared.state.Run.{Run}
use Rattle.instgen_run.specs.declared.queue.Partners.{Partners}
use Rattle.instgen_run.specs.Choosing.{IsUnderWay, AreNumbersPlaced, AreUsersKept}
use Rattle.instgen_run.specs.Clauses.{Item}
use Rattle.instgen_run.specs.Loops.{items, held_of, IsStored, IsSigned, IsLiteralPlace}
use Rattle.instgen_run.specs.Running.{entries_of}
use Rattle.instgen_run.specs.Selections.{Placing, AreUsers}
use Rattle.instgen_run.specs.Settling.{AreSelectable, IsOrderly, IsGrounded, Reselects, Settles}
use Rattle.instgen_run.specs.Solves.{IsTruePlace, Solves}
use Rattle.instgen_run.specs.Tended.{indexed_of}
use Rattle.instgen_run.proofs.Selected.{place_positive}
use Rattle.instgen_run.proofs.Tending.{indexed_pair}
use Rattle.instgen_run.proofs.UnderWay.{users_made, under_way_at_first, all_are_users, all_are_true}
use Rattle.instgen_run.proofs.Withdrawn.{orderly_users, place_there, same_length}

append_none : {X : Type 0} (xs : List X) → xs ++ [] ≡ xs
append_none [] = refl
append_none (x ∷ xs) = ap (λ ys. x ∷ ys) (append_none xs)

pub count_of : (literals : List (List (Signed ℕ))) (es : List Item) → map (λ (c : List (Signed ℕ)). length c) literals ≡ map (λ (e : Item). length e.0) es → length literals ≡ length es
count_of literals es e = sym (length_map (λ (c : List (Signed ℕ)). length c) literals) ∙ ap length e ∙ length_map (λ (e : Item). length e.0) es

-- Entries get places

module _ {S I C : Type 0} (atoms : S → ℕ) (pairs : I → List Posting) (fits : Forest → I → Type 0) (r : Run S I C) (p : Partners I C) (bits : List Bool) (h : IsOrderly atoms pairs fits r p)
    (s : Placing) (more : List ℕ) (grown : s.places ≡ r.selection.places ++ more) (lengths : map (λ (c : List (Signed ℕ)). length c) r.ground.literals ≡ map (λ (e : Item). length e.0) (items r))
    (whole : length s.places ≡ length r.ground.literals) (placed : (i : ℕ) → i < length s.places → IsTruePlace r.ground.literals s.places bits i) where
  within : length s.places ≤ length (items r)
  within = let e = count_of r.ground.literals (items r) lengths in let w = whole in omega arith

  literal_place : (i : ℕ) → i < length s.places → IsLiteralPlace (items r) s.places i
  literal_place i l =
      let g = placed i l in
      let (item, at) = slice_get_there (items r) i (let w = within in omega arith) in
      let long : length g.clause ≡ length item.0 = same_length r.ground.literals (items r) i g.clause item lengths g.clause_at at in
      let inside = place_positive g.clause g.place g.holds.0 g.holds.1 in
      let (k, here) = place_there item.0 g.place (inside.0, transport (λ m. g.place ≤ m) long inside.1) in
      record { item = item; place = g.place; literal = k; item_at = at; place_at = g.place_at; literal_at = here }

  kept : (n : ℕ) → n ≤ length r.selection.places → at_number s.places n ≡ at_number r.selection.places n
  kept n l = ap (λ ps. at_number ps n) grown ∙ at_number_front r.selection.places more n l

  stored_stays : (q : Posting) → IsStored r q → IsStored (record r { selection = s }) q
  stored_stays q (a, b, c) = (
    a,
    (let e : length s.places ≡ length r.selection.places + length more = ap length grown ∙ length-append r.selection.places more in omega (arith, b)),
    record { item = c.item; place = c.place; literal = c.literal; item_at = c.item_at; place_at = kept q.1 b ∙ c.place_at; literal_at = c.literal_at; atom = c.atom },
  )

  signed_stays : (n : ℕ) (b : Bool) → n ≤ length r.selection.places → IsSigned r n b → IsSigned (record r { selection = s }) n b
  signed_stays n b w (l, c, e) = (l, record { item = c.item; place = c.place; item_at = c.item_at; place_at = kept n w ∙ c.place_at; literal_at = c.literal_at }, e)

  indexed_placed : (m : ℕ) → Contains (indexed_of pairs p) m → m ≤ length r.selection.places
  indexed_placed m i =
      let (q, e, k) = indexed_pair pairs p m i in
      let l : q.1 ≤ length r.selection.places = elim k [ inl a ↦ (h.partners.positive_stored q a).1 | inr b ↦ (h.partners.negative_stored q b).1 ] in
      transport (λ x. x ≤ length r.selection.places) e l

  within_entries : (m : ℕ) → Contains (indexed_of pairs p) m → m ≤ length (entries_of r)
  within_entries m i =
      let long : length (entries_of r) ≡ length (items r) = length_map (λ (x : Item). record { clause = clause_at r.entries.bank x.0; origin = origin_of x.1 }) (items r) in
      let w : length r.selection.places ≤ length (items r) = h.safe.within in
      let l = indexed_placed m i in omega arith

  pub grown_orderly : IsOrderly atoms pairs fits (record r { selection = s }) p
  grown_orderly = record {
    safe = record {
      entries = h.safe.entries;
      firsts = h.safe.firsts;
      stored = h.safe.stored;
      numbered = h.safe.numbered;
      notes = h.safe.notes;
      known = h.safe.known;
      count = h.safe.count;
      waiting = h.safe.waiting;
      within = within;
      placed = literal_place;
    };
    partners = record {
      positive_fits = h.partners.positive_fits;
      negative_fits = h.partners.negative_fits;
      positive_stored = λ q i. stored_stays q (h.partners.positive_stored q i);
      negative_stored = λ q i. stored_stays q (h.partners.negative_stored q i);
      positive_signed = λ q i. signed_stays q.1 true (h.partners.positive_stored q i).1 (h.partners.positive_signed q i);
      negative_signed = λ q i. signed_stays q.1 false (h.partners.negative_stored q i).1 (h.partners.negative_signed q i);
    };
    tended = record {
      once = h.tended.once;
      positive = h.tended.positive;
      apart = h.tended.apart;
      queued = h.tended.queued;
      worked = λ i j a b. transport (λ es. IsWorked es s.places (held_of r) i j) (append_none (entries_of r))
          (pair_stays_worked (entries_of r) [] r.selection.places s.places (held_of r) (held_of r) i j (in_all (Contains (held_of r)) (held_of r) (λ x k. in_contains x (held_of r) k))
          (within_entries i a) (within_entries j b) (kept i (indexed_placed i a)) (kept j (indexed_placed j b)) (h.tended.worked i j a b));
    };
  }

-- Before the first entry chooses again

module _ {S I C : Type 0} (atoms : S → ℕ) (pairs : I → List Posting) (fits : Forest → I → Type 0) (added : S → List (List (Signed ℕ))) (r : Run S I C) (p : Partners I C) (bits : List Bool) (changed : List ℕ)
    (h : IsOrderly atoms pairs fits r p) (users : AreUsers r.ground.literals r.selection) (grounded : IsGrounded added r)
    (s : Placing) (places : s.places ≡ r.selection.places) (count : length r.ground.abstraction.ids ≤ length s.users) (kept : AreUsersKept r.selection.users s.users) where
  same : s ≡ record { places = r.selection.places; users = s.users }
  same = λ i. record { places = places i; users = s.users }

  more_users : AreUsers r.ground.literals s
  more_users = transport (AreUsers r.ground.literals) (sym same) (users_made r.ground.literals r.selection s.users kept users)

  pub started_orderly : IsOrderly atoms pairs fits (record r { selection = s }) p
  started_orderly = orderly_users atoms pairs fits r p h s.users s same

  pub started_selectable : All (IsTrueClause (IsHeld bits)) r.ground.literals → AreSelectable (record r { selection = s }) bits
  started_selectable hold = record {
    lengths = grounded.lengths;
    hold = hold;
    below = in_all (λ (c : List (Signed ℕ)). All (λ l. l.atom < length s.users) c) r.ground.literals (λ c i.
        in_all (λ (l : Signed ℕ). l.atom < length s.users) c (λ l j.
        let b = all_in (λ (l : Signed ℕ). l.atom < length r.ground.abstraction.ids) c (all_in (λ (c : List (Signed ℕ)). All (λ l. l.atom < length r.ground.abstraction.ids) c) r.ground.literals grounded.below c i) l j in
        omega arith));
    placed = more_users.numbers;
  }

  pub started_under_way : AreChanges r.ground.valuation bits changed → IsUnderWay r.ground.literals bits changed [] s
  started_under_way changes = under_way_at_first r.ground.literals r.ground.valuation bits s changed more_users changes
      (λ i l. transport (λ (x : Placing). IsTruePlace r.ground.literals x.places r.ground.valuation i) (sym same) (grounded.true_places i (transport (λ m. i < m) (ap length places) l)))

  pub started_atoms : All (λ n. n < length r.ground.abstraction.ids) changed → All (λ n. n < length s.users) changed
  started_atoms below = in_all (λ n. n < length s.users) changed (λ n i. let b = all_in (λ n. n < length r.ground.abstraction.ids) changed below n i in omega arith)

-- After the last one chose

module _ {S I C : Type 0} (r mid : Run S I C) (first last : Placing) (bits : List Bool) (reselects : Reselects (record r { selection = first }) mid) where
  pub same_literals : mid.ground.literals ≡ r.ground.literals
  same_literals = ap (λ (x : Run S I C). x.ground.literals) reselects.rest

  same_items : items mid ≡ items r
  same_items = ap (λ (x : Run S I C). items x) reselects.rest

  pub middle_under_way : IsUnderWay r.ground.literals bits [] [] mid.selection → IsUnderWay mid.ground.literals bits [] [] mid.selection
  middle_under_way h = transport (λ ls. IsUnderWay ls bits [] [] mid.selection) (sym same_literals) h

  module _ (lengths : map (λ (c : List (Signed ℕ)). length c) mid.ground.literals ≡ map (λ (e : Item). length e.0) (items mid)) (under_way : IsUnderWay mid.ground.literals bits [] [] last) (numbers : AreNumbersPlaced last)
      (whole : length last.places ≡ length mid.ground.literals) where
    pub all_settled : Settles r (record mid { selection = last }) bits
    all_settled = record {
      rest = ap (λ (x : Run S I C). record x { selection = last; queue = mid.queue }) reselects.rest;
      whole = whole ∙ count_of mid.ground.literals (items mid) lengths ∙ ap length same_items;
      users = transport (λ ls. AreUsers ls last) same_literals (all_are_users mid.ground.literals bits last under_way numbers);
      true_places = λ i l. transport (λ ls. IsTruePlace ls last.places bits i) same_literals (all_are_true mid.ground.literals bits last under_way i l);
    }

-- Neither the log nor the valuation matters

module _ {S I C : Type 0} (atoms : S → ℕ) (pairs : I → List Posting) (fits : Forest → I → Type 0) (r : Run S I C) (p : Partners I C) (h : IsOrderly atoms pairs fits r p) (log : Log) (bits : List Bool) where
  abbrev accepted : Run S I C
  accepted = record r { log = log; ground = record r.ground { valuation = bits } }

  stored_in : (q : Posting) → IsStored r q → IsStored accepted q
  stored_in q (a, b, c) = (a, b, record { item = c.item; place = c.place; literal = c.literal; item_at = c.item_at; place_at = c.place_at; literal_at = c.literal_at; atom = c.atom })

  signed_in : (n : ℕ) (b : Bool) → IsSigned r n b → IsSigned accepted n b
  signed_in n b (l, c, e) = (l, record { item = c.item; place = c.place; item_at = c.item_at; place_at = c.place_at; literal_at = c.literal_at }, e)

  pub accepted_orderly : IsOrderly atoms pairs fits accepted p
  accepted_orderly = record {
    safe = record { entries = h.safe.entries; firsts = h.safe.firsts; stored = h.safe.stored; numbered = h.safe.numbered; notes = h.safe.notes; known = h.safe.known; count = h.safe.count; waiting = h.safe.waiting; within = h.safe.within; placed = h.safe.placed };
    partners = record {
      positive_fits = h.partners.positive_fits;
      negative_fits = h.partners.negative_fits;
      positive_stored = λ q i. stored_in q (h.partners.positive_stored q i);
      negative_stored = λ q i. stored_in q (h.partners.negative_stored q i);
      positive_signed = λ q i. signed_in q.1 true (h.partners.positive_signed q i);
      negative_signed = λ q i. signed_in q.1 false (h.partners.negative_signed q i);
    };
    tended = record { once = h.tended.once; positive = h.tended.positive; apart = h.tended.apart; queued = h.tended.queued; worked = h.tended.worked };
  }

module _ {S I C : Type 0} (atoms : S → ℕ) (added : S → List (List (Signed ℕ))) (r mid : Run S I C) (bits : List Bool) (settles : Settles r mid bits) (log : Log) (flips : List ℕ)
    (pushed : log ≡ with_solve mid.log flips (length (items mid))) (ids : AreIds r.entries.bank flips) (changes : AreFlips (atoms_in r.entries.bank r.ground.abstraction.ids) r.ground.valuation bits (map (tree_at r.entries.bank) flips))
    (width : length bits ≤ length r.ground.abstraction.ids) where
  pub accepted_solves : Solves atoms added r (record mid { log = log; ground = record mid.ground { valuation = bits } }) flips
  accepted_solves = record {
    ids = ids;
    changes = changes;
    log = pushed ∙ ap (λ (x : Run S I C). with_solve x.log flips (length (items x))) settles.rest;
    width = width;
    numbering = ap (λ (x : Run S I C). x.ground.abstraction) settles.rest;
    literals = ap (λ (x : Run S I C). x.ground.literals) settles.rest;
    atoms_same = ap (λ (x : Run S I C). atoms x.ground.solver) settles.rest;
    added_same = ap (λ (x : Run S I C). added x.ground.solver) settles.rest;
    entries = ap (λ (x : Run S I C). x.entries) settles.rest;
    held = ap (λ (x : Run S I C). x.held.items) settles.rest;
    left = ap (λ (x : Run S I C). x.left) settles.rest;
    within = let e = settles.whole in omega arith;
    placed = settles.true_places;
  }

  pub accepted_users : AreUsers mid.ground.literals mid.selection
  accepted_users = transport (λ ls. AreUsers ls mid.selection) (sym (ap (λ (x : Run S I C). x.ground.literals) settles.rest)) settles.users

  pub accepted_whole : length mid.selection.places ≡ length (items mid)
  accepted_whole = settles.whole ∙ sym (ap (λ (x : Run S I C). length (items x)) settles.rest)

-- The valuation stays, and entries without a place get one

no_changes : (bits : List Bool) → AreChanges bits bits []
no_changes bits k = (λ i. absurd (contains_in k [] i), λ d. absurd (d refl))

no_flips : (atoms : List Tree) (bits : List Bool) → AreFlips atoms bits bits []
no_flips atoms bits = record {
  once = λ i j d low high. absurd (omega arith);
  each = λ a i. absurd (contains_in a [] i);
  all = λ n a e d. absurd (d refl);
}

module _ {S I C : Type 0} (atoms : S → ℕ) (pairs : I → List Posting) (fits : Forest → I → Type 0) (added : S → List (List (Signed ℕ))) (r : Run S I C) (p : Partners I C)
    (h : IsOrderly atoms pairs fits r p) (users : AreUsers r.ground.literals r.selection) (grounded : IsGrounded added r)
    (s : Placing) (places : s.places ≡ r.selection.places) (count : length r.ground.abstraction.ids ≤ length s.users) (kept : AreUsersKept r.selection.users s.users) where
  abbrev bits : List Bool
  bits = r.ground.valuation

  pub stays_under_way : IsUnderWay r.ground.literals bits [] [] s
  stays_under_way = started_under_way atoms pairs fits added r p bits [] h users grounded s places count kept (no_changes bits)

  pub stays_selectable : All (IsTrueClause (IsHeld bits)) r.ground.literals → AreSelectable (record r { selection = s }) bits
  stays_selectable hold = started_selectable atoms pairs fits added r p bits [] h users grounded s places count kept hold

  pub stays_within : length s.places ≤ length r.ground.literals
  stays_within =
      let w = h.safe.within in
      let e = count_of r.ground.literals (items r) grounded.lengths in
      let q : length s.places ≡ length r.selection.places = ap length places in
      omega arith

  module _ (last : Placing) (more : List ℕ) (grown : last.places ≡ s.places ++ more) (under_way : IsUnderWay r.ground.literals bits [] [] last) (numbers : AreNumbersPlaced last) (whole : length last.places ≡ length r.ground.literals)
      (log : Log) where
    pub stays_settled : Settles r (record r { selection = last }) bits
    stays_settled = all_settled r (record r { selection = s }) s last bits (record { rest = refl; count = refl; users = refl }) grounded.lengths under_way numbers whole

    pub stays_orderly : IsOrderly atoms pairs fits (record r { selection = last; log = log }) p
    stays_orderly = accepted_orderly atoms pairs fits (record r { selection = last }) p
        (grown_orderly atoms pairs fits (record r { selection = s }) p bits (started_orderly atoms pairs fits added r p bits [] h users grounded s places count kept) last more grown grounded.lengths whole
        (all_are_true r.ground.literals bits last under_way)) log bits

    pub stays_solves : log ≡ with_solve r.log [] (length (items r)) → Solves atoms added r (record r { selection = last; log = log }) []
    stays_solves pushed = accepted_solves atoms added r (record r { selection = last }) bits stays_settled log [] pushed (All-nil (λ a. a < length r.entries.bank.trees)) (no_flips (atoms_in r.entries.bank r.ground.abstraction.ids) bits) grounded.width
