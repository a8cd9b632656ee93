-- Choosing again, one entry after the other.
use Rattle.std.proofs.Common.{◌≡◌, ◌≢◌, ℕ, zero, suc, ◌+◌, ◌-◌, ◌<◌, ◌≤◌, List, [], ◌∷◌, ◌++◌, ◌⊎◌, inl, inr, refl, sym, ap, ◌∙◌, subst as transport, length, arith, Bool, true, false, All, Contains, Some, get_or}
use Rattle.std.specs.Prelude.{slice_get}
use Rattle.std.proofs.Math.ListN.{set}
use Rattle.std.proofs.lemmas.List.{length-set}
use Rattle.std.proofs.lemmas.List.Elements.{All-nil, All-push, All-contains}
use native.Mathlib.Decide.{ℕ_discrete}
use Rattle.inst_logic.specs.declared.signed.Signed.{Signed}
use Rattle.inst_logic.specs.Derivations.{at_number}
use Rattle.inst_logic.specs.Signed.{signed}
use Rattle.inst_logic.specs.Truth.{IsTrueLiteral, IsTrueClause}
use Rattle.inst_logic.proofs.ShownLaws.{slice_get_contains, slice_get_append, at_number_contains}
use Rattle.inst_calculus.proofs.Membership.{contains_in, in_contains, in_left, in_right, in_all, all_in}
use Rattle.inst_calculus.proofs.Items.{same_item}
use Rattle.prop_logic.specs.Literal.{AllAtomsBelow}
use Rattle.prop_logic.specs.Valuation.{IsHeld, value_at, AreChanges}
use Rattle.prop_logic.proofs.PackedLaws.{value_held}
use Rattle.prop_logic.proofs.ListLaws.{slice_get_set, slice_get_set_other, slice_get_last}
use Rattle.instgen_select.specs.Choices.{IsTrueAt}
use Rattle.instgen_run.specs.Choosing.{IsChoice, IsNumberedPlace, IsChosenBut, IsUnderWay, AreNumbersPlaced, AreUsersKept}
use Rattle.instgen_run.specs.Selections.{Placing, IsUser, AreUsers}
use Rattle.instgen_run.specs.Solves.{IsTruePlace}

-- Clauses of numbers

pub true_somewhere : (c : List (Signed ℕ)) (v : List Bool) → IsTrueClause (IsHeld v) c → (p : ℕ) × IsTrueAt c v p
true_somewhere c v (k, x, l, e, t) = (suc k, (x, there c k x l ∙ ap Some e, t))
  where
    there : (xs : List (Signed ℕ)) (i : ℕ) (d : Signed ℕ) → i < length xs → slice_get xs i ≡ Some (get_or xs i d)
    there [] i d l = absurd (omega arith)
    there (y ∷ ys) zero d l = refl
    there (y ∷ ys) (suc i) d l = there ys i d (omega arith)

-- the atom of a true literal that was chosen
pub chosen_below : (literals : List (List (Signed ℕ))) (count i : ℕ) (clause : List (Signed ℕ)) (p : ℕ) (l : Signed ℕ) → AllAtomsBelow count literals → slice_get literals i ≡ Some clause
    → at_number clause p ≡ Some l → l.atom < count
chosen_below literals count i clause p l below e at =
    All-contains (λ (l : Signed ℕ). l.atom < count) clause l (All-contains (λ (c : List (Signed ℕ)). All (λ l. l.atom < count) c) literals clause below (slice_get_contains literals i clause e)) (at_number_contains clause p l at)

-- Items that are set

item_or : {X : Type 0} (xs : List X) (i : ℕ) (x d : X) → slice_get xs i ≡ Some x → get_or xs i d ≡ x
item_or [] i x d e = absurd cc
item_or (y ∷ ys) zero x d e = cc
item_or (y ∷ ys) (suc i) x d e = item_or ys i x d e

item_there : {X : Type 0} (xs : List X) (i : ℕ) (d : X) → i < length xs → slice_get xs i ≡ Some (get_or xs i d)
item_there [] i d l = absurd (omega arith)
item_there (y ∷ ys) zero d l = refl
item_there (y ∷ ys) (suc i) d l = item_there ys i d (omega arith)

at_end : {X : Type 0} (xs : List X) (x : X) → Contains (xs ++ x ∷ []) x
at_end xs x = in_contains x (xs ++ x ∷ []) (in_right x xs (x ∷ []) (inl refl))

in_front : {X : Type 0} (xs : List X) (x y : X) → Contains xs y → Contains (xs ++ x ∷ []) y
in_front xs x y h = in_contains y (xs ++ x ∷ []) (in_left y xs (x ∷ []) (contains_in y xs h))

-- One more user

abbrev with_user : List (List ℕ) → ℕ → ℕ → List (List ℕ)
with_user us a n = set us a (get_or us a [] ++ n ∷ [])

-- the users of an atom stay among them
users_stay : (us : List (List ℕ)) (b n : ℕ) → b < length us → (a m : ℕ) (xs : List ℕ) → slice_get us a ≡ Some xs → Contains xs m → (ys : List ℕ) × (slice_get (with_user us b n) a ≡ Some ys) × Contains ys m
users_stay us b n below a m xs e h = go (ℕ_discrete a b)
  where
    go : Dec (a ≡ b) → (ys : List ℕ) × (slice_get (set us b (get_or us b [] ++ n ∷ [])) a ≡ Some ys) × Contains ys m
    go (yes q) =
        let same : get_or us b [] ≡ xs = item_or us b xs [] (ap (slice_get us) (sym q) ∙ e) in (
          get_or us b [] ++ n ∷ [],
          ap (slice_get (set us b (get_or us b [] ++ n ∷ []))) q ∙ slice_get_set us b (get_or us b [] ++ n ∷ []) below,
          in_front (get_or us b []) n m (transport (λ zs. Contains zs m) (sym same) h),
        )
    go (no q) = (xs, slice_get_set_other us b a (get_or us b [] ++ n ∷ []) q ∙ e, h)

-- users are entries with a place
placed_with_user : (us : List (List ℕ)) (b n count : ℕ) → b < length us → (0 < n) × (n ≤ count) → ((a : ℕ) (xs : List ℕ) → slice_get us a ≡ Some xs → All (λ m. (0 < m) × (m ≤ count)) xs)
    → (a : ℕ) (xs : List ℕ) → slice_get (with_user us b n) a ≡ Some xs → All (λ m. (0 < m) × (m ≤ count)) xs
placed_with_user us b n count below within h a xs e = go (ℕ_discrete a b)
  where
    go : Dec (a ≡ b) → All (λ m. (0 < m) × (m ≤ count)) xs
    go (yes q) =
        let same : get_or us b [] ++ n ∷ [] ≡ xs = same_item (slice_get (set us b (get_or us b [] ++ n ∷ [])) b) (get_or us b [] ++ n ∷ []) xs (slice_get_set us b (get_or us b [] ++ n ∷ []) below) (ap (slice_get (set us b (get_or us b [] ++ n ∷ []))) (sym q) ∙ e) in
        transport (All (λ m. (0 < m) × (m ≤ count))) same (All-push (λ m. (0 < m) × (m ≤ count)) (get_or us b []) n (h b (get_or us b []) (item_there us b [] below)) within)
    go (no q) = h a xs (sym (slice_get_set_other us b a (get_or us b [] ++ n ∷ []) q) ∙ e)

-- Entry i chooses

module _ (literals : List (List (Signed ℕ))) (bits : List Bool) (s : Placing) (i p a : ℕ) (clause : List (Signed ℕ))
    (within : i < length s.places) (clause_at : slice_get literals i ≡ Some clause) (choice : IsChoice clause bits p a) (below : a < length s.users) where
  abbrev pub chosen : Placing
  chosen = record { places = set s.places i p; users = set s.users a (get_or s.users a [] ++ suc i ∷ []) }

  abbrev place_stays : (j : ℕ) → ¬ (j ≡ i) → IsNumberedPlace literals s.places j → IsNumberedPlace literals (set s.places i p) j
  place_stays j n h = record { clause = h.clause; place = h.place; literal = h.literal; clause_at = h.clause_at; place_at = slice_get_set_other s.places i j p n ∙ h.place_at; literal_at = h.literal_at }

  here : (left : List ℕ) → IsChosenBut literals bits left chosen i
  here left =
      let (l, at, holds, atom) = choice in
      record {
        user = record {
          clause = clause;
          place = p;
          literal = l;
          users = get_or s.users a [] ++ suc i ∷ [];
          clause_at = clause_at;
          place_at = slice_get_set s.places i p within;
          literal_at = at;
          users_at = ap (slice_get (set s.users a (get_or s.users a [] ++ suc i ∷ []))) atom ∙ slice_get_set s.users a (get_or s.users a [] ++ suc i ∷ []) below;
          among = at_end (get_or s.users a []) (suc i);
        };
        holds = inl (l, at, holds);
      }

  pub chosen_under_way : (left rest : List ℕ) → IsUnderWay literals bits left (suc i ∷ rest) s → IsUnderWay literals bits left rest chosen
  chosen_under_way left rest h j k = go (ℕ_discrete j i)
    where
      other : ¬ (j ≡ i) → IsChosenBut literals bits left s j ⊎ (IsNumberedPlace literals s.places j × Contains (suc i ∷ rest) (suc j))
          → IsChosenBut literals bits left chosen j ⊎ (IsNumberedPlace literals (set s.places i p) j × Contains rest (suc j))
      other n (inl c) =
          let u = c.user in
          let (ys, e, m) = users_stay s.users a (suc i) below u.literal.atom (suc j) u.users u.users_at u.among in
          inl (record {
            user = record { clause = u.clause; place = u.place; literal = u.literal; users = ys; clause_at = u.clause_at; place_at = slice_get_set_other s.places i j p n ∙ u.place_at; literal_at = u.literal_at; users_at = e; among = m };
            holds = c.holds;
          })
      other n (inr (c, m)) = inr (place_stays j n c, elim (contains_in (suc j) (suc i ∷ rest) m) [ inl e ↦ absurd (n (omega arith)) | inr r ↦ in_contains (suc j) rest r ])

      go : Dec (j ≡ i) → IsChosenBut literals bits left chosen j ⊎ (IsNumberedPlace literals (set s.places i p) j × Contains rest (suc j))
      go (yes e) = inl (transport (IsChosenBut literals bits left chosen) (sym e) (here left))
      go (no n) = other n (h j (omega (arith, length-set s.places i p)))

  pub chosen_numbers : AreNumbersPlaced s → AreNumbersPlaced chosen
  chosen_numbers h b us e = transport (λ k. All (λ m. (0 < m) × (m ≤ k)) us) (sym (length-set s.places i p)) (placed_with_user s.users a (suc i) (length s.places) below (omega arith, omega arith) h b us e)

-- The users of an atom are taken out: they choose again

module _ (literals : List (List (Signed ℕ))) (bits : List Bool) (s : Placing) (a : ℕ) where
  abbrev pub taken : Placing
  taken = record { places = s.places; users = set s.users a [] }

  pub taken_under_way : (entries left : List ℕ) → slice_get s.users a ≡ Some entries → IsUnderWay literals bits (a ∷ left) [] s → IsUnderWay literals bits left entries taken
  taken_under_way entries left e h i l = go (h i l)
    where
      with_atom : (c : IsChosenBut literals bits (a ∷ left) s i) → Dec (c.user.literal.atom ≡ a) → IsChosenBut literals bits left taken i ⊎ (IsNumberedPlace literals s.places i × Contains entries (suc i))
      with_atom c (yes q) =
          let u = c.user in
          let same : u.users ≡ entries = same_item (slice_get s.users a) u.users entries (ap (slice_get s.users) (sym q) ∙ u.users_at) e in
          inr (record { clause = u.clause; place = u.place; literal = u.literal; clause_at = u.clause_at; place_at = u.place_at; literal_at = u.literal_at }, transport (λ xs. Contains xs (suc i)) same u.among)
      with_atom c (no n) =
          let u = c.user in
          inl (record {
            user = record { clause = u.clause; place = u.place; literal = u.literal; users = u.users; clause_at = u.clause_at; place_at = u.place_at; literal_at = u.literal_at; users_at = slice_get_set_other s.users a u.literal.atom [] n ∙ u.users_at; among = u.among };
            holds = elim c.holds [ inl t ↦ inl t | inr m ↦ inr (elim (contains_in u.literal.atom (a ∷ left) m) [ inl q ↦ absurd (n q) | inr r ↦ in_contains u.literal.atom left r ]) ];
          })

      go : IsChosenBut literals bits (a ∷ left) s i ⊎ (IsNumberedPlace literals s.places i × Contains [] (suc i)) → IsChosenBut literals bits left taken i ⊎ (IsNumberedPlace literals s.places i × Contains entries (suc i))
      go (inl c) = with_atom c (ℕ_discrete c.user.literal.atom a)
      go (inr (c, m)) = absurd (contains_in (suc i) [] m)

  pub taken_numbers : a < length s.users → AreNumbersPlaced s → AreNumbersPlaced taken
  taken_numbers l h b us e = go (ℕ_discrete b a)
    where
      go : Dec (b ≡ a) → All (λ n. (0 < n) × (n ≤ length s.places)) us
      go (yes q) =
          transport (All (λ n. (0 < n) × (n ≤ length s.places))) (same_item (slice_get (set s.users a []) a) [] us (slice_get_set s.users a [] l) (ap (slice_get (set s.users a [])) (sym q) ∙ e)) (All-nil (λ n. (0 < n) × (n ≤ length s.places)))
      go (no q) = h b us (sym (slice_get_set_other s.users a b [] q) ∙ e)

-- More lists of users

module _ (literals : List (List (Signed ℕ))) (s : Placing) (users : List (List ℕ)) (kept : AreUsersKept s.users users) where
  pub users_made : AreUsers literals s → AreUsers literals (record { places = s.places; users = users })
  users_made h = record {
    users = λ i l.
        let u = h.users i l in
        record {
          clause = u.clause;
          place = u.place;
          literal = u.literal;
          users = u.users;
          clause_at = u.clause_at;
          place_at = u.place_at;
          literal_at = u.literal_at;
          users_at = ap (λ us. slice_get us u.literal.atom) kept.1 ∙ slice_get_append s.users kept.0 u.literal.atom u.users u.users_at;
          among = u.among;
        };
    numbers = λ a us e. old_or_new s.users a us h.numbers (ap (λ xs. slice_get xs a) (sym kept.1) ∙ e);
  }
    where
      old_or_new : (front : List (List ℕ)) (a : ℕ) (us : List ℕ) → ((a : ℕ) (us : List ℕ) → slice_get front a ≡ Some us → All (λ n. (0 < n) × (n ≤ length s.places)) us)
          → slice_get (front ++ kept.0) a ≡ Some us → All (λ n. (0 < n) × (n ≤ length s.places)) us
      old_or_new [] a us h e = transport (All (λ n. (0 < n) × (n ≤ length s.places))) (sym (All-contains (λ us. us ≡ []) kept.0 us kept.2 (slice_get_contains kept.0 a us e))) (All-nil (λ n. (0 < n) × (n ≤ length s.places)))
      old_or_new (x ∷ front) zero us h e = h zero us e
      old_or_new (x ∷ front) (suc a) us h e = old_or_new front a us (λ b vs q. h (suc b) vs q) e

-- At first only the users of atoms that changed may have false literals

module _ (literals : List (List (Signed ℕ))) (old new : List Bool) (s : Placing) (changed : List ℕ) (h : AreUsers literals s) (changes : AreChanges old new changed)
    (true_before : (i : ℕ) → i < length s.places → IsTruePlace literals s.places old i) where
  held_the_same : (a : ℕ) → value_at old a ≡ value_at new a → (IsHeld old a → IsHeld new a) × (IsHeld new a → IsHeld old a)
  held_the_same a e = (
    λ x. (value_held new a (value_at new a) refl).0 (sym e ∙ (value_held old a (value_at old a) refl).1 x),
    λ x. (value_held old a (value_at old a) refl).0 (e ∙ (value_held new a (value_at new a) refl).1 x),
  )

  still_true : (l : Signed ℕ) → value_at old l.atom ≡ value_at new l.atom → IsTrueLiteral (IsHeld old) l → IsTrueLiteral (IsHeld new) l
  still_true l e t = go l.positive t
    where
      go : (b : Bool) → signed b (IsHeld old l.atom) → signed b (IsHeld new l.atom)
      go true x = (held_the_same l.atom e).0 x
      go false x = λ y. x ((held_the_same l.atom e).1 y)

  same_or_changed : (a : ℕ) → (value_at old a ≡ value_at new a) ⊎ Contains changed a
  same_or_changed a = go (value_at old a) (value_at new a) refl refl
    where
      go : (b c : Bool) → value_at old a ≡ b → value_at new a ≡ c → (value_at old a ≡ value_at new a) ⊎ Contains changed a
      go true true p q = inl (p ∙ sym q)
      go false false p q = inl (p ∙ sym q)
      go true false p q = inr ((changes a).1 (λ e. let d : true ≡ false = sym p ∙ e ∙ q in absurd cc))
      go false true p q = inr ((changes a).1 (λ e. let d : false ≡ true = sym p ∙ e ∙ q in absurd cc))

  pub under_way_at_first : IsUnderWay literals new changed [] s
  under_way_at_first i l =
      let u = h.users i l in
      let t = true_before i l in
      let same_clause : t.clause ≡ u.clause = same_item (slice_get literals i) t.clause u.clause t.clause_at u.clause_at in
      let same_place : t.place ≡ u.place = same_item (slice_get s.places i) t.place u.place t.place_at u.place_at in
      let (k, at, holds) = t.holds in
      let same_literal : k ≡ u.literal = same_item (at_number u.clause u.place) k u.literal (ap (λ c. at_number c u.place) (sym same_clause) ∙ ap (at_number t.clause) (sym same_place) ∙ at) u.literal_at in
      inl (record {
        user = u;
        holds = elim (same_or_changed u.literal.atom) [
          | inl e ↦ inl (u.literal, u.literal_at, still_true u.literal e (transport (IsTrueLiteral (IsHeld old)) same_literal holds))
          | inr c ↦ inr c
        ];
      })

-- At the end all are

module _ (literals : List (List (Signed ℕ))) (bits : List Bool) (s : Placing) (h : IsUnderWay literals bits [] [] s) where
  all_chosen : (i : ℕ) → i < length s.places → (u : IsUser literals s i) × IsTrueAt u.clause bits u.place
  all_chosen i l =
      elim (h i l) [
        | inl c ↦ (c.user, elim c.holds [ inl t ↦ t | inr m ↦ absurd (contains_in c.user.literal.atom [] m) ])
        | inr c ↦ absurd (contains_in (suc i) [] c.1)
      ]

  pub all_are_users : AreNumbersPlaced s → AreUsers literals s
  all_are_users numbers = record { users = λ i l. (all_chosen i l).0; numbers = numbers }

  pub all_are_true : (i : ℕ) → i < length s.places → IsTruePlace literals s.places bits i
  all_are_true i l =
      let (u, t) = all_chosen i l in
      record { clause = u.clause; place = u.place; clause_at = u.clause_at; place_at = u.place_at; holds = t }

-- The next entry gets a place

module _ (literals : List (List (Signed ℕ))) (bits : List Bool) (s : Placing) (p a : ℕ) (clause : List (Signed ℕ))
    (clause_at : slice_get literals (length s.places) ≡ Some clause) (choice : IsChoice clause bits p a) (below : a < length s.users) where
  abbrev pub placed_next : Placing
  placed_next = record { places = s.places ++ p ∷ []; users = set s.users a (get_or s.users a [] ++ suc (length s.places) ∷ []) }

  pub next_under_way : IsUnderWay literals bits [] [] s → IsUnderWay literals bits [] [] placed_next
  next_under_way h i l = go (ℕ_discrete i (length s.places))
    where
      go : Dec (i ≡ length s.places) → IsChosenBut literals bits [] placed_next i ⊎ (IsNumberedPlace literals (s.places ++ p ∷ []) i × Contains [] (suc i))
      go (yes e) =
          let (l, at, holds, atom) = choice in
          inl (transport (IsChosenBut literals bits [] placed_next) (sym e) (record {
            user = record {
              clause = clause;
              place = p;
              literal = l;
              users = get_or s.users a [] ++ suc (length s.places) ∷ [];
              clause_at = clause_at;
              place_at = slice_get_last s.places p;
              literal_at = at;
              users_at = ap (slice_get (set s.users a (get_or s.users a [] ++ suc (length s.places) ∷ []))) atom ∙ slice_get_set s.users a (get_or s.users a [] ++ suc (length s.places) ∷ []) below;
              among = at_end (get_or s.users a []) (suc (length s.places));
            };
            holds = inl (l, at, holds);
          }))
      go (no n) =
          let count : length (s.places ++ p ∷ []) ≡ length s.places + 1 = Rattle.std.proofs.Common.length-append s.places (p ∷ []) in
          let (u, t) = all_chosen literals bits s h i (omega arith) in
          let (ys, e, m) = users_stay s.users a (suc (length s.places)) below u.literal.atom (suc i) u.users u.users_at u.among in
          inl (record {
            user = record { clause = u.clause; place = u.place; literal = u.literal; users = ys; clause_at = u.clause_at; place_at = slice_get_append s.places (p ∷ []) i u.place u.place_at; literal_at = u.literal_at; users_at = e; among = m };
            holds = inl t;
          })

  pub next_numbers : AreNumbersPlaced s → AreNumbersPlaced placed_next
  next_numbers h b us e =
      let count : length (s.places ++ p ∷ []) ≡ length s.places + 1 = Rattle.std.proofs.Common.length-append s.places (p ∷ []) in
      let old = placed_with_user s.users a (suc (length s.places)) (length (s.places ++ p ∷ [])) below (omega arith, omega arith)
      (λ c vs q. in_all (λ m. (0 < m) × (m ≤ length (s.places ++ p ∷ []))) vs (λ m i. let k = all_in (λ m. (0 < m) × (m ≤ length s.places)) vs (h c vs q) m i in (k.0, let j = k.1 in omega arith))) in
      old b us e
