-- Clauses stay noted or loose where a false literal is made true, and a clause that is noted need not be loose.
use Rattle.std.proofs.Common.{◌≡◌, ◌≢◌, ℕ, ◌+◌, ◌<◌, Bool, not, inl, inr, List, [], ◌∷◌, set, get_or, length, take, Some, refl, sym, ap, ◌∙◌, subst, arith, length-append}
use Rattle.std.specs.Prelude.{All, Contains, slice_get, swap_remove}
use Rattle.std.proofs.lemmas.List.{get_or_append_left}
use Rattle.std.proofs.lemmas.List.Elements.{All-more, All-weaker, All-contains, Contains-append_left}
use Rattle.std.proofs.lemmas.List.Sorted.{Contains-permutation, IsPermutation-swap_remove}
use Rattle.inst_logic.specs.declared.signed.Signed.{Signed}
use Rattle.inst_logic.specs.Signed.{complement}
use Rattle.inst_logic.proofs.Membership.{contains_in, in_contains}
use Rattle.prop_logic.specs.Valuation.{value_at}
use Rattle.ground_abs.specs.Abstracts.{Grows}
use Rattle.global_subs.specs.Notes.{numbers_at, IsNotedAt, KeepsNotes, KeepsOthers}
use Rattle.global_subs.specs.Keeping.{IsTrueIn, IsWitnessed, AreWitnessed, IsPlaced, IsWitnessedAt}
use Rattle.global_subs.proofs.ValueLaws.{value_set, not_true_and_false, same_literal}
use Rattle.global_subs.proofs.MoveLaws.{witness_stays}

-- Numbers with others behind them

pub front_contains : (xs ys : List ℕ) → Grows xs ys → (k : ℕ) → Contains xs k → Contains ys k
front_contains xs ys f k h = subst (λ us. Contains us k) (sym f.1) (Contains-append_left xs f.0 k h)

pub front_first : (xs ys : List ℕ) → Grows xs ys → (d : ℕ) → 0 < length xs → get_or ys 0 d ≡ get_or xs 0 d
front_first xs ys f d h = ap (λ us. get_or us 0 d) f.1 ∙ get_or_append_left xs f.0 d 0 h

pub front_some : (xs ys : List ℕ) → Grows xs ys → 0 < length xs → 0 < length ys
front_some xs ys f h = let long = ap length f.1 ∙ length-append xs f.0 in omega (arith, long, h)

-- the first of some numbers, whatever it would be of none
pub first_same : (xs : List ℕ) (d e : ℕ) → 0 < length xs → get_or xs 0 d ≡ get_or xs 0 e
first_same [] d e h = absurd (omega (arith, h))
first_same (x ∷ xs) d e h = refl

-- Clauses that are loose or noted at a true literal

module _ (clauses : List (List (Signed ℕ))) where
  pub placed_stays : (old new : List (List ℕ)) (values : List Bool) (loose more : List ℕ) (k : ℕ) → KeepsNotes old new → Grows loose more
      → IsPlaced clauses old values loose k → IsPlaced clauses new values more k
  placed_stays old new values loose more k keeps front p clause at =
      elim (p clause at) [
        | inl free ↦ inl (front_contains loose more front k free)
        | inr w ↦ inr (witness_stays old new values clause k keeps w)
      ]

  pub placed_more : (old new : List (List ℕ)) (values : List Bool) (loose more numbers : List ℕ) (i d : ℕ) → i < length numbers → KeepsNotes old new → Grows loose more
      → All (IsPlaced clauses old values loose) (take i numbers) → IsPlaced clauses new values more (get_or numbers i d) → All (IsPlaced clauses new values more) (take (i + 1) numbers)
  placed_more old new values loose more numbers i d h keeps front before here =
      All-more (IsPlaced clauses new values more) numbers i d h
      (All-weaker (IsPlaced clauses old values loose) (IsPlaced clauses new values more) (λ k. placed_stays old new values loose more k keeps front) (take i numbers) before) here

  pub kept_front : (lists : List (List ℕ)) (values : List Bool) (loose more : List ℕ) → Grows loose more → AreWitnessed clauses lists values loose → AreWitnessed clauses lists values more
  kept_front lists values loose more front each k clause at =
      elim (each k clause at) [
        | inl free ↦ inl (front_contains loose more front k free)
        | inr w ↦ inr w
      ]

  -- a false literal is made true, and what was noted at its complement is noted at other literals or loose
  pub forced : (lists moved cleared : List (List ℕ)) (old new : List Bool) (l : Signed ℕ) (loose more : List ℕ) → l.atom < length old → value_at old l.atom ≡ not l.positive → new ≡ set old l.atom l.positive
      → KeepsNotes lists moved → Grows loose more → All (IsPlaced clauses moved new more) (numbers_at lists (complement l)) → KeepsOthers moved cleared (complement l)
      → AreWitnessed clauses lists old loose → AreWitnessed clauses cleared new more
  forced lists moved cleared old new l loose more below untrue e keeps front placed others each k clause at =
      elim (each k clause at) [
        | inl free ↦ inl (front_contains loose more front k free)
        | inr w ↦ elim (value_set old l.atom w.literal.atom l.positive below) [
          | inl same ↦
              let sign : w.literal.positive ≡ not l.positive = sym w.holds ∙ ap (value_at old) same.0 ∙ untrue in
              let other : w.literal ≡ complement l = same_literal w.literal (complement l) sign same.0 in
              let noted : IsNotedAt lists (complement l) k = subst (λ m. IsNotedAt lists m k) other w.noted in
              elim (All-contains (IsPlaced clauses moved new more) (numbers_at lists (complement l)) k placed noted clause at) [
                | inl free ↦ inl free
                | inr again ↦ inr (elsewhere again)
              ]
          | inr other ↦ inr (elsewhere (record { literal = w.literal; here = w.here; holds = ap (λ v. value_at v w.literal.atom) e ∙ other.1 ∙ w.holds; noted = keeps w.literal k w.noted }))
        ]
      ]
    where
      now_true : IsTrueIn new l
      now_true = elim (value_set old l.atom l.atom l.positive below) [ inl same ↦ ap (λ v. value_at v l.atom) e ∙ same.1 | inr other ↦ absurd (other.0 refl) ]

      elsewhere : IsWitnessed moved new clause k → IsWitnessed cleared new clause k
      elsewhere w =
          let different : w.literal ≢ complement l = λ same. not_true_and_false new l now_true (subst (IsTrueIn new) same w.holds) in
          record { literal = w.literal; here = w.here; holds = w.holds; noted = subst (λ ns. Contains ns k) (sym (others w.literal different)) w.noted }

  -- the first loose clause is noted
  pub first_settled : (lists : List (List ℕ)) (values : List Bool) (loose : List ℕ) (k : ℕ) → 0 < length loose → k ≡ get_or loose 0 k → IsWitnessedAt clauses lists values k
      → AreWitnessed clauses lists values loose → AreWitnessed clauses lists values (swap_remove loose 0 k)
  first_settled lists values loose k some first noted each j clause at =
      elim (each j clause at) [
        | inl free ↦
            elim (contains_in j (k ∷ swap_remove loose 0 k) (Contains-permutation loose (k ∷ swap_remove loose 0 k) j (IsPermutation-swap_remove loose 0 k some first) free)) [
              | inl here ↦ inr (subst (λ (i : ℕ). IsWitnessed lists values clause i) (sym here) (noted clause (subst (λ (i : ℕ). slice_get clauses i ≡ Some clause) here at)))
              | inr later ↦ inl (in_contains j (swap_remove loose 0 k) later)
            ]
        | inr w ↦ inr w
      ]
