-- Scans of the members that may meet one, and what is due of those that were passed.
use Rattle.std.proofs.Common.{◌≡◌, ℕ, zero, suc, ◌+◌, ◌-◌, ◌<◌, ◌≤◌, inl, inr, List, [], ◌∷◌, ◌++◌, length, get_or, drop, refl, ap, sym, ◌∙◌, subst, arith, append_assoc, append-nil}
use Rattle.std.proofs.lemmas.Bool.{cases_lt}
use Rattle.std.proofs.lemmas.List.{drop_more, drop_all, get_or_default}
use Rattle.cert_format.specs.Certificate.{Saturation}
use Rattle.cert_format.specs.Dues.{Due, row, pairs, AreDueOfPair, apart, AreDueOf, AreDue}
use Rattle.cert_check.specs.DueSteps.{AreSeen, AreSeenTo, GivesPair, GivesRow, IsAmong, IsDueAmong}
use Rattle.cert_check.specs.Firsts.{IsFirstWrong}
use Rattle.cert_index.specs.Meetings.{IsApart, LeadsOn}
use Rattle.cert_check.proofs.PairScans.{IsOfPairs, first_partner, all_partners}

pub item_is : (js : List ℕ) (index : ℕ) → index < length js → get_or js index 0 ≡ get_or js index (get_or js index 0)
item_is js index within = get_or_default js index 0 (get_or js index 0) within

pub apart_due : (c : Saturation) (l r : ℕ) → IsApart c l r → AreDueOfPair c l r []
apart_due c l r h = apart h refl

module _ (c : Saturation) (i : ℕ) where
  seen_begins : i < length c.base.members → (ds : List Due) → AreSeen c i ds → AreSeenTo c i (suc i) ds
  seen_begins within ds h rest due =
      let e : suc (length c.base.members - suc i) ≡ length c.base.members - i = omega (arith, within) in
      h rest (subst (λ k. AreDueOf c (pairs (suc i) k) rest) e due)

  seen_more : (j : ℕ) → j < length c.base.members → (ds here : List Due) → AreSeenTo c i j ds → AreDueOfPair c (suc i) (suc j) here → AreSeenTo c i (suc j) (ds ++ here)
  seen_more j within ds here h due rest more =
      let e : suc (length c.base.members - suc j) ≡ length c.base.members - j = omega (arith, within) in
      subst (AreDue c) (sym (append_assoc ds here rest))
      (h (here ++ rest) (subst (λ k. AreDueOf c (row (suc i) (suc j) k ++ pairs (suc (suc i)) (length c.base.members - suc i)) (here ++ rest)) e (here, rest, due, more, refl)))

  seen_passed : (gap from to : ℕ) → from + gap ≡ to → to ≤ length c.base.members → ((k : ℕ) → from ≤ k → k < to → IsApart c (suc i) (suc k)) → (ds : List Due) → AreSeenTo c i from ds → AreSeenTo c i to ds
  seen_passed zero from to is within all ds h = subst (λ k. AreSeenTo c i k ds) (omega (arith, is)) h
  seen_passed (suc gap) from to is within all ds h =
      seen_passed gap (suc from) to (omega (arith, is)) within (λ k low high. all k (omega (arith, low)) high) ds
      (subst (AreSeenTo c i (suc from)) (append-nil ds) (seen_more from (omega (arith, is, within)) ds [] h (apart_due c (suc i) (suc from) (all from (omega arith) (omega (arith, is))))))

  seen_ends : (ds : List Due) → AreSeenTo c i (length c.base.members) ds → AreSeen c (suc i) ds
  seen_ends ds h rest due =
      let e : zero ≡ length c.base.members - length c.base.members = omega arith in
      h rest (subst (λ k. AreDueOf c (row (suc i) (suc (length c.base.members)) k ++ pairs (suc (suc i)) (length c.base.members - suc i)) rest) e due)

  module _ (P : ℕ → ℕ → Type 0) (of : IsOfPairs c P) where
    before_begins : (k : ℕ) → k < suc i → P (suc i) (suc k)
    before_begins k less = of.unordered (suc i) (suc k) (λ l. omega (arith, l, less))

    pub due_begins : i < length c.base.members → (js : List ℕ) → LeadsOn c i (suc i) js → (Start : List Due → Type 0) → IsDueAmong c i js 0 P Start Start
    due_begins inside js h Start = record {
      among = record { from = suc i; later = omega arith; within = omega (arith, inside); ahead = h; before = before_begins };
      due = λ ds seen start. (ds, seen_begins inside ds seen, start);
    }

    module _ (js : List ℕ) (index : ℕ) (h : IsAmong c i js index P) where
      -- at an item
      module _ (j : ℕ) (within : index < length js) (is : j ≡ get_or js index j) where
        here : LeadsOn c i h.from (j ∷ drop (index + 1) js)
        here = subst (LeadsOn c i h.from) (drop_more js index j within ∙ ap (λ x. x ∷ drop (index + 1) js) (sym is)) h.ahead

        pub item_later : i < j
        item_later = let low = h.later in let more = here.0 in omega (arith, low, more)

        pub item_within : j < length c.base.members
        item_within = here.1

        passed : (k : ℕ) → k < j → P (suc i) (suc k)
        passed k less = elim (cases_lt k h.from) [ inl early ↦ h.before k early | inr late ↦ of.apart (suc i) (suc k) (here.2 k late less) ]

        up_to : P (suc i) (suc j) → (k : ℕ) → k < suc j → P (suc i) (suc k)
        up_to p k less = elim (cases_lt k j) [ inl early ↦ passed k early | inr late ↦ let e : j ≡ k = omega (arith, late, less) in subst (λ x. P (suc i) (suc x)) e p ]

        pub among_wrong : ¬ P (suc i) (suc j) → IsFirstWrong (P (suc i)) (suc j)
        among_wrong wrong = first_partner c P of i j passed wrong

        pub due_more : (Start Now Next : List Due → Type 0) → ((ds : List Due) → AreSeen c i ds → Start ds → (fs : List Due) × AreSeenTo c i h.from fs × Now fs) → P (suc i) (suc j) → GivesPair c (suc i) (suc j) Now Next
            → IsDueAmong c i js (index + 1) P Start Next
        due_more Start Now Next due p gives = record {
          among = record { from = suc j; later = (let l = item_later in omega (arith, l)); within = (let w = item_within in omega (arith, w)); ahead = here.3; before = up_to p };
          due = λ ds seen start.
              let (fs, to, now) = due ds seen start in
              let (more, of_pair, next) = gives in
              let low = here.0 in
              (fs ++ more, seen_more j item_within fs more (seen_passed (j - h.from) h.from j (omega (arith, low)) (let w = item_within in omega (arith, w)) here.2 fs to) of_pair, next fs now);
        }

      -- past the last
      module _ (past : length js ≤ index) where
        rest : LeadsOn c i h.from []
        rest = subst (LeadsOn c i h.from) (drop_all index js past) h.ahead

        all_passed : (k : ℕ) → k < length c.base.members → P (suc i) (suc k)
        all_passed k less = elim (cases_lt k h.from) [ inl early ↦ h.before k early | inr late ↦ of.apart (suc i) (suc k) (rest k late less) ]

        pub among_all : (m : ℕ) → P (suc i) m
        among_all = all_partners c P of i (length c.base.members) all_passed (omega arith)

        pub due_ends : (Start Now : List Due → Type 0) → ((ds : List Due) → AreSeen c i ds → Start ds → (fs : List Due) × AreSeenTo c i h.from fs × Now fs) → GivesRow c i Start Now
        due_ends Start Now due ds seen start =
            let low = h.within in
            let (fs, to, now) = due ds seen start in
            (fs, seen_ends fs (seen_passed (length c.base.members - h.from) h.from (length c.base.members) (omega (arith, low)) (omega arith) rest fs to), now)
