-- Groups of items one behind the other, in the order of their ranks.
use Rattle.std.proofs.Common.{◌≡◌, ℕ, ◌+◌, suc, ◌<◌, ◌≤◌, List, [], ◌∷◌, ◌++◌, length, sym, ap, ◌∙◌, subst, arith, append_assoc, length-append, refl, true}
use Rattle.std.specs.Prelude.{nat_eq, nat_lt}
use Rattle.std.specs.List.{list_all}
use Rattle.std.proofs.lemmas.Bool.{and_parts, and_from}
use Rattle.std.proofs.lemmas.List.{append-nil, nil_from_length}
use Rattle.inst_logic.proofs.Numbers.{number_is, is_less, less_yes}
use Rattle.cert_format.specs.LineMachine.{rank, Item, count, last_rank, last_rank_from}
use Rattle.cert_format.proofs.LineTexts.{count_append, count_own, count_other}
use Rattle.cert_format.proofs.GroupItems.{all_append}
use Rattle.cert_format.proofs.ItemGroups.{IsGroup}

abbrev Above : ℕ → List Item → Type 0
Above k is = list_all (λ (i : Item). nat_lt k (rank i.note)) is ≡ true

-- ---- the last rank

last_append : (k : ℕ) (is js : List Item) → last_rank_from k (is ++ js) ≡ last_rank_from (last_rank_from k is) js
last_append k [] js = refl
last_append k (i ∷ is) js = last_append (rank i.note) is js

last_above : (k m : ℕ) (is : List Item) → Above k is → k < m → k < last_rank_from m is
last_above k m [] a h = h
last_above k m (i ∷ is) a h = let p = and_parts (nat_lt k (rank i.note)) _ a in last_above k (rank i.note) is p.1 (is_less k (rank i.note) p.0)

nothing_behind : (k m : ℕ) (is : List Item) → Above k is → last_rank_from m is ≤ k → is ≡ []
nothing_behind k m [] a h = refl
nothing_behind k m (i ∷ is) a h = absurd (
    let p = and_parts (nat_lt k (rank i.note)) _ a in
    let q = last_above k (rank i.note) is p.1 (is_less k (rank i.note) p.0) in
    omega arith
    )

above_group : (k r : ℕ) (is : List Item) → nat_lt k r ≡ true → IsGroup r is → Above k is
above_group k r [] h g = refl
above_group k r (i ∷ is) h g =
    let a = and_parts (nat_eq (rank i.note) r) _ g in
    and_from (nat_lt k (rank i.note)) _ (ap (λ (j : ℕ). nat_lt k j) (number_is (rank i.note) r a.0) ∙ h) (above_group k r is h a.1)

weaker : (k : ℕ) (is : List Item) → Above (suc k) is → Above k is
weaker k [] h = refl
weaker k (i ∷ is) h =
    let a = and_parts (nat_lt (suc k) (rank i.note)) _ h in
    and_from (nat_lt k (rank i.note)) _ (less_yes k (rank i.note) (let l = is_less (suc k) (rank i.note) a.0 in omega arith)) (weaker k is a.1)

-- ---- one more item

behind : (xs r : List Item) (i : Item) → r ≡ [] → (xs ++ i ∷ []) ++ r ≡ (xs ++ r) ++ i ∷ []
behind xs r i e =
    ap (λ (z : List Item). (xs ++ i ∷ []) ++ z) e ∙ append-nil (xs ++ i ∷ [])
    ∙ ap (λ (z : List Item). z ++ i ∷ []) (sym (ap (λ (z : List Item). xs ++ z) e ∙ append-nil xs))

-- at the end of the first group, and at that of one behind it
push_here : (k m : ℕ) (xs rest : List Item) (i : Item) → Above k rest → last_rank_from m (xs ++ rest) ≤ k → (xs ++ i ∷ []) ++ rest ≡ (xs ++ rest) ++ i ∷ []
push_here k m xs rest i a h = behind xs rest i (nothing_behind k (last_rank_from m xs) rest a (subst (λ (n : ℕ). n ≤ k) (last_append m xs rest) h))

push_there : (k m : ℕ) (xs rest more : List Item) (i : Item) → ((n : ℕ) → last_rank_from n rest ≤ k → more ≡ rest ++ i ∷ []) → last_rank_from m (xs ++ rest) ≤ k → xs ++ more ≡ (xs ++ rest) ++ i ∷ []
push_there k m xs rest more i next h = ap (λ (z : List Item). xs ++ z) (next (last_rank_from m xs) (subst (λ (n : ℕ). n ≤ k) (last_append m xs rest) h)) ∙ sym (append_assoc xs rest (i ∷ []))

-- ---- seven groups one behind the other

module _ (A B C D E F G : List Item) (a : IsGroup 0 A) (b : IsGroup 1 B) (c : IsGroup 2 C) (d : IsGroup 3 D) (e : IsGroup 4 E) (f : IsGroup 5 F) (g : IsGroup 6 G) where
  abbrev pub from_5 : List Item
  from_5 = F ++ G

  abbrev pub from_4 : List Item
  from_4 = E ++ from_5

  abbrev pub from_3 : List Item
  from_3 = D ++ from_4

  abbrev pub from_2 : List Item
  from_2 = C ++ from_3

  abbrev pub from_1 : List Item
  from_1 = B ++ from_2

  abbrev pub groups : List Item
  groups = A ++ from_1

  above_5 : Above 5 G
  above_5 = above_group 5 6 G refl g

  above_4 : Above 4 from_5
  above_4 = all_append _ F G (above_group 4 5 F refl f) (weaker 4 G above_5)

  above_3 : Above 3 from_4
  above_3 = all_append _ E from_5 (above_group 3 4 E refl e) (weaker 3 from_5 above_4)

  above_2 : Above 2 from_3
  above_2 = all_append _ D from_4 (above_group 2 3 D refl d) (weaker 2 from_4 above_3)

  above_1 : Above 1 from_2
  above_1 = all_append _ C from_3 (above_group 1 2 C refl c) (weaker 1 from_3 above_2)

  above_0 : Above 0 from_1
  above_0 = all_append _ B from_2 (above_group 0 1 B refl b) (weaker 0 from_2 above_1)

  pub push_0 : (i : Item) → last_rank groups ≤ 0 → (A ++ i ∷ []) ++ from_1 ≡ groups ++ i ∷ []
  push_0 i h = push_here 0 0 A from_1 i above_0 h

  pub push_1 : (i : Item) → last_rank groups ≤ 1 → A ++ ((B ++ i ∷ []) ++ from_2) ≡ groups ++ i ∷ []
  push_1 i h = push_there 1 0 A from_1 ((B ++ i ∷ []) ++ from_2) i (λ n. push_here 1 n B from_2 i above_1) h

  pub push_2 : (i : Item) → last_rank groups ≤ 2 → A ++ (B ++ ((C ++ i ∷ []) ++ from_3)) ≡ groups ++ i ∷ []
  push_2 i h = push_there 2 0 A from_1 (B ++ ((C ++ i ∷ []) ++ from_3)) i (λ n. push_there 2 n B from_2 ((C ++ i ∷ []) ++ from_3) i (λ m. push_here 2 m C from_3 i above_2)) h

  pub push_3 : (i : Item) → last_rank groups ≤ 3 → A ++ (B ++ (C ++ ((D ++ i ∷ []) ++ from_4))) ≡ groups ++ i ∷ []
  push_3 i h =
      push_there 3 0 A from_1 (B ++ (C ++ ((D ++ i ∷ []) ++ from_4))) i
      (λ n. push_there 3 n B from_2 (C ++ ((D ++ i ∷ []) ++ from_4)) i (λ m. push_there 3 m C from_3 ((D ++ i ∷ []) ++ from_4) i (λ k. push_here 3 k D from_4 i above_3))) h

  pub push_4 : (i : Item) → last_rank groups ≤ 4 → A ++ (B ++ (C ++ (D ++ ((E ++ i ∷ []) ++ from_5)))) ≡ groups ++ i ∷ []
  push_4 i h =
      push_there 4 0 A from_1 (B ++ (C ++ (D ++ ((E ++ i ∷ []) ++ from_5)))) i
      (λ n. push_there 4 n B from_2 (C ++ (D ++ ((E ++ i ∷ []) ++ from_5))) i
      (λ m. push_there 4 m C from_3 (D ++ ((E ++ i ∷ []) ++ from_5)) i (λ k. push_there 4 k D from_4 ((E ++ i ∷ []) ++ from_5) i (λ j. push_here 4 j E from_5 i above_4)))) h

  pub push_5 : (i : Item) → last_rank groups ≤ 5 → A ++ (B ++ (C ++ (D ++ (E ++ ((F ++ i ∷ []) ++ G))))) ≡ groups ++ i ∷ []
  push_5 i h =
      push_there 5 0 A from_1 (B ++ (C ++ (D ++ (E ++ ((F ++ i ∷ []) ++ G))))) i
      (λ n. push_there 5 n B from_2 (C ++ (D ++ (E ++ ((F ++ i ∷ []) ++ G)))) i
      (λ m. push_there 5 m C from_3 (D ++ (E ++ ((F ++ i ∷ []) ++ G))) i
      (λ k. push_there 5 k D from_4 (E ++ ((F ++ i ∷ []) ++ G)) i (λ j. push_there 5 j E from_5 ((F ++ i ∷ []) ++ G) i (λ l. push_here 5 l F G i above_5))))) h

  pub push_6 : (i : Item) → A ++ (B ++ (C ++ (D ++ (E ++ (F ++ (G ++ i ∷ [])))))) ≡ groups ++ i ∷ []
  push_6 i = simp append_assoc

  -- where an input or axiom was the last item, there are none of the sixth group
  pub none_shown : last_rank groups ≤ 1 → F ≡ []
  none_shown h =
      let e0 = last_append 0 A from_1 in
      let e1 = last_append (last_rank A) B from_2 in
      let none = nothing_behind 1 (last_rank_from (last_rank A) B) from_2 above_1 (subst (λ (n : ℕ). n ≤ 1) (e0 ∙ e1) h) in
      let k = ap length none in
      let l2 = length-append C from_3 in
      let l3 = length-append D from_4 in
      let l4 = length-append E from_5 in
      let l5 = length-append F G in
      nil_from_length F (omega arith)

  split : (k : ℕ) → count k groups ≡ count k A + (count k B + (count k C + (count k D + (count k E + (count k F + count k G)))))
  split k = omega (arith, count_append k A from_1, count_append k B from_2, count_append k C from_3, count_append k D from_4, count_append k E from_5, count_append k F G)

  pub count_0 : count 0 groups ≡ length A
  count_0 = omega (arith, split 0, count_own 0 A a, count_other 1 0 B b refl, count_other 2 0 C c refl, count_other 3 0 D d refl, count_other 4 0 E e refl, count_other 5 0 F f refl, count_other 6 0 G g refl)

  pub count_1 : count 1 groups ≡ length B
  count_1 = omega (arith, split 1, count_own 1 B b, count_other 0 1 A a refl, count_other 2 1 C c refl, count_other 3 1 D d refl, count_other 4 1 E e refl, count_other 5 1 F f refl, count_other 6 1 G g refl)

  pub count_2 : count 2 groups ≡ length C
  count_2 = omega (arith, split 2, count_own 2 C c, count_other 0 2 A a refl, count_other 1 2 B b refl, count_other 3 2 D d refl, count_other 4 2 E e refl, count_other 5 2 F f refl, count_other 6 2 G g refl)

  pub count_3 : count 3 groups ≡ length D
  count_3 = omega (arith, split 3, count_own 3 D d, count_other 0 3 A a refl, count_other 1 3 B b refl, count_other 2 3 C c refl, count_other 4 3 E e refl, count_other 5 3 F f refl, count_other 6 3 G g refl)

  pub count_4 : count 4 groups ≡ length E
  count_4 = omega (arith, split 4, count_own 4 E e, count_other 0 4 A a refl, count_other 1 4 B b refl, count_other 2 4 C c refl, count_other 3 4 D d refl, count_other 5 4 F f refl, count_other 6 4 G g refl)

  pub count_5 : count 5 groups ≡ length F
  count_5 = omega (arith, split 5, count_own 5 F f, count_other 0 5 A a refl, count_other 1 5 B b refl, count_other 2 5 C c refl, count_other 3 5 D d refl, count_other 4 5 E e refl, count_other 6 5 G g refl)

  pub count_6 : count 6 groups ≡ length G
  count_6 = omega (arith, split 6, count_own 6 G g, count_other 0 6 A a refl, count_other 1 6 B b refl, count_other 2 6 C c refl, count_other 3 6 D d refl, count_other 4 6 E e refl, count_other 5 6 F f refl)
