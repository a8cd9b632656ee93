-- One value more, one less, and the first entry of an atom.
use Rattle.std.proofs.Common.{◌≡◌, ◌≢◌, ℕ, suc, zero, ◌+◌, ◌^◌, ◌<◌, ◌≤◌, Bool, true, false, not, cond, inl, inr, List, [], ◌∷◌, ◌++◌, ◌-◌, length, map, take, set, Option, Some, None, get_or, refl, sym, ap, ◌∙◌, subst, arith, length-set}
use Rattle.std.specs.Prelude.{All, AllPairs, Contains, slice_get, count_by, is_some, ◌==◌, nat_le}
use Rattle.std.proofs.lemmas.List.{get_or-set_same, get_or-set_other, length_push, map-append, same_from_push, append-nil, take_all}
use Rattle.std.proofs.lemmas.List.Elements.{All-head, All-tail, All-push, All-weaker, All-contains, All-map, Contains-push, Contains-push_cases, Contains-append_left, filter-append}
use Rattle.std.proofs.lemmas.List.Quantifiers.{all_pairs_push}
use Rattle.std.proofs.lemmas.List.Sums.{sum_by-set, sum_by-append, count_by_more_no}
use Rattle.std.proofs.lemmas.Option.{same_Some, slice_get_within, none-some, slice_get-get_or, get_or_from_slice_get}
use Rattle.std.proofs.lemmas.Bool.{cases_eq, eqb-true, eqb-false, ne_eqb, le-leb}
use Rattle.std.proofs.lemmas.Bool.Decides.{nat_tests}
use Rattle.inst_logic.specs.declared.signed.Signed.{Signed}
use Rattle.prop_logic.proofs.ListLaws.{slice_get_set, slice_get_set_other, slice_get_append, slice_get_last, slice_get_push, All-from_contained}
use Rattle.cdcl_trail.specs.declared.entry.Entry.{Entry}
use Rattle.cdcl_trail.specs.Trail.{IsTrail, IsUnset, literals_of, entries_up_to}
use Rattle.cdcl_trail.specs.Values.{entry_or, entry_at, entries_of, found, AreByAtom, ArePlaces, AreValues}
use Rattle.cdcl_trail.specs.declared.values.Values.{Values}
use Rattle.cdcl_trail.proofs.TrailLaws.{trail_of, level_within}

abbrev unset_count : List (Option Entry) → ℕ
unset_count by_atom = count_by (λ o. not (is_some o)) by_atom

count_some : (by_atom : List (Option Entry)) (a : ℕ) (e : Entry) → slice_get by_atom a ≡ Some None → unset_count by_atom ≡ unset_count (set by_atom a (Some e)) + 1
count_some by_atom a e at =
    let f : Option Entry → ℕ = λ o. cond (not (is_some o)) 1 0 in
    let h = sum_by-set f by_atom a (Some e) None (slice_get_within by_atom a None at) in
    let v : f (get_or by_atom a None) ≡ 1 = ap f (get_or_from_slice_get by_atom a None None at) in
    omega (arith, h, v)

count_none : (by_atom : List (Option Entry)) (a : ℕ) (e : Entry) → slice_get by_atom a ≡ Some (Some e) → unset_count (set by_atom a None) ≡ unset_count by_atom + 1
count_none by_atom a e at =
    let f : Option Entry → ℕ = λ o. cond (not (is_some o)) 1 0 in
    let h = sum_by-set f by_atom a None None (slice_get_within by_atom a (Some e) at) in
    let v : f (get_or by_atom a None) ≡ 0 = ap f (get_or_from_slice_get by_atom a (Some e) None at) in
    omega (arith, h, v)

-- an atom without a value has no entry
pub no_entry : (es : List Entry) (by_atom : List (Option Entry)) (a : ℕ) → AreByAtom es by_atom → a < length by_atom → IsUnset es a → slice_get by_atom a ≡ Some None
no_entry es by_atom a v h unset = by_value (get_or by_atom a None) refl
  where
    at : slice_get by_atom a ≡ Some (get_or by_atom a None)
    at = slice_get-get_or by_atom a None h

    by_value : (o : Option Entry) → get_or by_atom a None ≡ o → slice_get by_atom a ≡ Some None
    by_value None e = at ∙ ap Some e
    by_value (Some x) e =
        let f = v.by_entry a x (at ∙ ap Some e) in
        absurd (All-contains (λ y. y.lit.atom ≢ a) es x unset f.0 f.1)

-- there is room for one value more
pub has_room : (es : List Entry) (by_atom : List (Option Entry)) (a : ℕ) → AreByAtom es by_atom → slice_get by_atom a ≡ Some None → length es < length by_atom
has_room es by_atom a v none = omega (arith, v.counted, count_some by_atom a (record { lit = record { positive = true; atom = a }; level = 0; reason = None }) none)

pub few_entries : (es : List Entry) (by_atom : List (Option Entry)) → AreByAtom es by_atom → length es ≤ length by_atom
few_entries es by_atom v = omega (arith, v.counted)

-- levels fit into a slot
pub level_small : (v : Values) (level : ℕ) (spent : Bool) → AreValues v → IsTrail (trail_of (length v.entries.items) level (entries_of v) spent) → level < 2 ^ 31
level_small v level spent h t =
    omega (arith, level_within (trail_of (length v.entries.items) level (entries_of v) spent) t, few_entries (entries_of v) v.entries.items h.by_atom, h.small)

not_unset : (by_atom : List (Option Entry)) (a b : ℕ) (e : Entry) → slice_get by_atom a ≡ Some None → slice_get by_atom b ≡ Some (Some e) → b ≡ a → ⊥
not_unset by_atom a b e none at same = none-some e (same_Some None (Some e) (sym none ∙ ap (slice_get by_atom) (sym same) ∙ at))

pub unset_atom : (es : List Entry) (by_atom : List (Option Entry)) (a : ℕ) → AreByAtom es by_atom → slice_get by_atom a ≡ Some None → IsUnset es a
unset_atom es by_atom a v at = All-weaker (λ e. slice_get by_atom e.lit.atom ≡ Some (Some e)) (λ e. e.lit.atom ≢ a) (λ e here same. not_unset by_atom a e.lit.atom e at here same) es v.at_atom

-- where each atom has a value there are as many entries
no_unset : (xs : List (Option Entry)) → ((a : ℕ) → slice_get xs a ≡ Some None → ⊥) → unset_count xs ≡ 0
no_unset xs full = subst (λ ys. unset_count ys ≡ 0) (take_all (length xs) xs (omega arith)) (first (length xs) (omega arith))
  where
    nothing : (ys : List (Option Entry)) → unset_count (take 0 ys) ≡ 0
    nothing [] = refl
    nothing (y ∷ ys) = refl

    is_set : (i : ℕ) (o : Option Entry) → slice_get xs i ≡ Some o → not (is_some o) ≡ false
    is_set i None at = absurd (full i at)
    is_set i (Some e) at = refl

    first : (i : ℕ) → i ≤ length xs → unset_count (take i xs) ≡ 0
    first zero h = nothing xs
    first (suc i) h =
        let low : i < length xs = omega (arith, h) in
        let more : i + 1 ≡ suc i = omega arith in
        subst (λ n. unset_count (take n xs) ≡ 0) more (count_by_more_no (λ o. not (is_some o)) xs i None low (is_set i (get_or xs i None) (slice_get-get_or xs i None low)) ∙ first i (omega (arith, h)))

pub all_set : (es : List Entry) (by_atom : List (Option Entry)) → AreByAtom es by_atom → ((a : ℕ) → a < length by_atom → IsUnset es a → ⊥) → length es ≡ length by_atom
all_set es by_atom v full =
    let none = no_unset by_atom (λ a at. full a (slice_get_within by_atom a None at) (unset_atom es by_atom a v at)) in
    omega (arith, v.counted, none)

-- one entry more
pub put_by_atom : (es : List Entry) (by_atom : List (Option Entry)) (e : Entry) → slice_get by_atom e.lit.atom ≡ Some None → AreByAtom es by_atom → AreByAtom (es ++ e ∷ []) (set by_atom e.lit.atom (Some e))
put_by_atom es by_atom e none v =
    let a = e.lit.atom in
    let new = set by_atom a (Some e) in
    let inside = slice_get_within by_atom a None none in
    record {
      at_atom = All-push (λ x. slice_get new x.lit.atom ≡ Some (Some x)) es e
          (All-weaker (λ x. slice_get by_atom x.lit.atom ≡ Some (Some x)) (λ x. slice_get new x.lit.atom ≡ Some (Some x))
          (λ x t. slice_get_set_other by_atom a x.lit.atom (Some e) (not_unset by_atom a x.lit.atom x none t) ∙ t) es v.at_atom)
          (slice_get_set by_atom a (Some e) inside);
      by_entry = λ k x f. elim (cases_eq k a) [
        | inl here ↦
            let same : e ≡ x = same_Some e x (same_Some (Some e) (Some x) (sym (slice_get_set by_atom a (Some e) inside) ∙ ap (slice_get new) (sym here) ∙ f)) in
            (subst (λ y. Contains (es ++ e ∷ []) y) same (Contains-push es e), ap (λ y. y.lit.atom) (sym same) ∙ sym here)
        | inr other ↦
            let g = v.by_entry k x (sym (slice_get_set_other by_atom a k (Some e) other) ∙ f) in
            (Contains-append_left es (e ∷ []) x g.0, g.1)
      ];
      once = all_pairs_push (λ x y. x.lit.atom ≢ y.lit.atom) es e v.once
          (λ k d h same. not_unset by_atom a (get_or es k d).lit.atom (get_or es k d) none (v.at_atom k d h) same);
      counted = omega (arith, v.counted, length_push es e, length-set by_atom a (Some e), count_some by_atom a e none);
    }

-- the last entry is taken away
pub undo_by_atom : (es : List Entry) (by_atom : List (Option Entry)) (e : Entry) → AreByAtom (es ++ e ∷ []) by_atom → AreByAtom es (set by_atom e.lit.atom None)
undo_by_atom es by_atom e v =
    let a = e.lit.atom in
    let new = set by_atom a None in
    let at : slice_get by_atom a ≡ Some (Some e) = All-contains (λ x. slice_get by_atom x.lit.atom ≡ Some (Some x)) (es ++ e ∷ []) e v.at_atom (Contains-push es e) in
    let inside = slice_get_within by_atom a (Some e) at in
    let apart : (x : Entry) → Contains es x → x.lit.atom ≡ a → ⊥ = λ x c. differs x c in
    record {
      at_atom = All-from_contained (λ x. slice_get new x.lit.atom ≡ Some (Some x)) es (λ x c.
          slice_get_set_other by_atom a x.lit.atom None (apart x c) ∙ All-contains (λ y. slice_get by_atom y.lit.atom ≡ Some (Some y)) (es ++ e ∷ []) x v.at_atom (Contains-append_left es (e ∷ []) x c));
      by_entry = λ k x f. elim (cases_eq k a) [
        | inl here ↦ absurd (none-some x (same_Some None (Some x) (sym (slice_get_set by_atom a None inside) ∙ ap (slice_get new) (sym here) ∙ f)))
        | inr other ↦
            let g = v.by_entry k x (sym (slice_get_set_other by_atom a k None other) ∙ f) in
            elim (Contains-push_cases es e x g.0) [
              | inl old ↦ (old, g.1)
              | inr last ↦ absurd (other (sym g.1 ∙ ap (λ y. y.lit.atom) (sym last)))
            ]
      ];
      once = λ i j d h k same. once_less i j d h k same;
      counted = omega (arith, v.counted, length_push es e, length-set by_atom a None, count_none by_atom a e at);
    }
  where
    early : (k : ℕ) (d : Entry) → k < length es → get_or (es ++ e ∷ []) k d ≡ get_or es k d
    early k d h = get_or_from_slice_get (es ++ e ∷ []) k (get_or es k d) d (slice_get_append es (e ∷ []) k (get_or es k d) (slice_get-get_or es k d h))

    late : (d : Entry) → get_or (es ++ e ∷ []) (length es) d ≡ e
    late d = get_or_from_slice_get (es ++ e ∷ []) (length es) e d (slice_get_last es e)

    differs : (x : Entry) → Contains es x → x.lit.atom ≡ e.lit.atom → ⊥
    differs x c same =
        let n : length (es ++ e ∷ []) ≡ length es + 1 = length_push es e in
        v.once c.0 (length es) x c.1 (omega (arith, n)) (ap (λ y. y.lit.atom) (early c.0 x c.1 ∙ c.2) ∙ same ∙ ap (λ y. y.lit.atom) (sym (late x)))

    once_less : (i j : ℕ) (d : Entry) → i < j → j < length es → (get_or es i d).lit.atom ≢ (get_or es j d).lit.atom
    once_less i j d h k same =
        let n : length (es ++ e ∷ []) ≡ length es + 1 = length_push es e in
        let hi : i < length es = omega arith in
        v.once i j d h (omega (arith, n)) (ap (λ y. y.lit.atom) (early i d hi) ∙ same ∙ ap (λ y. y.lit.atom) (sym (early j d k)))

-- places
pub put_places : (es : List Entry) (by_atom : List (Option Entry)) (places : List ℕ) (e : Entry) → e.lit.atom < length by_atom → ArePlaces es by_atom places → ArePlaces (es ++ e ∷ []) (set by_atom e.lit.atom (Some e)) (set places e.lit.atom (length es))
put_places es by_atom places e low p =
    let a = e.lit.atom in
    let new = set by_atom a (Some e) in
    record {
      held = λ k x f. elim (cases_eq k a) [
        | inl here ↦
            let same : e ≡ x = same_Some e x (same_Some (Some e) (Some x) (sym (slice_get_set by_atom a (Some e) low) ∙ ap (slice_get new) (sym here) ∙ f)) in
            let place : get_or (set places a (length es)) k 0 ≡ length es = ap (λ i. get_or (set places a (length es)) i 0) here ∙ get_or-set_same places a (length es) 0 (omega (arith, low, p.size)) in
            ap (slice_get (es ++ e ∷ [])) place ∙ slice_get_last es e ∙ ap Some same
        | inr other ↦
            let old = p.held k x (sym (slice_get_set_other by_atom a k (Some e) other) ∙ f) in
            ap (slice_get (es ++ e ∷ [])) (get_or-set_other places a k (length es) 0 other) ∙ slice_get_append es (e ∷ []) (get_or places k 0) x old
      ];
      size = omega (arith, p.size, length-set by_atom a (Some e), length-set places a (length es));
    }

pub undo_places : (es : List Entry) (by_atom : List (Option Entry)) (places : List ℕ) (e : Entry) → AreByAtom (es ++ e ∷ []) by_atom → ArePlaces (es ++ e ∷ []) by_atom places → ArePlaces es (set by_atom e.lit.atom None) (set places e.lit.atom 0)
undo_places es by_atom places e v p =
    let a = e.lit.atom in
    let at : slice_get by_atom a ≡ Some (Some e) = All-contains (λ x. slice_get by_atom x.lit.atom ≡ Some (Some x)) (es ++ e ∷ []) e v.at_atom (Contains-push es e) in
    let inside = slice_get_within by_atom a (Some e) at in
    record {
      held = λ k x f. elim (cases_eq k a) [
        | inl here ↦ absurd (none-some x (same_Some None (Some x) (sym (slice_get_set by_atom a None inside) ∙ ap (slice_get (set by_atom a None)) (sym here) ∙ f)))
        | inr other ↦
            let old : slice_get by_atom k ≡ Some (Some x) = sym (slice_get_set_other by_atom a k None other) ∙ f in
            elim (slice_get_push es e (get_or places k 0) x (p.held k x old)) [
              | inl early ↦ ap (slice_get es) (get_or-set_other places a k 0 0 other) ∙ early.0
              | inr last ↦ absurd (other (sym (v.by_entry k x old).1 ∙ ap (λ y. y.lit.atom) (sym last.1)))
            ]
      ];
      size = omega (arith, p.size, length-set by_atom a None, length-set places a 0);
    }

-- one place more than is needed
longer_places : (es : List Entry) (by_atom : List (Option Entry)) (places : List ℕ) → ArePlaces es by_atom places → ArePlaces es by_atom (places ++ 0 ∷ [])
longer_places es by_atom places p = record {
  held = λ a e f.
      let low = slice_get_within by_atom a (Some e) f in
      ap (slice_get es) (get_or_from_slice_get (places ++ 0 ∷ []) a (get_or places a 0) 0 (slice_get_append places (0 ∷ []) a (get_or places a 0) (slice_get-get_or places a 0 (omega (arith, low, p.size))))) ∙ p.held a e f;
  size = omega (arith, p.size, length_push places 0);
}

pub grown_places : (es : List Entry) (by_atom : List (Option Entry)) (places : List ℕ) → ArePlaces es by_atom places → ArePlaces es (by_atom ++ None ∷ []) (places ++ 0 ∷ [])
grown_places es by_atom places p = record {
  held = λ a e f. elim (slice_get_push by_atom None a (Some e) f) [ inl old ↦ (longer_places es by_atom places p).held a e old.0 | inr new ↦ absurd (none-some e new.1) ];
  size = omega (arith, p.size, length_push by_atom None, length_push places 0);
}

-- the entries of literals at which nothing changed
same_entries : (by_atom : List (Option Entry)) (a : ℕ) (o : Option Entry) (ls : List (Signed ℕ)) → All (λ l. l.atom ≢ a) ls → map (entry_at (set by_atom a o)) ls ≡ map (entry_at by_atom) ls
same_entries by_atom a o [] h = refl
same_entries by_atom a o (l ∷ ls) h =
    let one : entry_at (set by_atom a o) l ≡ entry_at by_atom l = ap (λ x. entry_or x l) (slice_get_set_other by_atom a l.atom o (All-head (λ x. x.atom ≢ a) l ls h)) in
    let rest = same_entries by_atom a o ls (All-tail (λ x. x.atom ≢ a) l ls h) in
    ap (λ x. x ∷ map (entry_at (set by_atom a o)) ls) one ∙ ap (λ xs. entry_at by_atom l ∷ xs) rest

apart_literals : (es : List Entry) (ls : List (Signed ℕ)) (a : ℕ) → literals_of es ≡ ls → IsUnset es a → All (λ l. l.atom ≢ a) ls
apart_literals es ls a same unset = subst (λ xs. All (λ l. l.atom ≢ a) xs) same (All-map (λ (l : Signed ℕ). l.atom ≢ a) (λ (e : Entry). e.lit) es unset)

pub put_entries : (by_atom : List (Option Entry)) (ls : List (Signed ℕ)) (e : Entry) → literals_of (map (entry_at by_atom) ls) ≡ ls → e.lit.atom < length by_atom → IsUnset (map (entry_at by_atom) ls) e.lit.atom
    → map (entry_at (set by_atom e.lit.atom (Some e))) (ls ++ e.lit ∷ []) ≡ map (entry_at by_atom) ls ++ e ∷ []
put_entries by_atom ls e same inside unset =
    let new = set by_atom e.lit.atom (Some e) in
    let rest = same_entries by_atom e.lit.atom (Some e) ls (apart_literals (map (entry_at by_atom) ls) ls e.lit.atom same unset) in
    let last : entry_at new e.lit ≡ e = ap (λ x. entry_or x e.lit) (slice_get_set by_atom e.lit.atom (Some e) inside) in
    map-append (entry_at new) ls (e.lit ∷ []) ∙ ap (λ xs. xs ++ entry_at new e.lit ∷ []) rest ∙ ap (λ x. map (entry_at by_atom) ls ++ x ∷ []) last

pub put_literals : (es : List Entry) (ls : List (Signed ℕ)) (e : Entry) → literals_of es ≡ ls → literals_of (es ++ e ∷ []) ≡ ls ++ e.lit ∷ []
put_literals es ls e same = map-append (λ (x : Entry). x.lit) es (e ∷ []) ∙ ap (λ xs. xs ++ e.lit ∷ []) same

-- the entries up to the last, and the last one
pub split_entries : (by_atom : List (Option Entry)) (ls : List (Signed ℕ)) (l : Signed ℕ) → map (entry_at by_atom) (ls ++ l ∷ []) ≡ map (entry_at by_atom) ls ++ entry_at by_atom l ∷ []
split_entries by_atom ls l = map-append (entry_at by_atom) ls (l ∷ [])

pub split_literals : (by_atom : List (Option Entry)) (ls : List (Signed ℕ)) (l : Signed ℕ) → literals_of (map (entry_at by_atom) (ls ++ l ∷ [])) ≡ ls ++ l ∷ [] → (literals_of (map (entry_at by_atom) ls) ≡ ls) × ((entry_at by_atom l).lit ≡ l)
split_literals by_atom ls l same =
    same_from_push (literals_of (map (entry_at by_atom) ls)) ls (entry_at by_atom l).lit l
    (sym (ap literals_of (split_entries by_atom ls l) ∙ map-append (λ (x : Entry). x.lit) (map (entry_at by_atom) ls) (entry_at by_atom l ∷ [])) ∙ same)

pub undo_entries : (by_atom : List (Option Entry)) (ls : List (Signed ℕ)) (l : Signed ℕ) → literals_of (map (entry_at by_atom) (ls ++ l ∷ [])) ≡ ls ++ l ∷ [] → AreByAtom (map (entry_at by_atom) (ls ++ l ∷ [])) by_atom
    → map (entry_at (set by_atom l.atom None)) ls ≡ map (entry_at by_atom) ls
undo_entries by_atom ls l same v =
    let es = map (entry_at by_atom) ls in
    let e = entry_at by_atom l in
    let s = split_literals by_atom ls l same in
    let w = subst (λ xs. AreByAtom xs by_atom) (split_entries by_atom ls l) v in
    let apart : IsUnset es l.atom = All-from_contained (λ x. x.lit.atom ≢ l.atom) es (λ x c same. undone_apart es by_atom e w x c (same ∙ ap (λ y. y.atom) (sym s.1))) in
    same_entries by_atom l.atom None ls (apart_literals es ls l.atom s.0 apart)
  where
    undone_apart : (es : List Entry) (by_atom : List (Option Entry)) (e : Entry) → AreByAtom (es ++ e ∷ []) by_atom → (x : Entry) → Contains es x → x.lit.atom ≡ e.lit.atom → ⊥
    undone_apart es by_atom e w x c same =
        let u = undo_by_atom es by_atom e w in
        let at : slice_get (set by_atom e.lit.atom None) x.lit.atom ≡ Some (Some x) = All-contains (λ y. slice_get (set by_atom e.lit.atom None) y.lit.atom ≡ Some (Some y)) es x u.at_atom c in
        let old : slice_get by_atom e.lit.atom ≡ Some (Some e) = All-contains (λ y. slice_get by_atom y.lit.atom ≡ Some (Some y)) (es ++ e ∷ []) e w.at_atom (Contains-push es e) in
        none-some x (same_Some None (Some x) (sym (slice_get_set by_atom e.lit.atom None (slice_get_within by_atom e.lit.atom (Some e) old)) ∙ ap (slice_get (set by_atom e.lit.atom None)) (sym same) ∙ at))

pub undo_at_atom : (by_atom : List (Option Entry)) (ls : List (Signed ℕ)) (l : Signed ℕ) → literals_of (map (entry_at by_atom) (ls ++ l ∷ [])) ≡ ls ++ l ∷ [] → AreByAtom (map (entry_at by_atom) (ls ++ l ∷ [])) by_atom
    → AreByAtom (map (entry_at by_atom) ls) (set by_atom l.atom None)
undo_at_atom by_atom ls l same v =
    let s = split_literals by_atom ls l same in
    let w = subst (λ xs. AreByAtom xs by_atom) (split_entries by_atom ls l) v in
    subst (λ a. AreByAtom (map (entry_at by_atom) ls) (set by_atom a None)) (ap (λ y. y.atom) s.1) (undo_by_atom (map (entry_at by_atom) ls) by_atom (entry_at by_atom l) w)

pub undo_at_places : (by_atom : List (Option Entry)) (places : List ℕ) (ls : List (Signed ℕ)) (l : Signed ℕ) → literals_of (map (entry_at by_atom) (ls ++ l ∷ [])) ≡ ls ++ l ∷ [] → AreByAtom (map (entry_at by_atom) (ls ++ l ∷ [])) by_atom
    → ArePlaces (map (entry_at by_atom) (ls ++ l ∷ [])) by_atom places → ArePlaces (map (entry_at by_atom) ls) (set by_atom l.atom None) (set places l.atom 0)
undo_at_places by_atom places ls l same v p =
    let es = map (entry_at by_atom) ls in
    let s = split_literals by_atom ls l same in
    let w = subst (λ xs. AreByAtom xs by_atom) (split_entries by_atom ls l) v in
    let q = subst (λ xs. ArePlaces xs by_atom places) (split_entries by_atom ls l) p in
    subst (λ a. ArePlaces es (set by_atom a None) (set places a 0)) (ap (λ y. y.atom) s.1) (undo_places es by_atom places (entry_at by_atom l) w q)

-- the last literal's atom has its entry
pub last_at : (by_atom : List (Option Entry)) (ls : List (Signed ℕ)) (l : Signed ℕ) → literals_of (map (entry_at by_atom) (ls ++ l ∷ [])) ≡ ls ++ l ∷ [] → AreByAtom (map (entry_at by_atom) (ls ++ l ∷ [])) by_atom
    → slice_get by_atom l.atom ≡ Some (Some (entry_at by_atom l))
last_at by_atom ls l same v =
    let e = entry_at by_atom l in
    let s = split_literals by_atom ls l same in
    let w = subst (λ xs. AreByAtom xs by_atom) (split_entries by_atom ls l) v in
    ap (λ x. slice_get by_atom x.atom) (sym s.1) ∙ All-contains (λ y. slice_get by_atom y.lit.atom ≡ Some (Some y)) (map (entry_at by_atom) ls ++ e ∷ []) e w.at_atom (Contains-push (map (entry_at by_atom) ls) e)

-- the first entry of an atom
find_none : (es : List Entry) (a : ℕ) → IsUnset es a → found es a ≡ None
find_none [] a h = refl
find_none (e ∷ es) a h =
    let n : (e.lit.atom == a) ≡ false = ne_eqb e.lit.atom a (All-head (λ x. x.lit.atom ≢ a) e es h) in
    rw n (find_none es a (All-tail (λ x. x.lit.atom ≢ a) e es h))

find_some : (es : List Entry) (a : ℕ) (e : Entry) → All (λ x. x.lit.atom ≡ a → x ≡ e) es → Contains es e → e.lit.atom ≡ a → found es a ≡ Some e
find_some [] a e all c at = absurd (omega (arith, c.1))
find_some (x ∷ es) a e all c at = by_test (x.lit.atom == a) refl (λ k. find_some es a e (All-tail (λ y. y.lit.atom ≡ a → y ≡ e) x es all) k at)
  where
    later : (x.lit.atom == a) ≡ false → Contains (x ∷ es) e → Contains es e
    later t (zero, h, same) = absurd (eqb-false x.lit.atom a t (ap (λ y. y.lit.atom) same ∙ at))
    later t (suc k, h, same) = (k, omega arith, same)

    by_test : (b : Bool) → (x.lit.atom == a) ≡ b → (Contains es e → found es a ≡ Some e) → found (x ∷ es) a ≡ Some e
    by_test true t rest = rw t (ap Some (All-head (λ y. y.lit.atom ≡ a → y ≡ e) x es all (eqb-true x.lit.atom a t)))
    by_test false t rest = rw t (rest (later t c))

pub found_is : (es : List Entry) (by_atom : List (Option Entry)) (a : ℕ) (o : Option Entry) → AreByAtom es by_atom → slice_get by_atom a ≡ Some o → o ≡ found es a
found_is es by_atom a None v at = sym (find_none es a (unset_atom es by_atom a v at))
found_is es by_atom a (Some x) v at =
    let f = v.by_entry a x at in
    let all : All (λ y. y.lit.atom ≡ a → y ≡ x) es = All-weaker (λ y. slice_get by_atom y.lit.atom ≡ Some (Some y)) (λ y. y.lit.atom ≡ a → y ≡ x)
    (λ y t same. same_Some y x (same_Some (Some y) (Some x) (sym t ∙ ap (slice_get by_atom) same ∙ at))) es v.at_atom in
    sym (find_some es a x all f.0 f.1)

-- one atom more
grown_at : (by_atom : List (Option Entry)) (k : ℕ) (l : Signed ℕ) → entry_or (slice_get (by_atom ++ None ∷ []) k) l ≡ entry_or (slice_get by_atom k) l
grown_at [] zero l = refl
grown_at [] (suc k) l = refl
grown_at (o ∷ os) zero l = refl
grown_at (o ∷ os) (suc k) l = grown_at os k l

pub grown_entries : (by_atom : List (Option Entry)) (ls : List (Signed ℕ)) → map (entry_at (by_atom ++ None ∷ [])) ls ≡ map (entry_at by_atom) ls
grown_entries by_atom [] = refl
grown_entries by_atom (l ∷ ls) = ap (λ x. x ∷ map (entry_at (by_atom ++ None ∷ [])) ls) (grown_at by_atom l.atom l) ∙ ap (λ xs. entry_at by_atom l ∷ xs) (grown_entries by_atom ls)

pub grown_by_atom : (es : List Entry) (by_atom : List (Option Entry)) → AreByAtom es by_atom → AreByAtom es (by_atom ++ None ∷ [])
grown_by_atom es by_atom v = record {
  at_atom = All-weaker (λ x. slice_get by_atom x.lit.atom ≡ Some (Some x)) (λ x. slice_get (by_atom ++ None ∷ []) x.lit.atom ≡ Some (Some x))
      (λ x t. slice_get_append by_atom (None ∷ []) x.lit.atom (Some x) t) es v.at_atom;
  by_entry = λ a e f. elim (slice_get_push by_atom None a (Some e) f) [ inl old ↦ v.by_entry a e old.0 | inr new ↦ absurd (none-some e new.1) ];
  once = v.once;
  counted = omega (arith, v.counted, length_push by_atom None, count_push by_atom);
}
  where
    count_push : (os : List (Option Entry)) → unset_count (os ++ None ∷ []) ≡ unset_count os + 1
    count_push os = sum_by-append (λ o. cond (not (is_some o)) 1 0) os (None ∷ [])

-- the last item of a list, and those before it
split_at_end : {X : Type 0} (xs : List X) (x : X) (n : ℕ) → slice_get xs n ≡ Some x → length xs ≡ suc n → (ys : List X) × (xs ≡ ys ++ x ∷ [])
split_at_end [] x n e h = absurd cc
split_at_end (y ∷ []) x zero e h = ([], ap (λ z. z ∷ []) (same_Some y x e))
split_at_end (y ∷ []) x (suc n) e h = absurd cc
split_at_end (y ∷ z ∷ zs) x zero e h = absurd (omega arith)
split_at_end (y ∷ z ∷ zs) x (suc n) e h =
    let rest = split_at_end (z ∷ zs) x n e (omega arith) in
    (y ∷ rest.0, ap (λ l. y ∷ l) rest.1)

pub last_split : {X : Type 0} (xs : List X) (x : X) → slice_get xs (length xs - 1) ≡ Some x → (ys : List X) × (xs ≡ ys ++ x ∷ [])
last_split xs x e = split_at_end xs x (length xs - 1) e (omega (arith, slice_get_within xs (length xs - 1) x e))

-- what no level exceeds stays
pub up_to_all : (es : List Entry) (n : ℕ) → All (λ e. e.level ≤ n) es → entries_up_to es n ≡ es
up_to_all [] n h = refl
up_to_all (e ∷ es) n h =
    let t : nat_le e.level n ≡ true = le-leb e.level n (All-head (λ x. x.level ≤ n) e es h) in
    rw t (ap (λ xs. e ∷ xs) (up_to_all es n (All-tail (λ x. x.level ≤ n) e es h)))

pub up_to_less : (es : List Entry) (e : Entry) (n : ℕ) → n < e.level → entries_up_to (es ++ e ∷ []) n ≡ entries_up_to es n
up_to_less es e n h =
    let t : nat_le e.level n ≡ false = lt-leb e.level n h in
    filter-append (λ (x : Entry). nat_le x.level n) es (e ∷ []) ∙ rw t (append-nil (entries_up_to es n))
  where
    lt-leb : (a b : ℕ) → b < a → nat_le a b ≡ false
    lt-leb a b h = grind (arith, nat_tests)

-- where the levels rise, the last is the highest
pub all_low : (es : List Entry) (e : Entry) (n : ℕ) → AllPairs (λ a b. a.level ≤ b.level) (es ++ e ∷ []) → e.level ≤ n → All (λ x. x.level ≤ n) (es ++ e ∷ [])
all_low es e n rising h =
    All-push (λ x. x.level ≤ n) es e
    (λ k d within.
    let size : length (es ++ e ∷ []) ≡ length es + 1 = length_push es e in
    let up = rising k (length es) d within (omega (arith, size)) in
    let early : get_or (es ++ e ∷ []) k d ≡ get_or es k d = get_or_from_slice_get (es ++ e ∷ []) k (get_or es k d) d (slice_get_append es (e ∷ []) k (get_or es k d) (slice_get-get_or es k d within)) in
    let late : get_or (es ++ e ∷ []) (length es) d ≡ e = get_or_from_slice_get (es ++ e ∷ []) (length es) e d (slice_get_last es e) in
    let a : (get_or (es ++ e ∷ []) k d).level ≡ (get_or es k d).level = ap (λ x. x.level) early in
    let b : (get_or (es ++ e ∷ []) (length es) d).level ≡ e.level = ap (λ x. x.level) late in
    omega (arith, up, a, b, h)) h

pub split_nonempty : (es : List Entry) → 0 < length es → (ys : List Entry) × (y : Entry) × (es ≡ ys ++ y ∷ [])
split_nonempty [] h = absurd (omega (arith, h))
split_nonempty (x ∷ xs) h =
    let y = get_or (x ∷ xs) (length (x ∷ xs) - 1) x in
    let s = last_split (x ∷ xs) y (slice_get-get_or (x ∷ xs) (length (x ∷ xs) - 1) x (omega (arith, h))) in
    (s.0, y, s.1)
