-- The steps of reading disjunctions, as the code takes them.
use Rattle.std.proofs.Common.{◌≡◌, ℕ, zero, suc, ◌-◌, ◌≤◌, true, false, cond, List, [], ◌∷◌, ◌++◌, length, Option, Some, None, refl, sym, ap, ◌∙◌, fold, arith}
use Rattle.tptp_read.specs.Stream.{Tok}
use Rattle.tptp_read.specs.declared.stop.Stop.{Stop}
use Rattle.tptp_read.specs.declared.stop.Stop.TheVariants as stops
use Rattle.tptp_read.specs.Grammar.{Simple, Item, simple, nested, last, or}
use Rattle.tptp_read.specs.Meaning.{from_simple, from_item, from_items}
use Rattle.tptp_read.specs.Parse.{◌>>=◌, Reads, begins_with, behind, many_at}
use Rattle.tptp_read.specs.ParseClause.{simple_at, items_of, item_with, item_at}
use Rattle.tptp_read.specs.LexemeView.{Fails}
use Rattle.tptp_read.specs.Shapes.{seen}
use Rattle.tptp_read.specs.Gathered.{Gathered, gather}
use Rattle.tptp_read.proofs.ItemLaws.{item_spelled, items_len}
use Rattle.tptp_read.proofs.GatherLaws.{seen_some, seen_fails}

-- ---- one after another

module _ {A : Type 0} (b : ℕ) (p : Reads A) (shrinks : (ts : List Tok) (z : A × List Tok) → p ts ≡ Some z → length z.1 ≤ length ts) where
  more_fuel : (n m : ℕ) (ts : List Tok) (r : Option (A × List Tok)) → p ts ≡ r → ((us : List Tok) → length us ≤ length ts → many_at b p n us ≡ many_at b p m us)
      → ◌>>=◌ {B = List A × List Tok} r (λ x. ◌>>=◌ {B = List A × List Tok} (many_at b p n x.1) (λ xs. Some (x.0 ∷ xs.0, xs.1))) ≡ ◌>>=◌ {B = List A × List Tok} r (λ x. ◌>>=◌ {B = List A × List Tok} (many_at b p m x.1) (λ xs. Some (x.0 ∷ xs.0, xs.1)))
  more_fuel n m ts (Some z) e same = rw (same z.1 (shrinks ts z e)) refl
  more_fuel n m ts None e same = refl

  pub many_fuel : (n m : ℕ) (ts : List Tok) → length ts ≤ n → length ts ≤ m → many_at b p n ts ≡ many_at b p m ts
  unfolding many_at
  many_fuel zero zero ts le le' = refl
  many_fuel zero (suc m) [] le le' = refl
  many_fuel zero (suc m) (t ∷ ts) le le' = absurd (omega arith)
  many_fuel (suc n) zero [] le le' = refl
  many_fuel (suc n) zero (t ∷ ts) le le' = absurd (omega arith)
  many_fuel (suc n) (suc m) [] le le' = refl
  many_fuel (suc n) (suc m) (t ∷ ts) le le' = ap (λ r. cond (begins_with b (t ∷ ts)) r (Some ([], t ∷ ts))) (more_fuel n m ts (p ts) refl (λ us lt. many_fuel n m us (omega arith) (omega arith)))

  steps : (ts : List Tok) → begins_with b ts ≡ true → many_at b p (length ts) ts ≡ ◌>>=◌ {B = List A × List Tok} (p (behind ts)) (λ x. ◌>>=◌ {B = List A × List Tok} (many_at b p (length (behind ts)) x.1) (λ xs. Some (x.0 ∷ xs.0, xs.1)))
  unfolding many_at
  steps [] e = absurd cc
  steps (t ∷ ts) e = rw e refl

  pub one_first : (ts us : List Tok) (x : A) → begins_with b ts ≡ true → p (behind ts) ≡ Some (x, us) → many_at b p (length ts) ts ≡ ◌>>=◌ {B = List A × List Tok} (many_at b p (length us) us) (λ xs. Some (x ∷ xs.0, xs.1))
  one_first ts us x e first =
      let le = shrinks (behind ts) (x, us) first in
      let fuel = many_fuel (length (behind ts)) (length us) us le (omega arith) in
      steps ts e ∙ rw (first, fuel) refl

  pub none_first : (ts : List Tok) → begins_with b ts ≡ true → p (behind ts) ≡ None → many_at b p (length ts) ts ≡ None
  none_first ts e first = steps ts e ∙ rw first refl

  pub none_more : (n : ℕ) (ts : List Tok) → begins_with b ts ≡ false → many_at b p n ts ≡ Some ([], ts)
  unfolding many_at
  none_more zero ts e = refl
  none_more (suc n) ts e = rw e refl

-- ---- the literals of a disjunction

item_shrinks : (n d : ℕ) (ts : List Tok) (z : Item × List Tok) → item_at n d ts ≡ Some z → length z.1 ≤ length ts
item_shrinks n d ts z e = let s = item_spelled n d ts z e in omega (arith, items_len (or z.0 last) z.1, ap length s.0)

abbrev pub of_item : List (List ℕ) → Gathered → Item → Gathered
of_item vs g i = fold (gather vs) g (from_item i)

abbrev pub of_items : List (List ℕ) → Gathered → List Item → Gathered
of_items vs g is = fold (gather vs) g (from_items (items_of is))

pub fold_more : {A B : Type 0} (f : B → A → B) (g : B) (xs ys : List A) → fold f g (xs ++ ys) ≡ fold f (fold f g xs) ys
fold_more f g [] ys = refl
fold_more f g (x ∷ xs) ys = fold_more f (f g x) xs ys

regroup : (vs : List (List ℕ)) (g : Gathered) (i : Item) (r : Option (List Item × List Tok)) → seen (of_items vs g) (◌>>=◌ {B = List Item × List Tok} r (λ xs. Some (i ∷ xs.0, xs.1))) ≡ seen (of_items vs (of_item vs g i)) r
regroup vs g i (Some z) = ap (λ (x : Gathered). Some (x, z.1)) (fold_more (gather vs) g (from_item i) (from_items (items_of z.0)))
regroup vs g i None = refl

pub items_go_on : (vs : List (List ℕ)) (n d : ℕ) (ts after : List Tok) (g h : Gathered) (total : Option (Gathered × List Tok)) → begins_with 124 ts ≡ true → seen (of_item vs g) (item_at n d (behind ts)) ≡ Some (h, after)
    → seen (of_items vs g) (many_at 124 (item_at n d) (length ts) ts) ≡ total → seen (of_items vs h) (many_at 124 (item_at n d) (length after) after) ≡ total
items_go_on vs n d ts after g h total bar first so_far =
    let a = seen_some (of_item vs g) (item_at n d (behind ts)) h after first in
    let one = one_first 124 (item_at n d) (item_shrinks n d) ts after a.0 bar a.1 in
    ap (λ (x : Gathered). seen (of_items vs x) (many_at 124 (item_at n d) (length after) after)) (sym a.2)
    ∙ sym (regroup vs g a.0 (many_at 124 (item_at n d) (length after) after)) ∙ sym (ap (λ r. seen (of_items vs g) r) one) ∙ so_far

pub items_end : (e : Stop) (vs : List (List ℕ)) (n d : ℕ) (ts : List Tok) (g : Gathered) (total : Option (Gathered × List Tok)) → begins_with 124 ts ≡ true → Fails e (seen (of_item vs g) (item_at n d (behind ts)))
    → seen (of_items vs g) (many_at 124 (item_at n d) (length ts) ts) ≡ total → Fails e total
items_end stops.Memory vs n d ts g total bar h so_far = tt
items_end stops.Wrong vs n d ts g total bar h so_far =
    let none = none_first 124 (item_at n d) (item_shrinks n d) ts bar (seen_fails stops.Wrong (of_item vs g) (item_at n d (behind ts)) h) in
    sym so_far ∙ ap (λ r. seen (of_items vs g) r) none

pub items_done : (vs : List (List ℕ)) (n d : ℕ) (ts : List Tok) (g : Gathered) (total : Option (Gathered × List Tok)) → begins_with 124 ts ≡ false → seen (of_items vs g) (many_at 124 (item_at n d) (length ts) ts) ≡ total → total ≡ Some (g, ts)
items_done vs n d ts g total e so_far = sym so_far ∙ ap (λ r. seen (of_items vs g) r) (none_more 124 (item_at n d) (item_shrinks n d) (length ts) ts e)

-- ---- a literal alone

pub item_alone : (n d : ℕ) (ts : List Tok) → begins_with 40 ts ≡ false → item_at n d ts ≡ ◌>>=◌ {B = Item × List Tok} (simple_at d ts) (λ s. Some (simple s.0, s.1))
unfolding item_at item_with
item_alone zero d ts e = rw e refl
item_alone (suc n) d ts e = rw e refl

alone_seen : (vs : List (List ℕ)) (g : Gathered) (r : Option (Simple × List Tok)) → seen (λ s. gather vs g (from_simple s)) r ≡ seen (of_item vs g) (◌>>=◌ {B = Item × List Tok} r (λ s. Some (simple s.0, s.1)))
alone_seen vs g (Some z) = refl
alone_seen vs g None = refl

pub item_single : (vs : List (List ℕ)) (g : Gathered) (n d : ℕ) (ts : List Tok) → begins_with 40 ts ≡ false → seen (λ s. gather vs g (from_simple s)) (simple_at d ts) ≡ seen (of_item vs g) (item_at n d ts)
item_single vs g n d ts e = alone_seen vs g (simple_at d ts) ∙ sym (ap (λ r. seen (of_item vs g) r) (item_alone n d ts e))

-- ---- a disjunction in parentheses

pub item_deep : (n d : ℕ) (ts : List Tok) → n ≡ 0 → begins_with 40 ts ≡ true → item_at n d ts ≡ None
unfolding item_at item_with
item_deep zero d ts z e = rw e refl
item_deep (suc n) d ts z e = absurd (omega arith)

abbrev closes : List Item × List Tok → Item → Option (Item × List Tok)
closes is i = cond (begins_with 41 is.1) (Some (nested i (items_of is.0), behind is.1)) None

item_opens : (n d : ℕ) (ts : List Tok) → (n ≡ 0 → ⊥) → begins_with 40 ts ≡ true
    → item_at n d ts ≡ ◌>>=◌ {B = Item × List Tok} (item_at (n - 1) d (behind ts)) (λ i. ◌>>=◌ {B = Item × List Tok} (many_at 124 (item_at (n - 1) d) (length i.1) i.1) (λ is. closes is i.0))
unfolding item_at item_with
item_opens zero d ts ne e = absurd (ne refl)
item_opens (suc n) d ts ne e = let same : suc n - 1 ≡ n = omega arith in rw (same, e) refl

none_inside : (n d : ℕ) (ts : List Tok) → (n ≡ 0 → ⊥) → begins_with 40 ts ≡ true → item_at (n - 1) d (behind ts) ≡ None → item_at n d ts ≡ None
none_inside n d ts ne e first = item_opens n d ts ne e ∙ rw first refl

none_behind : (n d : ℕ) (ts us : List Tok) (i : Item) → (n ≡ 0 → ⊥) → begins_with 40 ts ≡ true → item_at (n - 1) d (behind ts) ≡ Some (i, us) → many_at 124 (item_at (n - 1) d) (length us) us ≡ None → item_at n d ts ≡ None
none_behind n d ts us i ne e first others = item_opens n d ts ne e ∙ rw (first, others) refl

none_closes : (n d : ℕ) (ts us rest : List Tok) (i : Item) (is : List Item) → (n ≡ 0 → ⊥) → begins_with 40 ts ≡ true → item_at (n - 1) d (behind ts) ≡ Some (i, us)
    → many_at 124 (item_at (n - 1) d) (length us) us ≡ Some (is, rest) → begins_with 41 rest ≡ false → item_at n d ts ≡ None
none_closes n d ts us rest i is ne e first others ends = item_opens n d ts ne e ∙ rw (first, others, ends) refl

nested_is : (n d : ℕ) (ts us rest : List Tok) (i : Item) (is : List Item) → (n ≡ 0 → ⊥) → begins_with 40 ts ≡ true → item_at (n - 1) d (behind ts) ≡ Some (i, us)
    → many_at 124 (item_at (n - 1) d) (length us) us ≡ Some (is, rest) → begins_with 41 rest ≡ true → item_at n d ts ≡ Some (nested i (items_of is), behind rest)
nested_is n d ts us rest i is ne e first others ends = item_opens n d ts ne e ∙ rw (first, others, ends) refl

pub nested_first_fails : (x : Stop) (vs : List (List ℕ)) (g : Gathered) (n d : ℕ) (ts : List Tok) → (n ≡ 0 → ⊥) → begins_with 40 ts ≡ true → Fails x (seen (of_item vs g) (item_at (n - 1) d (behind ts))) → Fails x (seen (of_item vs g) (item_at n d ts))
nested_first_fails stops.Memory vs g n d ts ne e h = tt
nested_first_fails stops.Wrong vs g n d ts ne e h = ap (λ r. seen (of_item vs g) r) (none_inside n d ts ne e (seen_fails stops.Wrong (of_item vs g) (item_at (n - 1) d (behind ts)) h))

pub nested_others_fail : (x : Stop) (vs : List (List ℕ)) (g h : Gathered) (n d : ℕ) (ts us : List Tok) → (n ≡ 0 → ⊥) → begins_with 40 ts ≡ true → seen (of_item vs g) (item_at (n - 1) d (behind ts)) ≡ Some (h, us)
    → Fails x (seen (of_items vs h) (many_at 124 (item_at (n - 1) d) (length us) us)) → Fails x (seen (of_item vs g) (item_at n d ts))
nested_others_fail stops.Memory vs g h n d ts us ne e first f = tt
nested_others_fail stops.Wrong vs g h n d ts us ne e first f =
    let a = seen_some (of_item vs g) (item_at (n - 1) d (behind ts)) h us first in
    ap (λ r. seen (of_item vs g) r) (none_behind n d ts us a.0 ne e a.1 (seen_fails stops.Wrong (of_items vs h) (many_at 124 (item_at (n - 1) d) (length us) us) f))

pub nested_unclosed : (vs : List (List ℕ)) (g h k : Gathered) (n d : ℕ) (ts us rest : List Tok) → (n ≡ 0 → ⊥) → begins_with 40 ts ≡ true → seen (of_item vs g) (item_at (n - 1) d (behind ts)) ≡ Some (h, us)
    → seen (of_items vs h) (many_at 124 (item_at (n - 1) d) (length us) us) ≡ Some (k, rest) → begins_with 41 rest ≡ false → seen (of_item vs g) (item_at n d ts) ≡ None
nested_unclosed vs g h k n d ts us rest ne e first others ends =
    let a = seen_some (of_item vs g) (item_at (n - 1) d (behind ts)) h us first in
    let b = seen_some (of_items vs h) (many_at 124 (item_at (n - 1) d) (length us) us) k rest others in
    ap (λ r. seen (of_item vs g) r) (none_closes n d ts us rest a.0 b.0 ne e a.1 b.1 ends)

pub nested_read : (vs : List (List ℕ)) (g h k : Gathered) (n d : ℕ) (ts us rest : List Tok) → (n ≡ 0 → ⊥) → begins_with 40 ts ≡ true → seen (of_item vs g) (item_at (n - 1) d (behind ts)) ≡ Some (h, us)
    → seen (of_items vs h) (many_at 124 (item_at (n - 1) d) (length us) us) ≡ Some (k, rest) → begins_with 41 rest ≡ true → seen (of_item vs g) (item_at n d ts) ≡ Some (k, behind rest)
nested_read vs g h k n d ts us rest ne e first others ends =
    let a = seen_some (of_item vs g) (item_at (n - 1) d (behind ts)) h us first in
    let b = seen_some (of_items vs h) (many_at 124 (item_at (n - 1) d) (length us) us) k rest others in
    let whole = nested_is n d ts us rest a.0 b.0 ne e a.1 b.1 ends in
    let value : of_item vs g (nested a.0 (items_of b.0)) ≡ k = fold_more (gather vs) g (from_item a.0) (from_items (items_of b.0)) ∙ ap (λ (x : Gathered). of_items vs x b.0) a.2 ∙ b.2 in
    ap (λ r. seen (of_item vs g) r) whole ∙ ap (λ (x : Gathered). Some (x, behind rest)) value
