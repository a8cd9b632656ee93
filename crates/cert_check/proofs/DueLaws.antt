-- What is due of pairs and of all members, and the covers of it.
use Rattle.std.proofs.Common.{◌≡◌, ◌↔◌, ℕ, zero, suc, ◌+◌, ◌-◌, ◌<◌, ◌≤◌, inl, inr, List, [], ◌∷◌, ◌++◌, length, refl, ap, sym, ◌∙◌, subst, arith, append_assoc, append-nil, Bool, true, false, Option, None, Some}
use Rattle.std.specs.Prelude.{slice_get, IsTrue}
use Rattle.std.specs.List.{AllZip}
use Rattle.std.proofs.lemmas.Bool.{cases_lt}
use Rattle.std.proofs.lemmas.List.{length-append}
use Rattle.inst_logic.specs.Derivations.{at_number}
use Rattle.inst_logic.specs.Unifiers.{Sided, IsProper}
use Rattle.inst_calculus.specs.Entries.{Entry}
use Rattle.inst_calculus.specs.Models.{SelectedClause}
use Rattle.term_bank.specs.Forest.{Forest}
use Rattle.unify_core.specs.Sides.{Binding, IsResolvedBy, of_side}
use Rattle.unify_core.specs.declared.side.Side.{Side}
use Rattle.unify_core.specs.declared.side.Side.TheVariants.{Left, Right}
use Rattle.cert_format.specs.Certificate.{Saturation, Cover, Covered}
use Rattle.cert_format.specs.Dues.{Due, pairs, apart, meeting, AreDueOf, AreDue}
use Rattle.cert_format.specs.Validity.{CoversAt, IsCoverOf, IsRightCover, SelectsAt}
use Rattle.cert_format.proofs.DueLists.{dues_once}
use Rattle.cert_check.specs.Closings.{IsGeneralOn}
use Rattle.cert_check.specs.DueSteps.{AreCompared, AreNamed, AreSeen, GivesMeeting, GivesPair, GivesRow, GivesSide, due_of}
use Rattle.cert_check.specs.Firsts.{IsFirstWrong}
use Rattle.cert_index.specs.Meetings.{IsApart}
use Rattle.cert_check.specs.declared.compare.Progress.{Progress}

-- nothing is due of pairs that are apart
pub apart_gives : (c : Saturation) (l r : ℕ) → IsApart c l r → (P : List Due → Type 0) → GivesPair c l r P P
apart_gives c l r h P = ([], apart h refl, λ ds p. subst P (sym (append-nil ds)) p)

-- of the left side and then of the right side
pub meeting_gives : (c : Saturation) (f g : Forest) (es : List Binding) → ((s : Sided) → IsResolvedBy f es s → IsResolvedBy g es s) → (i j : ℕ) (P Q R : List Due → Type 0)
    → GivesSide c f es Left i j P Q → GivesSide c g es Right j i Q R → GivesMeeting c f es i j P R
meeting_gives c f g es later i j P Q R left right s resolved m n at_m at_n signs general =
    let (ls, a, p) = left s resolved m n at_m at_n general in
    let (rs, b, q) = right s (later s resolved) n m at_n at_m general in
    (ls ++ rs, meeting m n at_m at_n signs s general ls rs a b refl, λ ds h. subst R (append_assoc ds ls rs) (q (ds ++ ls) (p ds h)))

-- a side on which no unifier is proper
pub side_gives_none : (c : Saturation) (f : Forest) (es : List Binding) (x : Side) (own other : ℕ)
    → ((s : Sided) → IsResolvedBy f es s → (m n : SelectedClause) → IsGeneralOn x s m.selected.atom n.selected.atom → ¬ IsProper (of_side s x) m.selected.atom) → (P : List Due → Type 0) → GivesSide c f es x own other P P
side_gives_none c f es x own other none P s resolved m n at_m at_n general = ([], inr (none s resolved m n general, refl), λ ds p. subst P (sym (append-nil ds)) p)

-- and one on which it is
pub side_gives_one : (c : Saturation) (f : Forest) (es : List Binding) (x : Side) (own other : ℕ)
    → ((s : Sided) → IsResolvedBy f es s → (m n : SelectedClause) → IsGeneralOn x s m.selected.atom n.selected.atom → IsProper (of_side s x) m.selected.atom) → (P Q : List Due → Type 0)
    → ((s : Sided) → IsResolvedBy f es s → (m n : SelectedClause) → SelectsAt c (suc own) m → SelectsAt c (suc other) n → IsGeneralOn x s m.selected.atom n.selected.atom → (ds : List Due) → P ds → Q (ds ++ due_of x own other m s ∷ []))
    → GivesSide c f es x own other P Q
side_gives_one c f es x own other proper P Q step s resolved m n at_m at_n general =
    (due_of x own other m s ∷ [], inl (proper s resolved m n general, refl), step s resolved m n at_m at_n general)

pub side_of_same : (c d : Saturation) → c ≡ d → (f : Forest) (es : List Binding) (x : Side) (own other : ℕ) (P Q : List Due → Type 0) → GivesSide c f es x own other P Q → GivesSide d f es x own other P Q
side_of_same c d same f es x own other P Q = subst (λ y. GivesSide y f es x own other P Q) same

-- all pairs
pub none_seen : (c : Saturation) → AreSeen c 0 []
none_seen c rest due =
    let e : length c.base.members - 0 ≡ length c.base.members = omega arith in
    subst (λ k. AreDueOf c (pairs 1 k) rest) e due

pub all_seen : (c : Saturation) (i : ℕ) → length c.base.members ≤ i → (ds : List Due) → AreSeen c i ds → AreDue c ds
all_seen c i past ds h =
    let e : zero ≡ length c.base.members - i = omega (arith, past) in
    subst (AreDue c) (append-nil ds) (h [] (subst (λ k. AreDueOf c (pairs (suc i) k) []) e refl))

pub row_more : (c : Saturation) (i : ℕ) (P Q : List Due → Type 0) → (ds : List Due) × AreSeen c i ds × P ds → GivesRow c i P Q → (fs : List Due) × AreSeen c (i + 1) fs × Q fs
row_more c i P Q (ds, seen, p) row =
    let (fs, more, q) = row ds seen p in
    let e : suc i ≡ i + 1 = omega arith in
    (fs, subst (λ n. AreSeen c n fs) e more, q)

-- ---- covers that are made

all_zip_push : {A B : Type 0} (R : A → B → Type 0) (xs : List A) (ys : List B) (x : A) (y : B) → AllZip R xs ys → R x y → AllZip R (xs ++ x ∷ []) (ys ++ y ∷ [])
all_zip_push R [] [] x y h r = (r, h)
all_zip_push R [] (z ∷ ys) x y h r = absurd h
all_zip_push R (z ∷ xs) [] x y h r = absurd h
all_zip_push R (z ∷ xs) (w ∷ ys) x y h r = (h.0, all_zip_push R xs ys x y h.1 r)

pub one_named : (es : List Entry) (ds : List Due) (vs : List Cover) (d : Due) (v : Cover) → AllZip (IsCoverOf es) ds vs → IsCoverOf es d v → AllZip (IsCoverOf es) (ds ++ d ∷ []) (vs ++ v ∷ [])
one_named es ds vs d v = all_zip_push (IsCoverOf es) ds vs d v

named_at : (es : List Entry) (ds : List Due) (vs : List Cover) → AllZip (IsCoverOf es) ds vs → (k : ℕ) → CoversAt es (slice_get ds k) (slice_get vs k)
named_at es [] [] h k = tt
named_at es [] (v ∷ vs) h k = absurd h
named_at es (d ∷ ds) [] h k = absurd h
named_at es (d ∷ ds) (v ∷ vs) h zero = h.0
named_at es (d ∷ ds) (v ∷ vs) h (suc k) = named_at es ds vs h.1 k

by_number : (es : List Entry) (ds : List Due) (vs : List Cover) → ((k : ℕ) → CoversAt es (slice_get ds k) (slice_get vs k)) → (n : ℕ) → CoversAt es (at_number ds n) (at_number vs n)
by_number es ds vs h zero = tt
by_number es ds vs h (suc k) = h k

pub all_named : (v : Covered) (ds : List Due) → AreDue v.saturation ds → AreNamed v ds → (n : ℕ) → IsRightCover v n
all_named v ds due named n other due_too =
    subst (λ xs. CoversAt v.saturation.base.members (at_number xs n) (at_number v.covers n)) (dues_once v.saturation ds other due due_too)
    (by_number v.saturation.base.members ds v.covers (named_at v.saturation.base.members ds v.covers named) n)

-- ---- covers that are compared

pub slice_left : {A : Type 0} (xs ys : List A) (k : ℕ) → k < length xs → slice_get (xs ++ ys) k ≡ slice_get xs k
slice_left [] ys k less = absurd (omega (arith, less))
slice_left (x ∷ xs) ys zero less = refl
slice_left (x ∷ xs) ys (suc k) less = slice_left xs ys k (omega (arith, less))

pub slice_end : {A : Type 0} (xs : List A) (x : A) (k : ℕ) → k ≡ length xs → slice_get (xs ++ x ∷ []) k ≡ Some x
slice_end [] x k is = ap (λ n. slice_get (x ∷ []) n) is
slice_end (y ∷ xs) x zero is = absurd (omega (arith, is))
slice_end (y ∷ xs) x (suc k) is = slice_end xs x k (omega (arith, is))

pub slice_past : {A : Type 0} (xs : List A) (k : ℕ) → length xs ≤ k → slice_get xs k ≡ None
slice_past [] k past = refl
slice_past (x ∷ xs) zero past = absurd (omega (arith, past))
slice_past (x ∷ xs) (suc k) past = slice_past xs k (omega (arith, past))

module _ (v : Covered) where
  abbrev at : List Due → ℕ → Type 0
  at ds k = CoversAt v.saturation.base.members (slice_get ds k) (slice_get v.covers k)

  pub none_compared : (p : Progress) → p.count ≡ 0 → p.wrong ≡ false → AreCompared v p []
  none_compared p count right = record {
    before = λ k less. absurd (omega (arith, less, count));
    all = λ e. count;
    within = λ e. let t : false ≡ true = sym right ∙ e in absurd cc;
    wrong = λ e. let t : false ≡ true = sym right ∙ e in absurd cc;
  }

  module _ (p : Progress) (ds : List Due) (h : AreCompared v p ds) where
    pub more_after_wrong : p.wrong ≡ true → (more : List Due) → AreCompared v p (ds ++ more)
    more_after_wrong e more =
        let inside = h.within e in record {
          before = λ k less. subst (λ o. CoversAt v.saturation.base.members o (slice_get v.covers k)) (sym (slice_left ds more k (omega (arith, less, inside)))) (h.before k less);
          all = λ f. let t : false ≡ true = sym f ∙ e in absurd cc;
          within = λ f. omega (arith, inside, length-append ds more);
          wrong = λ f now. h.wrong e (subst (λ o. CoversAt v.saturation.base.members o (slice_get v.covers p.count)) (slice_left ds more p.count inside) now);
        }

    module _ (right : p.wrong ≡ false) (d : Due) where
      before_end : (k : ℕ) → k < p.count → at (ds ++ d ∷ []) k
      before_end k less = let e = h.all right in subst (λ o. CoversAt v.saturation.base.members o (slice_get v.covers k)) (sym (slice_left ds (d ∷ []) k (omega (arith, less, e)))) (h.before k less)

      at_end : slice_get (ds ++ d ∷ []) p.count ≡ Some d
      at_end = slice_end ds d p.count (h.all right)

      pub more_right : CoversAt v.saturation.base.members (Some d) (slice_get v.covers p.count) → AreCompared v (record { count = p.count + 1; wrong = p.wrong }) (ds ++ d ∷ [])
      more_right now = record {
        before = λ k less. elim (cases_lt k p.count) [
          | inl early ↦ before_end k early
          | inr late ↦ let e : p.count ≡ k = omega (arith, late, less) in subst (at (ds ++ d ∷ [])) e (subst (λ o. CoversAt v.saturation.base.members o (slice_get v.covers p.count)) (sym at_end) now)
        ];
        all = λ f. let e = h.all right in omega (arith, e, length-append ds (d ∷ []));
        within = λ f. let t : false ≡ true = sym right ∙ f in absurd cc;
        wrong = λ f. let t : false ≡ true = sym right ∙ f in absurd cc;
      }

      pub more_wrong : ¬ CoversAt v.saturation.base.members (Some d) (slice_get v.covers p.count) → AreCompared v (record { count = p.count; wrong = true }) (ds ++ d ∷ [])
      more_wrong not_now = record {
        before = before_end;
        all = λ f. absurd cc;
        within = λ f. let e = h.all right in omega (arith, e, length-append ds (d ∷ []));
        wrong = λ f now. not_now (subst (λ o. CoversAt v.saturation.base.members o (slice_get v.covers p.count)) at_end now);
      }

    module _ (due : AreDue v.saturation ds) where
      at_every : ((k : ℕ) → at ds k) → (n : ℕ) → IsRightCover v n
      at_every each n other due_too =
          subst (λ xs. CoversAt v.saturation.base.members (at_number xs n) (at_number v.covers n)) (dues_once v.saturation ds other due due_too) (by_number v.saturation.base.members ds v.covers each n)

      pub all_compared : p.wrong ≡ false → length v.covers ≤ p.count → (n : ℕ) → IsRightCover v n
      all_compared right past = at_every each
        where
          each : (k : ℕ) → at ds k
          each k = elim (cases_lt k p.count) [
            | inl early ↦ h.before k early
            | inr late ↦ let e = h.all right in
                subst (λ o. CoversAt v.saturation.base.members o (slice_get v.covers k)) (sym (slice_past ds k (omega (arith, late, e))))
                (subst (CoversAt v.saturation.base.members None) (sym (slice_past v.covers k (omega (arith, late, past)))) tt)
          ]

      -- the first wrong cover
      first_at : ¬ at ds p.count → IsFirstWrong (IsRightCover v) (suc p.count)
      first_at not = record { applies = λ all. not (all ds due); before = earlier }
        where
          earlier : (m : ℕ) → m < suc p.count → IsRightCover v m
          earlier zero less other due_too = tt
          earlier (suc k) less other due_too = subst (λ xs. CoversAt v.saturation.base.members (slice_get xs k) (slice_get v.covers k)) (dues_once v.saturation ds other due due_too) (h.before k (omega (arith, less)))

      pub first_wrong_cover : p.wrong ≡ true → IsFirstWrong (IsRightCover v) (suc p.count)
      first_wrong_cover e = first_at (h.wrong e)

      pub first_spare_cover : p.wrong ≡ false → p.count < length v.covers → IsFirstWrong (IsRightCover v) (suc p.count)
      first_spare_cover right less = first_at (λ now.
          let e = h.all right in
          go (slice_get v.covers p.count) (has v.covers p.count less) (subst (λ o. CoversAt v.saturation.base.members o (slice_get v.covers p.count)) (slice_past ds p.count (omega (arith, e))) now))
        where
          has : (vs : List Cover) (k : ℕ) → k < length vs → ¬ (slice_get vs k ≡ None)
          has [] k inside e = absurd (omega (arith, inside))
          has (w ∷ vs) zero inside e = absurd cc
          has (w ∷ vs) (suc k) inside e = has vs k (omega (arith, inside)) e

          go : (o : Option Cover) → ¬ (o ≡ None) → CoversAt v.saturation.base.members None o → ⊥
          go None some h = some refl
          go (Some w) some h = h

-- one more cover is compared
pub step_compared : (v : Covered) (p q : Progress) (ds : List Due) → AreCompared v p ds → p.wrong ≡ false → (d : Due) (r : Bool) → (IsTrue r ↔ CoversAt v.saturation.base.members (Some d) (slice_get v.covers p.count))
    → (r ≡ true → q ≡ record { count = p.count + 1; wrong = p.wrong }) → (r ≡ false → q ≡ record { count = p.count; wrong = true }) → AreCompared v q (ds ++ d ∷ [])
step_compared v p q ds h right d true law y n = subst (λ x. AreCompared v x (ds ++ d ∷ [])) (sym (y refl)) (more_right v p ds h right d (law.0 refl))
step_compared v p q ds h right d false law y n = subst (λ x. AreCompared v x (ds ++ d ∷ [])) (sym (n refl)) (more_wrong v p ds h right d (λ now. let e : false ≡ true = law.1 now in cc))

pub step_counted : (p q : Progress) (n : ℕ) → p.count ≤ n → (r : Bool) → (r ≡ true → p.count < n) → (r ≡ true → q ≡ record { count = p.count + 1; wrong = p.wrong }) → (r ≡ false → q ≡ record { count = p.count; wrong = true }) → q.count ≤ n
step_counted p q n low true inside y z = let e = ap (λ (x : Progress). x.count) (y refl) in let w = inside refl in omega (arith, e, w)
step_counted p q n low false inside y z = let e = ap (λ (x : Progress). x.count) (z refl) in omega (arith, e, low)
