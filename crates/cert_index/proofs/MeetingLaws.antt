-- Which items may meet: places that heads and fingerprints do not tell apart, found by buckets, and lists that lead through them.
use Rattle.std.proofs.Common.{◌≡◌, ◌⊎◌, inl, inr, ℕ, zero, suc, ◌+◌, ◌<◌, ◌≤◌, Bool, true, false, List, [], ◌∷◌, ◌++◌, length, get_or, take, refl, ap, sym, ◌∙◌, subst, arith, below_more}
use Rattle.std.specs.Prelude.{map, slice_index_or}
use Rattle.std.specs.List.{All, AllPairs, Contains}
use Rattle.std.proofs.lemmas.Bool.{cases_lt}
use Rattle.std.proofs.lemmas.List.{get_or-map, get_or_push, length-append, take_all, take_more}
use Rattle.std.proofs.lemmas.List.Elements.{All-contains, All-contains_itself, All-weaker, Contains-append_left, Contains-push, Contains-push_cases}
use Rattle.std.proofs.Math.ListN.{get_or-append}
use Rattle.inst_logic.specs.Signed.{complement}
use Rattle.clause_form.specs.Literals.{id_eq}
use Rattle.clause_form.proofs.Assembly.{id_eq_decides}
use Rattle.cert_format.specs.Certificate.{Saturation}
use Rattle.cert_index.specs.declared.buckets.Buckets.{Buckets}
use Rattle.cert_index.specs.declared.fingerprint.Fingerprint.{Fingerprint}
use Rattle.cert_index.specs.declared.meetings.Meetings.{Meetings}
use Rattle.cert_index.specs.Buckets.{AreInBuckets, number_at}
use Rattle.cert_index.specs.Chains.{AreAlike, AreGathered, AreMeetings, AreOpposite, AreOpposites, AreToldApart, HaveOpposite, IsAddedAlike, MayMeet, TellsApart, list_at}
use Rattle.cert_index.specs.Fingerprints.{Differ, DifferInMarks, TellApart, fingerprint_at, no_marks, top_marks}
use Rattle.cert_index.specs.Links.{AreAdded, IsLinked}
use Rattle.cert_index.specs.Meetings.{IsApart, LeadsOn}
use Rattle.cert_index.specs.Narrow.{AreNarrow}
use Rattle.cert_index.specs.Partners.{AreApart, Head, IsNext, head_at}

contains_none : (k : ℕ) → ¬ Contains [] k
contains_none k h = let l = h.1 in absurd (omega arith)

-- lists that rise and list all that may meet member i lead through these
module _ (c : Saturation) (i : ℕ) where
  contains_cases : (j : ℕ) (js : List ℕ) (k : ℕ) → Contains (j ∷ js) k → (j ≡ k) ⊎ Contains js k
  contains_cases j js k h = by h.0 h.1 h.2
    where
      by : (n : ℕ) → n < length (j ∷ js) → slice_index_or (j ∷ js) n k ≡ k → (j ≡ k) ⊎ Contains js k
      by zero less is = inl is
      by (suc n) less is = inr (n, omega arith, is)

  contains_more : (j : ℕ) (js : List ℕ) (k : ℕ) → Contains js k → Contains (j ∷ js) k
  contains_more j js k h = (suc h.0, (let l = h.1 in omega arith), h.2)

  first_below : (j : ℕ) (js : List ℕ) → AllPairs (λ x y. x < y) (j ∷ js) → (k : ℕ) → Contains js k → j < k
  first_below j js rising k h = subst (λ n. j < n) h.2 (rising 0 (suc h.0) k (omega arith) (let l = h.1 in omega arith))

  pub leads_rising : (js : List ℕ) (from : ℕ) → AllPairs (λ x y. x < y) js → ((k : ℕ) → Contains js k → (from ≤ k) × (k < length c.base.members))
      → ((k : ℕ) → from ≤ k → k < length c.base.members → Contains js k ⊎ IsApart c (suc i) (suc k)) → LeadsOn c i from js
  leads_rising [] from rising within all = λ k low less. elim (all k low less) [ inl h ↦ absurd (contains_none k h) | inr apart ↦ apart ]
  leads_rising (j ∷ js) from rising within all =
      let here = within j (0, omega arith, refl) in (
        here.0,
        here.1,
        (λ k low less. elim (all k low (let w = here.1 in omega arith)) [
          | inl h ↦ absurd (elim (contains_cases j js k h) [ inl same ↦ omega arith | inr later ↦ (let l = first_below j js rising k later in omega arith) ])
          | inr apart ↦ apart
        ]),
        leads_rising js (suc j) (λ m n d less inside. rising (suc m) (suc n) d (omega arith) (omega arith))
            (λ k h. (first_below j js rising k h, (within k (contains_more j js k h)).1))
            (λ k low less. elim (all k (let h = here.0 in omega arith) less) [
              | inl h ↦ elim (contains_cases j js k h) [ inl same ↦ absurd (omega arith) | inr later ↦ inl later ]
              | inr apart ↦ inr apart
            ]),
      )

  pub leads_meeting : (m : Meetings) → AreMeetings c m → (js sorted : List ℕ) → MayMeet m i (i + 1) js → AllPairs (λ x y. x < y) sorted → ((k : ℕ) → Contains js k → Contains sorted k)
      → All (λ k. (i + 1 ≤ k) × (k < length m.links.numbers.items)) sorted → LeadsOn c i (suc i) sorted
  leads_meeting m meetings js sorted gathered rising kept within =
      leads_rising sorted (suc i) rising
      (λ k h. let g : (i + 1 ≤ k) × (k < length m.links.numbers.items) = All-contains (λ n. (i + 1 ≤ n) × (n < length m.links.numbers.items)) sorted k within h in (let low = g.0 in omega arith, subst (λ n. k < n) meetings.count g.1))
      (λ k low less. elim (meetings.apart i k low less) [ inl meet ↦ inl (kept k (gathered.all k (omega arith) (subst (λ n. k < n) (sym meetings.count) less) meet)) | inr apart ↦ inr apart ])

  pub all_within : (m : Meetings) (js : List ℕ) → MayMeet m i (i + 1) js → All (λ k. (i + 1 ≤ k) × (k < length m.links.numbers.items)) js
  all_within m js gathered = All-weaker (Contains js) (λ k. (i + 1 ≤ k) × (k < length m.links.numbers.items)) gathered.only js (All-contains_itself js)

-- places with other fingerprints are left out
module _ (ps : List Fingerprint) (p : ℕ) where
  pub alike_pushed : (q : ℕ) (old : List ℕ) → IsAddedAlike ps p q old (old ++ q ∷ [])
  alike_pushed q old = record {
    kept = λ k h. Contains-append_left old (q ∷ []) k h;
    added = inl (Contains-push old q);
    only = λ k h. elim (Contains-push_cases old q k h) [ inl there ↦ inl there | inr same ↦ inr (sym same) ];
  }

  pub alike_none : (qs : List ℕ) → AreAlike ps p (take 0 qs) []
  alike_none qs = record { only = λ q h. absurd (contains_none q h); rest = λ q h. absurd (contains_none q h) }

  pub alike_more : (qs : List ℕ) (i : ℕ) (old new : List ℕ) → i < length qs → AreAlike ps p (take i qs) old → IsAddedAlike ps p (get_or qs i 0) old new → AreAlike ps p (take (i + 1) qs) new
  alike_more qs i old new inside before here =
      let q = get_or qs i 0 in
      let next : take (i + 1) qs ≡ take i qs ++ q ∷ [] = take_more qs i 0 inside in
      subst (λ rs. AreAlike ps p rs new) (sym next) (record {
        only = λ k h. elim (here.only k h) [
          | inl there ↦ Contains-append_left (take i qs) (q ∷ []) k (before.only k there)
          | inr same ↦ subst (Contains (take i qs ++ q ∷ [])) (sym same) (Contains-push (take i qs) q)
        ];
        rest = λ k h. elim (Contains-push_cases (take i qs) q k h) [
          | inl there ↦ elim (before.rest k there) [ inl left ↦ inl (here.kept k left) | inr differ ↦ inr differ ]
          | inr same ↦ subst (λ r. Contains new r ⊎ Differ (fingerprint_at ps p) (fingerprint_at ps r)) same here.added
        ];
      })

  pub alike_all : (qs : List ℕ) (i : ℕ) (left : List ℕ) → length qs ≤ i → AreAlike ps p (take i qs) left → AreAlike ps p qs left
  alike_all qs i left past h = subst (λ rs. AreAlike ps p rs left) (take_all i qs past) h

-- places with the opposite head are found along their chain
module _ (hs : List Head) (p : ℕ) where
  pub opposite_none : (q : ℕ) → IsNext hs (complement (head_at hs p)) 0 q → HaveOpposite hs p q []
  opposite_none q next = record { within = λ k h. absurd (contains_none k h); all = λ k less inside e. absurd (next.before k (omega arith) less e) }

  pub opposite_more : (q r : ℕ) (qs : List ℕ) → q < length hs → IsNext hs (complement (head_at hs p)) (suc q) r → HaveOpposite hs p q qs → HaveOpposite hs p r (qs ++ q ∷ [])
  opposite_more q r qs inside next before = record {
    within = λ k h. elim (Contains-push_cases qs q k h) [ inl there ↦ before.within k there | inr same ↦ subst (λ n. n < length hs) same inside ];
    all = λ k less within e. elim (cases_lt k q) [
      | inl early ↦ Contains-append_left qs (q ∷ []) k (before.all k early within e)
      | inr late ↦ elim (cases_lt q k) [
        | inl after ↦ absurd (next.before k (omega arith) less e)
        | inr here ↦ let same : q ≡ k = omega arith in subst (Contains (qs ++ q ∷ [])) same (Contains-push qs q)
      ]
    ];
  }

  pub opposite_all : (q : ℕ) (qs : List ℕ) → length hs ≤ q → HaveOpposite hs p q qs → HaveOpposite hs p (length hs) qs
  opposite_all q qs past h = record { within = h.within; all = λ k less within e. h.all k (omega arith) within e }

  head_cases : (q : ℕ) → (head_at hs q ≡ complement (head_at hs p)) ⊎ ¬ (head_at hs q ≡ complement (head_at hs p))
  head_cases q = by (id_eq (head_at hs q) (complement (head_at hs p))) refl
    where
      by : (b : Bool) → id_eq (head_at hs q) (complement (head_at hs p)) ≡ b → (head_at hs q ≡ complement (head_at hs p)) ⊎ ¬ (head_at hs q ≡ complement (head_at hs p))
      by true e = inl ((id_eq_decides (head_at hs q) (complement (head_at hs p))).0 e)
      by false e = inr (λ same. let t : false ≡ true = sym e ∙ (id_eq_decides (head_at hs q) (complement (head_at hs p))).1 same in absurd (cc))

  pub opposite_alike : (ps : List Fingerprint) (qs alike : List ℕ) → HaveOpposite hs p (length hs) qs → AreAlike ps p qs alike → AreOpposite hs ps p alike
  opposite_alike ps qs alike h a = record {
    within = λ q k. h.within q (a.only q k);
    rest = λ q less. elim (head_cases q) [
      | inl same ↦ elim (a.rest q (h.all q less less same)) [ inl left ↦ inl left | inr differ ↦ inr (inr differ) ]
      | inr other ↦ inr (inl other)
    ];
  }

-- one more list
pub list_before : (vs : List (List ℕ)) (v : List ℕ) (k : ℕ) → k < length vs → list_at (vs ++ v ∷ []) k ≡ list_at vs k
list_before vs v k less = get_or-append vs (v ∷ []) [] k less

pub list_last : (vs : List (List ℕ)) (v : List ℕ) (k : ℕ) → length vs ≡ k → list_at (vs ++ v ∷ []) k ≡ v
list_last vs v k e = get_or_push vs v [] k e

pub opposites_more : (hs : List Head) (ps : List Fingerprint) (n : ℕ) (vs : List (List ℕ)) (v : List ℕ) → AreOpposites hs ps n vs → AreOpposite hs ps n v → AreOpposites hs ps (n + 1) (vs ++ v ∷ [])
opposites_more hs ps n vs v before last = record {
  count = length-append vs (v ∷ []) ∙ ap (λ m. m + 1) before.count;
  each = below_more (λ p. AreOpposite hs ps p (list_at (vs ++ v ∷ []) p)) n
      (λ p less. subst (AreOpposite hs ps p) (sym (list_before vs v p (let c = before.count in omega arith))) (before.each p less))
      (subst (AreOpposite hs ps n) (sym (list_last vs v n before.count)) last);
}

-- by classes
pub opposites_narrow : (hs : List Head) (ps : List Fingerprint) (ns : List Head) (vs : List (List ℕ)) → length ns ≡ length hs → AreNarrow hs ps ns → AreOpposites ns ps (length ns) vs → AreOpposites hs ps (length hs) vs
opposites_narrow hs ps ns vs count narrow os = record {
  count = os.count ∙ count;
  each = λ p less. let o = os.each p (omega arith) in record {
    within = λ q h. let w = o.within q h in omega arith;
    rest = λ q inside. elim (o.rest q (omega arith)) [
      | inl there ↦ inl there
      | inr (inl other) ↦ inr (narrow p q less inside other)
      | inr (inr differ) ↦ inr (inr differ)
    ];
  };
}

-- by what is told apart already
pub opposite_within : (hs : List Head) (ps : List Fingerprint) (m : Meetings) → TellsApart hs ps m → (p : ℕ) → p < length hs → (js alike : List ℕ) → MayMeet m p 0 js → AreAlike ps p js alike → AreOpposite hs ps p alike
opposite_within hs ps m tells p here js alike gathered a = record {
  within = λ q h. subst (λ n. q < n) tells.count (gathered.only q (a.only q h)).1;
  rest = λ q less. elim (tells.told p q here less) [
    | inl meet ↦ elim (a.rest q (gathered.all q (omega arith) (subst (λ n. q < n) (sym tells.count) less) meet)) [ inl left ↦ inl left | inr differ ↦ inr (inr differ) ]
    | inr told ↦ inr told
  ];
}

-- items of buckets
pub told_by_buckets : (hs : List Head) (ps : List Fingerprint) (b : Buckets) (m : Meetings) → AreInBuckets hs ps b → m.links.numbers.items ≡ b.numbers.items → length m.links.first.items ≡ length b.heads.items → IsLinked m.links
    → AreOpposites b.heads.items b.fingerprints.items (length b.heads.items) m.opposites → TellsApart hs ps m
told_by_buckets hs ps b m inside numbers count linked os =
    let each : (i : ℕ) → i < length hs → number_at m.links.numbers.items i < length b.heads.items = λ i less. subst (λ (ns : List ℕ). number_at ns i < length b.heads.items) (sym numbers) (inside.each i less).within in
    let items : length m.links.numbers.items ≡ length hs = ap (λ (ns : List ℕ). length ns) numbers ∙ inside.count in
    record {
      grouped = record {
        linked = linked;
        numbered = λ i less. subst (λ n. number_at m.links.numbers.items i < n) (sym os.count) (each i (subst (λ n. i < n) items less));
        known = λ n q less h. subst (λ k. q < k) (sym count) ((os.each n (subst (λ k. n < k) os.count less)).within q h);
      };
      count = items;
      told = λ p q left right. subst (λ (ns : List ℕ). Contains (list_at m.opposites (number_at ns p)) (number_at ns q) ⊎ AreToldApart hs ps p q) (sym numbers)
          (let i = inside.each p left in let j = inside.each q right in
          elim ((os.each (number_at b.numbers.items p) i.within).rest (number_at b.numbers.items q) j.within) [
            | inl there ↦ inl there
            | inr (inl other) ↦ inr (inl (λ e. other (j.head ∙ e ∙ ap complement (sym i.head))))
            | inr (inr differ) ↦ inr (inr (subst (λ (x : Fingerprint). Differ x (fingerprint_at ps q)) i.fingerprint (subst (λ (x : Fingerprint). Differ (fingerprint_at b.fingerprints.items (number_at b.numbers.items p)) x) j.fingerprint differ)))
          ]);
    }

-- marks that differ at the top differ
no_difference : ¬ DifferInMarks no_marks no_marks
no_difference (inl d) = d.left refl
no_difference (inr (inl d)) = d.left refl
no_difference (inr (inr (inl d))) = d.left refl
no_difference (inr (inr (inr d))) = d.left refl

differ_by_tops : (p q : Fingerprint) → Differ (top_marks p) (top_marks q) → Differ p q
differ_by_tops p q (inl d) = inl d
differ_by_tops p q (inr (inl d)) = absurd (no_difference d)
differ_by_tops p q (inr (inr d)) = absurd (no_difference d)

pub told_by_tops : (hs : List Head) (ps : List Fingerprint) (m : Meetings) → length ps ≡ length hs → TellsApart hs (map top_marks ps) m → TellsApart hs ps m
told_by_tops hs ps m count tells = record {
  grouped = tells.grouped;
  count = tells.count;
  told = λ p q left right. elim (tells.told p q left right) [
    | inl meet ↦ inl meet
    | inr (inl other) ↦ inr (inl other)
    | inr (inr differ) ↦ inr (inr (differ_by_tops (fingerprint_at ps p) (fingerprint_at ps q) (subst (λ (x : Fingerprint). Differ x (top_marks (fingerprint_at ps q))) (top_at p left) (subst (λ (x : Fingerprint). Differ (fingerprint_at (map top_marks ps) p) x) (top_at q right) differ))))
  ];
}
  where
    top_at : (k : ℕ) → k < length hs → fingerprint_at (map top_marks ps) k ≡ top_marks (fingerprint_at ps k)
    top_at k less = get_or-map top_marks ps k _ _ (omega arith)

pub meetings_told : (c : Saturation) (hs : List Head) (ps : List Fingerprint) (m : Meetings) → length hs ≡ length c.base.members → AreApart c hs → TellApart c ps → TellsApart hs ps m → AreMeetings c m
meetings_told c hs ps m count apart told tells = record {
  grouped = tells.grouped;
  count = tells.count ∙ count;
  apart = λ i j less within. elim (tells.told i j (omega arith) (omega arith)) [
    | inl meet ↦ inl meet
    | inr (inl other) ↦ inr (apart i j less (omega arith) other)
    | inr (inr differ) ↦ inr (told.apart i j less (let n = told.count in omega arith) differ)
  ];
}

-- items are gathered bucket by bucket
module _ (ns xs : List ℕ) (from : ℕ) where
  pub gathered_none : AreGathered ns (take 0 xs) from []
  gathered_none = record { only = λ k h. absurd (contains_none k h); all = λ k low less h. absurd (contains_none (number_at ns k) h) }

  pub gathered_more : (i : ℕ) (old new : List ℕ) → i < length xs → AreGathered ns (take i xs) from old → AreAdded ns (get_or xs i 0) from (length ns) old new → AreGathered ns (take (i + 1) xs) from new
  gathered_more i old new inside before here =
      let x = get_or xs i 0 in
      let next : take (i + 1) xs ≡ take i xs ++ x ∷ [] = take_more xs i 0 inside in
      subst (λ rs. AreGathered ns rs from new) (sym next) (record {
        only = λ k h. elim (here.only k h) [ inl there ↦ before.only k there | inr late ↦ late ];
        all = λ k low less h. elim (Contains-push_cases (take i xs) x (number_at ns k) h) [
          | inl there ↦ here.kept k (before.all k low less there)
          | inr same ↦ here.added k low less less (sym same)
        ];
      })

  pub gathered_all : (i : ℕ) (js : List ℕ) → length xs ≤ i → AreGathered ns (take i xs) from js → AreGathered ns xs from js
  gathered_all i js past h = subst (λ rs. AreGathered ns rs from js) (take_all i xs past) h
