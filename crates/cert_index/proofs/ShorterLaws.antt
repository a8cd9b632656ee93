-- The search for a shorter member that subsumes a clause, by the heads of selected literals.
use Rattle.std.proofs.Common.{◌≡◌, inl, inr, ℕ, suc, ◌<◌, ◌≤◌, ◌∙◌, List, [], ◌∷◌, length, get_or, ap, refl, sym, subst, arith, Option, None, Some}
use Rattle.std.specs.Prelude.{Any, IfNone, option_map}
use Rattle.std.proofs.lemmas.Bool.{cases_lt}
use Rattle.std.proofs.lemmas.List.{get_or-map, get_or_default, length-map}
use Rattle.inst_logic.specs.declared.signed.Signed.{Signed}
use Rattle.inst_logic.specs.Tree.{var}
use Rattle.inst_logic.specs.Substitution.{Substitution, subst_literal}
use Rattle.inst_logic.specs.Clauses.{Subsumes}
use Rattle.inst_calculus.proofs.Clauses.{literal_var, within_part}
use Rattle.inst_calculus.proofs.Membership.{any_in, equal_in, in_map}
use Rattle.clause_form.specs.Placements.{Goes, literal_at}
use Rattle.clause_form.proofs.Placing.{placed_subsumes}
use Rattle.term_bank.specs.Forest.{Forest, clause_at, literal_tree, number_of, symbol_of, tree_at}
use Rattle.cert_values.specs.declared.member.Member.{Member}
use Rattle.cert_index.specs.Shorter.{IsShorter, IsUnitOf, ShorterOf}
use Rattle.cert_index.specs.declared.fingerprint.Fingerprint.{Fingerprint}
use Rattle.cert_index.specs.Fingerprints.{fingerprint_at}
use Rattle.cert_index.specs.Lookups.{HasMarked, HasNoShorter, IsNoShorter, IsPastShorter}
use Rattle.cert_index.specs.declared.lengths.Lengths.{Lengths}
use Rattle.cert_index.specs.declared.lengths.Ranked.{Ranked}
use Rattle.cert_index.specs.Lengths.{AreGrouped, IsBelow, heads_by, no_rank, rank_at}
use Rattle.cert_index.specs.Partners.{Head, head_at, IsHeadAt, IsNext}
use Rattle.cert_index.specs.Places.{IsPlaceOf}
use Rattle.cert_index.proofs.HeadLaws.{symbol_under, number_there}

-- an instance of a literal has its head
head_goes : (f : Forest) (s : Substitution) (l m : Signed ℕ) (h : Head) → IsHeadAt f l h → Goes f s l m → IsHeadAt f m h
head_goes f s l m h head goes =
    let (x, is, n) = number_there h.atom (number_of f.symbols) (symbol_of (tree_at f l.atom)) head.number in
    record {
      sign = head.sign ∙ goes.0;
      number = ap Some n ∙ sym (ap (option_map (number_of f.symbols)) (sym (ap symbol_of goes.1) ∙ symbol_under s (tree_at f l.atom) x is));
    }

-- a walk along the members of one head, from the shortest on
module _ (f : Forest) (ms : List Member) (hs : List Head) (ps : List Fingerprint) (ls : Lengths) (groups : AreGrouped ms hs ls) (n : ℕ) (d : List (Signed ℕ)) (l : Signed ℕ) where
  count : length (heads_by hs ls.ranked.items) ≡ length ls.ranked.items
  count = length-map ls.ranked.items (λ (r : Ranked). head_at hs r.place)

  pub past_none : (h : Head) (j : ℕ) → IsNext (heads_by hs ls.ranked.items) h 0 j → IsPastShorter f ms hs ls.ranked.items ps n d l h j
  past_none h j next = record {
    at = λ within. next.at (let e = count in omega arith);
    before = λ i less at. absurd (next.before i (omega arith) less at);
  }

  pub past_more : (h : Head) (j : ℕ) → j < length ls.ranked.items → IsPastShorter f ms hs ls.ranked.items ps n d l h j → IsNoShorter f ms ps n d l (rank_at ls.ranked.items j).place
      → IsPastShorter f ms hs ls.ranked.items ps n d l h (get_or ls.same.items j 0)
  past_more h j within past none =
      let next : IsNext (heads_by hs ls.ranked.items) h (suc j) (get_or ls.same.items j 0) =
      subst (λ x. IsNext (heads_by hs ls.ranked.items) x (suc j) (get_or ls.same.items j 0)) (past.at within) (groups.to_same j within) in
      record {
        at = λ inside. next.at (let e = count in omega arith);
        before = λ i less at. elim (cases_lt i j) [
          | inl early ↦ past.before i early at
          | inr not_early ↦ elim (cases_lt j i) [
            | inl late ↦ absurd (next.before i (omega arith) less at)
            | inr not_late ↦ let e : j ≡ i = omega arith in subst (λ k. IsNoShorter f ms ps n d l (rank_at ls.ranked.items k).place) e none
          ]
        ];
      }

  -- from a member on that has n literals or more there is none that is shorter
  none_after : (j : ℕ) → ¬ (IsBelow ls.ranked.items n j) → (i : ℕ) → j ≤ i → i < length ls.ranked.items → IsNoShorter f ms ps n d l (rank_at ls.ranked.items i).place
  none_after j stop i late inside m inst short =
      let enough : n ≤ (rank_at ls.ranked.items j).len = elim (cases_lt (rank_at ls.ranked.items j).len n) [
        | inl below ↦ absurd (stop (record { within = omega arith; below = below }))
        | inr above ↦ above
      ] in
      let more : (rank_at ls.ranked.items j).len ≤ (rank_at ls.ranked.items i).len = groups.ranked.ordered j i no_rank late inside in
      let same = (groups.ranked.each i no_rank inside).len m in
      let trees = length-map (get_or ms (rank_at ls.ranked.items i).place m).clause (literal_tree f) in
      let less = short.0 in
      omega (arith, enough, more, same, trees, less)

  pub none_left : (j : ℕ) → ((h : Head) → IsHeadAt f l h → IsPastShorter f ms hs ls.ranked.items ps n d l h j) → ¬ (IsBelow ls.ranked.items n j) → HasNoShorter f ms hs ps n d l
  none_left j past stop k within head =
      let (i, r, inside, is, place) = groups.ranked.all k within in
      let here : (rank_at ls.ranked.items i).place ≡ k = ap (λ (q : Ranked). q.place) (get_or_default ls.ranked.items i no_rank r inside ∙ is) ∙ place in
      let at : head_at (heads_by hs ls.ranked.items) i ≡ head_at hs k = get_or-map (λ (q : Ranked). head_at hs q.place) ls.ranked.items i no_rank _ inside ∙ ap (head_at hs) here in
      subst (IsNoShorter f ms ps n d l) here (elim (cases_lt i j) [
        | inl early ↦ (past (head_at hs k) head).before i early at
        | inr late ↦ none_after j stop i late inside
      ])

module _ (f : Forest) (ms : List Member) (hs : List Head) (ps : List Fingerprint) (n : ℕ) (d : List (Signed ℕ)) where
  -- one that subsumes the clause has the head of one of its literals
  pub none_shorter : ((k : ℕ) (m : Member) → k < length ms → HasMarked f (get_or ms k m).clause (head_at hs k) (fingerprint_at ps k)) → ((i : ℕ) (x : Signed ℕ) → i < length d → HasNoShorter f ms hs ps n d (get_or d i x)) → ¬ (Any (ShorterOf f n d) ms)
  none_shorter marked none any =
      let (k, m, within, is, short) = any in
      let here : ShorterOf f n d (get_or ms k m) = subst (ShorterOf f n d) (sym is) short in
      let has = marked k m within in
      let (s, places) = placed_subsumes f (get_or ms k m).clause d here.1 in
      let (i, inside, goes) = places has.place has.within in
      none i _ inside k within (head_goes f s (literal_at (get_or ms k m).clause has.place) (literal_at d i) (head_at hs k) has.head goes) m
      (s, tree_at f (literal_at (get_or ms k m).clause has.place).atom, has.fingerprint, goes.1) here

-- a member that is one literal of a clause subsumes it, and has fewer literals than two
unit_shorter : (f : Forest) (n : ℕ) (c : List (Signed ℕ)) (m : Member) → 1 < n → IsUnitOf c m → ShorterOf f n c m
unit_shorter f n c m more unit =
    let (l, i, is) = any_in (λ (l : Signed ℕ). m.clause ≡ l ∷ []) c unit in
    let one : Subsumes (clause_at f (l ∷ [])) (clause_at f c) = (
      var,
      within_part var (clause_at f (l ∷ [])) (clause_at f c) (λ x j. elim j [
        | inl e ↦ equal_in (literal_tree f l) (subst_literal var x) (clause_at f c) (sym e ∙ sym (literal_var x)) (in_map (literal_tree f) l c i)
        | inr none ↦ absurd none
      ]),
    ) in
    subst (λ (d : List (Signed ℕ)). IsShorter n (clause_at f c) (clause_at f d)) (sym is) (more, one)

pub unit_is_shorter : (f : Forest) (ms : List Member) (n : ℕ) (c : List (Signed ℕ)) (k : ℕ) → 1 < n → IsPlaceOf (IsUnitOf c) ms k → IsPlaceOf (ShorterOf f n c) ms k
unit_is_shorter f ms n c k more place = record { within = place.within; holds = λ m. unit_shorter f n c (get_or ms k m) more (place.holds m) }

-- a member at the place has this clause, whose literal is the clause's
pub unit_at : (ms : List Member) (c : List (Signed ℕ)) (k i : ℕ) (l : Signed ℕ) → i < length c → get_or c i l ≡ l → IsPlaceOf (λ m. m.clause ≡ l ∷ []) ms k → IsPlaceOf (IsUnitOf c) ms k
unit_at ms c k i l within is place = record { within = place.within; holds = λ m. (i, l, within, is, place.holds m) }

-- what holds where there is no item, at an option that is no Some
pub if_none : {A : Type 0} (Q : Type 0) (o : Option A) → IfNone o Q → ((a : A) → o ≡ Some a → ⊥) → Q
if_none Q None h other = h
if_none Q (Some a) h other = absurd (other a refl)
