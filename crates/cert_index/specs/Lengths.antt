-- The members in the order of their numbers of literals, and chains through those of one head.
use Rattle.std.specs.Prelude.{◌≡◌, ℕ, suc, ◌<◌, All, Any, List, length, map, slice_index_or, unwrap_or}
use Rattle.std.specs.List.Sorted.{IsNonDecreasingBy}
use Rattle.indexmap.specs.IndexMap.{get}
use Rattle.clause_form.specs.Literals.{id_eq}
use Rattle.cert_values.specs.declared.member.Member.{Member}
use Rattle.cert_index.specs.declared.lengths.Lengths.{Lengths}
use Rattle.cert_index.specs.declared.lengths.Ranked.{Ranked}
use Rattle.cert_index.specs.Partners.{Head, IsNext, head_at}

abbrev pub no_rank : Ranked
no_rank = record { len = 0; place = 0 }

abbrev pub rank_at : List Ranked → ℕ → Ranked
rank_at rs j = slice_index_or rs j no_rank

-- the member at the place, counted from 0, has so many literals
pub record IsRankOf (ms : List Member) (r : Ranked) : Type 0 where
  pub within : r.place < length ms
  pub len : (m : Member) → r.len ≡ length (slice_index_or ms r.place m).clause

-- each member is there, and none comes before a shorter one
pub record AreRanked (ms : List Member) (rs : List Ranked) : Type 0 where
  pub each : All (IsRankOf ms) rs
  pub all : (k : ℕ) → k < length ms → Any (λ r. r.place ≡ k) rs
  pub ordered : IsNonDecreasingBy (λ r. r.len) rs

-- the heads in this order
abbrev pub heads_by : List Head → List Ranked → List Head
heads_by hs rs = map (λ r. head_at hs r.place) rs

-- the chains of members with these heads, from the shortest on
pub record AreGrouped (ms : List Member) (hs : List Head) (l : Lengths) : Type 0 where
  pub ranked : AreRanked ms l.ranked.items
  pub same_length : length l.same.items ≡ length l.ranked.items
  pub to_same : (j : ℕ) → j < length l.ranked.items → IsNext (heads_by hs l.ranked.items) (head_at (heads_by hs l.ranked.items) j) (suc j) (slice_index_or l.same.items j 0)
  pub to_first : (h : Head) → IsNext (heads_by hs l.ranked.items) h 0 (unwrap_or (get id_eq l.first h) (length l.ranked.items))

-- there is a member at place j of the order, and it has fewer than n literals
pub record IsBelow (rs : List Ranked) (n j : ℕ) : Type 0 where
  pub within : j < length rs
  pub below : (rank_at rs j).len < n
