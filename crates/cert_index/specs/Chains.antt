-- Which items may meet: those of two buckets that are told apart by neither their heads nor their fingerprints.
use Rattle.std.specs.Prelude.{◌≡◌, ◌⊎◌, ℕ, suc, ◌<◌, ◌≤◌, List, [], length, slice_index_or}
use Rattle.std.specs.List.{Contains}
use Rattle.inst_logic.specs.Signed.{complement}
use Rattle.cert_format.specs.Certificate.{Saturation}
use Rattle.cert_index.specs.declared.fingerprint.Fingerprint.{Fingerprint}
use Rattle.cert_index.specs.declared.meetings.Meetings.{Meetings}
use Rattle.cert_index.specs.Buckets.{number_at}
use Rattle.cert_index.specs.Fingerprints.{Differ, fingerprint_at}
use Rattle.cert_index.specs.Links.{IsLinked}
use Rattle.cert_index.specs.Meetings.{IsApart}
use Rattle.cert_index.specs.Partners.{Head, head_at}

-- the heads are no complements, or the fingerprints differ
abbrev pub AreToldApart : List Head → List Fingerprint → ℕ → ℕ → Type 0
AreToldApart hs ps p q = ¬ (head_at hs q ≡ complement (head_at hs p)) ⊎ Differ (fingerprint_at ps p) (fingerprint_at ps q)

-- the places have among them those before one that have the head opposite to that of place p
pub record HaveOpposite (hs : List Head) (p to : ℕ) (qs : List ℕ) : Type 0 where
  pub within : (q : ℕ) → Contains qs q → q < length hs
  pub all : (q : ℕ) → q < to → q < length hs → head_at hs q ≡ complement (head_at hs p) → Contains qs q

-- place q was added, unless its fingerprint differs from that of place p
pub record IsAddedAlike (ps : List Fingerprint) (p q : ℕ) (old new : List ℕ) : Type 0 where
  pub kept : (k : ℕ) → Contains old k → Contains new k
  pub added : Contains new q ⊎ Differ (fingerprint_at ps p) (fingerprint_at ps q)
  pub only : (k : ℕ) → Contains new k → Contains old k ⊎ (k ≡ q)

-- those of the places whose fingerprints do not differ from that of place p
pub record AreAlike (ps : List Fingerprint) (p : ℕ) (qs alike : List ℕ) : Type 0 where
  pub only : (q : ℕ) → Contains alike q → Contains qs q
  pub rest : (q : ℕ) → Contains qs q → Contains alike q ⊎ Differ (fingerprint_at ps p) (fingerprint_at ps q)

-- all that are not told apart from p are among the places
pub record AreOpposite (hs : List Head) (ps : List Fingerprint) (p : ℕ) (qs : List ℕ) : Type 0 where
  pub within : (q : ℕ) → Contains qs q → q < length hs
  pub rest : (q : ℕ) → q < length hs → Contains qs q ⊎ AreToldApart hs ps p q

abbrev pub list_at : List (List ℕ) → ℕ → List ℕ
list_at vs p = slice_index_or vs p []

-- for the first n places
pub record AreOpposites (hs : List Head) (ps : List Fingerprint) (n : ℕ) (vs : List (List ℕ)) : Type 0 where
  pub count : length vs ≡ n
  pub each : (p : ℕ) → p < n → AreOpposite hs ps p (list_at vs p)

-- the bucket of item q is opposite to that of item p
abbrev pub CanMeet : Meetings → ℕ → ℕ → Type 0
CanMeet m p q = Contains (list_at m.opposites (number_at m.links.numbers.items p)) (number_at m.links.numbers.items q)

pub record AreGrouped (m : Meetings) : Type 0 where
  pub linked : IsLinked m.links
  pub numbered : (i : ℕ) → i < length m.links.numbers.items → number_at m.links.numbers.items i < length m.opposites
  pub known : (n q : ℕ) → n < length m.opposites → Contains (list_at m.opposites n) q → q < length m.links.first.items

-- items with these heads and fingerprints that cannot meet are told apart
pub record TellsApart (hs : List Head) (ps : List Fingerprint) (m : Meetings) : Type 0 where
  pub grouped : AreGrouped m
  pub count : length m.links.numbers.items ≡ length hs
  pub told : (p q : ℕ) → p < length hs → q < length hs → CanMeet m p q ⊎ AreToldApart hs ps p q

-- the items from the place on whose numbers are among these
pub record AreGathered (ns numbers : List ℕ) (from : ℕ) (js : List ℕ) : Type 0 where
  pub only : (k : ℕ) → Contains js k → (from ≤ k) × (k < length ns)
  pub all : (k : ℕ) → from ≤ k → k < length ns → Contains numbers (number_at ns k) → Contains js k

-- the items from the place on that can meet item i
abbrev pub MayMeet : Meetings → ℕ → ℕ → List ℕ → Type 0
MayMeet m i from js = AreGathered m.links.numbers.items (list_at m.opposites (number_at m.links.numbers.items i)) from js

-- members that cannot meet are apart
pub record AreMeetings (c : Saturation) (m : Meetings) : Type 0 where
  pub grouped : AreGrouped m
  pub count : length m.links.numbers.items ≡ length c.base.members
  pub apart : (i j : ℕ) → i < j → j < length c.base.members → CanMeet m i j ⊎ IsApart c (suc i) (suc j)
