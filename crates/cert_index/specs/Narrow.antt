-- Classes of members: members of different classes have no unifier for their selected atoms.
use Rattle.std.specs.Prelude.{◌≡◌, ◌⊎◌, ℕ, ◌<◌, Bool, ◌&&◌, true, List, length, nat_eq, if◌then◌else◌}
use Rattle.std.specs.List.{list_any, position_or_len}
use Rattle.inst_logic.specs.Signed.{complement}
use Rattle.cert_index.specs.declared.fingerprint.Fingerprint.{Fingerprint}
use Rattle.cert_index.specs.declared.narrow.Class.{Class}
use Rattle.cert_index.specs.Fingerprints.{Differ, fingerprint_at}
use Rattle.cert_index.specs.Partners.{Head, head_at}

abbrev pub class_eq : Class → Class → Bool
class_eq c d = nat_eq c.symbol d.symbol && nat_eq c.mark d.mark

abbrev pub no_class : Class
no_class = record { symbol = 0; mark = 0 }

-- the class of a member with this head and this fingerprint, where these are the unmarked symbols
abbrev pub class_in : List ℕ → Head → Fingerprint → Class
class_in ks h p = record { symbol = h.atom; mark = if list_any (nat_eq h.atom) ks then 0 else p.own.first }

-- the symbols of the first n members that have no mark for their first argument are there
abbrev pub AreUnmarked : List Head → List Fingerprint → List ℕ → ℕ → Type 0
AreUnmarked hs ps ks n = (k : ℕ) → k < n → (fingerprint_at ps k).own.first ≡ 0 → list_any (nat_eq (head_at hs k).atom) ks ≡ true

-- the sign of the head, and the number of the member's class
pub record IsNarrow (cs : List Class) (ks : List ℕ) (h : Head) (p : Fingerprint) (n : Head) : Type 0 where
  pub sign : n.positive ≡ h.positive
  pub number : n.atom ≡ position_or_len (class_eq (class_in ks h p)) cs
  pub known : n.atom < length cs

-- members that no class has both of, with opposite signs, have no complements for heads, or different fingerprints
abbrev pub AreNarrow : List Head → List Fingerprint → List Head → Type 0
AreNarrow hs ps ns = (i j : ℕ) → i < length hs → j < length hs → ¬ (head_at ns j ≡ complement (head_at ns i)) → ¬ (head_at hs j ≡ complement (head_at hs i)) ⊎ Differ (fingerprint_at ps i) (fingerprint_at ps j)
