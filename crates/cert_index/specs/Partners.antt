-- Which members can be partners by the heads of their selected literals, and chains through the members of one head.
use Rattle.std.specs.Prelude.{◌≡◌, ℕ, suc, ◌<◌, ◌≤◌, List, length, false, Some, option_map, slice_index_or, unwrap_or}
use Rattle.indexmap.specs.IndexMap.{get}
use Rattle.inst_logic.specs.declared.signed.Signed.{Signed}
use Rattle.inst_logic.specs.Signed.{complement}
use Rattle.clause_form.specs.Literals.{id_eq}
use Rattle.term_bank.specs.Forest.{Forest, number_of, symbol_of, tree_at}
use Rattle.cert_format.specs.Certificate as format
use Rattle.cert_values.specs.declared.certificate.Saturation.{Saturation}
use Rattle.cert_values.specs.SelectedLiteral.{IsSelectedLiteral}
use Rattle.cert_index.specs.declared.partners.Partners.{Partners}
use Rattle.cert_index.specs.Meetings.{IsApart}

-- a sign and the number of a symbol
abbrev pub Head : Type 0
Head = Signed ℕ

abbrev pub head_at : List Head → ℕ → Head
head_at hs i = slice_index_or hs i (record { positive = false; atom = 0 })

-- the literal's sign and the number of its symbol
pub record IsHeadAt (f : Forest) (l : Signed ℕ) (h : Head) : Type 0 where
  pub sign : h.positive ≡ l.positive
  pub number : Some h.atom ≡ option_map (number_of f.symbols) (symbol_of (tree_at f l.atom))

-- the head of the selected literal of member i, counted from 0
pub record IsHeadOf (c : Saturation) (i : ℕ) (h : Head) : Type 0 where
  pub literal : Signed ℕ
  pub is : IsSelectedLiteral c (suc i) literal
  pub head : IsHeadAt c.base.bank literal h
  pub known : h.atom < length c.base.bank.symbols

-- members whose heads are not complements are apart
abbrev pub AreApart : format.Saturation → List Head → Type 0
AreApart c hs = (i j : ℕ) → i < j → j < length hs → ¬ (head_at hs j ≡ complement (head_at hs i)) → IsApart c (suc i) (suc j)

-- the first place of the head from one on, or the length where there is none
pub record IsNext (hs : List Head) (h : Head) (from p : ℕ) : Type 0 where
  pub from_there : from ≤ p
  pub within : p ≤ length hs
  pub at : p < length hs → head_at hs p ≡ h
  pub before : (k : ℕ) → from ≤ k → k < p → ¬ (head_at hs k ≡ h)

-- from place i on: the next place of the same head
pub record AreChained (hs : List Head) (same : List ℕ) (i : ℕ) : Type 0 where
  pub same_length : length same ≡ length hs
  pub to_same : (k : ℕ) → i ≤ k → k < length hs → IsNext hs (head_at hs k) (suc k) (slice_index_or same k 0)

-- through all places, from the first one of each head
pub record HasChains (p : Partners) : Type 0 where
  pub chained : AreChained p.heads.items p.same.items 0
  pub first : (h : Head) → IsNext p.heads.items h 0 (unwrap_or (get id_eq p.first h) (length p.heads.items))
