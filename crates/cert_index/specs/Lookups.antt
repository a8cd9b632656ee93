-- What look-ups of members know.
use Rattle.std.specs.Prelude.{◌≡◌, ℕ, ◌<◌, List, All, Any, length, Option, None, Some, slice_index_or}
use Rattle.std.specs.Cmp.Lexicographic.{pointwise}
use Rattle.indexmap.specs.IndexMap.{get}
use Rattle.inst_logic.specs.declared.signed.Signed.{Signed}
use Rattle.clause_form.specs.Literals.{id_eq}
use Rattle.inst_logic.specs.Tree.{Tree}
use Rattle.inst_logic.specs.Substitution.{Substitution, subst as apply}
use Rattle.clause_form.specs.Placements.{literal_at}
use Rattle.term_bank.specs.Forest.{Forest, IsClauseOf, tree_at}
use Rattle.cert_values.specs.declared.certificate.Saturation.{Saturation}
use Rattle.cert_values.specs.declared.member.Member.{Member}
use Rattle.cert_values.specs.Values.{base_of, saturation_of}
use Rattle.cert_values.specs.Wholes.{HasPlaces, IsWholeSaturation}
use Rattle.cert_format.specs.Validity.{IsValidBase}
use Rattle.cert_index.specs.Chains.{AreMeetings}
use Rattle.cert_index.specs.Shorter.{ShorterOf}
use Rattle.cert_index.specs.declared.covers.Sought.{Sought}
use Rattle.cert_index.specs.declared.fingerprint.Fingerprint.{Fingerprint}
use Rattle.cert_index.specs.Fingerprints.{HasFingerprint, fingerprint_at}
use Rattle.cert_index.specs.Lengths.{AreGrouped, heads_by, rank_at}
use Rattle.cert_index.specs.Places.{IsPlaceOf}
use Rattle.cert_index.specs.Partners.{Head, IsHeadAt, head_at}
use Rattle.cert_index.specs.declared.lengths.Ranked.{Ranked}
use Rattle.cert_index.specs.declared.lookup.Lookup.{Lookup}

-- the places are those of members with the clauses, and each member's clause has one
pub record AreClausesOf (ms : List Member) (place : List (Signed ℕ) → Option ℕ) : Type 0 where
  pub found : (c : List (Signed ℕ)) (k : ℕ) → place c ≡ Some k → IsPlaceOf (λ m. m.clause ≡ c) ms k
  pub none : (c : List (Signed ℕ)) → place c ≡ None → ¬ Any (λ m. m.clause ≡ c) ms

-- a literal of the clause has the head and the fingerprint
pub record HasMarked (f : Forest) (c : List (Signed ℕ)) (h : Head) (p : Fingerprint) : Type 0 where
  pub place : ℕ
  pub within : place < length c
  pub head : IsHeadAt f (literal_at c place) h
  pub known : h.atom < length f.symbols
  pub fingerprint : HasFingerprint f (tree_at f (literal_at c place).atom) p

pub record IsLookup (f : Forest) (ms : List Member) (l : Lookup) : Type 0 where
  pub clauses : AreClausesOf ms (get (pointwise id_eq) l.clauses)
  pub count : length l.fingerprints.items ≡ length ms
  pub heads : List Head
  pub marked : (k : ℕ) (m : Member) → k < length ms → HasMarked f (slice_index_or ms k m).clause (head_at heads k) (fingerprint_at l.fingerprints.items k)
  pub groups : AreGrouped ms heads l.lengths

-- what the check of the pairs stands on: the certificate has passed all that comes before, and the look-ups are its own
pub record IsReady (c : Saturation) (l : Lookup) : Type 0 where
  pub whole : IsWholeSaturation c
  pub base : IsValidBase (base_of c.base)
  pub placed : HasPlaces (saturation_of c)
  pub lookup : IsLookup c.base.bank c.base.members l
  pub meetings : AreMeetings (saturation_of c) l.meetings

-- the fingerprint is that of an atom that has the literal's atom as an instance
abbrev pub HasInstance : Forest → Fingerprint → Signed ℕ → Type 0
HasInstance f p l = (s : Substitution) × (t : Tree) × HasFingerprint f t p × (apply s t ≡ tree_at f l.atom)

-- where the literal may be the instance of its selected one, the member does not subsume the clause with fewer literals than n
abbrev pub IsNoShorter : Forest → List Member → List Fingerprint → ℕ → List (Signed ℕ) → Signed ℕ → ℕ → Type 0
IsNoShorter f ms ps n d l k = (m : Member) → HasInstance f (fingerprint_at ps k) l → ¬ (ShorterOf f n d (slice_index_or ms k m))

-- no member whose head is that of the literal is so
abbrev pub HasNoShorter : Forest → List Member → List Head → List Fingerprint → ℕ → List (Signed ℕ) → Signed ℕ → Type 0
HasNoShorter f ms hs ps n d l = (k : ℕ) → k < length ms → IsHeadAt f l (head_at hs k) → IsNoShorter f ms ps n d l k

-- a scan of the members of one head, from the shortest on, has come to place j of the order
pub record IsPastShorter (f : Forest) (ms : List Member) (hs : List Head) (rs : List Ranked) (ps : List Fingerprint) (n : ℕ) (d : List (Signed ℕ)) (l : Signed ℕ) (h : Head) (j : ℕ) : Type 0 where
  pub at : j < length rs → head_at (heads_by hs rs) j ≡ h
  pub before : (i : ℕ) → i < j → head_at (heads_by hs rs) i ≡ h → IsNoShorter f ms ps n d l (rank_at rs i).place

-- ---- the search for a shorter member

-- what is sought is a clause of the bank, and the look-ups are of the members
pub record IsSearch (s : Sought) : Type 0 where
  pub members : All (λ m. IsClauseOf s.bank.now m.clause) s.members.now
  pub lookup : IsLookup s.bank.now s.members.now s.lookup.now
  pub clause : IsClauseOf s.bank.now s.clause.now

-- the member is one that is sought
abbrev pub IsSought : Sought → Member → Type 0
IsSought s m = ShorterOf s.bank.now s.len s.clause.now m

-- the member at the place is not, where the literal may be the instance of its selected one
abbrev pub IsUnsoughtAt : Sought → Signed ℕ → ℕ → Type 0
IsUnsoughtAt s l k = IsNoShorter s.bank.now s.members.now s.lookup.now.fingerprints.items s.len s.clause.now l k

-- no member whose head is that of the literal is
abbrev pub AreUnsoughtBy : Sought → Signed ℕ → Type 0
AreUnsoughtBy s l = (hs : List Head) → AreGrouped s.members.now hs s.lookup.now.lengths → HasNoShorter s.bank.now s.members.now hs s.lookup.now.fingerprints.items s.len s.clause.now l
