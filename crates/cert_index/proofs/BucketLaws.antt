-- Numbers of buckets, and how they stay as buckets are added.
use Rattle.std.proofs.Common.{◌≡◌, ℕ, zero, suc, ◌+◌, ◌<◌, Bool, true, false, Some, List, [], ◌∷◌, ◌++◌, get_or, nat_eq, refl, ap, sym, ◌∙◌, subst, arith, below_more}
use Rattle.std.specs.Prelude.{◌&&◌, if◌then◌else◌, slice_get}
use Rattle.std.proofs.lemmas.Bool.Decides.{Decides-eqb}
use Rattle.std.proofs.lemmas.Option.{same_Some}
use Rattle.inst_logic.specs.EqualLaws.{and_left, and_right}
use Rattle.clause_form.specs.Literals.{id_eq}
use Rattle.clause_form.proofs.Assembly.{id_eq_decides}
use Rattle.std.proofs.lemmas.List.{get_or_push}
use Rattle.std.proofs.Math.ListN.{get_or-append}
use Rattle.std.proofs.lemmas.List.{length-append}
use Rattle.term_bank.specs.Forest.{KeepsPlaces}
use Rattle.cert_index.specs.declared.buckets.Bucket.{Bucket}
use Rattle.cert_index.specs.declared.fingerprint.Fingerprint.{Fingerprint}
use Rattle.cert_index.specs.declared.buckets.Buckets.{Buckets}
use Rattle.cert_index.specs.declared.fingerprint.Marks.{Marks}
use Rattle.cert_index.specs.Buckets.{AreInBuckets, AreKnown, AreNumbered, IsNumbered, no_bucket, number_at}
use Rattle.cert_index.specs.Fingerprints.{fingerprint_at}
use Rattle.cert_index.specs.Partners.{Head, head_at}

-- equal keys are one
abbrev marks_eq : Marks → Marks → Bool
marks_eq m n = nat_eq m.first n.first && (nat_eq m.second n.second && (nat_eq m.third n.third && nat_eq m.fourth n.fourth))

abbrev fingerprint_eq : Fingerprint → Fingerprint → Bool
fingerprint_eq p q = marks_eq p.own q.own && (marks_eq p.first q.first && marks_eq p.second q.second)

marks_same : (m n : Marks) → marks_eq m n ≡ true → m ≡ n
marks_same m n e =
    let a : Bool = nat_eq m.first n.first in
    let b : Bool = nat_eq m.second n.second in
    let c : Bool = nat_eq m.third n.third in
    let d : Bool = nat_eq m.fourth n.fourth in
    let rest : (b && (c && d)) ≡ true = and_right a (b && (c && d)) e in
    let last : (c && d) ≡ true = and_right b (c && d) rest in
    let first : m.first ≡ n.first = (Decides-eqb m.first n.first).0 (and_left a (b && (c && d)) e) in
    let second : m.second ≡ n.second = (Decides-eqb m.second n.second).0 (and_left b (c && d) rest) in
    let third : m.third ≡ n.third = (Decides-eqb m.third n.third).0 (and_left c d last) in
    let fourth : m.fourth ≡ n.fourth = (Decides-eqb m.fourth n.fourth).0 (and_right c d last) in
    λ z. record { first = first z; second = second z; third = third z; fourth = fourth z }

fingerprint_same : (p q : Fingerprint) → fingerprint_eq p q ≡ true → p ≡ q
fingerprint_same p q e =
    let rest : (marks_eq p.first q.first && marks_eq p.second q.second) ≡ true = and_right (marks_eq p.own q.own) (marks_eq p.first q.first && marks_eq p.second q.second) e in
    let own : p.own ≡ q.own = marks_same p.own q.own (and_left (marks_eq p.own q.own) (marks_eq p.first q.first && marks_eq p.second q.second) e) in
    let first : p.first ≡ q.first = marks_same p.first q.first (and_left (marks_eq p.first q.first) (marks_eq p.second q.second) rest) in
    let second : p.second ≡ q.second = marks_same p.second q.second (and_right (marks_eq p.first q.first) (marks_eq p.second q.second) rest) in
    λ z. record { own = own z; first = first z; second = second z }

bucket_same : (b d : Bucket) → (id_eq b.head d.head && fingerprint_eq b.fingerprint d.fingerprint) ≡ true → b ≡ d
bucket_same b d e =
    let head : b.head ≡ d.head = (id_eq_decides b.head d.head).0 (and_left (id_eq b.head d.head) (fingerprint_eq b.fingerprint d.fingerprint) e) in
    let fingerprint : b.fingerprint ≡ d.fingerprint = fingerprint_same b.fingerprint d.fingerprint (and_right (id_eq b.head d.head) (fingerprint_eq b.fingerprint d.fingerprint) e) in
    λ z. record { head = head z; fingerprint = fingerprint z }

item_there : (xs : List Bucket) (n : ℕ) (d x : Bucket) → slice_get xs n ≡ Some x → get_or xs n d ≡ x
item_there [] n d x e = absurd (cc)
item_there (y ∷ xs) zero d x e = same_Some y x e
item_there (y ∷ xs) (suc n) d x e = item_there xs n d x e

pub bucket_there : (known : List Bucket) (n : ℕ) (b d : Bucket) → slice_get known n ≡ Some d → (id_eq b.head d.head && fingerprint_eq b.fingerprint d.fingerprint) ≡ true → get_or known n no_bucket ≡ b
bucket_there known n b d there same = item_there known n no_bucket d there ∙ sym (bucket_same b d same)

-- a set's items keep their places
pub places_kept : (d : Bucket) (found : Bool) (old new : List Bucket) (b : Bucket) → new ≡ (if found then old else old ++ b ∷ []) → KeepsPlaces d old new
places_kept d found old new b e = subst (KeepsPlaces d old) (sym e) (by found)
  where
    by : (f : Bool) → KeepsPlaces d old (if f then old else old ++ b ∷ [])
    by true = (omega arith, λ i w. refl)
    by false = (let n = length-append old (b ∷ []) in omega arith, λ i w. get_or-append old (b ∷ []) d i w)

numbered_later : (old new : List Bucket) → KeepsPlaces no_bucket old new → (b : Bucket) (n : ℕ) → IsNumbered old b n → IsNumbered new b n
numbered_later old new kept b n h = record {
  within = let l = h.within in let k = kept.0 in omega arith;
  is = kept.1 n h.within ∙ h.is;
}

-- one more item
pub one_more_number : (old new : List Bucket) → KeepsPlaces no_bucket old new → (hs : List Head) (ps : List Fingerprint) (ns : List ℕ) (i n : ℕ) → AreNumbered old hs ps ns i
    → IsNumbered new (record { head = head_at hs i; fingerprint = fingerprint_at ps i }) n → AreNumbered new hs ps (ns ++ n ∷ []) (i + 1)
one_more_number old new kept hs ps ns i n before last = record {
  count = length-append ns (n ∷ []) ∙ ap (λ m. m + 1) before.count;
  each = below_more (λ k. IsNumbered new (record { head = head_at hs k; fingerprint = fingerprint_at ps k }) (number_at (ns ++ n ∷ []) k)) i
      (λ k less. subst (IsNumbered new (record { head = head_at hs k; fingerprint = fingerprint_at ps k })) (sym (get_or-append ns (n ∷ []) 0 k (let c = before.count in omega arith)))
      (numbered_later old new kept (record { head = head_at hs k; fingerprint = fingerprint_at ps k }) (number_at ns k) (before.each k less)))
      (subst (IsNumbered new (record { head = head_at hs i; fingerprint = fingerprint_at ps i })) (sym (get_or_push ns n 0 i before.count)) last);
}

pub known_buckets : (hs : List Head) (ps : List Fingerprint) (b : Buckets) → AreInBuckets hs ps b → AreKnown b
known_buckets hs ps b h = record { known = λ i less. (h.each i (subst (λ n. i < n) h.count less)).within }
