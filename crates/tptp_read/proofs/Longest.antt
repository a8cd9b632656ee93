-- What is found at the front of a text is the longest token there, and the only longest one.
use Rattle.std.proofs.Common.{◌≡◌, ℕ, ◌<◌, ◌≤◌, ◌⊎◌, inl, inr, List, ◌++◌, length, take, drop, Option, Some, None, refl, sym, subst, arith}
use Rattle.std.proofs.lemmas.Bool.{cases_order}
use Rattle.std.proofs.lemmas.List.{take-append-drop, length-take-le}
use Rattle.tptp_read.specs.declared.kind.TokenKind.{TokenKind}
use Rattle.tptp_read.specs.Scan.{token_at}
use Rattle.tptp_read.specs.Table.{IsToken, IsLongest}
use Rattle.tptp_read.specs.Stream.{HasNoToken}
use Rattle.tptp_read.proofs.TokenFronts.{Front, front_take, front_within}
use Rattle.tptp_read.proofs.DigitRuns.{IsScanned, Reaches}
use Rattle.tptp_read.proofs.Spelled.{token_front}
use Rattle.tptp_read.proofs.Found.{token_found}

-- a token of this kind and length stands at the front
pub reaches : (bs : List ℕ) (k : TokenKind) (n : ℕ) → n ≤ length bs → IsToken k (take n bs) → Reaches k n (token_at bs)
reaches bs k n le h =
    let found = token_found k (take n bs) (drop n bs) h in
    let whole : take n bs ++ drop n bs ≡ bs = take-append-drop n bs in
    let len : length (take n bs) ≡ n = length-take-le n bs le in
    rw (whole, len) at found

pub scanned : (bs : List ℕ) (k : TokenKind) (n : ℕ) → token_at bs ≡ Some (k, n) → Front (IsToken k) n bs
scanned bs k n e = subst (IsScanned bs) e (token_front bs)

pub scanned_is_token : (bs : List ℕ) (k : TokenKind) (n : ℕ) → token_at bs ≡ Some (k, n) → IsToken k (take n bs)
scanned_is_token bs k n e = let h = scanned bs k n e in subst (IsToken k) (sym (front_take (IsToken k) n bs h)) h.is

pub longest : (bs : List ℕ) (k : TokenKind) (n : ℕ) → token_at bs ≡ Some (k, n) → IsLongest bs k n
longest bs k n e = record {
  within = front_within (IsToken k) n bs (scanned bs k n e);
  spelled = scanned_is_token bs k n e;
  longest = λ m j lt le h. let r = subst (Reaches j m) e (reaches bs j m le h) in omega (arith, r.0);
}

pub no_token : (bs : List ℕ) → token_at bs ≡ None → HasNoToken bs
no_token bs e = λ k n le h. subst (Reaches k n) e (reaches bs k n le h)

-- the token that was found, where it is the longest one
found_is : (bs : List ℕ) (k : TokenKind) (n : ℕ) → IsLongest bs k n → (o : Option (TokenKind × ℕ)) → token_at bs ≡ o → Reaches k n o → o ≡ Some (k, n)
found_is bs k n h None e r = absurd r
found_is bs k n h (Some z) e r = pairs z e r (cases_order n z.1) where
  pairs : (z : TokenKind × ℕ) → token_at bs ≡ Some z → Reaches k n (Some z) → ((n ≡ z.1) ⊎ ((n < z.1) ⊎ (z.1 < n))) → Some z ≡ Some (k, n)
  pairs z e r (inl same) = let kind = r.1 (sym same) in λ i. Some (kind i, sym same i)
  pairs z e r (inr (inl lt)) = absurd (h.longest z.1 z.0 lt (front_within (IsToken z.0) z.1 bs (scanned bs z.0 z.1 e)) (scanned_is_token bs z.0 z.1 e))
  pairs z e r (inr (inr gt)) = absurd (omega (arith, r.0))

pub longest_found : (bs : List ℕ) (k : TokenKind) (n : ℕ) → IsLongest bs k n → token_at bs ≡ Some (k, n)
longest_found bs k n h = found_is bs k n h (token_at bs) refl (reaches bs k n h.within h.spelled)
