-- What stands first in a text, behind blanks and comments.
use Rattle.std.proofs.Common.{◌≡◌, ℕ, zero, suc, ◌+◌, ◌-◌, ◌<◌, ◌≤◌, true, ◌⊎◌, inl, inr, List, [], ◌∷◌, ◌++◌, length, take, drop, Option, Some, None, MatchOption, refl, sym, ap, subst, ◌∙◌, arith, length-append, length-drop}
use Rattle.std.specs.Prelude.{◌==◌}
use Rattle.std.proofs.lemmas.Bool.{eqb-true, cond_both}
use Rattle.std.proofs.lemmas.Bool.Decides.{nat_tests}
use Rattle.std.proofs.lemmas.List.{take-append-drop, take_at, drop_at, drop-drop, length-take-le}
use Rattle.tptp_read.specs.declared.kind.TokenKind.{TokenKind}
use Rattle.tptp_read.specs.Bytes.{is_blank, is_no_line_feed, run}
use Rattle.tptp_read.specs.Scan.{token_at}
use Rattle.tptp_read.specs.Gap.{block, piece, gap}
use Rattle.tptp_read.specs.Table.{IsToken}
use Rattle.tptp_read.specs.Stream.{Tok, IsNext, IsEnd, IsDone, IsDecidedToken, GivesToken}
use Rattle.tptp_read.proofs.Longest.{reaches, scanned_is_token, longest, no_token, longest_found}
use Rattle.tptp_read.proofs.DigitRuns.{Reaches}
use Rattle.tptp_read.proofs.Skipping.{gap_passed, same_end, done_ends, stays, skips_shorter}

-- no token begins with a blank or a comment
blank_no_token : (b : ℕ) (bs : List ℕ) → is_blank b ≡ true → token_at (b ∷ bs) ≡ None
unfolding token_at
blank_no_token b bs e = blank_each (λ (m : ℕ). token_at (m ∷ bs) ≡ None) b (refl, refl, refl, refl, refl, refl) e where
  blank_each : (P : ℕ → Type 0) (b : ℕ) → P 9 × P 10 × P 11 × P 12 × P 13 × P 32 → is_blank b ≡ true → P b
  blank_each P b h e = pick P b h (blank_is b e) where
    blank_is : (b : ℕ) → is_blank b ≡ true → (b ≡ 9) ⊎ ((b ≡ 10) ⊎ ((b ≡ 11) ⊎ ((b ≡ 12) ⊎ ((b ≡ 13) ⊎ (b ≡ 32)))))
    blank_is b e = grind (arith, nat_tests)

    pick : (P : ℕ → Type 0) (b : ℕ) → P 9 × P 10 × P 11 × P 12 × P 13 × P 32 → ((b ≡ 9) ⊎ ((b ≡ 10) ⊎ ((b ≡ 11) ⊎ ((b ≡ 12) ⊎ ((b ≡ 13) ⊎ (b ≡ 32)))))) → P b
    pick P b h (inl e) = subst P (sym e) h.0
    pick P b h (inr (inl e)) = subst P (sym e) h.1
    pick P b h (inr (inr (inl e))) = subst P (sym e) h.2
    pick P b h (inr (inr (inr (inl e)))) = subst P (sym e) h.3
    pick P b h (inr (inr (inr (inr (inl e))))) = subst P (sym e) h.4
    pick P b h (inr (inr (inr (inr (inr e))))) = subst P (sym e) h.5

percent_no_token : (bs : List ℕ) → token_at (37 ∷ bs) ≡ None
unfolding token_at
percent_no_token bs = refl

slash_no_token : (bs : List ℕ) → token_at (47 ∷ bs) ≡ None
unfolding token_at
slash_no_token bs = refl

clash : (o : Option (TokenKind × ℕ)) (z : TokenKind × ℕ) → o ≡ None → o ≡ Some z → ⊥
clash o z e h = cc

pub token_no_piece : (bs : List ℕ) (z : TokenKind × ℕ) → token_at bs ≡ Some z → piece bs ≡ 0
unfolding piece
token_no_piece [] z h = refl
token_no_piece (b ∷ bs) z h =
    cond_both (is_blank b) 1 _ (λ (n : ℕ). n ≡ 0) (λ e. absurd (clash _ z (blank_no_token b bs e) h))
    (λ _. cond_both (b == 37) (run is_no_line_feed bs + 1) _ (λ (n : ℕ). n ≡ 0) (λ e. absurd (clash _ z (ap (λ (x : ℕ). token_at (x ∷ bs)) (eqb-true b 37 e) ∙ percent_no_token bs) h))
    (λ _. cond_both (b == 47) (block bs) 0 (λ (n : ℕ). n ≡ 0) (λ e. absurd (clash _ z (ap (λ (x : ℕ). token_at (x ∷ bs)) (eqb-true b 47 e) ∙ slash_no_token bs) h)) (λ _. refl)))

nothing_found : token_at [] ≡ None
unfolding token_at
nothing_found = refl

nothing_passed : piece [] ≡ 0
unfolding piece
nothing_passed = refl

-- where the gap ends
pub end_there : (text : List ℕ) → token_at (drop (gap text) text) ≡ None → IsEnd text (drop (gap text) text)
end_there text e =
    let passed = gap_passed text in
    record { skipped = passed.skips; all = λ more h. stays (drop (gap text) text) more passed.done h; no_token = no_token (drop (gap text) text) e }

pub next_there : (text : List ℕ) (k : TokenKind) (n : ℕ) → token_at (drop (gap text) text) ≡ Some (k, n) → IsNext text (record { kind = k; text = take n (drop (gap text) text) }) (drop n (drop (gap text) text))
next_there text k n e =
    let rest = drop (gap text) text in
    let h = longest rest k n e in
    record { rest = rest; skipped = (gap_passed text).skips; spelled = sym (take-append-drop n rest); longest = rw (length-take-le n rest h.within) h }

-- what is next was found where the gap ends
pub next_found : (text : List ℕ) (t : Tok) (after : List ℕ) → (h : IsNext text t after) → token_at (drop (gap text) text) ≡ Some (t.kind, length t.text)
next_found text t after h =
    let found = longest_found h.rest t.kind (length t.text) h.longest in
    let at : drop (gap text) text ≡ h.rest = done_ends text h.rest h.skipped (token_no_piece h.rest (t.kind, length t.text) found) in
    ap token_at at ∙ found

next_rest : (text : List ℕ) (t : Tok) (after : List ℕ) → (h : IsNext text t after) → drop (gap text) text ≡ t.text ++ after
next_rest text t after h =
    let found = longest_found h.rest t.kind (length t.text) h.longest in
    done_ends text h.rest h.skipped (token_no_piece h.rest (t.kind, length t.text) found) ∙ h.spelled

abbrev found_from : Option (TokenKind × ℕ) → List ℕ → Option (Tok × List ℕ)
found_from None rest = None
found_from (Some z) rest = Some (record { kind = z.0; text = take z.1 rest }, drop z.1 rest)

nothing_is_none : (k : TokenKind) → IsToken k [] → ⊥
nothing_is_none k h = subst (Reaches k 0) nothing_found (reaches [] k 0 (omega arith) h)

token_some : (bs : List ℕ) (k : TokenKind) (n : ℕ) → IsToken k (take n bs) → 0 < n
token_some bs k zero h = absurd (nothing_is_none k h)
token_some bs k (suc n) h = omega arith

next_found_from : (rest after : List ℕ) (o : Option (TokenKind × ℕ)) (t : Tok) → o ≡ Some (t.kind, length t.text) → rest ≡ t.text ++ after → found_from o rest ≡ Some (t, after)
next_found_from rest after o t e whole =
    let front : take (length t.text) rest ≡ t.text = ap (λ (xs : List ℕ). take (length t.text) xs) whole ∙ take_at t.text after (length t.text) refl in
    let behind : drop (length t.text) rest ≡ after = ap (λ (xs : List ℕ). drop (length t.text) xs) whole ∙ drop_at t.text after (length t.text) refl in
    ap (λ (p : Option (TokenKind × ℕ)). found_from p rest) e ∙ (λ i. Some (record { kind = t.kind; text = front i }, behind i))

pub next_shorter : (text : List ℕ) (t : Tok) (after : List ℕ) → IsNext text t after → length after < length text
next_shorter text t after h =
    let some = token_some h.rest t.kind (length t.text) h.longest.spelled in
    omega (arith, skips_shorter text h.rest h.skipped, ap length h.spelled, length-append t.text after, some)

found_is : (text : List ℕ) (o : Option (TokenKind × ℕ)) → token_at (drop (gap text) text) ≡ o → MatchOption (found_from o (drop (gap text) text)) ((rest : List ℕ) × IsEnd text rest) (λ z. IsNext text z.0 z.1)
found_is text None e = (drop (gap text) text, end_there text e)
found_is text (Some z) e = next_there text z.0 z.1 e

pub decided : (text : List ℕ) → IsDecidedToken text
decided text =
    let rest = drop (gap text) text in
    record {
      found = found_from (token_at rest) rest;
      is = found_is text (token_at rest) refl;
      only = λ t after h. next_found_from rest after (token_at rest) t (next_found text t after h) (next_rest text t after h);
      shorter = λ t after h. next_shorter text t after h;
    }

pub done_is_end : (text : List ℕ) → IsDone text → IsEnd text []
done_is_end text h = record { skipped = h; all = λ more k. stays [] more nothing_passed k; no_token = no_token [] nothing_found }

pub end_is_gap : (text r : List ℕ) → IsEnd text r → drop (gap text) text ≡ r
end_is_gap text r h = same_end text r h.skipped ∙ h.all (drop (gap r) r) (gap_passed r).skips

pub same_ends : (text r s : List ℕ) → IsEnd text r → IsEnd text s → r ≡ s
same_ends text r s h k = sym (end_is_gap text r h) ∙ end_is_gap text s k

-- one call of the stream
where_token : (text : List ℕ) (at g : ℕ) → g ≡ gap (drop at text) → drop (gap (drop at text)) (drop at text) ≡ drop (at + g) text
where_token text at g e = ap (λ (k : ℕ). drop k (drop at text)) (sym e) ∙ drop-drop g at text

place_within : (text : List ℕ) (at g : ℕ) → at ≤ length text → g ≡ gap (drop at text) → at + g ≤ length text
place_within text at g le e = omega (arith, (gap_passed (drop at text)).within, length-drop at text, e)

pub stops : (text : List ℕ) (at g : ℕ) → at ≤ length text → g ≡ gap (drop at text) → None ≡ token_at (drop (at + g) text) → (at ≤ at + g) × (at + g ≤ length text) × IsEnd (drop at text) (drop (at + g) text)
stops text at g le e none =
    let same = where_token text at g e in
    let end = end_there (drop at text) (ap token_at same ∙ sym none) in
    (omega arith, place_within text at g le e, subst (IsEnd (drop at text)) same end)

pub gives : (text : List ℕ) (at g n : ℕ) (k : TokenKind) → at ≤ length text → g ≡ gap (drop at text) → Some (k, n) ≡ token_at (drop (at + g) text) → GivesToken (record { text = text; at = at }) (record { kind = k; start = at + g; end = at + g + n })
gives text at g n k le e found =
    let same = where_token text at g e in
    let rest = drop (at + g) text in
    let spelled = scanned_is_token rest k n (sym found) in
    let some = token_some rest k n spelled in
    let whole = longest rest k n (sym found) in
    let width : at + g + n - (at + g) ≡ n = omega arith in
    let next : IsNext (drop at text) (record { kind = k; text = take n rest }) (drop n rest) = rw same at (next_there (drop at text) k n (ap token_at same ∙ sym found)) in
    let behind : drop n rest ≡ drop (at + g + n) text = drop-drop n (at + g) text in
    record {
      from = omega arith;
      some = omega (arith, some);
      within = omega (arith, whole.within, length-drop (at + g) text, place_within text at g le e);
      next = rw width (rw behind at next);
    }
