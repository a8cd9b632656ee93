-- Blanks and comments: what is passed is blanks and comments, all of them, and no other place is reached.
use Rattle.std.proofs.Common.{◌≡◌, ℕ, zero, suc, ◌+◌, ◌<◌, ◌≤◌, Bool, true, false, List, [], ◌∷◌, ◌++◌, length, drop, Option, Some, None, refl, sym, ap, subst, ◌∙◌, arith, length-append, length-drop, append_assoc, add-one}
use Rattle.std.specs.Prelude.{◌&&◌, ◌==◌, IsTrue}
use Rattle.std.specs.Option.{option_map, option_map_or}
use Rattle.std.specs.List.{list_all}
use Rattle.std.proofs.lemmas.Bool.{eqb-true, cond_both, or_parts, or_from}
use Rattle.std.proofs.lemmas.List.{drop_at, drop-drop}
use Rattle.tptp_read.specs.Bytes.{is_blank, is_no_line_feed, run, comment_end}
use Rattle.tptp_read.specs.Gap.{block, piece, gap}
use Rattle.tptp_read.specs.Skipped.{EndsLine, begins_slash, has_end, Skips, nothing, blank, line}
use Rattle.tptp_read.specs.Skipped as skipped
use Rattle.tptp_read.proofs.TokenFronts.{front_drop, front_within, AllPass, run_front, run_more}
use Rattle.tptp_read.proofs.GapLemmas.{gap_step}

-- the byte before, where it is a star
abbrev lead : Bool → List ℕ
lead true = 42 ∷ []
lead false = []

pub record Ended (star : Bool) (bs : List ℕ) (n : ℕ) : Type 0 where
  pub body : List ℕ
  pub after : List ℕ
  pub whole : lead star ++ bs ≡ body ++ 42 ∷ 47 ∷ after
  pub len : length (lead star) + n ≡ length body + 2
  pub none : has_end body ≡ false

abbrev IsEnded : Bool → List ℕ → Option ℕ → Type 0
IsEnded star bs None = Unit {0}
IsEnded star bs (Some n) = Ended star bs n

-- what stands before an end of a comment begins with a star, or is nothing
no_slash : (body bs after : List ℕ) → 42 ∷ bs ≡ body ++ 42 ∷ 47 ∷ after → begins_slash body ≡ false
no_slash [] bs after e = refl
no_slash (b ∷ body) bs after e = let first : 42 ≡ b = cc in rw (← first) refl

ended_more : (b : ℕ) (bs : List ℕ) (n : ℕ) (star next : Bool) → (b == 42) ≡ next → (star ≡ true → (b == 47) ≡ false) → Ended next bs n → Ended star (b ∷ bs) (n + 1)
ended_more b bs n true true e other h =
    let byte = eqb-true b 42 e in
    let whole : b ∷ bs ≡ h.body ++ 42 ∷ 47 ∷ h.after = ap (λ (x : ℕ). x ∷ bs) byte ∙ h.whole in
    record { body = 42 ∷ h.body; after = h.after; whole = ap (λ (xs : List ℕ). 42 ∷ xs) whole; len = omega (arith, h.len); none = or_from (begins_slash h.body) (has_end h.body) (no_slash h.body bs h.after h.whole) h.none }
ended_more b bs n true false e other h =
    record { body = 42 ∷ b ∷ h.body; after = h.after; whole = ap (λ (xs : List ℕ). 42 ∷ b ∷ xs) h.whole; len = omega (arith, h.len); none = rw (other refl, e) h.none }
ended_more b bs n false true e other h =
    record { body = h.body; after = h.after; whole = ap (λ (x : ℕ). x ∷ bs) (eqb-true b 42 e) ∙ h.whole; len = omega (arith, h.len); none = h.none }
ended_more b bs n false false e other h =
    record { body = b ∷ h.body; after = h.after; whole = ap (λ (xs : List ℕ). b ∷ xs) h.whole; len = omega (arith, h.len); none = rw e h.none }

ended_map : (b : ℕ) (bs : List ℕ) (star : Bool) (o : Option ℕ) → (star ≡ true → (b == 47) ≡ false) → IsEnded (b == 42) bs o → IsEnded star (b ∷ bs) (option_map (λ n. n + 1) o)
ended_map b bs star None other h = tt
ended_map b bs star (Some n) other h = ended_more b bs n star (b == 42) refl other h

ended_here : (b : ℕ) (bs : List ℕ) → (b == 47) ≡ true → Ended true (b ∷ bs) 1
ended_here b bs e = record { body = []; after = bs; whole = ap (λ (x : ℕ). 42 ∷ x ∷ bs) (eqb-true b 47 e); len = refl; none = refl }

comment_front : (star : Bool) (bs : List ℕ) → IsEnded star bs (comment_end star bs)
comment_front star [] = tt
comment_front true (b ∷ bs) =
    cond_both (b == 47) (Some 1) (option_map (λ n. n + 1) (comment_end (b == 42) bs)) (IsEnded true (b ∷ bs)) (λ e. ended_here b bs e)
    (λ e. ended_map b bs true (comment_end (b == 42) bs) (λ _. e) (comment_front (b == 42) bs))
comment_front false (b ∷ bs) = ended_map b bs false (comment_end (b == 42) bs) (λ e. absurd cc) (comment_front (b == 42) bs)

comment_found : (star : Bool) (body after : List ℕ) → (star ≡ true → begins_slash body ≡ false) → has_end body ≡ false → comment_end star (body ++ 42 ∷ 47 ∷ after) ≡ Some (length body + 2)
comment_found true [] after h none = refl
comment_found false [] after h none = refl
comment_found true (b ∷ body) after h none =
    let other : (b == 47) ≡ false = h refl in
    let parts = or_parts (b == 42 && begins_slash body) (has_end body) none in
    let more = comment_found (b == 42) body after (star_next b body parts.0) parts.1 in
    rw (other, more) (ap (λ (n : ℕ). Some n) (omega arith))
  where
    star_next : (b : ℕ) (body : List ℕ) → (b == 42 && begins_slash body) ≡ false → (b == 42) ≡ true → begins_slash body ≡ false
    star_next b body e star = rw star at e
comment_found false (b ∷ body) after h none =
    let parts = or_parts (b == 42 && begins_slash body) (has_end body) none in
    let more = comment_found (b == 42) body after (star_next b body parts.0) parts.1 in
    rw more (ap (λ (n : ℕ). Some n) (omega arith))
  where
    star_next : (b : ℕ) (body : List ℕ) → (b == 42 && begins_slash body) ≡ false → (b == 42) ≡ true → begins_slash body ≡ false
    star_next b body e star = rw star at e

-- a blank or a comment of this length, or nothing
pub record Piece (bs : List ℕ) (n : ℕ) : Type 0 where
  pub within : n ≤ length bs
  pub step : 0 < n → (rest : List ℕ) → Skips (drop n bs) rest → Skips bs rest

no_piece : (bs : List ℕ) → Piece bs 0
no_piece bs = record { within = omega arith; step = λ lt rest h. absurd (omega (arith, lt)) }

blank_piece : (b : ℕ) (bs : List ℕ) → is_blank b ≡ true → Piece (b ∷ bs) 1
blank_piece b bs e = record { within = omega arith; step = λ lt rest h. blank b (b ∷ bs) bs rest e refl h }

ends_line_at : (b : ℕ) (bs : List ℕ) (t : Bool) → (b == 10) ≡ t → EndsLine (drop (run is_no_line_feed bs) bs) → EndsLine (drop (run is_no_line_feed (b ∷ bs)) (b ∷ bs))
ends_line_at b bs true e h = rw e (eqb-true b 10 e)
ends_line_at b bs false e h = rw (e, add-one) h

ends_line : (bs : List ℕ) → EndsLine (drop (run is_no_line_feed bs) bs)
ends_line [] = tt
ends_line (b ∷ bs) = ends_line_at b bs (b == 10) refl (ends_line bs)

line_piece : (b : ℕ) (bs : List ℕ) → (b == 37) ≡ true → Piece (b ∷ bs) (run is_no_line_feed bs + 1)
line_piece b bs e =
    let h = run_front is_no_line_feed bs in
    let n = run is_no_line_feed bs in
    let behind = front_drop (AllPass is_no_line_feed) n bs h in
    let within = front_within (AllPass is_no_line_feed) n bs h in
    let ends : EndsLine h.rest = rw behind at (ends_line bs) in
    let step : (rest : List ℕ) → Skips (drop (n + 1) (b ∷ bs)) rest → Skips (b ∷ bs) rest =
    λ rest k. line h.front (b ∷ bs) h.rest rest h.is ends (ap (λ (x : ℕ). x ∷ bs) (eqb-true b 37 e) ∙ ap (λ (xs : List ℕ). 37 ∷ xs) h.whole) (rw (add-one, behind) at k) in
    record { within = omega (arith, within); step = λ lt. step }

block_step : (bs : List ℕ) (n : ℕ) → Ended false bs n → Piece (47 ∷ 42 ∷ bs) (n + 2)
block_step bs n h =
    let at : bs ≡ (h.body ++ 42 ∷ 47 ∷ []) ++ h.after = h.whole ∙ sym (append_assoc h.body (42 ∷ 47 ∷ []) h.after) in
    let len : length (h.body ++ 42 ∷ 47 ∷ []) ≡ n = omega (arith, length-append h.body (42 ∷ 47 ∷ []), h.len) in
    let two : n + 2 ≡ suc (suc n) = omega arith in
    let behind : drop (n + 2) (47 ∷ 42 ∷ bs) ≡ h.after = rw two (ap (λ (xs : List ℕ). drop n xs) at ∙ drop_at (h.body ++ 42 ∷ 47 ∷ []) h.after n len) in
    record {
      within = omega (arith, len, ap length at, length-append (h.body ++ 42 ∷ 47 ∷ []) h.after);
      step = λ lt rest k. skipped.block h.body (47 ∷ 42 ∷ bs) h.after rest h.none (ap (λ (xs : List ℕ). 47 ∷ 42 ∷ xs) h.whole) (rw behind at k);
    }

block_cases : (bs : List ℕ) (o : Option ℕ) → IsEnded false bs o → Piece (47 ∷ 42 ∷ bs) (option_map_or (λ n. n + 2) o 0)
block_cases bs None h = no_piece (47 ∷ 42 ∷ bs)
block_cases bs (Some n) h = block_step bs n h

block_piece : (bs : List ℕ) → Piece (47 ∷ bs) (block bs)
block_piece [] = no_piece (47 ∷ [])
block_piece (b ∷ bs) =
    cond_both (b == 42) (option_map_or (λ n. n + 2) (comment_end false bs) 0) 0 (λ (n : ℕ). Piece (47 ∷ b ∷ bs) n)
    (λ e. let byte = eqb-true b 42 e in rw byte (block_cases bs (comment_end false bs) (comment_front false bs)))
    (λ e. no_piece (47 ∷ b ∷ bs))

pub piece_is : (bs : List ℕ) → Piece bs (piece bs)
unfolding piece
piece_is [] = no_piece []
piece_is (b ∷ bs) =
    cond_both (is_blank b) 1 _ (Piece (b ∷ bs)) (λ e. blank_piece b bs e)
    (λ _. cond_both (b == 37) (run is_no_line_feed bs + 1) _ (Piece (b ∷ bs)) (λ e. line_piece b bs e)
    (λ _. cond_both (b == 47) (block bs) 0 (Piece (b ∷ bs)) (λ e. let byte = eqb-true b 47 e in rw byte (block_piece bs)) (λ _. no_piece (b ∷ bs))))

gap_none : (bs : List ℕ) → piece bs ≡ 0 → gap bs ≡ 0
gap_none [] e = refl
gap_none (b ∷ bs) e = rw e refl

-- all of the gap is passed
pub record Passed (bs : List ℕ) (n : ℕ) : Type 0 where
  pub within : n ≤ length bs
  pub skips : Skips bs (drop n bs)
  pub done : piece (drop n bs) ≡ 0

passed_none : (bs : List ℕ) → piece bs ≡ 0 → Passed bs (gap bs)
passed_none bs e = let none = gap_none bs e in rw none (record { within = omega arith; skips = nothing bs bs refl; done = e })

passed_step : (bs : List ℕ) (k : ℕ) → piece bs ≡ k → 0 < k → Passed (drop k bs) (gap (drop k bs)) → Passed bs (gap bs)
passed_step bs k e some h =
    let p : Piece bs k = subst (Piece bs) e (piece_is bs) in
    let all : gap bs ≡ k + gap (drop k bs) = gap_step k bs e some p.within in
    let at : drop (gap (drop k bs)) (drop k bs) ≡ drop (k + gap (drop k bs)) bs = drop-drop (gap (drop k bs)) k bs in
    let skips = p.step some (drop (gap (drop k bs)) (drop k bs)) h.skips in
    rw all (record {
      within = omega (arith, h.within, length-drop k bs, p.within);
      skips = rw at at skips;
      done = rw at at h.done;
    })

passed_by : (fuel : ℕ) (bs : List ℕ) → length bs ≤ fuel → Passed bs (gap bs)
passed_by fuel bs le = cases fuel bs le (piece bs) refl where
  cases : (fuel : ℕ) (bs : List ℕ) → length bs ≤ fuel → (k : ℕ) → piece bs ≡ k → Passed bs (gap bs)
  cases fuel bs le zero e = passed_none bs e
  cases zero bs le (suc k) e = absurd (let p = piece_is bs in omega (arith, p.within, e))
  cases (suc fuel) bs le (suc k) e =
      let p = piece_is bs in
      passed_step bs (suc k) e (omega arith) (cases fuel (drop (suc k) bs) (omega (arith, length-drop (suc k) bs, p.within, e)) (piece (drop (suc k) bs)) refl)

pub gap_passed : (bs : List ℕ) → Passed bs (gap bs)
gap_passed bs = passed_by (length bs) bs (omega arith)

-- what is skipped is a part of the gap
line_run : (body after : List ℕ) → IsTrue (list_all is_no_line_feed body) → EndsLine after → run is_no_line_feed (body ++ after) ≡ length body
line_run body after all ends = run_more is_no_line_feed body after all ∙ ended after ends where
  ended : (after : List ℕ) → EndsLine after → length body + run is_no_line_feed after ≡ length body
  ended [] e = omega arith
  ended (b ∷ bs) e = rw e (omega arith)

blank_len : (b : ℕ) (bs : List ℕ) → is_blank b ≡ true → piece (b ∷ bs) ≡ 1
unfolding piece
blank_len b bs e = rw e refl

line_len : (body after : List ℕ) → IsTrue (list_all is_no_line_feed body) → EndsLine after → piece (37 ∷ body ++ after) ≡ length body + 1
unfolding piece
line_len body after all ends = let n = line_run body after all ends in rw n refl

block_len : (body after : List ℕ) → has_end body ≡ false → piece (47 ∷ 42 ∷ body ++ 42 ∷ 47 ∷ after) ≡ length body + 2 + 2
unfolding piece
block_len body after none = let n = comment_found false body after (λ e. absurd cc) none in rw n refl

-- one piece and what follows it
over : (text after : List ℕ) (n : ℕ) → piece text ≡ n → 0 < n → n ≤ length text → drop n text ≡ after → drop (gap text) text ≡ drop (gap after) after
over text after n e some le at =
    let all : gap text ≡ n + gap (drop n text) = gap_step n text e some le in
    let same : gap (drop n text) ≡ gap after = ap gap at in
    let first : drop (gap text) text ≡ drop (n + gap after) text = ap (λ (k : ℕ). drop k text) (all ∙ ap (λ (k : ℕ). n + k) same) in
    first ∙ (sym (drop-drop (gap after) n text) ∙ ap (λ (xs : List ℕ). drop (gap after) xs) at)

pub same_end : (text rest : List ℕ) → Skips text rest → drop (gap text) text ≡ drop (gap rest) rest
same_end text rest (nothing t r e) = ap (λ (xs : List ℕ). drop (gap xs) xs) e
same_end text rest (blank b t after r is_blank_byte e h) =
    let one : drop (gap (b ∷ after)) (b ∷ after) ≡ drop (gap after) after = over (b ∷ after) after 1 (blank_len b after is_blank_byte) (omega arith) (omega arith) refl in
    ap (λ (xs : List ℕ). drop (gap xs) xs) e ∙ (one ∙ same_end after rest h)
same_end text rest (line body t after r all ends e h) =
    let long : length body + 1 ≤ length (37 ∷ body ++ after) = omega (arith, length-append body after) in
    let behind : drop (length body + 1) (37 ∷ body ++ after) ≡ after = rw add-one (drop_at body after (length body) refl) in
    let one = over (37 ∷ body ++ after) after (length body + 1) (line_len body after all ends) (omega arith) long behind in
    ap (λ (xs : List ℕ). drop (gap xs) xs) e ∙ (one ∙ same_end after rest h)
same_end text rest (skipped.block body t after r none e h) =
    let whole = 47 ∷ 42 ∷ body ++ 42 ∷ 47 ∷ after in
    let front = 47 ∷ 42 ∷ body ++ 42 ∷ 47 ∷ [] in
    let at : whole ≡ front ++ after = ap (λ (xs : List ℕ). 47 ∷ 42 ∷ xs) (sym (append_assoc body (42 ∷ 47 ∷ []) after)) in
    let len : length front ≡ length body + 2 + 2 = omega (arith, length-append body (42 ∷ 47 ∷ [])) in
    let long : length body + 2 + 2 ≤ length whole = omega (arith, ap length at, length-append front after, len) in
    let behind : drop (length body + 2 + 2) whole ≡ after = ap (λ (xs : List ℕ). drop (length body + 2 + 2) xs) at ∙ drop_at front after (length body + 2 + 2) len in
    let one = over whole after (length body + 2 + 2) (block_len body after none) (omega arith) long behind in
    ap (λ (xs : List ℕ). drop (gap xs) xs) e ∙ (one ∙ same_end after rest h)

pub where_done : (rest : List ℕ) → piece rest ≡ 0 → drop (gap rest) rest ≡ rest
where_done rest e = ap (λ (n : ℕ). drop n rest) (gap_none rest e)

pub done_ends : (text rest : List ℕ) → Skips text rest → piece rest ≡ 0 → drop (gap text) text ≡ rest
done_ends text rest h e = same_end text rest h ∙ where_done rest e

-- where no blank and no comment begins, no other place is reached
pub stays : (text more : List ℕ) → piece text ≡ 0 → Skips text more → more ≡ text
stays text more e (nothing t r h) = sym h
stays text more e (blank b t after r is_blank_byte h k) = absurd (let one : piece text ≡ 1 = ap piece h ∙ blank_len b after is_blank_byte in omega (arith, one, e))
stays text more e (line body t after r all ends h k) = absurd (let one : piece text ≡ length body + 1 = ap piece h ∙ line_len body after all ends in omega (arith, one, e))
stays text more e (skipped.block body t after r none h k) = absurd (let one : piece text ≡ length body + 2 + 2 = ap piece h ∙ block_len body after none in omega (arith, one, e))

pub skips_shorter : (text rest : List ℕ) → Skips text rest → length rest ≤ length text
skips_shorter text rest (nothing t r h) = omega (arith, ap length h)
skips_shorter text rest (blank b t after r is_blank_byte h k) = omega (arith, ap length h, skips_shorter after rest k)
skips_shorter text rest (line body t after r all ends h k) = omega (arith, ap length h, length-append body after, skips_shorter after rest k)
skips_shorter text rest (skipped.block body t after r none h k) = omega (arith, ap length h, length-append body (42 ∷ 47 ∷ after), skips_shorter after rest k)
