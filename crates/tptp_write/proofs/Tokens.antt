-- The tokens that are printed, each the longest one at its place.
use Rattle.std.proofs.Common.{◌≡◌, ℕ, ◌+◌, ◌<◌, ◌≤◌, Bool, true, false, cond, List, [], ◌∷◌, ◌++◌, length, Some, refl, ap, ◌∙◌, arith, append_assoc, length-append}
use Rattle.std.specs.Prelude.{◌||◌, ◌==◌, decimal}
use Rattle.std.specs.List.{list_all}
use Rattle.std.specs.Char.{is_ascii_lowercase}
use Rattle.std.specs.Str.Parse.{AllDigits}
use Rattle.std.proofs.lemmas.Bool.Decides.{nat_tests}
use Rattle.std.proofs.lemmas.Fmt.{decimal_is_IsNumeral}
use Rattle.std.proofs.lemmas.Str.Parse.{digit_from_value}
use Rattle.inst_logic.specs.Printing.{is_lower, is_between, is_lower_word, is_readable_name, name_text, escaped, escaped_all}
use Rattle.inst_logic.specs.Printing as printing
use Rattle.tptp_read.specs.declared.kind.TokenKind.TheVariants.{LowerWord, Variable, QuotedWord}
use Rattle.tptp_read.specs.Bytes.{is_word_byte, is_printed, run}
use Rattle.tptp_read.specs.Scan.{begins, token_at, quoted_at, dollar_at}
use Rattle.tptp_read.specs.Table.{are_items}
use Rattle.tptp_read.specs.Skipped.{nothing, blank}
use Rattle.tptp_read.specs.Stream.{Tok, IsNext}
use Rattle.tptp_read.proofs.TokenFronts.{run_more, run_none}
use Rattle.tptp_read.proofs.Closings.{closing_found}
use Rattle.tptp_read.proofs.Longest.{longest}
use Rattle.tptp_read.specs.Lexemes.{mark, lower}
use Rattle.tptp_read.specs.Grammar.{unequal_mark}
use Rattle.tptp_read.specs.Meaning.{unquoted}
use Rattle.tptp_write.proofs.Written.{variable_text, variable_tok, name_kind, name_tok, false_tok}
pub use Rattle.inst_logic.proofs.Booleans.{both_true, and_both}
use Rattle.std.proofs.lemmas.Bool.{or_parts}

-- no byte of a word follows
abbrev pub Clear : List ℕ → Type 0
Clear after = begins is_word_byte after ≡ false

run_clear : (after : List ℕ) → Clear after → run is_word_byte after ≡ 0
run_clear [] c = refl
run_clear (b ∷ bs) c = run_none is_word_byte b bs c

found_next : (t : Tok) (after : List ℕ) → token_at (t.text ++ after) ≡ Some (t.kind, length t.text) → IsNext (t.text ++ after) t after
found_next t after e = record {
  rest = t.text ++ after;
  skipped = nothing (t.text ++ after) (t.text ++ after) refl;
  spelled = refl;
  longest = longest (t.text ++ after) t.kind (length t.text) e;
}

pub skip_blank : (text : List ℕ) (t : Tok) (after : List ℕ) → IsNext text t after → IsNext (32 ∷ text) t after
skip_blank text t after h = record {
  rest = h.rest;
  skipped = blank 32 (32 ∷ text) text h.rest refl refl h.skipped;
  spelled = h.spelled;
  longest = h.longest;
}

word_run : (bs after : List ℕ) → list_all is_word_byte bs ≡ true → Clear after → run is_word_byte (bs ++ after) ≡ length bs
word_run bs after all c = omega (arith, run_more is_word_byte bs after all, run_clear after c)

word_found : (b : ℕ) (bs after : List ℕ) → is_ascii_lowercase b ≡ true → list_all is_word_byte bs ≡ true → Clear after → token_at (b ∷ bs ++ after) ≡ Some (LowerWord, length (b ∷ bs))
unfolding token_at
word_found b bs after low all c = let n = word_run bs after all c in rw (low, n) (ap (λ (m : ℕ). Some (LowerWord, m)) (omega arith))

variable_found : (bs after : List ℕ) → list_all is_word_byte bs ≡ true → Clear after → token_at (88 ∷ bs ++ after) ≡ Some (Variable, length (88 ∷ bs))
unfolding token_at
variable_found bs after all c = let n = word_run bs after all c in rw n (ap (λ (m : ℕ). Some (Variable, m)) (omega arith))

more_than_one : (n : ℕ) → 0 < n → (n + 1 == 1) ≡ false
more_than_one n h = grind (arith, nat_tests)

quoted_found : (items after : List ℕ) → are_items 39 false items ≡ true → 0 < length items → token_at (39 ∷ (items ++ 39 ∷ []) ++ after) ≡ Some (QuotedWord, length (39 ∷ items ++ 39 ∷ []))
unfolding token_at quoted_at
quoted_found items after are some =
    let group : (items ++ 39 ∷ []) ++ after ≡ items ++ 39 ∷ after = append_assoc items (39 ∷ []) after in
    let found = closing_found 39 false items after are in
    let other = more_than_one (length items) some in
    rw (group, found, other) (ap (λ (m : ℕ). Some (QuotedWord, m)) (omega (arith, length-append items (39 ∷ []))))

-- ---- names

escaped_at : (b : ℕ) (rest : List ℕ) (e : Bool) → (b == 39 || b == 92) ≡ e → is_printed b ≡ true → are_items 39 false rest ≡ true → are_items 39 false (cond e (92 ∷ b ∷ []) (b ∷ []) ++ rest) ≡ true
escaped_at b rest true e p h = rw e h
escaped_at b rest false e p h = let o = or_parts (b == 39) (b == 92) e in rw (p, o.0, o.1) h

escaped_items : (n : List ℕ) → list_all (is_between 32 126) n ≡ true → are_items 39 false (escaped_all n) ≡ true
escaped_items [] h = refl
escaped_items (b ∷ bs) h =
    let both = both_true (is_between 32 126 b) (list_all (is_between 32 126) bs) h in
    escaped_at b (escaped_all bs) (b == 39 || b == 92) refl both.0 (escaped_items bs both.1)

content_at : (b : ℕ) (rest n : List ℕ) (e : Bool) → (b == 39 || b == 92) ≡ e → unquoted false rest ≡ n → unquoted false (cond e (92 ∷ b ∷ []) (b ∷ []) ++ rest) ≡ b ∷ n
content_at b rest n true e h = ap (λ (xs : List ℕ). b ∷ xs) h
content_at b rest n false e h = let o = or_parts (b == 39) (b == 92) e in rw (o.0, o.1) (ap (λ (xs : List ℕ). b ∷ xs) h)

pub content : (n : List ℕ) → unquoted false (escaped_all n ++ 39 ∷ []) ≡ n
content [] = refl
content (b ∷ bs) =
    ap (unquoted false) (append_assoc (escaped b) (escaped_all bs) (39 ∷ []))
    ∙ content_at b (escaped_all bs ++ 39 ∷ []) bs (b == 39 || b == 92) refl (content bs)

some_escaped : (b : ℕ) (rest : List ℕ) (e : Bool) → 0 < length (cond e (92 ∷ b ∷ []) (b ∷ []) ++ rest)
some_escaped b rest true = omega arith
some_escaped b rest false = omega arith

lower_byte : (b : ℕ) → is_lower b ≡ true → is_ascii_lowercase b ≡ true
lower_byte b e = grind (arith, nat_tests)

word_byte : (b : ℕ) → printing.is_word_byte b ≡ true → is_word_byte b ≡ true
word_byte b e = grind (arith, nat_tests)

word_bytes : (bs : List ℕ) → list_all printing.is_word_byte bs ≡ true → list_all is_word_byte bs ≡ true
word_bytes [] h = refl
word_bytes (b ∷ bs) h = let both = both_true (printing.is_word_byte b) (list_all printing.is_word_byte bs) h in and_both (is_word_byte b) (list_all is_word_byte bs) (word_byte b both.0) (word_bytes bs both.1)

name_at : (n after : List ℕ) (e : Bool) → is_lower_word n ≡ e → is_readable_name n ≡ true → Clear after → IsNext (cond e n (39 ∷ escaped_all n ++ 39 ∷ []) ++ after) (record { kind = name_kind e; text = cond e n (39 ∷ escaped_all n ++ 39 ∷ []) }) after
name_at [] after e is r c = absurd cc
name_at (b ∷ bs) after true is r c =
    let both = both_true (is_lower b) (list_all printing.is_word_byte bs) is in
    found_next (record { kind = LowerWord; text = b ∷ bs }) after (word_found b bs after (lower_byte b both.0) (word_bytes bs both.1) c)
name_at (b ∷ bs) after false is r c =
    found_next (record { kind = QuotedWord; text = 39 ∷ escaped_all (b ∷ bs) ++ 39 ∷ [] }) after
    (quoted_found (escaped_all (b ∷ bs)) after (escaped_items (b ∷ bs) r) (some_escaped b (escaped_all bs) (b == 39 || b == 92)))

pub name_next : (n after : List ℕ) → is_readable_name n ≡ true → Clear after → IsNext (name_text n ++ after) (name_tok n) after
name_next n after r c = name_at n after (is_lower_word n) refl r c

-- ---- variables

digit_byte : (b : ℕ) → 48 ≤ b → b ≤ 57 → is_word_byte b ≡ true
digit_byte b l h = grind (arith, nat_tests)

digit_bytes : (ds : List ℕ) → AllDigits 10 ds → list_all is_word_byte ds ≡ true
digit_bytes [] d = refl
digit_bytes (b ∷ bs) d =
    let at = digit_from_value b d.0 in
    and_both (is_word_byte b) (list_all is_word_byte bs) (digit_byte b (omega (arith, at)) (omega (arith, at))) (digit_bytes bs d.1)

pub variable_next : (n : ℕ) (after : List ℕ) → n ≤ 10000 → Clear after → IsNext (variable_text n ++ after) (variable_tok n) after
variable_next n after small c =
    let all = digit_bytes (decimal n) (decimal_is_IsNumeral n (omega (arith, small))).0.1 in
    found_next (variable_tok n) after (variable_found (decimal n) after all c)

-- ---- marks and words

pub open_next : (after : List ℕ) → IsNext (40 ∷ after) (mark 40) after
unfolding token_at
open_next after = found_next (mark 40) after refl

pub close_next : (after : List ℕ) → IsNext (41 ∷ after) (mark 41) after
unfolding token_at
close_next after = found_next (mark 41) after refl

pub comma_next : (after : List ℕ) → IsNext (44 ∷ after) (mark 44) after
unfolding token_at
comma_next after = found_next (mark 44) after refl

pub stop_next : (after : List ℕ) → IsNext (46 ∷ after) (mark 46) after
unfolding token_at
stop_next after = found_next (mark 46) after refl

pub equal_next : (after : List ℕ) → IsNext (61 ∷ after) (mark 61) after
unfolding token_at
equal_next after = found_next (mark 61) after refl

pub or_next : (after : List ℕ) → IsNext (124 ∷ after) (mark 124) after
unfolding token_at
or_next after = found_next (mark 124) after refl

pub not_next : (after : List ℕ) → IsNext (126 ∷ after) (mark 126) after
unfolding token_at
not_next after = found_next (mark 126) after refl

pub unequal_next : (after : List ℕ) → IsNext (33 ∷ 61 ∷ after) unequal_mark after
unfolding token_at
unequal_next after = found_next unequal_mark after refl

pub cnf_next : (after : List ℕ) → IsNext (99 ∷ 110 ∷ 102 ∷ 40 ∷ after) (lower (99 ∷ 110 ∷ 102 ∷ [])) (40 ∷ after)
unfolding token_at
cnf_next after = found_next (lower (99 ∷ 110 ∷ 102 ∷ [])) (40 ∷ after) refl

pub a_next : (after : List ℕ) → IsNext (97 ∷ 44 ∷ after) (lower (97 ∷ [])) (44 ∷ after)
unfolding token_at
a_next after = found_next (lower (97 ∷ [])) (44 ∷ after) refl

pub axiom_next : (after : List ℕ) → IsNext (97 ∷ 120 ∷ 105 ∷ 111 ∷ 109 ∷ 44 ∷ after) (lower (97 ∷ 120 ∷ 105 ∷ 111 ∷ 109 ∷ [])) (44 ∷ after)
unfolding token_at
axiom_next after = found_next (lower (97 ∷ 120 ∷ 105 ∷ 111 ∷ 109 ∷ [])) (44 ∷ after) refl

pub false_next : (after : List ℕ) → IsNext (36 ∷ 102 ∷ 97 ∷ 108 ∷ 115 ∷ 101 ∷ 41 ∷ after) false_tok (41 ∷ after)
unfolding token_at dollar_at
false_next after = found_next false_tok (41 ∷ after) refl
