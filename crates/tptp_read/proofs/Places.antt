-- Tokens behind a place.
use Rattle.std.proofs.Common.{◌≡◌, ℕ, zero, suc, ◌+◌, ◌≤◌, ◌<◌, true, false, sym, ap, ◌∙◌, inl, inr, ◌⊎◌, List, [], ◌∷◌, length, drop, refl, arith, drop-cons, add-one, get_or, length-drop, eq-eqb}
use Rattle.std.proofs.Math.ListN.{drop_of_length-le}
use Rattle.std.specs.Prelude.{map, nat_eq}
use Rattle.std.proofs.lemmas.List.{length-map}
use Rattle.std.proofs.lemmas.Bool.{ne_eqb}
use Rattle.tptp_read.specs.declared.kind.TokenKind.TheVariants.{LowerWord}
use Rattle.tptp_read.specs.Stream.{Tok}
use Rattle.tptp_read.specs.declared.lexeme.Lexeme.{Lexeme}
use Rattle.tptp_read.specs.Parse.{begins_with, behind}
use Rattle.tptp_read.specs.ParseForm.{is_nothing, is_tail}
use Rattle.tptp_read.specs.LexemeView.{tok, toks}

behind_drop : (f : Lexeme → Tok) (i : ℕ) (ls : List Lexeme) → behind (map f (drop i ls)) ≡ map f (drop (i + 1) ls)
behind_drop f zero [] = refl
behind_drop f zero (l ∷ ls) = refl
behind_drop f (suc i) [] = let e : suc i + 1 ≡ suc (i + 1) = omega arith in rw e refl
behind_drop f (suc i) (l ∷ ls) = let e : suc i + 1 ≡ suc (i + 1) = omega arith in rw e (behind_drop f i ls)

pub behind_toks : (i : ℕ) (ls : List Lexeme) → behind (toks (drop i ls)) ≡ toks (drop (i + 1) ls)
behind_toks i ls = behind_drop tok i ls

pub toks_at : (ls : List Lexeme) (i : ℕ) (d : Lexeme) → i < length ls → toks (drop i ls) ≡ tok (get_or ls i d) ∷ toks (drop (i + 1) ls)
toks_at ls i d lt = rw (add-one, drop-cons ls i d) refl

pub toks_end : (ls : List Lexeme) (i : ℕ) → length ls ≤ i → toks (drop i ls) ≡ []
toks_end ls i le = rw (drop_of_length-le ls le) refl

-- a token, where a place has none
abbrev pub other : Lexeme
other = record { kind = LowerWord; text = record { ref_ptr = (0, 0); now = [] } }

pub toks_len : (ls : List Lexeme) (i : ℕ) → length (toks (drop i ls)) ≤ length ls
toks_len ls i = omega (arith, length-map (drop i ls) tok, length-drop i ls)

nothing_here : (ls : List Lexeme) (i : ℕ) → length ls ≤ i → is_nothing (toks (drop i ls)) ≡ true
nothing_here ls i le = ap is_nothing (toks_end ls i le)

something_here : (ls : List Lexeme) (i : ℕ) → i < length ls → is_nothing (toks (drop i ls)) ≡ false
something_here ls i lt = ap is_nothing (toks_at ls i other lt)

more_or_not : (n i : ℕ) → i ≤ n → (n ≡ i) ⊎ (i < n)
more_or_not zero zero le = inl refl
more_or_not zero (suc i) le = absurd (omega arith)
more_or_not (suc n) zero le = inr (omega arith)
more_or_not (suc n) (suc i) le = elim (more_or_not n i (omega arith)) [ inl e ↦ inl (ap suc e) | inr lt ↦ inr (omega arith) ]

nothing_at : (ls : List Lexeme) (i : ℕ) → i ≤ length ls → is_nothing (toks (drop i ls)) ≡ nat_eq (length ls) i
nothing_at ls i le = elim (more_or_not (length ls) i le) [
  | inl e ↦ nothing_here ls i (omega (arith, e)) ∙ sym (eq-eqb (length ls) i e)
  | inr lt ↦ something_here ls i lt ∙ sym (ne_eqb (length ls) i (λ e. omega (arith, e, lt)))
]

pub tail_at : (ls : List Lexeme) (i : ℕ) → begins_with 41 (toks (drop i ls)) ≡ true → begins_with 46 (toks (drop (i + 1) ls)) ≡ true → i + 1 < length ls → nat_eq (length ls) (i + 2) ≡ is_tail (toks (drop i ls))
tail_at ls i e f lt =
    let one = behind_toks i ls in
    let sum : i + 1 + 1 ≡ i + 2 = omega arith in
    let two = behind_toks (i + 1) ls ∙ ap (λ k. toks (drop k ls)) sum in
    let last = nothing_at ls (i + 2) (omega arith) in
    sym (rw (e, one, f, two) last)

pub no_tail_close : (ls : List Lexeme) (i : ℕ) → begins_with 41 (toks (drop i ls)) ≡ false → false ≡ is_tail (toks (drop i ls))
no_tail_close ls i e = rw e refl

pub no_tail_stop : (ls : List Lexeme) (i : ℕ) → begins_with 41 (toks (drop i ls)) ≡ true → begins_with 46 (toks (drop (i + 1) ls)) ≡ false → false ≡ is_tail (toks (drop i ls))
no_tail_stop ls i e f = let one = behind_toks i ls in rw (e, one, f) refl
