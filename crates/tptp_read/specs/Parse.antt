-- Reading tokens from left to right.
use Rattle.std.specs.Prelude.{ℕ, zero, suc, List, [], ◌∷◌, length, Bool, false, ◌&&◌, if◌then◌else◌, Option, Some, None}
use Rattle.tptp_read.specs.Stream.{Tok}
use Rattle.tptp_read.specs.Lexemes.{is_mark_token, is_head, is_plain}
use Rattle.tptp_read.specs.Grammar.{Written, single, applied, Writtens, none, more}
use Rattle.inst_logic.specs.Codes as byte

infixl 10 ◌>>=◌
abbrev pub ◌>>=◌ : {A B : Type 0} → Option A → (A → Option B) → Option B
(Some x) >>= f = f x
None >>= f = None

-- a way to read: the value, and the tokens after it
abbrev pub Reads : Type 0 → Type 0
Reads A = List Tok → Option (A × List Tok)

abbrev pub begins_with : ℕ → List Tok → Bool
begins_with b [] = false
begins_with b (t ∷ ts) = is_mark_token b t

abbrev pub behind : List Tok → List Tok
behind [] = []
behind (t ∷ ts) = ts

-- nothing, or the mark and one more, as often as it stands there
unfoldable pub many_at : {A : Type 0} → ℕ → Reads A → ℕ → Reads (List A)
many_at b p zero ts = Some ([], ts)
many_at b p (suc n) ts =
    if begins_with b ts then (do
      x ← p (behind ts)
      xs ← many_at b p n x.1
      Some (x.0 ∷ xs.0, xs.1))
    else Some ([], ts)

abbrev pub writtens : List Written → Writtens
writtens [] = none
writtens (t ∷ ts) = more t (writtens ts)

-- what stands behind a word and its parenthesis
unfoldable pub applied_at : Reads Written → Tok → Reads Written
applied_at p f ts = do
  t ← p ts
  us ← many_at byte.comma p (length t.1) t.1
  if begins_with byte.closing_parenthesis us.1 then Some (applied f t.0 (writtens us.0), behind us.1) else None

-- a term, with a way to read its arguments
unfoldable pub term_with : Reads Written → Reads Written
term_with p [] = None
term_with p (t ∷ ts) = if is_head t.kind && begins_with byte.opening_parenthesis ts then applied_at p t (behind ts) else (if is_plain t.kind then Some (single t, ts) else None)

-- a term in which at most so many parentheses are open at once
unfoldable pub term_at : ℕ → Reads Written
term_at zero = term_with (λ ts. None)
term_at (suc depth) = term_with (term_at depth)
