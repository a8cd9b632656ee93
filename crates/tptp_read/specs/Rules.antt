-- The rules for one statement at the front of a text, in their order.
use Rattle.std.specs.Prelude.{◌≡◌, ℕ, ◌+◌, ◌-◌, ◌≤◌, ◌<◌, List, [], ◌∷◌, max, Bool, false, not, ◌||◌, ◌&&◌, if◌then◌else◌, IsTrue, Ok, Err, codes}
use Rattle.std.specs.List.{list_any}
use Rattle.std.specs.Str.{bytes_eq}
use Rattle.tptp_read.specs.Stream.{Tok, IsNext}
use Rattle.tptp_read.specs.declared.statement.Which.TheVariants.{Nesting}
use Rattle.tptp_read.specs.declared.statement.Statement.{Statement}
use Rattle.tptp_read.specs.Lexemes.{Begins, mark, lower, is_mark_token}
use Rattle.tptp_read.specs.Grammar.{Form, IsForm}
use Rattle.tptp_read.specs.Meaning.{Fault, syntax_fault, language, limit, judged}
use Rattle.inst_logic.specs.Codes as byte
use Rattle.tptp_read.specs.Limits.{most_nesting}

abbrev pub is_language : List ℕ → Bool
is_language w = list_any (bytes_eq w) (codes "fof" ∷ codes "tff" ∷ codes "tcf" ∷ codes "thf" ∷ codes "tpi" ∷ [])

-- the first two tokens are the name of another language and a parenthesis
pub record IsOtherLanguage (text w : List ℕ) : Type 0 where
  pub is_name : IsTrue (is_language w)
  pub behind : List ℕ
  pub rest : List ℕ
  pub word : IsNext text (lower w) behind
  pub parenthesis : IsNext behind (mark byte.opening_parenthesis) rest

abbrev pub IsNoOtherLanguage : List ℕ → Type 0
IsNoOtherLanguage text = (w : List ℕ) → ¬ IsOtherLanguage text w

-- a full stop is the last token and no other
abbrev pub stops_last : List Tok → Bool
stops_last [] = false
stops_last (t ∷ []) = is_mark_token byte.full_stop t
stops_last (t ∷ u ∷ ts) = not (is_mark_token byte.full_stop t) && stops_last (u ∷ ts)

-- the tokens up to and including the first full stop, and what follows
pub record IsFront (text : List ℕ) (ts : List Tok) (rest : List ℕ) : Type 0 where
  pub begins : Begins text ts rest
  pub stops : IsTrue (stops_last ts)

-- a place where no token begins, or the end, comes before the first full stop
abbrev pub HasNoFront : List ℕ → Type 0
HasNoFront text = (ts : List Tok) (rest : List ℕ) → ¬ IsFront text ts rest

abbrev pub opens : Tok → Bool
opens t = is_mark_token byte.opening_parenthesis t || is_mark_token byte.opening_bracket t

abbrev pub closes : Tok → Bool
closes t = is_mark_token byte.closing_parenthesis t || is_mark_token byte.closing_bracket t

-- the most brackets that are open at a token, where so many were opened and closed before: at a token, those opened up to it
-- less those closed before it
abbrev pub nesting_from : ℕ → ℕ → List Tok → ℕ
nesting_from opened closed [] = 0
nesting_from opened closed (t ∷ ts) =
    let now = if opens t then opened + 1 else opened in
    max (now - closed) (nesting_from now (if closes t then closed + 1 else closed) ts)

abbrev pub nesting : List Tok → ℕ
nesting ts = nesting_from 0 0 ts

-- the text begins with this readable statement
pub record IsRead (text : List ℕ) (s : Statement) (rest : List ℕ) : Type 0 where
  pub language : IsNoOtherLanguage text
  pub tokens : List Tok
  pub front : IsFront text tokens rest
  pub flat : nesting tokens < most_nesting + 1
  pub form : Form
  pub is_form : IsForm tokens form
  pub value : judged form ≡ Ok s

-- the first rule that applies has this fault
pub data IsOffence (text : List ℕ) (e : Fault) : Type 0 where
  other_language : (w : List ℕ) → IsOtherLanguage text w → e ≡ language w → IsOffence text e
  no_front : IsNoOtherLanguage text → HasNoFront text → e ≡ syntax_fault → IsOffence text e
  too_deep : IsNoOtherLanguage text → (ts : List Tok) (rest : List ℕ) → IsFront text ts rest → most_nesting + 1 ≤ nesting ts → e ≡ limit Nesting → IsOffence text e
  no_form : IsNoOtherLanguage text → (ts : List Tok) (rest : List ℕ) → IsFront text ts rest → nesting ts < most_nesting + 1 → ((f : Form) → ¬ IsForm ts f) → e ≡ syntax_fault → IsOffence text e
  refused : IsNoOtherLanguage text → (ts : List Tok) (rest : List ℕ) → IsFront text ts rest → nesting ts < most_nesting + 1 → (f : Form) → IsForm ts f → judged f ≡ Err e → IsOffence text e
