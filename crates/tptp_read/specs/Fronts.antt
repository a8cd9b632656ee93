-- What stands first in a text: the tokens of a statement, or why there is none.
use Rattle.std.specs.Prelude.{ℕ, ◌≤◌, List, [], ◌∷◌, length, drop, Bool, ◌&&◌, if◌then◌else◌, Option, Some, None}
use Rattle.tptp_read.specs.Stream.{Tok, IsDone}
use Rattle.tptp_read.specs.declared.front.Front.{Front}
use Rattle.tptp_read.specs.declared.front.Front.TheVariants.{Done, Language, Unfinished, Whole}
use Rattle.tptp_read.specs.Lexemes.{is_mark_token, is_lower_kind}
use Rattle.tptp_read.specs.Rules.{is_language, IsOtherLanguage, IsNoOtherLanguage, IsFront, HasNoFront}
use Rattle.tptp_read.specs.LexemeView.{toks}
use Rattle.inst_logic.specs.Codes as byte

abbrev pub FrontOf : List ℕ → Front → Type 0
FrontOf text Done = IsDone text
FrontOf text (Language w) = ¬ IsDone text × IsOtherLanguage text w.now
FrontOf text Unfinished = ¬ IsDone text × IsNoOtherLanguage text × HasNoFront text
FrontOf text (Whole ts end) = ¬ IsDone text × IsNoOtherLanguage text × IsFront text (toks ts.items) (drop end text) × (end ≤ length text)

abbrev pub are_other : Tok → Tok → Bool
are_other t u = is_mark_token byte.opening_parenthesis u && (is_lower_kind t.kind && is_language t.text)

-- the word, where the tokens are two and those of another language
abbrev pub other_word : List Tok → Option (List ℕ)
other_word (t ∷ u ∷ []) = if are_other t u then Some t.text else None
other_word _ = None
