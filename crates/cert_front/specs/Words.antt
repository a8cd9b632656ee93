-- The lines that say what was found.
use Rattle.std.specs.Prelude.{ℕ, List, [], ◌∷◌, ◌++◌, codes, decimal}
use Rattle.std.specs.List.{concat}
use Rattle.cert_format.specs.declared.complaint.Complaint.{Complaint}
use Rattle.cert_format.specs.declared.complaint.Complaint.TheVariants as complaint
use Rattle.cert_front.specs.declared.judgement.Judgement.{Judgement}
use Rattle.cert_front.specs.declared.judgement.Judgement.TheVariants as judgement
use Rattle.cert_front.specs.declared.reply.Reply.{Reply}
use Rattle.cert_front.specs.declared.reply.Reply.TheVariants as reply
use Rattle.cert_front.specs.declared.words.Form.{Form}
use Rattle.cert_front.specs.declared.words.Form.TheVariants as form

abbrev pub form_word : Form → List ℕ
form_word form.Refutation = codes "CNFRefutation"
form_word form.Saturation = codes "Saturation"

-- the words of a complaint, with its numbers
abbrev pub complaint_words : Complaint → List (List ℕ)
complaint_words (complaint.Axiom n) = codes "axiom " ∷ decimal n ∷ []
complaint_words (complaint.Member n) = codes "member " ∷ decimal n ∷ []
complaint_words complaint.Bot = codes "constant" ∷ []
complaint_words (complaint.Ground n) = codes "ground " ∷ decimal n ∷ []
complaint_words (complaint.Step n) = codes "step " ∷ decimal n ∷ []
complaint_words complaint.NotEmpty = codes "no empty clause" ∷ []
complaint_words (complaint.Place n) = codes "place " ∷ decimal n ∷ []
complaint_words (complaint.Input k) = codes "input " ∷ decimal k ∷ []
complaint_words (complaint.Cover n) = codes "cover " ∷ decimal n ∷ []
complaint_words (complaint.Pair left right) = codes "pair " ∷ decimal left ∷ codes " " ∷ decimal right ∷ []

-- the words with a line feed behind them
abbrev pub line_of : List (List ℕ) → List ℕ
line_of words = concat (words ++ codes "\n" ∷ [])

-- `invalid: W`
abbrev pub invalid_line : List (List ℕ) → List ℕ
invalid_line words = line_of (codes "invalid: " ∷ words)

-- `valid FORM`, or `invalid: problem N`, or `invalid: W`
abbrev pub judgement_line : Form → Judgement → List ℕ
judgement_line f judgement.Valid = line_of (codes "valid " ∷ form_word f ∷ [])
judgement_line f (judgement.Problem n) = invalid_line (codes "problem " ∷ decimal n ∷ [])
judgement_line f (judgement.Invalid c) = invalid_line (complaint_words c)

-- `true`, `false`, or `invalid: W`
abbrev pub reply_line : Reply → List ℕ
reply_line reply.True = line_of (codes "true" ∷ [])
reply_line reply.False = line_of (codes "false" ∷ [])
reply_line (reply.Invalid c) = invalid_line (complaint_words c)
