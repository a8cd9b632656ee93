-- What reading a statement gives.
use Rattle.std.specs.Prelude.{◌≡◌, ℕ, ◌≤◌, List, length, drop, Option, Some, None, Result, Ok, Err}
use Rattle.std.specs.Option.{option_map_or}
use Rattle.tptp_read.specs.Stream.{Tok, IsDone}
use Rattle.tptp_read.specs.declared.refusal.Refusal.{Refusal}
use Rattle.tptp_read.specs.declared.refusal.Refusal.TheVariants as refusals
use Rattle.tptp_read.specs.declared.stop.Stop.{Stop}
use Rattle.tptp_read.specs.declared.stop.Stop.TheVariants as stops
use Rattle.tptp_read.specs.declared.statement.Statement.{Statement}
use Rattle.tptp_read.specs.declared.text.ReadError.{ReadError}
use Rattle.tptp_read.specs.declared.text.ReadError.TheVariants as errors
use Rattle.tptp_read.specs.Grammar.{Form}
use Rattle.tptp_read.specs.Meaning.{Fault, syntax_fault, language, feature, role_fault, limit, judged}
use Rattle.tptp_read.specs.ParseForm.{form_at}
use Rattle.tptp_read.specs.Rules.{IsRead, IsOffence}

-- the statement of a form, or its fault; nothing is none of the grammar
abbrev pub judged_form : Option Form → Result Statement Fault
judged_form f = option_map_or judged f (Err syntax_fault)

unfoldable pub verdict : List Tok → Result Statement Fault
verdict ts = judged_form (form_at ts)

abbrev pub refusal_of : Stop → Refusal
refusal_of stops.Memory = refusals.Memory
refusal_of stops.Wrong = refusals.Syntax

-- the refusal is of this fault, or memory ran out
abbrev pub IsOf : (Fault → Type 0) → Refusal → Type 0
IsOf P refusals.Memory = Unit {0}
IsOf P refusals.Syntax = P syntax_fault
IsOf P (refusals.Language w) = P (language w.now)
IsOf P (refusals.Feature w) = P (feature w.now)
IsOf P (refusals.Role w) = P (role_fault w.now)
IsOf P (refusals.Limit which) = P (limit which)

-- what a function returned is the statement, or a refusal of its fault
abbrev pub Tells : Result Statement Refusal → Result Statement Fault → Type 0
Tells (Ok s) v = v ≡ Ok s
Tells (Err r) v = IsOf (λ e. v ≡ Err e) r

-- what stands first in a text: a readable statement, an end, or an offence
abbrev pub StepOf : List ℕ → Result (Option (Statement × ℕ)) Refusal → Type 0
StepOf text (Ok None) = IsDone text
StepOf text (Ok (Some z)) = IsRead text z.0 (drop z.1 text) × (z.1 ≤ length text)
StepOf text (Err r) = IsOf (λ e. ¬ IsDone text × IsOffence text e) r

-- the refusal is no want of memory, and of this fault
abbrev pub IsFault : Fault → Refusal → Type 0
IsFault e refusals.Memory = ⊥
IsFault e refusals.Syntax = e ≡ syntax_fault
IsFault e (refusals.Language w) = e ≡ language w.now
IsFault e (refusals.Feature w) = e ≡ feature w.now
IsFault e (refusals.Role w) = e ≡ role_fault w.now
IsFault e (refusals.Limit which) = e ≡ limit which

-- the error says this refusal of the statement with this number
abbrev pub IsSaid : Refusal → ℕ → ReadError → Type 0
IsSaid r n (errors.Syntax k) = (k ≡ n) × IsFault syntax_fault r
IsSaid r n (errors.Language k w) = (k ≡ n) × IsFault (language w) r
IsSaid r n (errors.Feature k w) = (k ≡ n) × IsFault (feature w) r
IsSaid r n (errors.Role k w) = (k ≡ n) × IsFault (role_fault w) r
IsSaid r n (errors.Limit k which) = (k ≡ n) × IsFault (limit which) r
IsSaid r n errors.Memory = Unit {0}
