-- The statuses that are told, the reasons behind them, and the statuses that the program ends with.
use Rattle.std.specs.Prelude.{ℕ, List, [], ◌∷◌, codes, decimal}
use Rattle.std.specs.List.{concat}
use Rattle.outside_io.specs.Notices.{notice_text}
use Rattle.outside_io.specs.declared.notices.Status.{Status}
use Rattle.outside_io.specs.declared.notices.Status.TheVariants as status
use Rattle.tptp_read.specs.declared.statement.Which.{Which}
use Rattle.tptp_read.specs.declared.statement.Which.TheVariants.{Nesting, Arity, Variables}
use Rattle.tptp_read.specs.declared.text.ReadError.{ReadError}
use Rattle.tptp_read.specs.declared.text.ReadError.TheVariants as text
use Rattle.tptp_load.specs.declared.error.LoadError.{LoadError}
use Rattle.tptp_load.specs.declared.error.LoadError.TheVariants as load
use Rattle.szs_prove.specs.declared.exit.Exit.{Exit}
use Rattle.szs_prove.specs.declared.exit.Exit.TheVariants as exit
use Rattle.szs_prove.specs.declared.refusal.Reason.{Reason}
use Rattle.szs_prove.specs.declared.refusal.Reason.TheVariants as reason
use Rattle.szs_prove.specs.declared.refusal.Refusal.{Refusal}
use Rattle.szs_prove.specs.declared.refusal.Refusal.TheVariants as why

abbrev pub code_of : Exit → ℕ
code_of exit.Decided = 0
code_of exit.ResourceOut = 1
code_of exit.Refused = 2
code_of exit.Usage = 3
code_of exit.ReadFault = 4
code_of exit.WriteFault = 5
code_of exit.Memory = 6
code_of exit.Sat = 10
code_of exit.Unsat = 20
code_of exit.CheckFailed = 7

-- how the program ends where this status is told, whatever the command
abbrev pub exit_of : Status → Exit
exit_of status.SyntaxError = exit.Refused
exit_of status.Inappropriate = exit.Refused
exit_of status.InputError = exit.Refused
exit_of status.OsError = exit.ReadFault
exit_of status.UsageError = exit.Usage
exit_of status.ResourceOut = exit.ResourceOut
exit_of status.MemoryOut = exit.Memory

-- that memory is wanted
abbrev pub want_text : List ℕ → List ℕ
want_text name = notice_text status.MemoryOut name []

-- ---- why a file gives no problem

abbrev pub text_status : ReadError → Status
text_status (text.Syntax k) = status.SyntaxError
text_status (text.Language k w) = status.Inappropriate
text_status (text.Feature k w) = status.Inappropriate
text_status (text.Role k w) = status.Inappropriate
text_status (text.Limit k which) = status.InputError
text_status text.Memory = status.MemoryOut

abbrev pub load_status : LoadError → Status
load_status (load.Text file fault) = text_status fault
load_status (load.Absent wanted) = status.InputError
load_status (load.NotSelected file wanted) = status.InputError
load_status (load.IncludeDepth file) = status.InputError
load_status load.TooLong = status.InputError
load_status load.ReadFault = status.OsError
load_status load.Memory = status.MemoryOut

abbrev pub which_word : Which → List ℕ
which_word Nesting = codes "nesting"
which_word Arity = codes "arity"
which_word Variables = codes "variables"

-- a lead and a word, and where the statement stands that they speak of
abbrev pub statement_line : List ℕ → List ℕ → ℕ → List ℕ → List ℕ
statement_line lead word k file = concat (lead ∷ word ∷ codes ": statement " ∷ decimal k ∷ codes " of " ∷ file ∷ codes "\n" ∷ [])

abbrev pub text_reason : List ℕ → ReadError → List ℕ
text_reason file (text.Syntax k) = statement_line (codes "% syntax") [] k file
text_reason file (text.Language k w) = statement_line (codes "% language ") w k file
text_reason file (text.Feature k w) = statement_line (codes "% feature ") w k file
text_reason file (text.Role k w) = statement_line (codes "% role ") w k file
text_reason file (text.Limit k which) = statement_line (codes "% limit ") (which_word which) k file
text_reason file text.Memory = []

-- the second line, where there is one
abbrev pub load_reason : LoadError → List ℕ
load_reason (load.Text file fault) = text_reason file fault
load_reason (load.Absent wanted) = concat (codes "% absent: " ∷ wanted ∷ codes "\n" ∷ [])
load_reason (load.NotSelected file wanted) = concat (codes "% not selected: " ∷ wanted ∷ codes " in " ∷ file ∷ codes "\n" ∷ [])
load_reason (load.IncludeDepth file) = concat (codes "% limit include depth: " ∷ file ∷ codes "\n" ∷ [])
load_reason load.TooLong = codes "% limit bytes\n"
load_reason load.ReadFault = codes "% read fault\n"
load_reason load.Memory = []

-- ---- why a problem has no answer

abbrev pub reason_status : Reason → Status
reason_status (reason.OutOfBudget budget left wanted) = status.ResourceOut
reason_status reason.TooWide = status.InputError
reason_status (reason.Functions clause) = status.Inappropriate

-- the budget, what a run left of it, and the size of the least conclusion that did not fit
abbrev pub budget_line : ℕ → ℕ → ℕ → List ℕ
budget_line budget left wanted = concat (codes "% budget " ∷ decimal budget ∷ codes ", left " ∷ decimal left ∷ codes ", least conclusion " ∷ decimal wanted ∷ codes "\n" ∷ [])

-- the number of the first clause that has functions
abbrev pub functions_line : ℕ → List ℕ
functions_line clause = concat (codes "% functions: clause " ∷ decimal clause ∷ codes "\n" ∷ [])

abbrev pub reason_line : Reason → List ℕ
reason_line (reason.OutOfBudget budget left wanted) = budget_line budget left wanted
reason_line reason.TooWide = codes "% limit tables\n"
reason_line (reason.Functions clause) = functions_line clause

-- ---- why there is no answer for the problem of a file

abbrev pub status_of : Refusal → Status
status_of (why.Load e) = load_status e
status_of (why.Unanswered given) = reason_status given
status_of why.Memory = status.MemoryOut

abbrev pub reason_of : Refusal → List ℕ
reason_of (why.Load e) = load_reason e
reason_of (why.Unanswered given) = reason_line given
reason_of why.Memory = []

abbrev pub refusal_text : List ℕ → Refusal → List ℕ
refusal_text name refusal = notice_text (status_of refusal) name (reason_of refusal)
