-- Names that can be printed and read again.
use Rattle.std.specs.Prelude.{IsTrue}
use Rattle.inst_logic.specs.Printing.{is_readable_name}
use Rattle.inst_logic.specs.Readable.{clause_is_readable}
pub use Rattle.inst_logic.specs.Readable.{kind_is_readable, tree_is_readable, trees_are_readable, clause_is_readable}
use Rattle.tptp_read.specs.declared.statement.Statement.{Statement}
use Rattle.tptp_read.specs.declared.statement.Statement.TheVariants.{Cnf, Include}

-- the statement's name and its symbols' names are readable
abbrev pub HasReadableNames : Statement → Type 0
HasReadableNames (Cnf name role always clause) = IsTrue (is_readable_name name) × IsTrue (clause_is_readable clause)
HasReadableNames (Include file selection) = IsTrue (is_readable_name file)
