-- The limits of statements: what reads statements and what says which of them are written again cite these.
use Rattle.std.specs.Prelude.{ℕ}

-- so many of `(` and `[` may be open at once, that of `cnf(` counted
abbrev pub most_nesting : ℕ
most_nesting = 256

-- so many arguments may a symbol have
abbrev pub most_arguments : ℕ
most_arguments = 1024

-- so many variables may a clause have
abbrev pub most_variables : ℕ
most_variables = 10000
