-- What a bank remembers of the text that was read into it.
use Rattle.std.specs.Prelude.{ℕ, List, length}
use Rattle.std.specs.Global.{Vec}
use Rattle.term_bank.specs.Forest.{Forest}
use Rattle.clause_form.specs.Conclusions.{AreVariables}
use Rattle.cert_items.specs.Known.{AreKnown}
use Rattle.cert_items.specs.Spelled.{AreSpelled}
use Rattle.cert_items.specs.declared.recent.Spelled.{Spelled}
use Rattle.cert_items.specs.declared.text_bank.NamedSymbol.{NamedSymbol}

pub record IsRemembered (f : Forest) (names : List (Vec ℕ × NamedSymbol)) (variables : List ℕ) (literals : List Spelled) : Type 0 where
  pub names_are : AreKnown f names
  pub variables_are : AreVariables f (length variables) variables
  pub literals_are : AreSpelled f literals
