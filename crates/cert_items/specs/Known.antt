-- What is remembered of the names that were read.
use Rattle.std.specs.Prelude.{◌≡◌, ℕ, List, length, All, IsTrue, Option, nat_eq}
use Rattle.std.specs.Global.{Vec}
use Rattle.std.specs.Map.{lookup}
use Rattle.std.specs.Cmp.Lexicographic.{pointwise}
use Rattle.inst_logic.specs.Tree.{Tree, app, of_list}
use Rattle.inst_logic.specs.Printing.{name_text, is_readable_name}
use Rattle.term_bank.specs.Forest.{Forest, IsAt}
use Rattle.cert_items.specs.declared.text_bank.NamedSymbol.{NamedSymbol}

-- the id is that of an application of the symbol whose name is printed so
pub record IsKnown (f : Forest) (text : List ℕ) (k : NamedSymbol) : Type 0 where
  pub name : List ℕ
  pub spelled : text ≡ name_text name
  pub readable : IsTrue (is_readable_name name)
  pub args : List Tree
  pub count : length args ≡ k.arity
  pub at : IsAt f k.id (app (record { kind = k.kind; name = name; arity = k.arity }) (of_list args))

abbrev pub AreKnown : Forest → List (Vec ℕ × NamedSymbol) → Type 0
AreKnown f es = All (λ e. IsKnown f e.0.items e.1) es

-- what is remembered of the name that is printed so
abbrev pub remembered : List ℕ → List (Vec ℕ × NamedSymbol) → Option NamedSymbol
remembered text es = lookup (λ v. pointwise nat_eq text v.items) es
