-- What a bank remembers stays true as it grows.
use Rattle.std.proofs.Common.{ℕ, List}
use Rattle.inst_logic.specs.Tree.{var}
use Rattle.std.specs.Global.{Vec}
use Rattle.term_bank.specs.Forest.{Forest, Extends}
use Rattle.term_bank.proofs.Growth.{at_extends}
use Rattle.clause_form.specs.Conclusions.{AreVariables}
use Rattle.cert_items.specs.Known.{AreKnown}
use Rattle.cert_items.specs.Remembered.{IsRemembered}
use Rattle.cert_items.specs.declared.recent.Spelled.{Spelled}
use Rattle.cert_items.specs.declared.text_bank.NamedSymbol.{NamedSymbol}
use Rattle.cert_items.proofs.Known.{all_known_later}
use Rattle.cert_items.proofs.Spelled.{all_later}

pub variables_later : (f g : Forest) (n : ℕ) (ids : List ℕ) → Extends f g → AreVariables f n ids → AreVariables g n ids
variables_later f g n ids e h = record { count_of = h.count_of; each = λ v d within. at_extends f g _ (var v) e (h.each v d within) }

-- with what is remembered of the names now
pub names_later : (f g : Forest) (ms ns : List (Vec ℕ × NamedSymbol)) (vs : List ℕ) (ss : List Spelled) → Extends f g → AreKnown g ns → IsRemembered f ms vs ss → IsRemembered g ns vs ss
names_later f g ms ns vs ss e known h = record { names_are = known; variables_are = variables_later f g _ vs e h.variables_are; literals_are = all_later f g e ss h.literals_are }

pub remembered_later : (f g : Forest) (ns : List (Vec ℕ × NamedSymbol)) (vs : List ℕ) (ss : List Spelled) → Extends f g → IsRemembered f ns vs ss → IsRemembered g ns vs ss
remembered_later f g ns vs ss e h = names_later f g ns ns vs ss e (all_known_later f g ns e h.names_are) h
