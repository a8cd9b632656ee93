-- What the disjunction of a statement is, as far as its value goes.
use Rattle.std.specs.Prelude.{ℕ, ◌+◌, List, ◌++◌, length, Bool, nat_le, if◌then◌else◌, Option, Some, Result, Ok, Err}
use Rattle.std.specs.List.{list_any, flat_map}
use Rattle.std.specs.Option.{option_map_or}
use Rattle.std.specs.Str.{bytes_eq}
use Rattle.inst_logic.specs.Tree.{Tree}
use Rattle.inst_logic.specs.declared.signed.Signed.{Signed}
use Rattle.inst_logic.specs.Lists.{distinct}
use Rattle.tptp_read.specs.Stream.{Tok}
use Rattle.tptp_read.specs.declared.statement.Role.{Role}
use Rattle.tptp_read.specs.declared.statement.Which.TheVariants.{Arity, Variables}
use Rattle.tptp_read.specs.declared.statement.Statement.{Statement}
use Rattle.tptp_read.specs.declared.statement.Statement.TheVariants.{Cnf}
use Rattle.tptp_read.specs.declared.body.Body as code
use Rattle.tptp_read.specs.Grammar.{Item}
use Rattle.tptp_read.specs.Meaning.{Fault, feature, role_fault, limit, name_of, role_of, Wrote, from_item, from_items, literal_of, is_always, first_feature, used_tokens, variable_names, wrote_wide}
use Rattle.tptp_read.specs.Parse.{◌>>=◌, Reads, many_at}
use Rattle.tptp_read.specs.ParseClause.{items_of, item_at}
use Rattle.tptp_read.specs.Gathered.{gathered}
use Rattle.inst_logic.specs.Codes as byte
use Rattle.tptp_read.specs.Limits.{most_variables}

-- a first part, and the parts behind it
unfoldable pub disjunction_at : ℕ → Reads (Item × List Item)
disjunction_at d ts = do
  i ← item_at d d ts
  is ← many_at byte.bar (item_at d d) (length i.1) i.1
  Some ((i.0, is.0), is.1)

abbrev pub wrotes : Item × List Item → List Wrote
wrotes p = from_item p.0 ++ from_items (items_of p.1)

pub record Body : Type 0 where
  pub clause : List (Signed Tree)
  pub always : Bool
  pub feature : Option (List ℕ)
  pub wide : Bool
  pub crowded : Bool

abbrev pub body : code.Body → Body
body b = let g = gathered b.literals in record { clause = g.clause; always = g.always; feature = g.feature; wide = b.wide; crowded = b.crowded }

abbrev pub body_of : List Wrote → Body
body_of ws =
    let used = flat_map used_tokens ws in
    let vs = distinct bytes_eq (variable_names used) in
    record { clause = flat_map (literal_of vs) ws; always = list_any is_always ws; feature = first_feature used; wide = list_any wrote_wide ws; crowded = nat_le (most_variables + 1) (length vs) }

-- the statement with this body, or the first of its faults
abbrev pub judged_as : Tok → Role → Body → Result Statement Fault
judged_as name role b =
    option_map_or (λ w. Err (feature w))
    b.feature
    (if b.wide then Err (limit Arity)
    else (if b.crowded then Err (limit Variables)
    else Ok (Cnf (name_of name) role b.always b.clause)))

abbrev pub judged_body : Tok → Tok → Body → Result Statement Fault
judged_body name role b = option_map_or (λ r. judged_as name r b) (role_of role.text) (Err (role_fault role.text))
