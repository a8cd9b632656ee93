-- What can be printed is well formed.
use Rattle.std.proofs.Common.{◌≡◌, ℕ, true, List, ◌∷◌, [], ◌++◌, length, map, refl, sym, ◌∙◌, subst}
use Rattle.std.specs.Prelude.{◌&&◌, nat_eq}
use Rattle.std.proofs.lemmas.List.{length-map}
use Rattle.inst_logic.specs.declared.symbol.Kind.TheVariants.{Predicate, Equality, Function}
use Rattle.inst_logic.specs.Tree.{Tree, var, app, Trees, none, more, of_list}
use Rattle.inst_logic.specs.WellFormed.{count_of, is_function_kind, tree_is_formed, trees_are_formed, atom_is_formed}
use Rattle.inst_logic.specs.Printing.{is_readable_name}
use Rattle.term_bank.specs.Forest.{Forest, tree_at, IsFormed}
use Rattle.cert_format.specs.Spelling.{is_printable, are_printable}
use Rattle.cert_items.specs.Reading.{ArePrintable, parts_done}
use Rattle.cert_items.specs.declared.terms.Open.{Open}
use Rattle.std.proofs.lemmas.Bool.{and_parts, and_from}
use Rattle.cert_items.proofs.Reading.{count_list, printable_list, IsClosing, printable_front}
use Rattle.inst_logic.proofs.Booleans.{or_left, or_right}
use Rattle.inst_logic.proofs.Numbers.{equal_numbers}

mutual
  pub tree_formed : (t : Tree) → is_printable t ≡ true → tree_is_formed t ≡ true
  tree_formed (var n) h = refl
  tree_formed (app s ts) h =
      let a = and_parts (is_function_kind s.kind) _ h in
      let b = and_parts (is_readable_name s.name) _ a.1 in
      let c = and_parts (nat_eq (count_of ts) s.arity) (are_printable ts) b.1 in
      and_from (is_function_kind s.kind) _ a.0 (and_from (nat_eq (count_of ts) s.arity) (trees_are_formed ts) c.0 (trees_formed ts c.1))

  trees_formed : (ts : Trees) → are_printable ts ≡ true → trees_are_formed ts ≡ true
  trees_formed none h = refl
  trees_formed (more t ts) h = let a = and_parts (is_printable t) (are_printable ts) h in and_from (tree_is_formed t) (trees_are_formed ts) (tree_formed t a.0) (trees_formed ts a.1)

pub applied_formed : (f : Forest) (ids : List ℕ) (n : List ℕ) → ArePrintable (map (tree_at f) ids) → IsFormed (app (record { kind = Function; name = n; arity = length ids }) (of_list (map (tree_at f) ids)))
applied_formed f ids n h =
    let ts = map (tree_at f) ids in
    or_left (nat_eq (count_of (of_list ts)) (length ids) && trees_are_formed (of_list ts)) _
    (and_from (nat_eq (count_of (of_list ts)) (length ids)) (trees_are_formed (of_list ts)) (equal_numbers (count_of (of_list ts)) (length ids) (count_list ts ∙ length-map ids (tree_at f))) (trees_formed (of_list ts) (printable_list ts ∙ h)))

pub closing_formed : (f : Forest) (bytes : List ℕ) (os : List Open) (o : Open) (ids args : List ℕ) (rest : List ℕ) (k : IsClosing f bytes os o ids rest) → map (tree_at f) args ≡ k.done ++ k.last ∷ [] → (n : List ℕ) → IsFormed (app (record { kind = Function; name = n; arity = length args }) (of_list (map (tree_at f) args)))
closing_formed f bytes os o ids args rest k e n = applied_formed f args n (subst ArePrintable (sym e) (printable_front (parts_done k.outer ++ k.front) (k.done ++ k.last ∷ []) k.printable).1)

pub predicate_formed : (f : Forest) (ids : List ℕ) (n : List ℕ) → ArePrintable (map (tree_at f) ids) → IsFormed (app (record { kind = Predicate; name = n; arity = length ids }) (of_list (map (tree_at f) ids)))
predicate_formed f ids n h =
    let ts = map (tree_at f) ids in
    let t = app (record { kind = Predicate; name = n; arity = length ids }) (of_list ts) in
    or_right (tree_is_formed t) (atom_is_formed t)
    (and_from (nat_eq (count_of (of_list ts)) (length ids)) (trees_are_formed (of_list ts)) (equal_numbers (count_of (of_list ts)) (length ids) (count_list ts ∙ length-map ids (tree_at f))) (trees_formed (of_list ts) (printable_list ts ∙ h)))

pub equation_formed : (f : Forest) (left right : ℕ) → is_printable (tree_at f left) ≡ true → is_printable (tree_at f right) ≡ true → IsFormed (app (record { kind = Equality; name = 61 ∷ []; arity = 2 }) (of_list (map (tree_at f) (left ∷ right ∷ []))))
equation_formed f left right a b =
    let t = app (record { kind = Equality; name = 61 ∷ []; arity = 2 }) (of_list (map (tree_at f) (left ∷ right ∷ []))) in
    or_right (tree_is_formed t) (atom_is_formed t)
    (and_from (tree_is_formed (tree_at f left)) (trees_are_formed (of_list (tree_at f right ∷ []))) (tree_formed (tree_at f left) a) (and_from (tree_is_formed (tree_at f right)) true (tree_formed (tree_at f right) b) refl))
