-- The literals of what is read are well formed.
use Rattle.std.proofs.Common.{◌≡◌, ℕ, ◌+◌, Bool, true, false, cond, List, [], ◌∷◌, refl, ap, ◌∙◌}
use Rattle.std.specs.Prelude.{◌&&◌, nat_eq}
use Rattle.std.specs.List.{flat_map, position_or_len}
use Rattle.std.specs.Str.{bytes_eq}
use Rattle.std.proofs.lemmas.Bool.{eq-eqb}
use Rattle.std.proofs.lemmas.List.Folds.{list_all-append}
use Rattle.inst_logic.specs.declared.symbol.Kind.TheVariants.{Function}
use Rattle.inst_logic.specs.Tree.{Tree, var, app}
use Rattle.inst_logic.specs.Tree as tree
use Rattle.inst_logic.specs.declared.signed.Signed.{Signed}
use Rattle.inst_logic.specs.WellFormed.{count_of, tree_is_formed, trees_are_formed, atom_is_formed, clause_is_formed}
use Rattle.tptp_read.specs.Lexemes.{is_variable_kind}
use Rattle.tptp_read.specs.Grammar.{Written, single, applied, Writtens, none, more}
use Rattle.tptp_read.specs.Meaning.{Wrote, predicate, equal, count, tree_of, trees_of, predicate_of, literal_of, is_constant_atom, name_of}
use Rattle.tptp_read.proofs.ParseLaws.{and_both}

count_trees : (vs : List (List ℕ)) (ts : Writtens) → count_of (trees_of vs ts) ≡ count ts
count_trees vs none = refl
count_trees vs (more t ts) = ap (λ n. n + 1) (count_trees vs ts)

leaf_formed : (b : Bool) (n : ℕ) (name : List ℕ) → tree_is_formed (cond b (var n) (app (record { kind = Function; name = name; arity = 0 }) tree.none)) ≡ true
leaf_formed true n name = refl
leaf_formed false n name = refl

-- the count and the arguments of a symbol with arguments
arguments_formed : (vs : List (List ℕ)) (t : Written) (ts : Writtens) → tree_is_formed (tree_of vs t) ≡ true → trees_are_formed (trees_of vs ts) ≡ true → (nat_eq (count_of (trees_of vs ts) + 1) (count ts + 1) && (tree_is_formed (tree_of vs t) && trees_are_formed (trees_of vs ts))) ≡ true
arguments_formed vs t ts h k =
    and_both (nat_eq (count_of (trees_of vs ts) + 1) (count ts + 1)) (tree_is_formed (tree_of vs t) && trees_are_formed (trees_of vs ts)) (eq-eqb (count_of (trees_of vs ts) + 1) (count ts + 1) (ap (λ n. n + 1) (count_trees vs ts)))
    (and_both (tree_is_formed (tree_of vs t)) (trees_are_formed (trees_of vs ts)) h k)

mutual
  tree_formed : (vs : List (List ℕ)) (w : Written) → tree_is_formed (tree_of vs w) ≡ true
  tree_formed vs (single t) = leaf_formed (is_variable_kind t.kind) (position_or_len (λ v. bytes_eq v t.text) vs) (name_of t)
  tree_formed vs (applied f t ts) = arguments_formed vs t ts (tree_formed vs t) (trees_formed vs ts)

  trees_formed : (vs : List (List ℕ)) (ts : Writtens) → trees_are_formed (trees_of vs ts) ≡ true
  trees_formed vs none = refl
  trees_formed vs (more t ts) = and_both (tree_is_formed (tree_of vs t)) (trees_are_formed (trees_of vs ts)) (tree_formed vs t) (trees_formed vs ts)

predicate_formed : (vs : List (List ℕ)) (w : Written) → atom_is_formed (predicate_of vs w) ≡ true
predicate_formed vs (single t) = refl
predicate_formed vs (applied f t ts) = arguments_formed vs t ts (tree_formed vs t) (trees_formed vs ts)

one_formed : (b : Bool) (l : Signed Tree) → atom_is_formed l.atom ≡ true → clause_is_formed (cond b [] (l ∷ [])) ≡ true
one_formed true l h = refl
one_formed false l h = and_both (atom_is_formed l.atom) true h refl

pub literal_formed : (vs : List (List ℕ)) (w : Wrote) → clause_is_formed (literal_of vs w) ≡ true
literal_formed vs (predicate sign t) = one_formed (is_constant_atom t) (record { positive = sign; atom = predicate_of vs t }) (predicate_formed vs t)
literal_formed vs (equal sign t u) =
    let right = and_both (tree_is_formed (tree_of vs u)) true (tree_formed vs u) refl in
    let sides = and_both (tree_is_formed (tree_of vs t)) (tree_is_formed (tree_of vs u) && true) (tree_formed vs t) right in
    and_both (tree_is_formed (tree_of vs t) && (tree_is_formed (tree_of vs u) && true)) true sides refl

pub literals_formed : (vs : List (List ℕ)) (ws : List Wrote) → clause_is_formed (flat_map (literal_of vs) ws) ≡ true
literals_formed vs [] = refl
literals_formed vs (w ∷ ws) =
    list_all-append (λ (l : Signed Tree). atom_is_formed l.atom) (literal_of vs w) (flat_map (literal_of vs) ws)
    ∙ and_both (clause_is_formed (literal_of vs w)) (clause_is_formed (flat_map (literal_of vs) ws)) (literal_formed vs w) (literals_formed vs ws)
