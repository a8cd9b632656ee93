-- Predicates of elements are well-formed atoms without variables.
use Rattle.std.proofs.Common.{◌≡◌, ℕ, ◌+◌, List, [], ◌∷◌, ◌++◌, refl, sym, ap, ◌∙◌, subst as transport, map, length, length-append, true, not, nat_eq, arith}
use Rattle.std.proofs.lemmas.Bool.Decides.{Decides-eqb}
use Rattle.std.proofs.lemmas.List.{map-append}
use Rattle.inst_logic.specs.declared.symbol.Sym.{Sym}
use Rattle.inst_logic.specs.declared.symbol.Kind.{Kind}
use Rattle.inst_logic.specs.Tree.{of_list}
use Rattle.inst_logic.specs.Substitution.{tree_vars, trees_vars}
use Rattle.inst_logic.specs.WellFormed.{IsAtom, count_of, fits_kind, is_function_kind, symbol_is_formed, trees_are_formed}
use Rattle.inst_logic.proofs.SameLemmas.{and_both}
use Rattle.finite_model.specs.Flattening.{applied, element}
use Rattle.finite_model.specs.Reading.{IsRelation}

elements_formed : (es : List ℕ) → trees_are_formed (of_list (map element es)) ≡ true
elements_formed [] = refl
elements_formed (e ∷ es) = elements_formed es

elements_variable_free : (es : List ℕ) → trees_vars (of_list (map element es)) ≡ []
elements_variable_free [] = refl
elements_variable_free (e ∷ es) = elements_variable_free es

count_of_elements : (es : List ℕ) → count_of (of_list (map element es)) ≡ length es
count_of_elements [] = refl
count_of_elements (e ∷ es) = omega (arith, count_of_elements es)

module _ (s : Sym) (es : List ℕ) where
  pub relation_formed : IsRelation s (length es) → IsAtom (applied s (map element es))
  relation_formed h =
      and_both (not (is_function_kind s.kind)) _ (ap (λ (j : Kind). not (is_function_kind j)) h.kind)
      (and_both (symbol_is_formed s) _ (ap (λ (j : Kind). fits_kind j s.name s.arity) h.kind)
      (and_both (nat_eq (count_of (of_list (map element es))) s.arity) _ ((Decides-eqb (count_of (of_list (map element es))) s.arity).1 (count_of_elements es ∙ sym h.arity)) (elements_formed es)))

  pub relation_variable_free : tree_vars (applied s (map element es)) ≡ []
  relation_variable_free = elements_variable_free es

module _ (s : Sym) (es : List ℕ) (e : ℕ) where
  with_value : map element (es ++ e ∷ []) ≡ map element es ++ element e ∷ []
  with_value = map-append element es (e ∷ [])

  pub value_formed : IsRelation s (length es + 1) → IsAtom (applied s (map element es ++ element e ∷ []))
  value_formed h =
      let more : length (es ++ e ∷ []) ≡ length es + 1 = length-append es (e ∷ []) in
      transport (λ ts. IsAtom (applied s ts)) with_value (relation_formed s (es ++ e ∷ []) (record { kind = h.kind; arity = h.arity ∙ sym more }))

  pub value_variable_free : tree_vars (applied s (map element es ++ element e ∷ [])) ≡ []
  value_variable_free = transport (λ ts. tree_vars (applied s ts) ≡ []) with_value (relation_variable_free s (es ++ e ∷ []))
