-- What a hint cites.
use Rattle.std.proofs.Common.{◌≡◌, ℕ, suc, zero, ◌-◌, ◌<◌, ◌≤◌, ◌⊎◌, inl, inr, List, length, map, get_or, Some, refl, sym, ap, ◌∙◌, arith, [], ◌∷◌}
use Rattle.std.proofs.lemmas.List.{length-map}
use Rattle.std.proofs.lemmas.Option.{none-some}
use Rattle.inst_logic.specs.declared.signed.Signed.{Signed}
use Rattle.prop_logic.specs.declared.literal.Hint.{Hint}
use Rattle.prop_logic.specs.declared.literal.Hint.TheVariants.{Added, Step as Earlier}
use Rattle.prop_logic.specs.declared.literal.Step.{Step}
use Rattle.prop_logic.specs.Literal.{cited}
use Rattle.inst_logic.proofs.Items.{at_number_in, at_number_past}

get_clause : (steps : List Step) (i : ℕ) (d : Step) → get_or (map (λ s. s.clause) steps) i d.clause ≡ (get_or steps i d).clause
get_clause [] i d = refl
get_clause (s ∷ steps) zero d = refl
get_clause (s ∷ steps) (suc i) d = get_clause steps i d

pub cited_step : (clauses : List (List (Signed ℕ))) (steps : List Step) (h : Hint) (n : ℕ) (s : Step) → h ≡ Earlier n → 0 < n → n ≤ length steps → s ≡ get_or steps (n - 1) s → cited clauses steps h ≡ Some s.clause
cited_step clauses steps h n s is low high at =
    ap (cited clauses steps) is
    ∙ at_number_in (map (λ x. x.clause) steps) n s.clause low (omega (arith, length-map steps (λ x. x.clause)))
    ∙ ap Some (get_clause steps (n - 1) s ∙ ap (λ x. x.clause) (sym at))

pub cited_no_step : (clauses : List (List (Signed ℕ))) (steps : List Step) (h : Hint) (n : ℕ) (c : List (Signed ℕ)) → h ≡ Earlier n → (n ≤ 0) ⊎ (length steps < n) → cited clauses steps h ≡ Some c → ⊥
cited_no_step clauses steps h n c is (inl low) e = none-some c (sym (at_number_past (map (λ x. x.clause) steps) n (inl low)) ∙ ap (cited clauses steps) (sym is) ∙ e)
cited_no_step clauses steps h n c is (inr high) e = none-some c (sym (at_number_past (map (λ x. x.clause) steps) n (inr (omega (arith, length-map steps (λ x. x.clause))))) ∙ ap (cited clauses steps) (sym is) ∙ e)

pub cited_added : (clauses : List (List (Signed ℕ))) (steps : List Step) (h : Hint) (n : ℕ) (c : List (Signed ℕ)) → h ≡ Added n → 0 < n → n ≤ length clauses → c ≡ get_or clauses (n - 1) c → cited clauses steps h ≡ Some c
cited_added clauses steps h n c is low high at = ap (cited clauses steps) is ∙ at_number_in clauses n c low high ∙ ap Some (sym at)

pub cited_no_added : (clauses : List (List (Signed ℕ))) (steps : List Step) (h : Hint) (n : ℕ) (c : List (Signed ℕ)) → h ≡ Added n → (n ≤ 0) ⊎ (length clauses < n) → cited clauses steps h ≡ Some c → ⊥
cited_no_added clauses steps h n c is past e = none-some c (sym (at_number_past clauses n past) ∙ ap (cited clauses steps) (sym is) ∙ e)
