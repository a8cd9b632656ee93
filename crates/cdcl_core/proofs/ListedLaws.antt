-- Steps whose clauses and hints are kept apart.
use Rattle.std.proofs.Common.{◌≡◌, ◌≤◌, ◌∙◌, ℕ, zero, suc, List, [], ◌∷◌, ◌++◌, length, map, Some, None, refl, sym, ap, arith}
use Rattle.std.specs.Prelude.{slice_get}
use Rattle.std.proofs.lemmas.Option.{same_Some, none-some}
use Rattle.inst_logic.specs.declared.signed.Signed.{Signed}
use Rattle.prop_logic.specs.declared.literal.Hint.{Hint}
use Rattle.prop_logic.specs.declared.literal.Step.{Step}
use Rattle.cdcl_core.specs.Steps.{steps_of}

pub length_steps : (cs : List (List (Signed ℕ))) (hs : List (List Hint)) → length hs ≡ length cs → length (steps_of cs hs) ≡ length cs
length_steps [] hs e = refl
length_steps (c ∷ cs) [] e = absurd (omega (arith, e))
length_steps (c ∷ cs) (h ∷ hs) e = ap suc (length_steps cs hs (omega (arith, e)))

pub clauses_of : (cs : List (List (Signed ℕ))) (hs : List (List Hint)) → length hs ≡ length cs → map (λ s. s.clause) (steps_of cs hs) ≡ cs
clauses_of [] hs e = refl
clauses_of (c ∷ cs) [] e = absurd (omega (arith, e))
clauses_of (c ∷ cs) (h ∷ hs) e = ap (λ ds. c ∷ ds) (clauses_of cs hs (omega (arith, e)))

pub hints_of : (cs : List (List (Signed ℕ))) (hs : List (List Hint)) → length hs ≡ length cs → map (λ s. s.hints) (steps_of cs hs) ≡ hs
hints_of [] [] e = refl
hints_of [] (h ∷ hs) e = absurd (omega (arith, e))
hints_of (c ∷ cs) [] e = absurd (omega (arith, e))
hints_of (c ∷ cs) (h ∷ hs) e = ap (λ gs. h ∷ gs) (hints_of cs hs (omega (arith, e)))

pub steps_more : (cs : List (List (Signed ℕ))) (hs : List (List Hint)) (c : List (Signed ℕ)) (h : List Hint) → length hs ≡ length cs → steps_of (cs ++ c ∷ []) (hs ++ h ∷ []) ≡ steps_of cs hs ++ (record { clause = c; hints = h }) ∷ []
steps_more [] [] c h e = refl
steps_more [] (g ∷ hs) c h e = absurd (omega (arith, e))
steps_more (d ∷ cs) [] c h e = absurd (omega (arith, e))
steps_more (d ∷ cs) (g ∷ hs) c h e = ap (λ ss. (record { clause = d; hints = g }) ∷ ss) (steps_more cs hs c h (omega (arith, e)))

-- a part of the step at a place, where one more stands behind the others
pub part_at : {X : Type 0} (f : Step → X) (steps : List Step) (last s : Step) (place : ℕ) (x : X) → slice_get (map f steps) place ≡ Some x → slice_get (steps ++ last ∷ []) place ≡ Some s → x ≡ f s
part_at f [] last s place x a b = absurd (none-some x a)
part_at f (t ∷ ts) last s zero x a b = sym (same_Some (f t) x a) ∙ ap f (same_Some t s b)
part_at f (t ∷ ts) last s (suc place) x a b = part_at f ts last s place x a b

pub last_at : {X : Type 0} (f : Step → X) (steps : List Step) (last s : Step) (place : ℕ) → place ≤ length steps → slice_get (map f steps) place ≡ None → slice_get (steps ++ last ∷ []) place ≡ Some s → last ≡ s
last_at f [] last s zero h a b = same_Some last s b
last_at f [] last s (suc place) h a b = absurd (omega (arith, h))
last_at f (t ∷ ts) last s zero h a b = absurd (none-some (f t) (sym a))
last_at f (t ∷ ts) last s (suc place) h a b = last_at f ts last s place (omega (arith, h)) a b
