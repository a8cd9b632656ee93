-- Laws of tables of variables.
use Rattle.std.proofs.Common.{◌≡◌, ℕ, suc, ◌+◌, ◌≤◌, ◌<◌, List, [], ◌∷◌, ◌++◌, ◌⊎◌, inl, inr, refl, ap, sym, ◌∙◌, subst, length, get_or, drop, arith, Bool, true, false, cond, nat_eq, Some, None}
use Rattle.std.specs.Map.{lookup, keys_of}
use Rattle.std.proofs.lemmas.Bool.{ne_eqb}
use Rattle.std.proofs.lemmas.Bool.Decides.{Decides-eqb}
use Rattle.std.proofs.lemmas.List.{length_push, get_or_append_left, get_or_push, drop_more, at_drop_all}
use Rattle.inst_logic.proofs.Booleans.{true_or_false}
use Rattle.inst_logic.proofs.Numbers.{last_or_before}
use Rattle.unify_core.specs.Sides.{Binding, variable_number}
use Rattle.unify_core.specs.Passed.{no_binding}
use Rattle.unify_core.specs.Table.{variable_eq, bound_of, most_placed, IsPlacedAt, ArePlaces}
use Rattle.unify_core.specs.declared.side.Variable.{Variable}
use Rattle.unify_core.specs.declared.side.Bound.{Bound}
use Rattle.unify_core.specs.Lists.{◌∈◌}
use Rattle.unify_core.proofs.Lists.{∈-map, ∈-get_or}
use Rattle.unify_core.proofs.Sides.{same_variable}
use Rattle.unify_core.proofs.Chains.{variable_same, variable_itself}
use Rattle.unify_core.proofs.Meetings.{lookup_none}

-- where the variable is bound first
record IsFirst (x : Variable) (es : List Binding) (i : ℕ) : Type 0 where
  within : i < length es
  key : (get_or es i no_binding).0 ≡ x
  found : bound_of x es ≡ Some (get_or es i no_binding).1

first_place : (x : Variable) (es : List Binding) → (bound_of x es ≡ None) ⊎ ((i : ℕ) × IsFirst x es i)
first_place x [] = inl refl
first_place x (e ∷ es) = by (true_or_false (variable_eq x e.0)) (first_place x es)
  where
    by : (variable_eq x e.0 ≡ true) ⊎ (variable_eq x e.0 ≡ false) → (bound_of x es ≡ None) ⊎ ((i : ℕ) × IsFirst x es i) → (bound_of x (e ∷ es) ≡ None) ⊎ ((i : ℕ) × IsFirst x (e ∷ es) i)
    by (inl t) r =
        inr (
          0,
          record {
            within = omega arith;
            key = sym (variable_same x e.0 t);
            found = ap (λ (b : Bool). cond b (Some e.1) (lookup (variable_eq x) es)) t;
          },
        )
    by (inr f) (inl n) = inl (ap (λ (b : Bool). cond b (Some e.1) (lookup (variable_eq x) es)) f ∙ n)
    by (inr f) (inr p) =
        let q = p.1 in
        inr (
          suc p.0,
          record {
            within = let w = q.within in omega arith;
            key = q.key;
            found = ap (λ (b : Bool). cond b (Some e.1) (lookup (variable_eq x) es)) f ∙ q.found;
          },
        )

-- a variable that is bound is found
not_none : (x : Variable) (es : List Binding) (i : ℕ) → i < length es → (get_or es i no_binding).0 ≡ x → bound_of x es ≡ None → ⊥
not_none x es i h e n =
    lookup_none variable_eq variable_itself x es n
    (subst (λ (y : Variable). y ∈ keys_of es) e (∈-map (λ (b : Binding). b.0) (get_or es i no_binding) es (∈-get_or es i no_binding h)))

-- the place that is noted at the variable's number is the one where it is bound
at_number : (es : List Binding) (places : List ℕ) (n : ℕ) (x : Variable) → ArePlaces es places → n ≡ variable_number x → n < most_placed
    → (bound_of x es ≡ None) ⊎ ((n < length places) × IsFirst x es (get_or places n 0))
at_number es places n x h e small = by (first_place x es)
  where
    by : (bound_of x es ≡ None) ⊎ ((i : ℕ) × IsFirst x es i) → (bound_of x es ≡ None) ⊎ ((n < length places) × IsFirst x es (get_or places n 0))
    by (inl n_) = inl n_
    by (inr p) =
        let k : IsPlacedAt places p.0 x = subst (λ (y : Variable). IsPlacedAt places p.0 y) p.1.key (h p.0 p.1.within) in
        let q = k (subst (λ (m : ℕ). m < most_placed) e small) in
        inr (subst (λ (m : ℕ). m < length places) (sym e) q.0, subst (λ (i : ℕ). IsFirst x es i) (sym (ap (λ (m : ℕ). get_or places m 0) e ∙ q.1)) p.1)

pub none_far : (es : List Binding) (places : List ℕ) (n : ℕ) (x : Variable) → ArePlaces es places → n ≡ variable_number x → n < most_placed → length places ≤ n → None ≡ bound_of x es
none_far es places n x h e small far = elim (at_number es places n x h e small) [ inl n_ ↦ sym n_ | inr p ↦ let w = p.0 in absurd (omega arith) ]

pub none_past : (es : List Binding) (places : List ℕ) (n : ℕ) (x : Variable) → ArePlaces es places → n ≡ variable_number x → n < most_placed → length es ≤ get_or places n 0 → None ≡ bound_of x es
none_past es places n x h e small past = elim (at_number es places n x h e small) [ inl n_ ↦ sym n_ | inr p ↦ let w = p.1.within in absurd (omega arith) ]

pub none_here : (es : List Binding) (places : List ℕ) (n : ℕ) (x : Variable) (b : Binding) → ArePlaces es places → n ≡ variable_number x → n < most_placed
    → get_or es (get_or places n 0) no_binding ≡ b → variable_eq x b.0 ≡ false → None ≡ bound_of x es
none_here es places n x b h e small is differ = elim (at_number es places n x h e small) [
  | inl n_ ↦ sym n_
  | inr p ↦
      let key : b.0 ≡ x = ap (λ (d : Binding). d.0) (sym is) ∙ p.1.key in
      let same : variable_eq x b.0 ≡ true = ap (λ (y : Variable). variable_eq x y) key ∙ variable_itself x in
      absurd (cc)
]

pub some_here : (es : List Binding) (places : List ℕ) (n : ℕ) (x : Variable) (b : Binding) → ArePlaces es places → n ≡ variable_number x → n < most_placed → get_or places n 0 < length es
    → get_or es (get_or places n 0) no_binding ≡ b → variable_eq x b.0 ≡ true → Some b.1 ≡ bound_of x es
some_here es places n x b h e small within is same = elim (at_number es places n x h e small) [
  | inl n_ ↦ absurd (not_none x es (get_or places n 0) within (ap (λ (d : Binding). d.0) is ∙ sym (variable_same x b.0 same)) n_)
  | inr p ↦ sym (p.1.found ∙ ap (λ (d : Binding). Some d.1) is)
]

-- along the bindings, from where the variable was not found before

step : (es : List Binding) (i : ℕ) (x : Variable) (b : Binding) (t : Bool) → i < length es → get_or es i no_binding ≡ b → variable_eq x b.0 ≡ t
    → bound_of x (drop i es) ≡ cond t (Some b.1) (bound_of x (drop (i + 1) es))
step es i x b t within is test =
    ap (bound_of x) (drop_more es i no_binding within)
    ∙ ap (λ (d : Binding). cond (variable_eq x d.0) (Some d.1) (bound_of x (drop (i + 1) es))) is
    ∙ ap (λ (v : Bool). cond v (Some b.1) (bound_of x (drop (i + 1) es))) test

pub along_found : (es : List Binding) (i : ℕ) (x : Variable) (b : Binding) → i < length es → get_or es i no_binding ≡ b → bound_of x (drop i es) ≡ bound_of x es → variable_eq x b.0 ≡ true
    → Some b.1 ≡ bound_of x es
along_found es i x b within is so t = sym (step es i x b true within is t) ∙ so

pub along_next : (es : List Binding) (i : ℕ) (x : Variable) (b : Binding) → i < length es → get_or es i no_binding ≡ b → bound_of x (drop i es) ≡ bound_of x es → variable_eq x b.0 ≡ false
    → bound_of x (drop (i + 1) es) ≡ bound_of x es
along_next es i x b within is so t = sym (step es i x b false within is t) ∙ so

pub along_end : (es : List Binding) (i : ℕ) (x : Variable) → length es ≤ i → bound_of x (drop i es) ≡ bound_of x es → None ≡ bound_of x es
along_end es i x past so = sym (at_drop_all (bound_of x) es i past) ∙ so

-- what is noted

pub given_here : (new old : List ℕ) (n place : ℕ) → ((k : ℕ) → get_or new k 0 ≡ cond (nat_eq n k) place (get_or old k 0)) → get_or new n 0 ≡ place
given_here new old n place h = h n ∙ ap (λ (b : Bool). cond b place (get_or old n 0)) ((Decides-eqb n n).1 refl)

pub given_else : (new old : List ℕ) (n place : ℕ) → ((k : ℕ) → get_or new k 0 ≡ cond (nat_eq n k) place (get_or old k 0)) → (k : ℕ) → ¬ (k ≡ n) → get_or new k 0 ≡ get_or old k 0
given_else new old n place h k apart = h k ∙ ap (λ (b : Bool). cond b place (get_or old k 0)) (ne_eqb n k (λ e. apart (sym e)))

-- places stay noted as that of a variable that is not bound is noted
pub places_put : (es : List Binding) (x : Variable) (old new : List ℕ) → ArePlaces es old → bound_of x es ≡ None → length old ≤ length new
    → ((k : ℕ) → ¬ (k ≡ variable_number x) → get_or new k 0 ≡ get_or old k 0) → ArePlaces es new
places_put es x old new h free longer kept i within small =
    let q = h i within small in
    let w = q.0 in
    let apart : ¬ (variable_number (get_or es i no_binding).0 ≡ variable_number x) = (λ s. not_none x es i within (same_variable (get_or es i no_binding).0 x s) free) in
    (omega arith, kept _ apart ∙ q.1)

pub places_push : (es : List Binding) (x : Variable) (t : Bound) (places : List ℕ) → ArePlaces es places → IsPlacedAt places (length es) x → ArePlaces (es ++ (x, t) ∷ []) places
places_push es x t places h new i within = elim (last_or_before i (length es) (subst (λ (n : ℕ). i < n) (length_push es (x, t)) within)) [
  | inl b ↦ subst (λ (y : Variable). IsPlacedAt places i y) (sym (ap (λ (d : Binding). d.0) (get_or_append_left es ((x, t) ∷ []) no_binding i b))) (h i b)
  | inr l ↦
      subst (λ (y : Variable). IsPlacedAt places i y) (sym (ap (λ (d : Binding). d.0) (get_or_push es (x, t) no_binding i (sym l))))
      (subst (λ (j : ℕ). IsPlacedAt places j x) (sym l) new)
]
