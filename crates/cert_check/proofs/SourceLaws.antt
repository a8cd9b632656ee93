-- What a member is an instance of, from what its origin names.
use Rattle.std.proofs.Common.{◌≡◌, ℕ, suc, ◌<◌, ◌≤◌, List, [], ◌∷◌, refl, ap, ap₂, sym, ◌∙◌, map, subst as transport, arith, length, get_or, nat_eq, Some, ◌⊎◌, inl, inr}
use Rattle.std.specs.Prelude.{All, None, slice_get, true}
use Rattle.std.proofs.lemmas.Bool.Decides.{Decides-eqb}
use Rattle.std.proofs.lemmas.List.{get_or-map}
use Rattle.std.proofs.lemmas.Option.{slice_get-get_or, slice_get_cases}
use Rattle.inst_logic.specs.Tree.{Tree, var}
use Rattle.inst_logic.specs.Substitution.{Substitution, subst, followed_by, tree_vars, clause_vars}
use Rattle.inst_logic.specs.Clauses.{TreeClause, IsCanonical, instance, canonical_form, numbered, order_of}
use Rattle.inst_logic.specs.Derivations.{at_number}
use Rattle.inst_logic.proofs.Formed.{tree_stays_formed}
use Rattle.inst_logic.proofs.Membership.{◌∈◌, map_agree}
use Rattle.inst_logic.specs.WellFormed.{tree_is_formed}
use Rattle.inst_calculus.specs.Axioms.{with_axioms}
use Rattle.inst_calculus.specs.Entries.{Entry}
use Rattle.inst_calculus.proofs.CanonicalForms.{canonical_variable_below}
use Rattle.inst_calculus.proofs.CanonicalVariables.{canonical_variables, place_of_item}
use Rattle.inst_calculus.proofs.Clauses.{literals_under, literal_var}
use Rattle.inst_calculus.proofs.Distinct.{from_distinct, in_distinct, distinct_is_distinct, length_map}
use Rattle.inst_calculus.proofs.Membership.{all_in, in_all, in_map, from_map}
use Rattle.inst_calculus.proofs.Trees.{subst_agree}
use Rattle.cert_format.specs.Certificate.{Base}
use Rattle.cert_format.specs.Upgrades.{LeadsTo, behind_numbers}
use Rattle.cert_format.specs.Validity.{IsRightFirstMember}
use Rattle.cert_format.proofs.Upgrades.{leads_instance}
use Rattle.term_bank.specs.Forest.{Forest, AreIds, tree_at}
use Rattle.cert_values.specs.Wholes.{IsWholeTerm}
use Rattle.clause_form.specs.Conclusions.{AreVariables, AreTermsOf}
use Rattle.clause_form.specs.Walks.{listed, tree_or}
use Rattle.clause_form.proofs.Variables.{order_of_instance, vars_under}

by_items : (xs ys : List Tree) → length xs ≡ length ys → ((i : ℕ) → i < length xs → get_or xs i (var 0) ≡ get_or ys i (var 0)) → xs ≡ ys
by_items [] [] e h = refl
by_items [] (y ∷ ys) e h = absurd (omega arith)
by_items (x ∷ xs) [] e h = absurd (omega arith)
by_items (x ∷ xs) (y ∷ ys) e h = ap₂ (λ a b. a ∷ b) (h 0 (omega arith)) (by_items xs ys (omega arith) (λ i l. h (suc i) (omega arith)))

-- the variables of a canonical clause are what those of the clause become whose canonical form it is
pub input_terms : (f : Forest) (d c : TreeClause) (ids : List ℕ) → c ≡ canonical_form d → AreVariables f (length (order_of c)) ids → map (tree_at f) ids ≡ map (behind_numbers d var) (order_of d)
input_terms f d c ids form h = by_items (map (tree_at f) ids) (map (behind_numbers d var) (order_of d)) (length_map (tree_at f) ids ∙ count ∙ sym (length_map (behind_numbers d var) (order_of d))) each
  where
    count : length ids ≡ length (order_of d)
    count = h.count_of ∙ ap (λ (x : TreeClause). length (order_of x)) form ∙ canonical_variables d

    each : (i : ℕ) → i < length (map (tree_at f) ids) → get_or (map (tree_at f) ids) i (var 0) ≡ get_or (map (behind_numbers d var) (order_of d)) i (var 0)
    each i l =
        let m = length_map (tree_at f) ids in
        let within : i < length ids = omega arith in
        let there : i < length (order_of d) = omega (arith, count) in
        let below : i < length (order_of c) = omega (arith, h.count_of) in
        get_or-map (tree_at f) ids i 0 (var 0) within ∙ (h.each i 0 below).1
        ∙ ap var (sym (place_of_item (order_of d) i 0 (distinct_is_distinct nat_eq Decides-eqb (clause_vars d)) there))
        ∙ sym (get_or-map (behind_numbers d var) (order_of d) i 0 (var 0) there)

same_under_var : (c : TreeClause) → literals_under var c ≡ c
same_under_var [] = refl
same_under_var (l ∷ c) = ap₂ (λ k d. k ∷ d) (literal_var l) (same_under_var c)

-- the terms to which a member leads have its variables only
pub own_variables : (b : Base) → ((n : ℕ) → IsRightFirstMember b n) → (k n : ℕ) (u : Substitution) (d : TreeClause) → at_number (with_axioms b.inputs) k ≡ Some d → LeadsTo b k u n var
    → (e : Entry) → at_number b.members n ≡ Some e → IsCanonical e.clause → (v : ℕ) → v ∈ order_of d → (w : ℕ) → w ∈ tree_vars (u v) → w < length (order_of e.clause)
own_variables b right k n u d at leads e here canonical v i w j =
    let occurs : w ∈ clause_vars (literals_under u d) = vars_under u d v w (from_distinct nat_eq Decides-eqb v (clause_vars d) i) j in
    let orders : order_of (literals_under u d) ≡ order_of e.clause =
    sym (order_of_instance u d) ∙ ap order_of (sym (leads_instance b right k u d at n var leads e here)) ∙ order_of_instance var e.clause ∙ ap order_of (same_under_var e.clause) in
    let ordered : w ∈ order_of e.clause = transport (λ (vs : List ℕ). w ∈ vs) orders (in_distinct nat_eq Decides-eqb w (clause_vars (literals_under u d)) occurs) in
    let own : w ∈ clause_vars e.clause = from_distinct nat_eq Decides-eqb w (clause_vars e.clause) ordered in
    canonical_variable_below e.clause w (transport (λ (x : TreeClause). w ∈ clause_vars x) (sym canonical) own)

map_both : (s u : Substitution) (vs : List ℕ) → map (subst s) (map u vs) ≡ map (followed_by u s) vs
map_both s u [] = refl
map_both s u (v ∷ vs) = ap (λ (ts : List Tree). subst s (u v) ∷ ts) (map_both s u vs)

-- substitutions that agree below the count do so on terms with variables below it
pub followed_agree : (u s r : Substitution) (count : ℕ) → ((w : ℕ) → w < count → s w ≡ r w) → (vs : List ℕ) → ((v : ℕ) → v ∈ vs → (w : ℕ) → w ∈ tree_vars (u v) → w < count)
    → map (subst s) (map u vs) ≡ map (followed_by u r) vs
followed_agree u s r count agree vs below =
    map_both s u vs ∙ map_agree (followed_by u s) (followed_by u r) vs (λ v i. subst_agree s r (u v) (λ w j. agree w (below v i w j)))

-- a listed term is the one at its place
pub listed_at : (f : Forest) (ids : List ℕ) (w : ℕ) → w < length ids → listed f ids w ≡ tree_at f (get_or ids w 0)
listed_at f ids w l = ap (tree_or f w) (slice_get-get_or ids w 0 l)

pub listed_terms : (f : Forest) (s : Substitution) (c : TreeClause) (ids : List ℕ) → AreTermsOf f s c ids → (w : ℕ) → w < length (order_of c) → listed f ids w ≡ followed_by s (behind_numbers (instance s c) var) w
listed_terms f s c ids h w l = let within : w < length ids = omega (arith, h.each) in listed_at f ids w within ∙ (h.become w within).1 ∙ renamed (s w)
  where
    renamed : (t : Tree) → subst (numbered (order_of (instance s c))) t ≡ subst (behind_numbers (instance s c) var) t
    renamed t = refl

pub listed_constant : (f : Forest) (constant : ℕ) (ids : List ℕ) → All (λ id. id ≡ constant) ids → (w : ℕ) → w < length ids → listed f ids w ≡ tree_at f constant
listed_constant f constant ids same w l = listed_at f ids w l ∙ ap (tree_at f) (same w 0 l)

-- ---- terms that are terms

listed_formed : (f : Forest) (ids : List ℕ) → All (IsWholeTerm f) ids → (v : ℕ) → tree_is_formed (listed f ids v) ≡ true
listed_formed f ids h v = by (slice_get_cases ids v).1
  where
    by : ((x : ℕ) × (v < length ids) × (slice_get ids v ≡ Some x) × (get_or ids v x ≡ x)) ⊎ ((length ids ≤ v) × (slice_get ids v ≡ None)) → tree_is_formed (listed f ids v) ≡ true
    by (inl k) = ap (λ o. tree_is_formed (tree_or f v o)) k.2 ∙ transport (λ (n : ℕ). tree_is_formed (tree_at f n) ≡ true) k.3 (h v k.0 k.1).term
    by (inr k) = ap (λ o. tree_is_formed (tree_or f v o)) k.1

-- terms under terms
pub terms_whole : (f g : Forest) (ids list built : List ℕ) → All (IsWholeTerm f) ids → All (IsWholeTerm f) list → AreIds g built → map (tree_at g) built ≡ map (subst (listed f ids)) (map (tree_at f) list)
    → All (IsWholeTerm g) built
terms_whole f g ids list built terms under within same = in_all (IsWholeTerm g) built (λ x i. record { within = all_in (λ (y : ℕ). y < length g.trees) built within x i; term = term x i })
  where
    term : (x : ℕ) → x ∈ built → tree_is_formed (tree_at g x) ≡ true
    term x i =
        let (t, j, e) = from_map (subst (listed f ids)) (tree_at g x) (map (tree_at f) list) (transport (λ (ts : List Tree). tree_at g x ∈ ts) same (in_map (tree_at g) x built i)) in
        let (y, k, d) = from_map (tree_at f) t list j in
        let whole : IsWholeTerm f y = all_in (IsWholeTerm f) list under y k in
        ap tree_is_formed (sym e) ∙ tree_stays_formed (listed f ids) (listed_formed f ids terms) t (ap tree_is_formed (sym d) ∙ whole.term)

pub variables_whole : (f : Forest) (count : ℕ) (ids : List ℕ) → AreVariables f count ids → All (IsWholeTerm f) ids
variables_whole f count ids h k d l = let e = h.each k d (omega (arith, h.count_of)) in record { within = e.0; term = ap tree_is_formed e.1 }
