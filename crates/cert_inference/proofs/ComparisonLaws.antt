-- Nodes that are compared with the terms that they are to become.
use Rattle.std.proofs.Common.{◌≡◌, ℕ, suc, zero, ◌-◌, ◌+◌, ◌<◌, ◌≤◌, List, [], ◌∷◌, ◌++◌, refl, sym, ap, ap₂, ◌∙◌, subst as transport, map, length, reverse, take, drop, get_or, arith, Bool, true, false, Option, Some, None, eqb, append_assoc}
use Rattle.std.proofs.lemmas.List.{append-nil, length-drop, nil_from_length, take_more, take_all}
use Rattle.std.proofs.lemmas.List.Elements.{All-head, All-tail}
use Rattle.std.proofs.lemmas.Option.{same_Some}
use Rattle.std.proofs.Math.Seq.{drop-cons}
use Rattle.std.specs.Prelude.{position, not}
use Rattle.std.specs.Option.{option_eq}
use Rattle.std.proofs.lemmas.Bool.Decides.{Decides-eqb}
use Rattle.std.specs.Map.{keys_of}
use Rattle.std.specs.List.{All, list_any}
use denote.Bor.{Bor}
use Rattle.inst_logic.specs.declared.signed.Signed.{Signed}
use Rattle.inst_logic.specs.declared.symbol.Sym.{Sym}
use Rattle.inst_logic.specs.Tree.{Tree, Trees, var, app, to_list, of_list}
use Rattle.inst_logic.specs.Substitution.{subst as apply}
use Rattle.inst_logic.specs.Lists.{distinct, with_item}
use Rattle.inst_logic.specs.Clauses.{instance, canonical_form}
use Rattle.inst_logic.specs.Unifiers.{Sided, IsApplication}
use Rattle.inst_logic.proofs.Applications.{same_trees}
use Rattle.inst_calculus.proofs.Distinct.{length_map}
use Rattle.term_bank.specs.Forest.{Forest, tree_at, clause_at, symbol_of, arguments_of, AreDistinct, AreIds, IsClauseAt, IsClauseOf, IsAt}
use Rattle.term_bank.proofs.Growth.{extends_itself}
use Rattle.term_bank.specs.Shapes.{shape_of}
use Rattle.term_bank.specs.declared.bank.Shape.TheVariants.{Var}
use Rattle.unify_core.specs.Lists.{◌∈◌}
use Rattle.unify_core.specs.Chains.{AreBindings}
use Rattle.unify_core.specs.Bindings.{Bound_list}
use Rattle.unify_core.specs.Sides.{Binding, IsResolvedBy, of_side}
use Rattle.unify_core.specs.declared.side.Side.{Side}
use Rattle.unify_core.specs.declared.side.Bound.{Bound}
use Rattle.unify_core.specs.declared.side.Variable.{Variable}
use Rattle.clause_form.specs.Literals.{id_eq, with_atoms}
use Rattle.clause_form.specs.Orders.{is_variable, with_variable, number_in}
use Rattle.clause_form.specs.Walks.{Reading, IsReading, IsLed, IsFree, IsRootOf, on, vars_on, trees_on, with_vars, numbers_of, IsBegun}
use Rattle.clause_form.specs.declared.walk.Leaves.{Leaves}
use Rattle.clause_form.specs.declared.walk.Leaves.TheVariants.{Led}
use Rattle.clause_form.proofs.Concluded.{final_order, atoms_met, atoms_become, clause_becomes}
use Rattle.clause_form.proofs.Led.{led_reading, led_is_reading}
use Rattle.clause_form.proofs.Members.{met_append}
use Rattle.clause_form.proofs.SomeComplement.{one_more}
use Rattle.clause_form.proofs.Stacks.{reverse_push}
use Rattle.clause_form.proofs.Numbers.{with_begun}
use Rattle.clause_form.proofs.Leaves.{leaf_numbered, root_led}
use Rattle.clause_form.proofs.Orders.{in_first, insert_first, insert_last, number_last}
use Rattle.clause_form.proofs.Readings.{atoms_within}
use Rattle.cert_inference.specs.Comparisons.{pairs_of, ArePairs, vars_of, AreFit, IsStep}
use Rattle.cert_inference.specs.declared.comparison.NodePair.{NodePair}

-- the last pair of the list is the next
pub top_pair : (pairs rest : List NodePair) (p : NodePair) → pairs ≡ rest ++ p ∷ [] → reverse pairs ≡ p ∷ reverse rest
top_pair pairs rest p e = ap reverse e ∙ reverse_push rest p

-- the pair at a place, before those behind it
pair_at : (s : Side) (nodes terms : List ℕ) (i a t : ℕ) → i < length nodes → length nodes ≡ length terms → a ≡ get_or nodes i a → t ≡ get_or terms i t
    → pairs_of s (drop i nodes) (drop i terms) ≡ record { node = on s a; term = t } ∷ pairs_of s (drop (i + 1) nodes) (drop (i + 1) terms)
pair_at s nodes terms i a t within long is is' =
    let next : suc i ≡ i + 1 = omega arith in
    let e : drop i nodes ≡ a ∷ drop (i + 1) nodes = drop-cons nodes i a (omega arith) ∙ ap₂ (λ x xs. x ∷ xs) (sym is) (ap (λ j. drop j nodes) next) in
    let e' : drop i terms ≡ t ∷ drop (i + 1) terms = drop-cons terms i t (omega arith) ∙ ap₂ (λ x xs. x ∷ xs) (sym is') (ap (λ j. drop j terms) next) in
    ap₂ (pairs_of s) e e'

-- the literals of the same signs so far
pub more_signs : (c d : List (Signed ℕ)) (i : ℕ) → i < length c → length c ≡ length d → (l k : Signed ℕ) → l ≡ get_or c i l → k ≡ get_or d i k → l.positive ≡ k.positive
    → with_atoms (take i c) (map (λ l. l.atom) (take i d)) ≡ take i d → with_atoms (take (i + 1) c) (map (λ l. l.atom) (take (i + 1) d)) ≡ take (i + 1) d
more_signs [] d i less long l k is is' same before = absurd (omega arith)
more_signs (x ∷ c) [] i less long l k is is' same before = absurd (omega arith)
more_signs (x ∷ c) (y ∷ d) zero less long l k is is' same before =
    ap (λ (b : Bool). record { positive = b; atom = y.atom } ∷ []) (ap (λ (z : Signed ℕ). z.positive) (sym is) ∙ same ∙ ap (λ (z : Signed ℕ). z.positive) is')
more_signs (x ∷ c) (y ∷ d) (suc i) less long l k is is' same before =
    let e : suc i + 1 ≡ suc (i + 1) = omega arith in
    let here : record { positive = x.positive; atom = y.atom } ≡ y = cc in
    let rest : with_atoms (take i c) (map (λ l. l.atom) (take i d)) ≡ take i d = cc in
    rw e (ap₂ (λ (z : Signed ℕ) (zs : List (Signed ℕ)). z ∷ zs) here (more_signs c d i (omega arith) (omega arith) l k is is' same rest))

-- no literal is repeated so far
pub one_literal : (d : List (Signed ℕ)) (i : ℕ) (l : Signed ℕ) → i < length d → l ≡ get_or d i l → list_any (λ k. id_eq k l) (take i d) ≡ false
    → distinct id_eq (take i d) ≡ take i d → distinct id_eq (take (i + 1) d) ≡ take (i + 1) d
one_literal d i l less is new before =
    let added : with_item id_eq (take i d) l ≡ take i d ++ l ∷ [] = rw new refl in
    let e : take (i + 1) d ≡ with_item id_eq (take i d) l = take_more d i l less ∙ ap (λ (x : Signed ℕ). take i d ++ x ∷ []) (sym is) ∙ sym added in
    sym (one_more d i l (take i d) (take (i + 1) d) less is (sym before) e)

-- one step after another
pub step_trans : (f : Forest) (w : Leaves) (ps qs rs : List NodePair) (os ns ms : List ℕ) → IsStep f w ps qs os ns → IsStep f w qs rs ns ms → IsStep f w ps rs os ms
step_trans f w ps qs rs os ns ms a b = record {
  within = λ h. b.within (a.within h);
  met = λ r final reading e. b.met r final reading (a.met r final reading e);
  fit = λ r final reading e h. a.fit r final reading e (b.fit r final reading (a.met r final reading e) h);
}

pub no_step : (f : Forest) (w : Leaves) (ps : List NodePair) (os : List ℕ) → IsStep f w ps ps os os
no_step f w ps os = record { within = λ h. h; met = λ r final reading e. e; fit = λ r final reading e h. h }

-- another node that becomes the same
pub step_from_root : (f : Forest) (w : Leaves) (p : NodePair) (b : Bound) (rest qs : List NodePair) (os ns : List ℕ) → IsRootOf f w p.node b → p.term < length f.trees
    → IsStep f w (record { node = b; term = p.term } ∷ rest) qs os ns → IsStep f w (p ∷ rest) qs os ns
step_from_root f w p b rest qs os ns root inside a = record {
  within = λ h. a.within (root.within, inside, h.2);
  met = λ r final reading e. a.met r final reading (moved r final reading e);
  fit = λ r final reading e h.
      let k = a.fit r final reading (moved r final reading e) h in
      ((root.same r final reading).0 ∙ k.0, k.1);
}
  where
    moved : (r : Reading) (final : List ℕ) → IsReading f w r final → with_vars os (r.vars p.node ++ vars_of r rest) ≡ final → with_vars os (r.vars b ++ vars_of r rest) ≡ final
    moved r final reading e = ap (λ (vs : List ℕ). with_vars os (vs ++ vars_of r rest)) (sym (root.same r final reading).1) ∙ e

-- a variable that was met before, and one that was not
pub met_before : (xs : List Variable) (x : Variable) (i : ℕ) → position (is_variable x) xs ≡ Some i → (xs ≡ with_variable xs x) × (i ≡ number_in xs x)
met_before xs x i at =
    transport (λ (ys : List Variable). (ys ≡ with_variable ys x) × (i ≡ number_in ys x)) (append-nil xs) (insert_first is_variable xs [] x i at, (in_first (is_variable x) xs [] i at).1)

pub met_now : (xs zs : List Variable) (x : Variable) → position (is_variable x) xs ≡ None → zs ≡ xs ++ x ∷ [] → (zs ≡ with_variable xs x) × (length xs ≡ number_in xs x)
met_now xs zs x at is =
    let n = number_last (is_variable x) xs [] at refl in
    let e : length xs ≡ number_in (xs ++ []) x = omega arith in
    transport (λ (ys : List Variable). (zs ≡ with_variable ys x) × (length xs ≡ number_in ys x)) (append-nil xs) (sym (append-nil zs) ∙ insert_last is_variable xs [] zs x at refl is, e)

-- a variable that stays
pub step_variable : (f : Forest) (bs : Bor Bound_list) (node : Bound) (term v : ℕ) (rest : List NodePair) (xs ys : List Variable) → node.term < length f.trees → term < length f.trees → tree_at f node.term ≡ var v → IsFree f (Led bs) node
    → ys ≡ with_variable xs (record { side = node.side; var = v }) → tree_at f term ≡ var (number_in xs (record { side = node.side; var = v }))
    → IsStep f (Led bs) (record { node = node; term = term } ∷ rest) rest (numbers_of xs) (numbers_of ys)
step_variable f bs node term v rest xs ys within inside is free met named = record {
  within = λ h. h.2;
  met = λ r final reading e.
      ap (λ (os : List ℕ). with_vars os (vars_of r rest)) (leaf r final reading e).1 ∙ sym (met_append (numbers_of xs) (r.vars node) (vars_of r rest)) ∙ e;
  fit = λ r final reading e h. (sym (leaf r final reading e).0.1, h);
}
  where
    leaf : (r : Reading) (final : List ℕ) → IsReading f (Led bs) r final → with_vars (numbers_of xs) (r.vars node ++ vars_of r rest) ≡ final → IsAt f term (r.tree node) × (numbers_of ys ≡ with_vars (numbers_of xs) (r.vars node))
    leaf r final reading e =
        leaf_numbered f f f bs.now.entries r final node v (number_in xs (record { side = node.side; var = v })) term xs ys (extends_itself f) within is free reading.leaf
        (transport (λ (os : List ℕ). IsBegun os (with_vars (numbers_of xs) (r.vars node))) (sym (met_append (numbers_of xs) (r.vars node) (vars_of r rest)) ∙ e) (with_begun (with_vars (numbers_of xs) (r.vars node)) (vars_of r rest)))
        met refl (inside, named)

-- a slice from a place to the end is the list from there on
pub slice_to_end : (k : ℕ) (xs : List ℕ) → take (length xs - k) (drop k xs) ≡ drop k xs
slice_to_end k xs = take_all (length xs - k) (drop k xs) (omega (arith, length-drop k xs))

-- one more pair that fits
pub step_pair : (f : Forest) (w : Leaves) (s : Side) (nodes terms : List ℕ) (i a t : ℕ) (ps rest : List NodePair) (os ns ms : List ℕ) → i < length nodes → length nodes ≡ length terms → a ≡ get_or nodes i a → t ≡ get_or terms i t
    → IsStep f w ps (pairs_of s (drop i nodes) (drop i terms) ++ rest) os ns
    → IsStep f w (record { node = on s a; term = t } ∷ (pairs_of s (drop (i + 1) nodes) (drop (i + 1) terms) ++ rest)) (pairs_of s (drop (i + 1) nodes) (drop (i + 1) terms) ++ rest) ns ms
    → IsStep f w ps (pairs_of s (drop (i + 1) nodes) (drop (i + 1) terms) ++ rest) os ms
step_pair f w s nodes terms i a t ps rest os ns ms within long is is' before step =
    step_trans f w ps (pairs_of s (drop i nodes) (drop i terms) ++ rest) (pairs_of s (drop (i + 1) nodes) (drop (i + 1) terms) ++ rest) os ns ms before
    (transport (λ (zs : List NodePair). IsStep f w (zs ++ rest) (pairs_of s (drop (i + 1) nodes) (drop (i + 1) terms) ++ rest) ns ms) (sym (pair_at s nodes terms i a t within long is is')) step)

-- all pairs were passed
pub step_all : (f : Forest) (w : Leaves) (s : Side) (nodes terms : List ℕ) (i : ℕ) (ps rest : List NodePair) (os ns : List ℕ) → length nodes ≤ i
    → IsStep f w ps (pairs_of s (drop i nodes) (drop i terms) ++ rest) os ns → IsStep f w ps rest os ns
step_all f w s nodes terms i ps rest os ns end step =
    transport (λ (xs : List ℕ). IsStep f w ps (pairs_of s xs (drop i terms) ++ rest) os ns) (nil_from_length (drop i nodes) (omega (arith, length-drop i nodes))) step

-- the arguments as pairs
pairs_vars : (r : Reading) (s : Side) (nodes terms : List ℕ) (rest : List NodePair) → length nodes ≡ length terms → vars_of r (pairs_of s nodes terms ++ rest) ≡ vars_on r s nodes ++ vars_of r rest
pairs_vars r s [] [] rest long = refl
pairs_vars r s [] (t ∷ terms) rest long = absurd (omega arith)
pairs_vars r s (a ∷ nodes) [] rest long = absurd (omega arith)
pairs_vars r s (a ∷ nodes) (t ∷ terms) rest long =
    ap (λ (vs : List ℕ). r.vars (on s a) ++ vs) (pairs_vars r s nodes terms rest (omega arith)) ∙ sym (append_assoc (r.vars (on s a)) (vars_on r s nodes) (vars_of r rest))

pairs_fit : (f : Forest) (r : Reading) (s : Side) (nodes terms : List ℕ) (rest : List NodePair) → length nodes ≡ length terms → AreFit f r (pairs_of s nodes terms ++ rest) → (trees_on r s nodes ≡ map (tree_at f) terms) × AreFit f r rest
pairs_fit f r s [] [] rest long h = (refl, h)
pairs_fit f r s [] (t ∷ terms) rest long h = absurd (omega arith)
pairs_fit f r s (a ∷ nodes) [] rest long h = absurd (omega arith)
pairs_fit f r s (a ∷ nodes) (t ∷ terms) rest long h =
    let k = pairs_fit f r s nodes terms rest (omega arith) h.1 in
    (ap₂ (λ (x : Tree) (xs : List Tree). x ∷ xs) h.0 k.0, k.1)

pairs_within : (f : Forest) (s : Side) (nodes terms : List ℕ) (rest : List NodePair) → AreIds f nodes → AreIds f terms → ArePairs f rest → ArePairs f (pairs_of s nodes terms ++ rest)
pairs_within f s [] terms rest h k l = l
pairs_within f s (a ∷ nodes) [] rest h k l = l
pairs_within f s (a ∷ nodes) (t ∷ terms) rest h k l = (
  All-head (λ (n : ℕ). n < length f.trees) a nodes h,
  All-head (λ (n : ℕ). n < length f.trees) t terms k,
  pairs_within f s nodes terms rest (All-tail (λ (n : ℕ). n < length f.trees) a nodes h) (All-tail (λ (n : ℕ). n < length f.trees) t terms k) l,
)

below : (f : Forest) (n : ℕ) (ids : List ℕ) → n < length f.trees → All (λ i. i < n) ids → AreIds f ids
below f n ids within h = λ i d l. let k = h i d l in omega arith

-- what two trees of one symbol are
same_symbol : (t u : Tree) → symbol_of t ≡ symbol_of u → IsApplication t → (g : Sym) × (ts us : Trees) × (t ≡ app g ts) × (u ≡ app g us)
same_symbol (var v) u e h = absurd h
same_symbol (app g ts) (var v) e h = absurd (cc)
same_symbol (app g ts) (app k us) e h =
    let same : g ≡ k = same_Some g k e in
    (g, ts, us, refl, ap (λ (z : Sym). app z us) (sym same))

-- an application and a term of its symbol
pub step_application : (f : Forest) (w : Leaves) (node : Bound) (term : ℕ) (rest qs : List NodePair) (os nodes terms : List ℕ) → node.term < length f.trees → term < length f.trees
    → symbol_of (tree_at f node.term) ≡ symbol_of (tree_at f term) → IsApplication (tree_at f node.term)
    → map (tree_at f) nodes ≡ arguments_of (tree_at f node.term) → All (λ i. i < node.term) nodes → map (tree_at f) terms ≡ arguments_of (tree_at f term) → All (λ i. i < term) terms
    → length nodes ≡ length terms → qs ≡ pairs_of node.side nodes terms ++ rest
    → IsStep f w (record { node = node; term = term } ∷ rest) qs os os
step_application f w node term rest qs os nodes terms within inside symbol application args smaller args' smaller' long is =
    let (g, ts, us, e, e') = same_symbol (tree_at f node.term) (tree_at f term) symbol application in
    let k : map (tree_at f) nodes ≡ to_list ts = args ∙ ap arguments_of e in
    let k' : map (tree_at f) terms ≡ to_list us = args' ∙ ap arguments_of e' in
    transport (λ (zs : List NodePair). IsStep f w (record { node = node; term = term } ∷ rest) zs os os) (sym is) (record {
      within = λ h. pairs_within f node.side nodes terms rest (below f node.term nodes within smaller) (below f term terms inside smaller') h.2;
      met = λ r final reading whole.
          ap (with_vars os) (pairs_vars r node.side nodes terms rest long ∙ ap (λ (vs : List ℕ). vs ++ vars_of r rest) (sym (reading.application node.side node.term g ts nodes e k).1)) ∙ whole;
      fit = λ r final reading whole h.
          let fits = pairs_fit f r node.side nodes terms rest long h in
          ((reading.application node.side node.term g ts nodes e k).0 ∙ ap (λ (xs : List Tree). app g (of_list xs)) (fits.0 ∙ k') ∙ ap (app g) (same_trees us) ∙ sym e', fits.1);
    })

-- all pairs fit: the clause is the instance
pub clause_seen : (f : Forest) (bs : Bor Bound_list) (side : Side) (c d : List (Signed ℕ)) (os : List ℕ) → AreDistinct f.trees → IsClauseOf f d → length c ≡ length d → d ≡ distinct id_eq (with_atoms c (map (λ l. l.atom) d))
    → IsStep f (Led bs) (pairs_of side (map (λ l. l.atom) c) (map (λ l. l.atom) d) ++ []) [] [] os
    → (s : Sided) → IsResolvedBy f bs.now.entries s → IsClauseAt f d (canonical_form (instance (of_side s side) (clause_at f c)))
clause_seen f bs side c d os once ids long alone step s resolved =
    let atoms = map (λ (l : Signed ℕ). l.atom) c in
    let others = map (λ (l : Signed ℕ). l.atom) d in
    let final = final_order f (of_side s side) c in
    let r = led_reading f s final in
    let n : length atoms ≡ length others = length_map (λ (l : Signed ℕ). l.atom) c ∙ long ∙ sym (length_map (λ (l : Signed ℕ). l.atom) d) in
    let whole : with_vars [] (vars_of r (pairs_of side atoms others ++ [])) ≡ final = ap (with_vars []) (pairs_vars r side atoms others [] n ∙ append-nil (vars_on r side atoms)) ∙ atoms_met f s side c atoms refl in
    let fits = pairs_fit f r side atoms others [] n (step.fit r final (led_is_reading f bs s final resolved) whole tt) in
    clause_becomes f f (of_side s side) c c d others once (atoms_within f d others refl ids) (atoms_become f f s side c atoms others refl (sym fits.0)) refl alone

-- a variable by its shape
pub var_of : (t : Tree) (v : ℕ) → Var v ≡ shape_of t → t ≡ var v
var_of (var w) v e = let k : v ≡ w = cc in ap var (sym k)
var_of (app g ts) v e = absurd (cc)

-- the node that was followed
pub root_of : (f : Forest) (bs : Bor Bound_list) (from b : Bound) (es : List Binding) → bs.now.entries ≡ es → AreBindings f es → from.term < length f.trees
    → ((s : Sided) → IsResolvedBy f es s → apply (of_side s from.side) (tree_at f from.term) ≡ apply (of_side s b.side) (tree_at f b.term))
    → ((v : ℕ) → tree_at f b.term ≡ var v → ¬ ((record { side = b.side; var = v }) ∈ keys_of es))
    → ((n : ℕ) → from.term < n → ((e : Binding) → e ∈ es → e.1.term < n) → b.term < n)
    → IsRootOf f (Led bs) from b
root_of f bs from b es same k within moved root below =
    let (a, law) = root_led f f (Led bs) from b es (extends_itself f) k within moved root below in
    record {
      within = a.0;
      free = transport (λ (ds : List Binding). (v : ℕ) → tree_at f b.term ≡ var v → ¬ ((record { side = b.side; var = v }) ∈ keys_of ds)) (sym same) a.1;
      same = λ r final reading. law r final (transport (λ (ds : List Binding). IsLed f ds r final) same reading.leaf);
    }

-- nothing is left
pub step_done : (f : Forest) (w : Leaves) (ps qs rest : List NodePair) (os ns : List ℕ) → qs ≡ [] → IsStep f w ps (reverse qs ++ rest) os ns → IsStep f w ps rest os ns
step_done f w ps qs rest os ns e a = transport (λ (zs : List NodePair). IsStep f w ps (reverse zs ++ rest) os ns) e a

-- the ids stay those of the bank
pub all_pairs : (f : Forest) (w : Leaves) (ps qs : List NodePair) (os ns : List ℕ) → IsStep f w (ps ++ []) (qs ++ []) os ns → ArePairs f ps → ArePairs f qs
all_pairs f w ps qs os ns step h = transport (ArePairs f) (append-nil qs) (step.within (transport (ArePairs f) (sym (append-nil ps)) h))

-- a test of inequality that fails
pub same_numbers : (m n : Option ℕ) → not (option_eq eqb m n) ≡ false → m ≡ n
same_numbers None None e = refl
same_numbers None (Some n) e = absurd (cc)
same_numbers (Some m) None e = absurd (cc)
same_numbers (Some m) (Some n) e = by (eqb m n) refl e
  where
    by : (b : Bool) → eqb m n ≡ b → not b ≡ false → Some m ≡ Some n
    by true k h = ap Some ((Decides-eqb m n).0 k)
    by false k h = absurd (cc)
