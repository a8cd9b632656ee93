-- Ways through the tree: each node has one from the root, and new edges keep them.
use Rattle.std.proofs.Common.{◌≡◌, ◌≢◌, ◌<◌, ◌≤◌, ◌+◌, ◌-◌, ℕ, zero, suc, List, [], ◌∷◌, ◌++◌, length, get_or, Contains, refl, sym, ◌∙◌, ap, ap₂, subst, arith, inl, inr, ◌⊎◌, ◌↔◌, append_assoc, length-append}
use Rattle.term_index.specs.declared.label.Label.{Label}
use Rattle.term_index.specs.declared.node.Edge.{Edge}
use Rattle.term_index.specs.Paths.{edge_at, IsChild, Leads, KeepsEdges}

-- the labels from the root to a node, found upwards in so many steps
path_in : List Edge → ℕ → ℕ → List Label
path_in es zero n = []
path_in es (suc k) zero = []
path_in es (suc k) (suc n) = path_in es k (edge_at es n).from ++ (edge_at es n).label ∷ []

steps_enough : (es : List Edge) (h : (k : ℕ) → k < length es → (edge_at es k).from ≤ k) (j k n : ℕ) → n ≤ length es → n ≤ j → n ≤ k → path_in es j n ≡ path_in es k n
unfolding path_in
steps_enough es h zero zero n w a b = refl
steps_enough es h zero (suc k) zero w a b = refl
steps_enough es h (suc j) zero zero w a b = refl
steps_enough es h (suc j) (suc k) zero w a b = refl
steps_enough es h zero k (suc n) w a b = absurd (omega arith)
steps_enough es h (suc j) zero (suc n) w a b = absurd (omega arith)
steps_enough es h (suc j) (suc k) (suc n) w a b =
    let o = h n (omega arith) in
    ap (λ p. p ++ (edge_at es n).label ∷ []) (steps_enough es h j k (edge_at es n).from (omega arith) (omega arith) (omega arith))

path : List Edge → ℕ → List Label
path es n = path_in es n n

path_child : (es : List Edge) (h : (k : ℕ) → k < length es → (edge_at es k).from ≤ k) (n c : ℕ) (l : Label) → IsChild es n l c → path es c ≡ path es n ++ l ∷ []
unfolding path path_in
path_child es h n c l k =
    let o = h k.edge k.within in
    let x : (edge_at es k.edge).from ≡ n = ap (λ (e : Edge). e.from) k.is in
    let y : (edge_at es k.edge).label ≡ l = ap (λ (e : Edge). e.label) k.is in
    let s : c ≡ suc k.edge = omega (arith, k.number) in
    ap (λ m. path_in es m m) s
    ∙ ap₂ (λ p q. p ++ q ∷ []) (steps_enough es h k.edge (edge_at es k.edge).from (edge_at es k.edge).from (omega arith) o (omega arith) ∙ ap (λ m. path_in es m m) x) y

path_leads : (es : List Edge) (h : (k : ℕ) → k < length es → (edge_at es k).from ≤ k) (n : ℕ) (ls : List Label) (m : ℕ) → Leads es n ls m → path es m ≡ path es n ++ ls
path_leads es h n [] m e = ap (path es) (sym e) ∙ sym (Rattle.std.proofs.Common.append-nil (path es n))
path_leads es h n (l ∷ ls) m (c, k, r) = path_leads es h c ls m r ∙ ap (λ p. p ++ ls) (path_child es h n c l k) ∙ append_assoc (path es n) (l ∷ []) ls

cancel : {A : Type 0} (xs ys zs : List A) → xs ++ ys ≡ xs ++ zs → ys ≡ zs
cancel [] ys zs e = e
cancel (x ∷ xs) ys zs e = cancel xs ys zs cc

-- there is one way from a node to another
pub one_way : (es : List Edge) → ((k : ℕ) → k < length es → (edge_at es k).from ≤ k) → (n : ℕ) (ls ms : List Label) (m : ℕ) → Leads es n ls m → Leads es n ms m → ls ≡ ms
one_way es h n ls ms m a b = cancel (path es n) ls ms (sym (path_leads es h n ls m a) ∙ path_leads es h n ms m b)

pub leads_append : (es : List Edge) (n m k : ℕ) (ls ms : List Label) → Leads es n ls m → Leads es m ms k → Leads es n (ls ++ ms) k
leads_append es n m k [] ms a b = subst (λ x. Leads es x ms k) (sym a) b
leads_append es n m k (l ∷ ls) ms (c, i, r) b = (c, i, leads_append es c m k ls ms r b)

pub leads_kept : (es fs : List Edge) → KeepsEdges es fs → (n : ℕ) (ls : List Label) (m : ℕ) → Leads es n ls m → Leads fs n ls m
leads_kept es fs h n [] m a = a
leads_kept es fs h n (l ∷ ls) m (c, i, r) = (c, h n l c i, leads_kept es fs h c ls m r)

pub leads_split : (es : List Edge) (n k : ℕ) (ls ms : List Label) → Leads es n (ls ++ ms) k → (m : ℕ) × Leads es n ls m × Leads es m ms k
leads_split es n k [] ms a = (n, refl, a)
leads_split es n k (l ∷ ls) ms (c, i, r) = let s = leads_split es c k ls ms r in (s.0, (c, i, s.1), s.2)

-- labels lead to one node
pub leads_once : (es : List Edge) → ((i j : ℕ) → i < length es → j < length es → edge_at es i ≡ edge_at es j → i ≡ j) → (n : ℕ) (ls : List Label) (m k : ℕ) → Leads es n ls m → Leads es n ls k → m ≡ k
leads_once es once n [] m k a b = sym a ∙ b
leads_once es once n (l ∷ ls) m k (c, i, r) (d, j, s) =
    let e = once i.edge j.edge i.within j.within (i.is ∙ sym j.is) in
    let q : d ≡ c = omega (arith, i.number, j.number) in
    leads_once es once c ls m k r (subst (λ x. Leads es x ls k) q s)

-- edges lead to later nodes
pub leads_up : (es : List Edge) → ((k : ℕ) → k < length es → (edge_at es k).from ≤ k) → (n : ℕ) (ls : List Label) (m : ℕ) → Leads es n ls m → n + length ls ≤ m
leads_up es h n [] m a = omega (arith, a)
leads_up es h n (l ∷ ls) m (c, i, r) =
    let o = h i.edge i.within in
    let e : (edge_at es i.edge).from ≡ n = ap (λ (x : Edge). x.from) i.is in
    let u = leads_up es h c ls m r in
    omega (arith, i.number, o, e, u)

-- and to nodes
pub leads_in : (es : List Edge) (n : ℕ) (ls : List Label) (m : ℕ) → n ≤ length es → Leads es n ls m → m ≤ length es
leads_in es n [] m w h = subst (λ x. x ≤ length es) h w
leads_in es n (l ∷ ls) m w (c, k, r) = leads_in es c ls m (omega (arith, k.number, k.within)) r

-- each node has a way from the root
pub from_root : (es : List Edge) → ((k : ℕ) → k < length es → (edge_at es k).from ≤ k) → (n : ℕ) → n ≤ length es → (ls : List Label) × Leads es 0 ls n
from_root es h n w = up n n w (omega arith)
  where
    up : (fuel n : ℕ) → n ≤ length es → n ≤ fuel → (ls : List Label) × Leads es 0 ls n
    up fuel zero w b = ([], refl)
    up zero (suc n) w b = absurd (omega arith)
    up (suc fuel) (suc n) w b =
        let o = h n (omega arith) in
        let r = up fuel (edge_at es n).from (omega arith) (omega arith) in
        let k : IsChild es (edge_at es n).from (edge_at es n).label (suc n) = record { edge = n; number = omega arith; within = omega arith; is = refl } in
        (r.0 ++ (edge_at es n).label ∷ [], leads_append es 0 (edge_at es n).from (suc n) r.0 ((edge_at es n).label ∷ []) r.1 (suc n, k, refl))
