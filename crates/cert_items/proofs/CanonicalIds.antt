-- The test of canonical form by ids.
use Rattle.std.proofs.Common.{◌≡◌, ℕ, ◌<◌, List, [], ◌∷◌, length, map, refl, sym, ap, ap₂, ◌∙◌, true}
use Rattle.std.proofs.lemmas.List.Elements.{All-head, All-tail}
use Rattle.inst_logic.specs.declared.signed.Signed.{Signed}
use Rattle.inst_logic.specs.Tree.{Tree, var}
use Rattle.inst_logic.specs.Lists.{distinct}
use Rattle.inst_logic.specs.Equal.{literal_eq}
use Rattle.inst_logic.specs.Substitution.{subst_literal, clause_vars}
use Rattle.inst_logic.specs.Clauses.{TreeClause, IsCanonical, canonical_form, numbered, order_of}
use Rattle.inst_logic.proofs.SameLemmas.{literal_eq_decides}
use Rattle.inst_calculus.proofs.Clauses.{literal_var, literals_agree}
use Rattle.inst_calculus.proofs.Membership.{◌∈◌, all_in}
use Rattle.inst_calculus.proofs.Distinct.{distinct_map}
use Rattle.term_bank.specs.Forest.{Forest, clause_at, literal_tree, IsClauseAt, IsClauseOf, Extends, AreDistinct}
use Rattle.clause_form.specs.Literals.{id_eq}
use Rattle.clause_form.proofs.Assembly.{id_eq_decides}
use Rattle.term_bank.proofs.Clauses.{same_literal}
use Rattle.cert_items.specs.Orders.{in_order}
use Rattle.cert_items.proofs.Clauses.{grown_clause}
use Rattle.cert_items.proofs.Orders.{own_numbers}

first_of_two : (l m : Signed Tree) (ls ms : TreeClause) → l ∷ ls ≡ m ∷ ms → (l ≡ m) × (ls ≡ ms)
first_of_two l m ls ms h = (cc, cc)

-- equal clauses of trees have equal ids
same_ids : (f : Forest) (c d : List (Signed ℕ)) → AreDistinct f.trees → IsClauseOf f c → IsClauseOf f d → clause_at f c ≡ clause_at f d → c ≡ d
same_ids f [] [] k p q h = refl
same_ids f [] (m ∷ d) k p q h = absurd cc
same_ids f (l ∷ c) [] k p q h = absurd cc
same_ids f (l ∷ c) (m ∷ d) k p q h =
    let two = first_of_two _ _ _ _ h in
    let i = All-head (λ (x : Signed ℕ). x.atom < length f.trees) l c p in
    let j = All-head (λ (x : Signed ℕ). x.atom < length f.trees) m d q in
    let atom : l.atom ≡ m.atom = k l.atom m.atom i j (ap (λ (x : Signed Tree). x.atom) two.0) in
    let sign : l.positive ≡ m.positive = ap (λ (x : Signed Tree). x.positive) two.0 in
    let rest = same_ids f c d k (All-tail (λ (x : Signed ℕ). x.atom < length f.trees) l c p) (All-tail (λ (x : Signed ℕ). x.atom < length f.trees) m d q) two.1 in
    λ n. record { positive = sign n; atom = atom n } ∷ rest n

-- the ids of the canonical form are those of the clause
pub canonical_yes : (f g : Forest) (c d : List (Signed ℕ)) → Extends f g → IsClauseOf f c → IsClauseAt g d (canonical_form (clause_at f c)) → d ≡ c → IsCanonical (clause_at f c)
canonical_yes f g c d grows of at same = sym at.1 ∙ ap (clause_at g) same ∙ (grown_clause f g c (clause_at f c) grows (of, refl)).1

pub canonical_no : (f g : Forest) (c d : List (Signed ℕ)) → Extends f g → AreDistinct g.trees → IsClauseOf f c → IsClauseAt g d (canonical_form (clause_at f c)) → IsCanonical (clause_at f c) → d ≡ c
canonical_no f g c d grows distinct_ of at is =
    let k = grown_clause f g c (clause_at f c) grows (of, refl) in
    same_ids g d c distinct_ at.0 k.0 (at.1 ∙ is ∙ sym k.1)

literals_var : (c : TreeClause) → map (subst_literal var) c ≡ c
literals_var [] = refl
literals_var (l ∷ c) = ap₂ (λ (k : Signed Tree) (d : TreeClause). k ∷ d) (literal_var l) (literals_var c)

-- a clause that has its variables in order and stands for no literal twice
pub seen_canonical : (f : Forest) (c : List (Signed ℕ)) → AreDistinct f.trees → IsClauseOf f c → in_order 0 (clause_vars (clause_at f c)) ≡ true → distinct id_eq c ≡ c → IsCanonical (clause_at f c)
seen_canonical f c once of order same =
    let t = clause_at f c in
    let inside = λ (k : Signed ℕ) (i : k ∈ c). all_in (λ (l : Signed ℕ). l.atom < length f.trees) c of k i in
    ap (distinct literal_eq) (literals_agree (numbered (order_of t)) var t (own_numbers t order) ∙ literals_var t)
    ∙ distinct_map id_eq id_eq_decides literal_eq literal_eq_decides (literal_tree f) c (λ k i l j h. same_literal f once k l (inside k i) (inside l j) h)
    ∙ ap (clause_at f) same
