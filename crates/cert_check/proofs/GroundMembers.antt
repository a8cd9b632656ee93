-- The ground clauses of the members under one term.
use Rattle.std.proofs.Common.{◌≡◌, ℕ, suc, ◌≤◌, List, [], ◌∷◌, refl, ap, ap₂, sym, ◌∙◌, map, subst, arith, length, get_or}
use Rattle.std.specs.Prelude.{◌↔◌, All, option_map, slice_get}
use Rattle.std.proofs.lemmas.List.{length-map}
use Rattle.std.proofs.lemmas.List.Elements.{All-head, All-tail}
use Rattle.std.proofs.lemmas.Option.{slice_get-map}
use Rattle.inst_logic.specs.declared.signed.Signed.{Signed}
use Rattle.inst_logic.specs.declared.symbol.Sym.{Sym}
use Rattle.inst_logic.specs.Tree.{Tree, app, none}
use Rattle.inst_logic.specs.Equal.{literal_eq}
use Rattle.inst_logic.specs.Lists.{distinct}
use Rattle.inst_logic.specs.Substitution.{Substitution, clause_vars}
use Rattle.inst_logic.specs.Clauses.{TreeClause, IsCanonical, instance, numbered, order_of}
use Rattle.inst_logic.proofs.ShownLaws.{All-from_slice_get}
use Rattle.inst_calculus.specs.Abstraction.{abstraction}
use Rattle.inst_calculus.specs.Entries.{Entry, entry_clauses}
use Rattle.inst_calculus.proofs.CanonicalForms.{canonical_variable_below}
use Rattle.inst_calculus.proofs.Clauses.{literals_agree}
use Rattle.inst_calculus.proofs.Membership.{◌∈◌, all_in}
use Rattle.term_bank.specs.Forest.{Forest, Extends, IsAt, IsClauseOf, clause_at, tree_at}
use Rattle.term_bank.proofs.Clauses.{clause_extends, clause_of_extends, clauses_extend}
use Rattle.clause_form.specs.Conclusions.{by_terms}
use Rattle.cert_format.specs.Validity.{IsRightMember}
use Rattle.cert_values.specs.declared.certificate.Base.{Base}
use Rattle.cert_values.specs.declared.member.Member.{Member}
use Rattle.cert_values.specs.Values.{base_of, entry_of}
use Rattle.cert_check.specs.Grounds.{AreCanonicalMembers, IsGroundAt}
use Rattle.cert_values.specs.Wholes.{IsWholeBase, KeepsBase}
use Rattle.cert_check.proofs.Bases.{member_canonical}
use Rattle.cert_check.proofs.CoverLaws.{canonical_later}

-- where each of the terms is the same, so is the instance
pub same_instance : (f : Forest) (terms : List ℕ) (term : ℕ) (c : TreeClause) → IsCanonical c → length (order_of c) ≤ length terms → All (λ id. id ≡ term) terms
    → instance (by_terms f terms) c ≡ instance (λ _. tree_at f term) c
same_instance f terms term c canonical enough same =
    ap (distinct literal_eq) (literals_agree (by_terms f terms) (λ _. tree_at f term) c
    (λ v i. ap (tree_at f) (same v 0 (let l = canonical_variable_below c v (subst (λ (d : TreeClause). v ∈ clause_vars d) (sym canonical) i) in omega (arith, l, enough)))))

-- a canonical clause without variables is its one instance
pub ground_instance : (s : Substitution) (c : TreeClause) → IsCanonical c → clause_vars c ≡ [] → instance s c ≡ c
ground_instance s c canonical empty =
    ap (distinct literal_eq) (literals_agree s (numbered (order_of c)) c (λ v i. absurd (subst (λ (vs : List ℕ). v ∈ vs) empty i))) ∙ canonical

pub at_grown : (f g : Forest) → Extends f g → (id : ℕ) (t : Tree) → IsAt f id t → IsAt g id t
at_grown f g grown id t h = (omega (arith, h.0, grown.trees.0), grown.trees.1 id h.0 ∙ h.1)

abbrev pub abstractions : Sym → Forest → List Member → List TreeClause
abstractions bot f ms = map (abstraction bot) (entry_clauses (map (entry_of f) ms))

pub count_same : (bot : Sym) (f : Forest) (ms : List Member) → length (abstractions bot f ms) ≡ length ms
count_same bot f ms =
    length-map (entry_clauses (map (entry_of f) ms)) (abstraction bot) ∙ length-map (map (entry_of f) ms) (λ (e : Entry). e.clause) ∙ length-map ms (entry_of f)

-- an instance under the constant is the abstraction
abstraction_grown : (bot : Sym) (f g : Forest) → Extends f g → (constant : ℕ) (c : List (Signed ℕ)) → IsClauseOf f c → tree_at g constant ≡ app bot none → instance (λ _. tree_at g constant) (clause_at g c) ≡ abstraction bot (clause_at f c)
abstraction_grown bot f g grown constant c ids at =
    ap (λ (d : TreeClause). instance (λ _. tree_at g constant) d) (clause_extends f g grown c ids) ∙ ap (λ (t : Tree). instance (λ _. t) (clause_at f c)) at

pub canonical_members : (b : Base) → ((n : ℕ) → IsRightMember (base_of b) n) → AreCanonicalMembers b.bank b.members
canonical_members b right =
    All-from_slice_get (λ (m : Member). IsCanonical (clause_at b.bank m.clause)) b.members
    (λ k m at. member_canonical (base_of b) (suc k) (right (suc k)) (entry_of b.bank m) (slice_get-map (entry_of b.bank) b.members k ∙ ap (option_map (entry_of b.bank)) at))

-- the members and ground clauses in a bank that has grown
module _ (f g : Forest) (grown : Extends f g) where
  pub grounds_of : (cs : List (List (Signed ℕ))) → All (IsClauseOf f) cs → All (IsClauseOf g) cs
  grounds_of cs h i d within = clause_of_extends f g grown (get_or cs i d) (h i d within)

  module _ (bot : Sym) (constant : ℕ) (at : tree_at g constant ≡ app bot none) where
    all_abstracted : (ms : List Member) → All (λ m. IsClauseOf f m.clause) ms → map (λ m. instance (λ _. tree_at g constant) (clause_at g m.clause)) ms ≡ abstractions bot f ms
    all_abstracted [] h = refl
    all_abstracted (m ∷ ms) h = ap₂ (λ x xs. x ∷ xs)
        (abstraction_grown bot f g grown constant m.clause (All-head (λ (x : Member). IsClauseOf f x.clause) m ms h) at)
        (all_abstracted ms (All-tail (λ (x : Member). IsClauseOf f x.clause) m ms h))

    -- a right ground clause at place i in the grown bank is right in the first one
    ground_same : (ms : List Member) (cs : List (List (Signed ℕ))) → All (λ m. IsClauseOf f m.clause) ms → All (IsClauseOf f) cs → (i : ℕ)
        → IsGroundAt g constant ms cs i ↔ (slice_get (map (clause_at f) cs) i ≡ slice_get (abstractions bot f ms) i)
    ground_same ms cs in_ms in_cs i = ((λ e. sym left ∙ e ∙ right), (λ e. left ∙ e ∙ sym right))
      where
        left : option_map (clause_at g) (slice_get cs i) ≡ slice_get (map (clause_at f) cs) i
        left = sym (slice_get-map (clause_at g) cs i) ∙ ap (λ (xs : List TreeClause). slice_get xs i) (clauses_extend f g grown cs (all_in (IsClauseOf f) cs in_cs))

        right : option_map (λ m. instance (λ _. tree_at g constant) (clause_at g m.clause)) (slice_get ms i) ≡ slice_get (abstractions bot f ms) i
        right = sym (slice_get-map (λ (m : Member). instance (λ _. tree_at g constant) (clause_at g m.clause)) ms i) ∙ ap (λ (xs : List TreeClause). slice_get xs i) (all_abstracted ms in_ms)

-- and of a base that was kept
module _ (a b : Base) (whole : IsWholeBase a) (kept : KeepsBase a b) where
  members_kept : b.members ≡ a.members
  members_kept = ap (λ (x : Base). x.members) kept.rest

  pub canonical_kept : AreCanonicalMembers a.bank a.members → AreCanonicalMembers b.bank b.members
  canonical_kept h = subst (AreCanonicalMembers b.bank) (sym members_kept) (canonical_later a.bank b.bank kept.bank a.members whole.members h)

  pub ground_kept : (bot : Sym) (constant : ℕ) → tree_at b.bank constant ≡ app bot none → (cs : List (List (Signed ℕ))) → All (IsClauseOf a.bank) cs → (i : ℕ)
      → IsGroundAt b.bank constant b.members cs i ↔ (slice_get (map (clause_at a.bank) cs) i ≡ slice_get (abstractions bot a.bank a.members) i)
  ground_kept bot constant at cs in_cs i =
      subst (λ (ms : List Member). IsGroundAt b.bank constant ms cs i ↔ (slice_get (map (clause_at a.bank) cs) i ≡ slice_get (abstractions bot a.bank a.members) i)) (sym members_kept)
      (ground_same a.bank b.bank kept.bank bot constant at a.members cs (λ k d within. (whole.members k d within).ids) in_cs i)
