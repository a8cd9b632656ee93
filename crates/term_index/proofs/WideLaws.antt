-- The test of wide atoms, and what it means.
use Rattle.std.proofs.Common.{◌≡◌, ◌<◌, ◌≤◌, ◌+◌, ℕ, Bool, true, false, ◌&&◌, length, refl, sym, ◌∙◌, ap, ap₂, arith, cond, nat_lt, length-append}
use Rattle.inst_logic.specs.Tree.{Tree, var, app, Trees, none, more}
use Rattle.inst_logic.specs.Equal.{sym_eq}
use Rattle.inst_logic.specs.declared.symbol.Sym.{Sym}
use Rattle.inst_logic.specs.EqualLaws.{and_left, and_right, and_both, sym_eq_decides}
use Rattle.inst_logic.specs.Substitution.{Substitution, subst as apply, substs, tree_vars, trees_vars, Matches}
use Rattle.term_index.specs.declared.view.View.{View}
use Rattle.term_index.specs.declared.view.View.TheVariants.{Unifiable, Generalisations, Instances}
use Rattle.term_index.specs.Views.{Stands}
use Rattle.term_index.specs.Wide.{linear, linears, IsWide, meets, all_meet}

-- the parts of an equation of applications
head_of : Tree → Sym → Sym
head_of (var v) s = s
head_of (app r ts) s = r

rest_of : Tree → Trees
rest_of (var v) = none
rest_of (app r ts) = ts

-- trees that become equal meet
mutual
  unify_meets : (s r : Substitution) (a q : Tree) → apply s a ≡ apply r q → meets Unifiable a q ≡ true
  unify_meets s r (var m) (var n) e = refl
  unify_meets s r (var m) (app g us) e = refl
  unify_meets s r (app f ts) (var n) e = refl
  unify_meets s r (app f ts) (app g us) e =
      let h : f ≡ g = cc in
      let k : substs s ts ≡ substs r us = cc in
      and_both _ _ ((sym_eq_decides f g).1 h) (all_unify_meet s r ts us k)

  all_unify_meet : (s r : Substitution) (ts us : Trees) → substs s ts ≡ substs r us → all_meet Unifiable ts us ≡ true
  all_unify_meet s r none none e = refl
  all_unify_meet s r none (more u us) e = cc
  all_unify_meet s r (more t ts) none e = cc
  all_unify_meet s r (more t ts) (more u us) e =
      let h : apply s t ≡ apply r u = cc in
      let k : substs s ts ≡ substs r us = cc in
      and_both _ _ (unify_meets s r t u h) (all_unify_meet s r ts us k)

mutual
  match_meets : (s : Substitution) (a q : Tree) → apply s a ≡ q → meets Generalisations a q ≡ true
  match_meets s (var m) (var n) e = refl
  match_meets s (var m) (app g us) e = refl
  match_meets s (app f ts) (var n) e = cc
  match_meets s (app f ts) (app g us) e =
      let h : f ≡ g = cc in
      let k : substs s ts ≡ us = cc in
      and_both _ _ ((sym_eq_decides f g).1 h) (all_match_meet s ts us k)

  all_match_meet : (s : Substitution) (ts us : Trees) → substs s ts ≡ us → all_meet Generalisations ts us ≡ true
  all_match_meet s none none e = refl
  all_match_meet s none (more u us) e = cc
  all_match_meet s (more t ts) none e = cc
  all_match_meet s (more t ts) (more u us) e =
      let h : apply s t ≡ u = cc in
      let k : substs s ts ≡ us = cc in
      and_both _ _ (match_meets s t u h) (all_match_meet s ts us k)

-- an instance is a generalisation the other way round
mutual
  turned : (a q : Tree) → meets Generalisations q a ≡ true → meets Instances a q ≡ true
  turned (var m) (var n) e = refl
  turned (var m) (app g us) e = e
  turned (app f ts) (var n) e = refl
  turned (app f ts) (app g us) e =
      and_both _ _ ((sym_eq_decides f g).1 (sym ((sym_eq_decides g f).0 (and_left _ _ e)))) (all_turned ts us (and_right (sym_eq g f) _ e))

  all_turned : (ts us : Trees) → all_meet Generalisations us ts ≡ true → all_meet Instances ts us ≡ true
  all_turned none none e = refl
  all_turned none (more u us) e = e
  all_turned (more t ts) none e = e
  all_turned (more t ts) (more u us) e = and_both _ _ (turned t u (and_left _ _ e)) (all_turned ts us (and_right (meets Generalisations u t) _ e))

mutual
  turned_back : (a q : Tree) → meets Instances a q ≡ true → meets Generalisations q a ≡ true
  turned_back (var m) (var n) e = refl
  turned_back (var m) (app g us) e = e
  turned_back (app f ts) (var n) e = refl
  turned_back (app f ts) (app g us) e =
      and_both _ _ ((sym_eq_decides g f).1 (sym ((sym_eq_decides f g).0 (and_left _ _ e)))) (all_turned_back ts us (and_right (sym_eq f g) _ e))

  all_turned_back : (ts us : Trees) → all_meet Instances ts us ≡ true → all_meet Generalisations us ts ≡ true
  all_turned_back none none e = refl
  all_turned_back none (more u us) e = e
  all_turned_back (more t ts) none e = e
  all_turned_back (more t ts) (more u us) e = and_both _ _ (turned_back t u (and_left _ _ e)) (all_turned_back ts us (and_right (meets Instances t u) _ e))

-- what stands meets
pub stands_meets : (v : View) (a q : Tree) → Stands v a q → meets v a q ≡ true
stands_meets Unifiable a q s = unify_meets s.0.left s.0.right a q s.1
stands_meets Generalisations a q s = match_meets s.0 a q s.1
stands_meets Instances a q s = turned a q (match_meets s.0 q a s.1)

-- the test looks at no variable's number
mutual
  pub meets-linear : (v : View) (m n : ℕ) (a q : Tree) → meets v (linear m a) (linear n q) ≡ meets v a q
  meets-linear v m n (var x) (var y) = refl
  meets-linear v m n (var x) (app g us) = refl
  meets-linear v m n (app f ts) (var y) = refl
  meets-linear v m n (app f ts) (app g us) = ap (λ b. sym_eq f g && b) (all_meet-linears v m n ts us)

  all_meet-linears : (v : View) (m n : ℕ) (ts us : Trees) → all_meet v (linears m ts) (linears n us) ≡ all_meet v ts us
  all_meet-linears v m n none none = refl
  all_meet-linears v m n none (more u us) = refl
  all_meet-linears v m n (more t ts) none = refl
  all_meet-linears v m n (more t ts) (more u us) =
      ap₂ (λ a b. a && b) (meets-linear v m n t u) (all_meet-linears v (m + length (tree_vars t)) (n + length (tree_vars u)) ts us)

mutual
  meets-linear_query : (v : View) (n : ℕ) (a q : Tree) → meets v a (linear n q) ≡ meets v a q
  meets-linear_query v n (var x) (var y) = refl
  meets-linear_query v n (var x) (app g us) = refl
  meets-linear_query v n (app f ts) (var y) = refl
  meets-linear_query v n (app f ts) (app g us) = ap (λ b. sym_eq f g && b) (all_meet-linears_query v n ts us)

  all_meet-linears_query : (v : View) (n : ℕ) (ts us : Trees) → all_meet v ts (linears n us) ≡ all_meet v ts us
  all_meet-linears_query v n none none = refl
  all_meet-linears_query v n none (more u us) = refl
  all_meet-linears_query v n (more t ts) none = refl
  all_meet-linears_query v n (more t ts) (more u us) =
      ap₂ (λ a b. a && b) (meets-linear_query v n t u) (all_meet-linears_query v (n + length (tree_vars u)) ts us)

-- a linear tree under substitutions that agree at its variables
mutual
  agree : (s r : Substitution) (n : ℕ) (t : Tree) → ((v : ℕ) → n ≤ v → v < n + length (tree_vars t) → s v ≡ r v) → apply s (linear n t) ≡ apply r (linear n t)
  agree s r n (var x) h = h n (omega arith) (omega arith)
  agree s r n (app f ts) h = ap (app f) (all_agree s r n ts h)

  all_agree : (s r : Substitution) (n : ℕ) (ts : Trees) → ((v : ℕ) → n ≤ v → v < n + length (trees_vars ts) → s v ≡ r v) → substs s (linears n ts) ≡ substs r (linears n ts)
  all_agree s r n none h = refl
  all_agree s r n (more t ts) h =
      let e = length-append (tree_vars t) (trees_vars ts) in
      ap₂ more
      (agree s r n t (λ v a b. h v a (omega (arith, e))))
      (all_agree s r (n + length (tree_vars t)) ts (λ v a b. h v (omega arith) (omega (arith, e))))

-- one substitution below a number, and another from it on
below : ℕ → Substitution → Substitution → Substitution
below k s r v = cond (nat_lt v k) (s v) (r v)

below_first : (k : ℕ) (s r : Substitution) (v : ℕ) → v < k → below k s r v ≡ s v
unfolding below
below_first k s r v h = by (nat_lt v k) refl
  where
    by : (b : Bool) → nat_lt v k ≡ b → cond b (s v) (r v) ≡ s v
    by true e = refl
    by false e = absurd (grind (arith, Rattle.std.proofs.lemmas.Bool.Decides.nat_tests))

below_second : (k : ℕ) (s r : Substitution) (v : ℕ) → k ≤ v → below k s r v ≡ r v
unfolding below
below_second k s r v h = by (nat_lt v k) refl
  where
    by : (b : Bool) → nat_lt v k ≡ b → cond b (s v) (r v) ≡ r v
    by true e = absurd (grind (arith, Rattle.std.proofs.lemmas.Bool.Decides.nat_tests))
    by false e = refl

-- a linear tree becomes each tree that it meets
mutual
  becomes : (n : ℕ) (a c : Tree) → meets Generalisations a c ≡ true → Matches (linear n a) c
  becomes n (var x) c e = (λ _. c, refl)
  becomes n (app f ts) (var y) e = cc
  becomes n (app f ts) (app g us) e =
      let h : f ≡ g = (sym_eq_decides f g).0 (and_left _ _ e) in
      let r = all_become n ts us (and_right (sym_eq f g) _ e) in
      (r.0, ap₂ app h r.1)

  all_become : (n : ℕ) (ts us : Trees) → all_meet Generalisations ts us ≡ true → (s : Substitution) × (substs s (linears n ts) ≡ us)
  all_become n none none e = (λ v. var v, refl)
  all_become n none (more u us) e = cc
  all_become n (more t ts) none e = cc
  all_become n (more t ts) (more u us) e =
      let k = n + length (tree_vars t) in
      let p = becomes n t u (and_left _ _ e) in
      let r = all_become k ts us (and_right (meets Generalisations t u) _ e) in (
        below k p.0 r.0,
        ap₂ more
            (agree (below k p.0 r.0) p.0 n t (λ v a b. below_first k p.0 r.0 v b) ∙ p.1)
            (all_agree (below k p.0 r.0) r.0 k ts (λ v a b. below_second k p.0 r.0 v a) ∙ r.1),
      )

-- a tree that both sides become
mutual
  common : Tree → Tree → Tree
  common (var m) q = q
  common (app f ts) (var n) = app f ts
  common (app f ts) (app g us) = app f (commons ts us)

  commons : Trees → Trees → Trees
  commons none us = none
  commons (more t ts) none = none
  commons (more t ts) (more u us) = more (common t u) (commons ts us)

mutual
  itself : (a : Tree) → meets Generalisations a a ≡ true
  itself (var m) = refl
  itself (app f ts) = and_both _ _ ((sym_eq_decides f f).1 refl) (all_themselves ts)

  all_themselves : (ts : Trees) → all_meet Generalisations ts ts ≡ true
  all_themselves none = refl
  all_themselves (more t ts) = and_both _ _ (itself t) (all_themselves ts)

var_meets : (m : ℕ) (q : Tree) → meets Generalisations (var m) q ≡ true
var_meets m (var n) = refl
var_meets m (app g us) = refl

mutual
  unfolding common commons

  meets_left : (a q : Tree) → meets Unifiable a q ≡ true → meets Generalisations a (common a q) ≡ true
  meets_left (var m) q e = var_meets m q
  meets_left (app f ts) (var n) e = itself (app f ts)
  meets_left (app f ts) (app g us) e = and_both _ _ ((sym_eq_decides f f).1 refl) (all_meet_left ts us (and_right (sym_eq f g) _ e))

  all_meet_left : (ts us : Trees) → all_meet Unifiable ts us ≡ true → all_meet Generalisations ts (commons ts us) ≡ true
  all_meet_left none us e = refl
  all_meet_left (more t ts) none e = e
  all_meet_left (more t ts) (more u us) e = and_both _ _ (meets_left t u (and_left _ _ e)) (all_meet_left ts us (and_right (meets Unifiable t u) _ e))

mutual
  unfolding common commons

  meets_right : (a q : Tree) → meets Unifiable a q ≡ true → meets Generalisations q (common a q) ≡ true
  meets_right (var m) q e = itself q
  meets_right (app f ts) (var n) e = refl
  meets_right (app f ts) (app g us) e =
      and_both _ _ ((sym_eq_decides g f).1 (sym ((sym_eq_decides f g).0 (and_left _ _ e)))) (all_meet_right ts us (and_right (sym_eq f g) _ e))

  all_meet_right : (ts us : Trees) → all_meet Unifiable ts us ≡ true → all_meet Generalisations us (commons ts us) ≡ true
  all_meet_right none none e = refl
  all_meet_right none (more u us) e = e
  all_meet_right (more t ts) none e = refl
  all_meet_right (more t ts) (more u us) e = and_both _ _ (meets_right t u (and_left _ _ e)) (all_meet_right ts us (and_right (meets Unifiable t u) _ e))

-- what meets is wide
pub meets_wide : (v : View) (a q : Tree) → meets v a q ≡ true → IsWide v a q
meets_wide Unifiable a q e =
    let l = becomes 0 a (common a q) (meets_left a q e) in
    let r = becomes 0 q (common a q) (meets_right a q e) in
    (record { left = l.0; right = r.0 }, l.1 ∙ sym r.1)
meets_wide Generalisations a q e = becomes 0 a (linear 0 q) (meets-linear_query Generalisations 0 a q ∙ e)
meets_wide Instances a q e = becomes 0 q (linear 0 a) (meets-linear_query Generalisations 0 q a ∙ turned_back a q e)

-- and nothing else is
pub wide_meets : (v : View) (a q : Tree) → IsWide v a q → meets v a q ≡ true
wide_meets v a q h = sym (meets-linear v 0 0 a q) ∙ stands_meets v (linear 0 a) (linear 0 q) h
