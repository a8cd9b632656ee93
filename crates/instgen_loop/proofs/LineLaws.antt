-- Ground lines over a bank.
use Rattle.std.proofs.Common.{◌≡◌, ℕ, zero, suc, ◌+◌, ◌-◌, ◌<◌, ◌≤◌, List, [], ◌∷◌, ◌++◌, inl, refl, inr, sym, ap, ap₂, ◌∙◌, subst as transport, map, length, length-append, append_assoc, append-nil, get_or, arith, nat_eq, true, All, Some}
use Rattle.std.specs.Prelude.{IsTrue, option_map, slice_get}
use Rattle.std.proofs.lemmas.Bool.Decides.{Decides-eqb}
use Rattle.std.proofs.lemmas.List.{get_or-map}
use Rattle.inst_logic.specs.declared.signed.Signed.{Signed}
use Rattle.inst_logic.specs.declared.symbol.Sym.{Sym}
use Rattle.inst_logic.specs.Tree.{var, app, none}
use Rattle.inst_logic.specs.Clauses.{TreeClause, instance, order_of, IsCanonical}
use Rattle.inst_logic.specs.Derivations.{at_number}
use Rattle.inst_logic.specs.Substitution.{clause_vars}
use Rattle.inst_logic.specs.WellFormed.{IsTerm, is_constant, is_function_kind}
use Rattle.inst_logic.proofs.Membership.{map_agree}
use Rattle.inst_logic.proofs.SameLemmas.{and_left, and_right, and_both}
use Rattle.inst_logic.proofs.ShownLaws.{at_number_append, at_number_contains}
use Rattle.inst_calculus.specs.Unrolling.{Grounded as TreeGrounded, IsGrounded, AreMade, all_unrolled, each_once, in_order, instance_in_order, clause_or_empty}
use Rattle.inst_calculus.proofs.CanonicalVariables.{canonical_term}
use Rattle.inst_calculus.proofs.CanonicalForms.{canonical_variable_below}
use Rattle.inst_calculus.proofs.Clauses.{instance_agree}
use Rattle.inst_calculus.proofs.Distinct.{length_map, map_append, in_distinct, place, place_below, item_at_place}
use Rattle.inst_calculus.proofs.Items.{same_item, at_number_within}
use Rattle.inst_calculus.proofs.Membership.{◌∈◌, contains_in, all_in, in_all, in_map, in_either}
use Rattle.inst_calculus.proofs.StepLaws.{at_number_map}
use Rattle.term_bank.specs.Forest.{Forest, AreFormed, AreIds, Extends, IsClauseOf, IsClauseAt, clause_at, tree_at}
use Rattle.term_bank.proofs.Clauses.{clause_extends, clause_of_extends, clauses_extend}
use Rattle.term_bank.proofs.Growth.{extends_itself, extends_trans, ids_extend, map_extends}
use Rattle.clause_form.specs.Conclusions.{AreTermIds, by_terms}
use Rattle.engine_laws.specs.GroundLines.{ground_line, ground_lines}
use Rattle.global_subs.specs.declared.made.Grounded.{Grounded}
use Rattle.global_subs.specs.declared.made.Made.{Made}
use Rattle.global_subs.specs.Unrolls.{AreEntriesOf, entries_at, grounded_at, made_at, terms_of}
use Rattle.global_subs.proofs.TaskLaws.{entries_same}
use Rattle.cert_values.specs.declared.certificate.GroundLine.{GroundLine}
use Rattle.cert_values.specs.Values.{line_of}
use Rattle.instgen_loop.specs.declared.start.Given.{Given}
use Rattle.instgen_loop.specs.Lines.{given_of, given_trees, HasClauses, IsLineIn, IsLineOf}

-- Numbers over two lists

pub in_first : {A : Type 0} (xs ys : List A) (n : ℕ) (x : A) → 0 < n → slice_get xs (n - 1) ≡ Some x → at_number (xs ++ ys) n ≡ Some x
in_first xs ys zero x p e = absurd (omega (arith, p))
in_first xs ys (suc i) x p e = at_number_append xs ys (suc i) x (let q : suc i - 1 ≡ i = omega arith in ap (slice_get xs) (sym q) ∙ e)

pub in_second : {A : Type 0} (xs ys : List A) (n k : ℕ) (x : A) → n ≡ length xs + suc k → slice_get ys k ≡ Some x → at_number (xs ++ ys) n ≡ Some x
in_second xs ys n k x p e = ap (at_number (xs ++ ys)) (p ∙ over) ∙ go xs
  where
    over : length xs + suc k ≡ suc (length xs + k)
    over = omega arith

    go : (zs : List _) → slice_get (zs ++ ys) (length zs + k) ≡ Some x
    go [] = let q : 0 + k ≡ k = omega arith in ap (slice_get ys) q ∙ e
    go (z ∷ zs) = let q : suc (length zs) + k ≡ suc (length zs + k) = omega arith in ap (slice_get ((z ∷ zs) ++ ys)) q ∙ go zs

-- A canonical clause under terms

module _ (c : TreeClause) (canonical : IsCanonical c) where
  -- variables stand at their own places
  own_place : (v : ℕ) → v ∈ clause_vars c → place v (order_of c) ≡ v
  own_place v i =
      let j = in_distinct nat_eq Decides-eqb v (clause_vars c) i in
      let below = place_below v (order_of c) j in
      let p = canonical_term (λ w. var w) c (place v (order_of c)) (var 0) canonical below in
      let q = get_or-map (λ w. var w) (order_of c) (place v (order_of c)) 0 (var 0) below in
      let r = item_at_place v (order_of c) j in
      same_variable (place v (order_of c)) v (sym p ∙ q ∙ ap (λ w. var w) r)
    where
      same_variable : (a b : ℕ) → var a ≡ var b → a ≡ b
      same_variable a b e = cc

  pub by_places : (f : Forest) (ids : List ℕ) → length (order_of c) ≤ length ids → instance (by_terms f ids) c ≡ instance_in_order c (map (tree_at f) ids)
  by_places f ids enough = instance_agree (by_terms f ids) (in_order (order_of c) (map (tree_at f) ids)) c (λ v i.
      let below : v < length ids = let l = canonical_variable_below c v (transport (λ d. v ∈ clause_vars d) (sym canonical) i) in omega arith in
      sym (ap (λ n. get_or (map (tree_at f) ids) n (var v)) (own_place v i) ∙ get_or-map (tree_at f) ids v 0 (var v) below))

-- One line

module _ (f : Forest) (given : Given) (item : Grounded) (s : List (Signed ℕ)) (at : at_number (given_of given) item.input ≡ Some s) where
  there : at_number (given_trees f given) item.input ≡ Some (clause_at f s)
  there = at_number_map (clause_at f) (given_of given) item.input ∙ ap (option_map (clause_at f)) at

  among : s ∈ given_of given
  among = contains_in s (given_of given) (at_number_contains (given_of given) item.input s at)

  pub clause_ids : HasClauses f given → IsClauseOf f s
  clause_ids h = all_in (IsClauseOf f) (given_of given) h.ids s among

  pub clause_canonical : HasClauses f given → IsCanonical (clause_at f s)
  clause_canonical h = all_in (λ c. IsCanonical (clause_at f c)) (given_of given) h.canonical s among

  pub enough : IsGrounded (given_trees f given) (grounded_at f item) → length (order_of (clause_at f s)) ≤ length item.terms
  enough h =
      let same = same_item (at_number (given_trees f given) item.input) h.clause (clause_at f s) h.clause_at there in
      let count = h.count ∙ ap (λ c. length (order_of c)) same in
      let long = length_map (tree_at f) item.terms in
      omega (arith, count, long)

  pub line_is : (g : Forest) (d : List (Signed ℕ)) → Extends f g → AreIds f item.terms → HasClauses f given → IsGrounded (given_trees f given) (grounded_at f item)
      → IsClauseAt g d (instance (by_terms f item.terms) (clause_at f s)) → IsLineOf f g given item (record { clause = d; input = item.input; terms = item.terms })
  line_is g d x ids h grounded made = record {
    same =
        let clause = made.1 ∙ by_places (clause_at f s) (clause_canonical h) f item.terms (enough grounded) ∙ ap (λ o. instance_in_order (clause_or_empty o) (map (tree_at f) item.terms)) (sym there) in
        let terms = map_extends f g item.terms x ids in
        λ i. record { clause = clause i; input = item.input; terms = terms i };
    ids = record { clause = made.0; terms = ids_extend f g item.terms x ids };
  }

pub number_within : (f : Forest) (given : Given) (item : Grounded) → IsGrounded (given_trees f given) (grounded_at f item) → (0 < item.input) × (item.input ≤ length given.inputs + length given.axioms)
number_within f given item h = go item.input h.clause_at
  where
    go : (n : ℕ) → at_number (given_trees f given) n ≡ Some h.clause → (0 < n) × (n ≤ length given.inputs + length given.axioms)
    go zero e = absurd cc
    go (suc i) e = (omega arith, (let a = at_number_within (given_trees f given) (suc i) h.clause e in let b = length_map (clause_at f) (given_of given) in let c = length-append given.inputs given.axioms in omega (arith, a, b, c)))

-- As the bank grows

module _ (f g : Forest) (x : Extends f g) where
  pub clauses_later : (given : Given) → HasClauses f given → given_trees g given ≡ given_trees f given
  clauses_later given h = clauses_extend f g x (given_of given) (λ c i. all_in (IsClauseOf f) (given_of given) h.ids c i)

  pub given_later : (given : Given) → HasClauses f given → HasClauses g given
  given_later given h = record {
    ids = in_all (IsClauseOf g) (given_of given) (λ c i. clause_of_extends f g x c (all_in (IsClauseOf f) (given_of given) h.ids c i));
    canonical = in_all (λ c. IsCanonical (clause_at g c)) (given_of given) (λ c i.
        transport IsCanonical (sym (clause_extends f g x c (all_in (IsClauseOf f) (given_of given) h.ids c i))) (all_in (λ c. IsCanonical (clause_at f c)) (given_of given) h.canonical c i));
  }

  pub item_later : (item : Grounded) → AreIds f item.terms → grounded_at g item ≡ grounded_at f item
  item_later item ids = let terms = map_extends f g item.terms x ids in λ i. record { input = item.input; terms = terms i }

  pub items_later : (items : List Grounded) → All (λ (y : Grounded). AreIds f y.terms) items → map (grounded_at g) items ≡ map (grounded_at f) items
  items_later items h = map_agree (grounded_at g) (grounded_at f) items (λ y i. item_later y (all_in (λ (y : Grounded). AreIds f y.terms) items h y i))

  pub terms_later : (ids : List ℕ) → AreIds f ids → AreTermIds f ids → AreTermIds g ids
  terms_later ids within h = in_all (λ id. IsTerm (tree_at g id)) ids (λ n i.
      transport IsTerm (sym (x.trees.1 n (all_in (λ id. id < length f.trees) ids within n i))) (all_in (λ id. IsTerm (tree_at f id)) ids h n i))

  pub line_later : (l : GroundLine) → IsLineIn f l → line_of g l ≡ line_of f l
  line_later l h =
      let clause = clause_extends f g x l.clause h.clause in
      let terms = map_extends f g l.terms x h.terms in
      λ i. record { clause = clause i; input = l.input; terms = terms i }

  pub line_in_later : (l : GroundLine) → IsLineIn f l → IsLineIn g l
  line_in_later l h = record { clause = clause_of_extends f g x l.clause h.clause; terms = ids_extend f g l.terms x h.terms }

  pub lines_later : (ls : List GroundLine) → All (IsLineIn f) ls → map (line_of g) ls ≡ map (line_of f) ls
  lines_later ls h = map_agree (line_of g) (line_of f) ls (λ l i. line_later l (all_in (IsLineIn f) ls h l i))

-- terms by their trees
pub term_ids_of : (f : Forest) (items : List Grounded) → All (λ (g : TreeGrounded). All IsTerm g.terms) (map (grounded_at f) items) → All (λ (g : Grounded). AreTermIds f g.terms) items
term_ids_of f items h = in_all (λ (g : Grounded). AreTermIds f g.terms) items (λ y i.
    let all = all_in (λ (g : TreeGrounded). All IsTerm g.terms) (map (grounded_at f) items) h (grounded_at f y) (in_map (grounded_at f) y items i) in
    in_all (λ id. IsTerm (tree_at f id)) y.terms (λ n j. all_in IsTerm (map (tree_at f) y.terms) all (tree_at f n) (in_map (tree_at f) n y.terms j)))

-- Lines of many items

-- The lines of items so far, over the bank as it has grown from f to g. Those of the rest are to come.
pub record IsLineWalk (f g : Forest) (given : Given) (items rest : List Grounded) (lines : List GroundLine) : Type 0 where
  pub extends : Extends f g
  pub left : All (λ (y : Grounded). IsGrounded (given_trees f given) (grounded_at f y)) rest
  pub left_ids : All (λ (y : Grounded). AreIds f y.terms) rest
  pub formed : AreFormed f → All (λ (y : Grounded). AreTermIds f y.terms) items → AreFormed g × All (λ (y : Grounded). AreTermIds f y.terms) rest
  pub same : map (line_of g) lines ++ map (ground_line (given_trees f given)) (map (grounded_at f) rest) ≡ map (ground_line (given_trees f given)) (map (grounded_at f) items)
  pub ids : All (IsLineIn g) lines

pub no_lines : (f : Forest) (given : Given) (items : List Grounded) → All (IsGrounded (given_trees f given)) (map (grounded_at f) items) → All (λ (y : Grounded). AreIds f y.terms) items → IsLineWalk f f given items items []
no_lines f given items grounded ids = record {
  extends = extends_itself f;
  left = in_all (λ (y : Grounded). IsGrounded (given_trees f given) (grounded_at f y)) items (λ y i.
      all_in (IsGrounded (given_trees f given)) (map (grounded_at f) items) grounded (grounded_at f y) (in_map (grounded_at f) y items i));
  left_ids = ids;
  formed = λ a b. (a, b);
  same = refl;
  ids = in_all (IsLineIn f) [] (λ l i. absurd i);
}

module _ (f g : Forest) (given : Given) (items : List Grounded) (y : Grounded) (rest all : List Grounded) (lines : List GroundLine) (has : HasClauses f given)
    (w : IsLineWalk f g given items all lines) (e : all ≡ y ∷ rest) where
  next_in : (P : Grounded → Type 0) → All P all → P y × All P rest
  next_in P h = (all_in P all h y (transport (λ ys. y ∈ ys) (sym e) (inl refl)), in_all P rest (λ x i. all_in P all h x (transport (λ ys. x ∈ ys) (sym e) (inr i))))

  own_ids : AreIds f y.terms
  own_ids = (next_in (λ x. AreIds f x.terms) w.left_ids).0

  pub next_given : HasClauses g given
  next_given = given_later f g w.extends given has

  pub next_grounded : IsGrounded (given_trees g given) (grounded_at g y)
  next_grounded =
      transport (IsGrounded (given_trees g given)) (sym (item_later f g w.extends y own_ids))
      (transport (λ cs. IsGrounded cs (grounded_at f y)) (sym (clauses_later f g w.extends given has)) (next_in (λ x. IsGrounded (given_trees f given) (grounded_at f x)) w.left).0)

  pub next_ids : AreIds g y.terms
  next_ids = ids_extend f g y.terms w.extends own_ids

  pub one_more_line : (h : Forest) (l : GroundLine) → Extends g h → (AreFormed g → AreTermIds g y.terms → AreFormed h) → IsLineOf g h given y l → IsLineWalk f h given items rest (lines ++ l ∷ [])
  one_more_line h l x formed made = record {
    extends = extends_trans f g h w.extends x;
    left = (next_in (λ z. IsGrounded (given_trees f given) (grounded_at f z)) w.left).1;
    left_ids = (next_in (λ z. AreIds f z.terms) w.left_ids).1;
    formed = λ old terms.
        let before = w.formed old terms in
        let (own, others) = next_in (λ z. AreTermIds f z.terms) before.1 in
        (formed before.0 (terms_later f g w.extends y.terms own_ids own), others);
    same =
        let own : line_of h l ≡ ground_line (given_trees f given) (grounded_at f y) =
        made.same ∙ ap₂ ground_line (clauses_later f g w.extends given has) (item_later f g w.extends y own_ids) in
        ap (λ ls. ls ++ map (ground_line (given_trees f given)) (map (grounded_at f) rest)) (map_append (line_of h) lines (l ∷ []))
        ∙ append_assoc (map (line_of h) lines) (line_of h l ∷ []) (map (ground_line (given_trees f given)) (map (grounded_at f) rest))
        ∙ ap₂ (λ ls m. ls ++ m ∷ map (ground_line (given_trees f given)) (map (grounded_at f) rest)) (lines_later g h x lines w.ids) own
        ∙ ap (λ ys. map (line_of g) lines ++ map (ground_line (given_trees f given)) (map (grounded_at f) ys)) (sym e)
        ∙ w.same;
    ids = in_all (IsLineIn h) (lines ++ l ∷ []) (λ m i. elim (in_either m lines (l ∷ []) i) [
      | inl j ↦ line_in_later g h x m (all_in (IsLineIn g) lines w.ids m j)
      | inr (inl q) ↦ transport (IsLineIn h) (sym q) made.ids
      | inr (inr j) ↦ absurd j
    ]);
  }

pub all_lines : (f g : Forest) (given : Given) (items rest : List Grounded) (lines : List GroundLine) → IsLineWalk f g given items rest lines → rest ≡ []
    → map (line_of g) lines ≡ map (ground_line (given_trees f given)) (map (grounded_at f) items)
all_lines f g given items rest lines w e =
    sym (append-nil (map (line_of g) lines)) ∙ ap (λ ys. map (line_of g) lines ++ map (ground_line (given_trees f given)) (map (grounded_at f) ys)) (sym e) ∙ w.same

pub nothing_left : {X : Type 0} (l : List X) → length l ≡ 0 → l ≡ []
nothing_left [] h = refl
nothing_left (x ∷ xs) h = absurd (omega arith)

-- The lines of entries, over the bank with the constant and their items

module _ (f g h : Forest) (bot : Sym) (given : Given) (made : List Made) (items : List Grounded) (x : Extends f g) (y : Extends g h) (has : HasClauses f given) (es : AreEntriesOf f made) where
  given_there : given_trees h given ≡ given_trees f given
  given_there = clauses_later f h (extends_trans f g h x y) given has

  pub all_grounded : AreMade bot (given_trees f given) (entries_at f made) → ((cs : List TreeClause) → AreMade bot cs (entries_at g made) → All (IsGrounded cs) (map (grounded_at h) items))
      → All (IsGrounded (given_trees h given)) (map (grounded_at h) items)
  all_grounded right grounded =
      transport (λ cs. All (IsGrounded cs) (map (grounded_at h) items)) (sym given_there)
      (grounded (given_trees f given) (transport (AreMade bot (given_trees f given)) (sym (entries_same f g x made es)) right))

  listed : map (grounded_at h) items ≡ each_once (all_unrolled bot (entries_at g made) (length made)) → map (grounded_at h) items ≡ each_once (all_unrolled bot (entries_at f made) (length made))
  listed e = e ∙ ap (λ ms. each_once (all_unrolled bot ms (length made))) (entries_same f g x made es)

  pub all_terms : All (λ (o : TreeGrounded). All IsTerm o.terms) (each_once (all_unrolled bot (entries_at f made) (length made))) → map (grounded_at h) items ≡ each_once (all_unrolled bot (entries_at g made) (length made))
      → All (λ (o : Grounded). AreTermIds h o.terms) items
  all_terms terms e = term_ids_of h items (transport (All (λ (o : TreeGrounded). All IsTerm o.terms)) (sym (listed e)) terms)

  pub made_terms : All (λ (m : Made). AreTermIds f (terms_of m.how)) made → All (λ (m : Made). AreTermIds g (terms_of m.how)) made
  made_terms terms = in_all (λ (m : Made). AreTermIds g (terms_of m.how)) made (λ m i.
      terms_later f g x (terms_of m.how) (all_in (λ (m : Made). AreIds f (terms_of m.how)) made es.ids m i) (all_in (λ (m : Made). AreTermIds f (terms_of m.how)) made terms m i))

  pub all_made : (k : Forest) (lines : List GroundLine) → map (grounded_at h) items ≡ each_once (all_unrolled bot (entries_at g made) (length made))
      → map (line_of k) lines ≡ map (ground_line (given_trees h given)) (map (grounded_at h) items) → map (line_of k) lines ≡ ground_lines bot (given_trees f given) (entries_at f made)
  all_made k lines e same =
      same ∙ ap₂ (λ cs os. map (ground_line cs) os) given_there (listed e) ∙ ap (λ n. map (ground_line (given_trees f given)) (each_once (all_unrolled bot (entries_at f made) n))) (sym (length_map (made_at f) made))

pub constant_term : (bot : Sym) → IsTrue (is_constant bot) → IsTerm (app bot none)
constant_term bot h =
    and_both (is_function_kind bot.kind) _ (and_left (is_function_kind bot.kind) _ h)
    (and_both (nat_eq 0 bot.arity) true ((Decides-eqb 0 bot.arity).1 (sym ((Decides-eqb bot.arity 0).0 (and_right (is_function_kind bot.kind) _ h)))) refl)
