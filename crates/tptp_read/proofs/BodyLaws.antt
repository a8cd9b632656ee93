-- From the literals of a disjunction to its body.
use Rattle.std.proofs.Common.{◌≡◌, ℕ, ◌+◌, ◌-◌, Bool, true, false, cond, List, [], ◌∷◌, ◌++◌, length, take, drop, Option, Some, None, refl, sym, ap, subst, ◌∙◌, fold, append_assoc, length-drop, nat_lt, arith, codes}
use Rattle.std.specs.Prelude.{◌||◌, ◌&&◌, nat_le}
use Rattle.std.specs.List.{list_any, flat_map}
use Rattle.std.specs.Str.{bytes_eq}
use Rattle.std.proofs.lemmas.List.{append-nil, append_cancel_right, take_all}
use Rattle.inst_logic.specs.Tree.{Tree}
use Rattle.inst_logic.specs.declared.signed.Signed.{Signed}
use Rattle.inst_logic.specs.Lists.{distinct}
use Rattle.tptp_read.specs.declared.kind.TokenKind.{TokenKind}
use Rattle.tptp_read.specs.declared.kind.TokenKind.TheVariants.{LowerWord, Variable, DollarWord, QuotedWord, DistinctObject, Integer, Rational, Real, Punctuation}
use Rattle.tptp_read.specs.Stream.{Tok}
use Rattle.tptp_read.specs.declared.lexeme.Lexeme.{Lexeme}
use Rattle.tptp_read.specs.declared.stop.Stop.{Stop}
use Rattle.tptp_read.specs.declared.stop.Stop.TheVariants as stops
use Rattle.tptp_read.specs.Lexemes.{is_dollar_kind, is_variable_kind, is_feature}
use Rattle.tptp_read.specs.Grammar.{Written, single, applied, Writtens, none, more, Item, Items, item, items, item_fits, items_fit, Note, cnf}
use Rattle.tptp_read.specs.Meaning.{Wrote, predicate, equal, from_item, from_items, tree_of, trees_of, predicate_of, literal_of, count, is_always, is_constant_atom, is_wide, are_wide, wrote_wide, tokens_of, used_tokens, first_feature, variable_names, judged}
use Rattle.tptp_read.specs.Parse.{◌>>=◌, many_at}
use Rattle.tptp_read.specs.ParseClause.{items_of, item_at}
use Rattle.tptp_read.specs.LexemeView.{toks, Fails}
use Rattle.tptp_read.specs.Shapes.{seen}
use Rattle.tptp_read.specs.Plain.{plain, all_tokens}
use Rattle.tptp_read.specs.Gathered.{Gathered, gather, nothing, or_else, tree_wide, trees_wide, literal_wide}
use Rattle.tptp_read.specs.Bodies.{Body, body_of, judged_body, wrotes, disjunction_at}
use Rattle.tptp_read.proofs.ParseLaws.{bind_some, some_is}
use Rattle.tptp_read.proofs.ManyLaws.{spelled_many}
use Rattle.tptp_read.proofs.ItemLaws.{item_spelled, all_items_spelled, all_items_fit}
use Rattle.tptp_read.proofs.NameSets.{names_append}
use Rattle.tptp_read.proofs.PlainTokens.{plain_append, plain_item, plain_items, names_plain, all_of, all_append}
use Rattle.tptp_read.proofs.GatherLaws.{seen_some, seen_fails, or_false, or_none}
use Rattle.tptp_read.proofs.DisjunctionLaws.{of_item, of_items, fold_more}
use Rattle.tptp_read.proofs.SameNumbers.{literals_same, numbers_same}

-- ---- what is gathered in the end

or_all : (a b c : Bool) → ((a || b) || c) ≡ (a || (b || c))
or_all true b c = refl
or_all false b c = refl

else_all : (a b c : Option (List ℕ)) → or_else (or_else a b) c ≡ or_else a (or_else b c)
else_all (Some x) b c = refl
else_all None b c = refl

feature_step : (x : Tok) (o p q : Option (List ℕ)) (b : Bool) → q ≡ or_else o p → cond b (Some x.text) q ≡ or_else (cond b (Some x.text) o) p
feature_step x o p q true e = refl
feature_step x o p q false e = e

feature_append : (xs ys : List Tok) → first_feature (xs ++ ys) ≡ or_else (first_feature xs) (first_feature ys)
feature_append [] ys = refl
feature_append (x ∷ xs) ys = feature_step x (first_feature xs) (first_feature ys) (first_feature (xs ++ ys)) (is_feature x.kind) (feature_append xs ys)

abbrev total : List (List ℕ) → Gathered → List Wrote → Gathered
total vs g ws = record { clause = g.clause ++ flat_map (literal_of vs) ws; always = g.always || list_any is_always ws; feature = or_else g.feature (first_feature (flat_map used_tokens ws)) }

total_more : (vs : List (List ℕ)) (g : Gathered) (w : Wrote) (ws : List Wrote) → total vs (gather vs g w) ws ≡ total vs g (w ∷ ws)
total_more vs g w ws = λ i. record {
  clause = append_assoc g.clause (literal_of vs w) (flat_map (literal_of vs) ws) i;
  always = or_all g.always (is_always w) (list_any is_always ws) i;
  feature = (else_all g.feature (first_feature (used_tokens w)) (first_feature (flat_map used_tokens ws)) ∙ ap (λ o. or_else g.feature o) (sym (feature_append (used_tokens w) (flat_map used_tokens ws)))) i;
}

pub fold_total : (vs : List (List ℕ)) (g : Gathered) (ws : List Wrote) → fold (gather vs) g ws ≡ total vs g ws
fold_total vs g [] = λ i. record { clause = sym (append-nil g.clause) i; always = or_false g.always i; feature = or_none g.feature i }
fold_total vs g (w ∷ ws) = fold_total vs (gather vs g w) ws ∙ total_more vs g w ws

-- ---- the variables

dollar_no_variable : (k : TokenKind) → is_dollar_kind k ≡ true → is_variable_kind k ≡ false
dollar_no_variable DollarWord e = refl
dollar_no_variable LowerWord e = absurd cc
dollar_no_variable QuotedWord e = absurd cc
dollar_no_variable Punctuation e = absurd cc
dollar_no_variable Variable e = absurd cc
dollar_no_variable DistinctObject e = absurd cc
dollar_no_variable Integer e = absurd cc
dollar_no_variable Rational e = absurd cc
dollar_no_variable Real e = absurd cc

constant_is_dollar : (a x y : Bool) → ((a && x) || (a && y)) ≡ true → a ≡ true
constant_is_dollar true x y e = refl
constant_is_dollar false x y e = absurd cc

constant_names : (t : Written) → is_constant_atom t ≡ true → variable_names (tokens_of t) ≡ []
constant_names (single t) e = rw (dollar_no_variable t.kind (constant_is_dollar (is_dollar_kind t.kind) (bytes_eq t.text (codes "$true")) (bytes_eq t.text (codes "$false")) e)) refl
constant_names (applied f t ts) e = absurd cc

atom_names : (t : Written) (b : Bool) → is_constant_atom t ≡ b → variable_names (tokens_of t) ≡ variable_names (cond b [] (tokens_of t))
atom_names t true e = constant_names t e
atom_names t false e = refl

wrote_names : (w : Wrote) → variable_names (all_tokens w) ≡ variable_names (used_tokens w)
wrote_names (predicate sign t) = atom_names t (is_constant_atom t) refl
wrote_names (equal sign t u) = refl

used_names : (ws : List Wrote) → variable_names (all_of ws) ≡ variable_names (flat_map used_tokens ws)
used_names [] = refl
used_names (w ∷ ws) =
    names_append (all_tokens w) (all_of ws) ∙ (λ i. wrote_names w i ++ used_names ws i) ∙ sym (names_append (used_tokens w) (flat_map used_tokens ws))

-- ---- the tokens of a disjunction

abbrev IsDisjunctionAnd : List Tok → (Item × List Item) × List Tok → Type 0
IsDisjunctionAnd ts z = (ts ≡ item z.0.0 (items (items_of z.0.1) z.1)) × (item_fits z.0.0 ≡ true) × (items_fit (items_of z.0.1) ≡ true)

pub disjunction_spelled : (d : ℕ) (ts : List Tok) (z : (Item × List Item) × List Tok) → disjunction_at d ts ≡ Some z → IsDisjunctionAnd ts z
unfolding disjunction_at
disjunction_spelled d ts z e =
    let a = bind_some (item_at d d ts) (λ i. many_at 124 (item_at d d) (length i.1) i.1 >>= λ is. Some ((i.0, is.0), is.1)) z e in
    let b = bind_some (many_at 124 (item_at d d) (length a.0.1) a.0.1) (λ is. Some ((a.0.0, is.0), is.1)) z a.2 in
    let first = item_spelled d d ts a.0 a.1 in
    let others = spelled_many 124 item item_fits (item_at d d) (item_spelled d d) (length a.0.1) a.0.1 b.0 b.1 in
    subst (IsDisjunctionAnd ts) (some_is ((a.0.0, b.0.0), b.0.1) z b.2)
    (first.0 ∙ ap (λ us. item a.0.0 us) (others.0 ∙ all_items_spelled b.0.0 b.0.1), first.1, sym (all_items_fit b.0.0) ∙ others.1)

disjunction_plain : (ts : List Tok) (z : (Item × List Item) × List Tok) → IsDisjunctionAnd ts z → plain ts ≡ all_of (wrotes z.0) ++ plain z.1
disjunction_plain ts z h =
    ap plain h.0 ∙ plain_item z.0.0 (items (items_of z.0.1) z.1) h.1 ∙ ap (λ l. all_of (from_item z.0.0) ++ l) (plain_items (items_of z.0.1) z.1 h.2)
    ∙ sym (append_assoc (all_of (from_item z.0.0)) (all_of (from_items (items_of z.0.1))) (plain z.1)) ∙ ap (λ l. l ++ plain z.1) (sym (all_append (from_item z.0.0) (from_items (items_of z.0.1))))

-- ---- the width

pub or_false_right : (b : Bool) → (b || false) ≡ b
or_false_right true = refl
or_false_right false = refl

width_single : (vs : List (List ℕ)) (t : Tok) (b : Bool) → is_variable_kind t.kind ≡ b → tree_wide (tree_of vs (single t)) ≡ false
width_single vs t true e = rw e refl
width_single vs t false e = rw e refl

mutual
  width_tree : (vs : List (List ℕ)) (w : Written) → tree_wide (tree_of vs w) ≡ is_wide w
  width_tree vs (single t) = width_single vs t (is_variable_kind t.kind) refl
  width_tree vs (applied f t ts) = λ i. nat_le 1025 (count ts + 1) || (width_tree vs t i || width_trees vs ts i)

  width_trees : (vs : List (List ℕ)) (ts : Writtens) → trees_wide (trees_of vs ts) ≡ are_wide ts
  width_trees vs none = refl
  width_trees vs (more t ts) = λ i. width_tree vs t i || width_trees vs ts i

width_atom : (vs : List (List ℕ)) (sign : Bool) (t : Written) (b : Bool) → is_constant_atom t ≡ b → list_any literal_wide (cond b [] (record { positive = sign; atom = predicate_of vs t } ∷ [])) ≡ is_wide t
width_atom vs sign (single t) true e = refl
width_atom vs sign (single t) false e = refl
width_atom vs sign (applied f t ts) true e = absurd cc
width_atom vs sign (applied f t ts) false e = or_false_right (nat_le 1025 (count ts + 1) || (tree_wide (tree_of vs t) || trees_wide (trees_of vs ts))) ∙ (λ i. nat_le 1025 (count ts + 1) || (width_tree vs t i || width_trees vs ts i))

pub width_literal : (vs : List (List ℕ)) (w : Wrote) → list_any literal_wide (literal_of vs w) ≡ wrote_wide w
width_literal vs (predicate sign t) = width_atom vs sign t (is_constant_atom t) refl
width_literal vs (equal sign t u) = or_false_right (tree_wide (tree_of vs t) || (tree_wide (tree_of vs u) || false)) ∙ (λ i. width_tree vs t i || (or_false_right (tree_wide (tree_of vs u)) ∙ width_tree vs u) i)

any_append : (xs ys : List (Signed Tree)) → list_any literal_wide (xs ++ ys) ≡ (list_any literal_wide xs || list_any literal_wide ys)
any_append [] ys = refl
any_append (x ∷ xs) ys = ap (λ b. literal_wide x || b) (any_append xs ys) ∙ sym (or_all (literal_wide x) (list_any literal_wide xs) (list_any literal_wide ys))

pub width_literals : (vs : List (List ℕ)) (ws : List Wrote) → list_any literal_wide (flat_map (literal_of vs) ws) ≡ list_any wrote_wide ws
width_literals vs [] = refl
width_literals vs (w ∷ ws) = any_append (literal_of vs w) (flat_map (literal_of vs) ws) ∙ (λ i. width_literal vs w i || width_literals vs ws i)

-- ---- the body

abbrev pub started : List (Signed Tree) → Gathered
started clause = record { clause = clause; always = false; feature = None }

pub body_read :
    (d : ℕ) (ts us front : List Tok) (vs os : List (List ℕ)) (g : Gathered) (w : Bool) (n : ℕ) → ts ≡ front ++ us → vs ≡ distinct bytes_eq (variable_names ts) → os ≡ distinct bytes_eq (variable_names front)
    → w ≡ list_any literal_wide g.clause → n ≡ length os → seen (λ p. fold (gather vs) nothing (wrotes p)) (disjunction_at d ts) ≡ Some (g, us)
    → seen (λ p. body_of (wrotes p)) (disjunction_at d ts) ≡ Some (record { clause = g.clause; always = g.always; feature = g.feature; wide = w; crowded = nat_lt 10000 n }, us)
body_read d ts us front vs os g w n cut numbered own wide number e =
    let a = seen_some (λ (p : Item × List Item). fold (gather vs) nothing (wrotes p)) (disjunction_at d ts) g us e in
    let ws = wrotes a.0 in
    let names = variable_names (flat_map used_tokens ws) in
    let spelled = disjunction_spelled d ts (a.0, us) a.1 in
    let inside = disjunction_plain ts (a.0, us) spelled in
    let front_plain : plain front ≡ all_of ws = append_cancel_right (plain front) (all_of ws) (plain us) (sym (plain_append front us) ∙ sym (ap plain cut) ∙ inside) in
    let front_names : variable_names front ≡ names = sym (names_plain front) ∙ ap variable_names front_plain ∙ used_names ws in
    let all_names : variable_names ts ≡ names ++ variable_names us = ap variable_names cut ∙ names_append front us ∙ ap (λ l. l ++ variable_names us) front_names in
    let vs_is : vs ≡ distinct bytes_eq (names ++ variable_names us) = numbered ∙ ap (distinct bytes_eq) all_names in
    let os_is : os ≡ distinct bytes_eq names = own ∙ ap (distinct bytes_eq) front_names in
    let gathered_is : total vs nothing ws ≡ g = sym (fold_total vs nothing ws) ∙ a.2 in
    let literals : flat_map (literal_of (distinct bytes_eq names)) ws ≡ g.clause =
    sym (literals_same (distinct bytes_eq (names ++ variable_names us)) (distinct bytes_eq names) ws (numbers_same names (variable_names us)))
    ∙ ap (λ (x : List (List ℕ)). flat_map (literal_of x) ws) (sym vs_is) ∙ ap (λ (x : Gathered). x.clause) gathered_is in
    let wide_is : list_any wrote_wide ws ≡ w = sym (width_literals (distinct bytes_eq names) ws) ∙ ap (list_any literal_wide) literals ∙ sym wide in
    let crowded_is : nat_le 10001 (length (distinct bytes_eq names)) ≡ nat_lt 10000 n = ap (nat_le 10001) (ap length (sym os_is) ∙ sym number) in
    let value : body_of ws ≡ record { clause = g.clause; always = g.always; feature = g.feature; wide = w; crowded = nat_lt 10000 n } =
    (λ i. record { clause = literals i; always = (gathered_is i).always; feature = (gathered_is i).feature; wide = wide_is i; crowded = crowded_is i }) in
    ap (λ r. seen (λ (p : Item × List Item). body_of (wrotes p)) r) a.1 ∙ ap (λ (x : Body). Some (x, us)) value

pub rest_is : (ls : List Lexeme) (at : ℕ) → toks (take (length ls - at) (drop at ls)) ≡ toks (drop at ls)
rest_is ls at = ap toks (take_all (length ls - at) (drop at ls) (omega (arith, length-drop at ls)))

-- ---- the steps of reading one

abbrev pub of_parts : List (List ℕ) → Item × List Item → Gathered
of_parts vs p = fold (gather vs) nothing (wrotes p)

first_none : (d : ℕ) (ts : List Tok) → item_at d d ts ≡ None → disjunction_at d ts ≡ None
unfolding disjunction_at
first_none d ts e = rw e refl

others_none : (d : ℕ) (ts us : List Tok) (i : Item) → item_at d d ts ≡ Some (i, us) → many_at 124 (item_at d d) (length us) us ≡ None → disjunction_at d ts ≡ None
unfolding disjunction_at
others_none d ts us i e f = rw (e, f) refl

parts_are : (d : ℕ) (ts us rest : List Tok) (i : Item) (is : List Item) → item_at d d ts ≡ Some (i, us) → many_at 124 (item_at d d) (length us) us ≡ Some (is, rest) → disjunction_at d ts ≡ Some ((i, is), rest)
unfolding disjunction_at
parts_are d ts us rest i is e f = rw (e, f) refl

pub parts_first_fails : (x : Stop) (vs : List (List ℕ)) (d : ℕ) (ts : List Tok) → Fails x (seen (of_item vs nothing) (item_at d d ts)) → Fails x (seen (of_parts vs) (disjunction_at d ts))
parts_first_fails stops.Memory vs d ts h = tt
parts_first_fails stops.Wrong vs d ts h = ap (λ r. seen (of_parts vs) r) (first_none d ts (seen_fails stops.Wrong (of_item vs nothing) (item_at d d ts) h))

pub parts_others_fail : (x : Stop) (vs : List (List ℕ)) (g : Gathered) (d : ℕ) (ts us : List Tok) → seen (of_item vs nothing) (item_at d d ts) ≡ Some (g, us) → Fails x (seen (of_items vs g) (many_at 124 (item_at d d) (length us) us)) → Fails x (seen (of_parts vs) (disjunction_at d ts))
parts_others_fail stops.Memory vs g d ts us first h = tt
parts_others_fail stops.Wrong vs g d ts us first h =
    let a = seen_some (of_item vs nothing) (item_at d d ts) g us first in
    ap (λ r. seen (of_parts vs) r) (others_none d ts us a.0 a.1 (seen_fails stops.Wrong (of_items vs g) (many_at 124 (item_at d d) (length us) us) h))

pub parts_read : (vs : List (List ℕ)) (g h : Gathered) (d : ℕ) (ts us rest : List Tok) → seen (of_item vs nothing) (item_at d d ts) ≡ Some (g, us) → seen (of_items vs g) (many_at 124 (item_at d d) (length us) us) ≡ Some (h, rest) → seen (of_parts vs) (disjunction_at d ts) ≡ Some (h, rest)
parts_read vs g h d ts us rest first others =
    let a = seen_some (of_item vs nothing) (item_at d d ts) g us first in
    let b = seen_some (of_items vs g) (many_at 124 (item_at d d) (length us) us) h rest others in
    let value : of_parts vs (a.0, b.0) ≡ h = fold_more (gather vs) nothing (from_item a.0) (from_items (items_of b.0)) ∙ ap (λ (x : Gathered). of_items vs x b.0) a.2 ∙ b.2 in
    ap (λ r. seen (of_parts vs) r) (parts_are d ts us rest a.0 b.0 a.1 b.1) ∙ ap (λ (x : Gathered). Some (x, rest)) value

-- what is judged of a clause is judged of its body
pub judged_is : (name role : Tok) (i : Item) (is : Items) (n : Note) → judged (cnf name role i is n) ≡ judged_body name role (body_of (from_item i ++ from_items is))
judged_is name role i is n = refl
