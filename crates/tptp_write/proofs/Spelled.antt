-- What is printed begins with the tokens of its form.
use Rattle.std.proofs.Common.{◌≡◌, ℕ, ◌≤◌, Bool, true, false, List, [], ◌∷◌, ◌++◌, refl, sym, subst, map, arith, append_assoc}
use Rattle.std.specs.Prelude.{nat_le, codes}
use Rattle.std.specs.List.{list_all}
use Rattle.std.proofs.lemmas.Bool.Decides.{nat_tests}
use Rattle.inst_logic.specs.declared.symbol.Kind.{Kind}
use Rattle.inst_logic.specs.declared.symbol.Kind.TheVariants.{Predicate, Equality, Function}
use Rattle.inst_logic.specs.declared.signed.Signed.{Signed}
use Rattle.inst_logic.specs.Tree.{Tree, var, app, Trees}
use Rattle.inst_logic.specs.Tree as tree
use Rattle.inst_logic.specs.Clauses.{TreeClause}
use Rattle.inst_logic.specs.Printing.{is_readable_name, name_text, tree_text, arguments_text, more_text, sides_text, equality_sign, atom_text, signed_text, literal_text, joined, clause_text}
use Rattle.tptp_read.specs.Stream.{Tok}
use Rattle.tptp_read.specs.Lexemes.{Begins, mark, lower}
use Rattle.tptp_read.specs.Grammar.{Written, single, applied, term, terms, Simple, atom, equation, unequal, negated, simple_text, items, unequal_mark, form}
use Rattle.tptp_write.specs.Again.{as_statement}
use Rattle.tptp_write.proofs.Written.{false_tok, written, headed, writtens, simple_tree, simple_by, sides_of, simple_of, items_of, form_of, good_tree, good_trees, good_sides, good_by, good_atom, good_literal}
use Rattle.tptp_write.proofs.Tokens.{both_true, Clear, skip_blank, name_next, variable_next, open_next, close_next, comma_next, stop_next, equal_next, or_next, not_next, unequal_next, cnf_next, a_next, axiom_next, false_next}

regroup : (a b c : List ℕ) (ts : List Tok) (rest : List ℕ) → Begins (a ++ (b ++ c)) ts rest → Begins ((a ++ b) ++ c) ts rest
regroup a b c ts rest h = subst (λ (x : List ℕ). Begins x ts rest) (sym (append_assoc a b c)) h

regroup_three : (a b c d : List ℕ) (ts : List Tok) (rest : List ℕ) → Begins (a ++ (b ++ (c ++ d))) ts rest → Begins (((a ++ b) ++ c) ++ d) ts rest
regroup_three a b c d ts rest h = regroup (a ++ b) c d ts rest (regroup a b (c ++ d) ts rest h)

small : (n : ℕ) → nat_le n 10000 ≡ true → n ≤ 10000
small n h = grind (arith, nat_tests)

more_clear : (ts : Trees) (after : List ℕ) → Clear (more_text ts ++ after)
more_clear tree.none after = refl
more_clear (tree.more t ts) after = refl

mutual
  tree_begins : (t : Tree) (after : List ℕ) (us : List Tok) (rest : List ℕ) → good_tree t ≡ true → Clear after → Begins after us rest → Begins (tree_text t ++ after) (term (written t) us) rest
  tree_begins (var n) after us rest g c b = (after, variable_next n after (small n g) c, b)
  tree_begins (app s ts) after us rest g c b =
      let both = both_true (is_readable_name s.name) (good_trees ts) g in
      regroup (name_text s.name) (arguments_text ts) after (term (headed s.name ts) us) rest (headed_begins s.name ts after us rest both.0 both.1 c b)

  headed_begins : (name : List ℕ) (ts : Trees) (after : List ℕ) (us : List Tok) (rest : List ℕ) → is_readable_name name ≡ true → good_trees ts ≡ true → Clear after → Begins after us rest → Begins (name_text name ++ (arguments_text ts ++ after)) (term (headed name ts) us) rest
  headed_begins name tree.none after us rest n g c b = (after, name_next name after n c, b)
  headed_begins name (tree.more t ts) after us rest n g c b =
      let both = both_true (good_tree t) (good_trees ts) g in
      let inner = (tree_text t ++ more_text ts) ++ after in (
        40 ∷ inner,
        name_next name (40 ∷ inner) n refl,
        (
          inner,
          open_next inner,
          regroup (tree_text t) (more_text ts) after (term (written t) (terms (writtens ts) (mark 41 ∷ us))) rest
              (tree_begins t (more_text ts ++ after) (terms (writtens ts) (mark 41 ∷ us)) rest both.0 (more_clear ts after) (more_begins ts after us rest both.1 b)),
        ),
      )

  more_begins : (ts : Trees) (after : List ℕ) (us : List Tok) (rest : List ℕ) → good_trees ts ≡ true → Begins after us rest → Begins (more_text ts ++ after) (terms (writtens ts) (mark 41 ∷ us)) rest
  more_begins tree.none after us rest g b = (after, close_next after, b)
  more_begins (tree.more t ts) after us rest g b =
      let both = both_true (good_tree t) (good_trees ts) g in
      let inner = (tree_text t ++ more_text ts) ++ after in (
        inner,
        comma_next inner,
        regroup (tree_text t) (more_text ts) after (term (written t) (terms (writtens ts) (mark 41 ∷ us))) rest
            (tree_begins t (more_text ts ++ after) (terms (writtens ts) (mark 41 ∷ us)) rest both.0 (more_clear ts after) (more_begins ts after us rest both.1 b)),
      )

-- a blank before

term_blank : (w : Written) (us : List Tok) (text rest : List ℕ) → Begins text (term w us) rest → Begins (32 ∷ text) (term w us) rest
term_blank (single t) us text rest b = (b.0, skip_blank text t b.0 b.1, b.2)
term_blank (applied f t ts) us text rest b = (b.0, skip_blank text f b.0 b.1, b.2)

simple_blank : (s : Simple) (us : List Tok) (text rest : List ℕ) → Begins text (simple_text s us) rest → Begins (32 ∷ text) (simple_text s us) rest
simple_blank (atom t) us text rest b = term_blank t us text rest b
simple_blank (equation t u) us text rest b = term_blank t (mark 61 ∷ term u us) text rest b
simple_blank (unequal t u) us text rest b = term_blank t (unequal_mark ∷ term u us) text rest b
simple_blank (negated n) us text rest b = (b.0, skip_blank text (mark 126) b.0 b.1, b.2)

-- ---- literals

atom_begins : (positive : Bool) (name : List ℕ) (ts : Trees) (after : List ℕ) (us : List Tok) (rest : List ℕ) → is_readable_name name ≡ true → good_trees ts ≡ true → Clear after → Begins after us rest
    → Begins (atom_text positive Predicate name ts ++ after) (simple_text (simple_by positive Predicate name ts) us) rest
atom_begins true name ts after us rest n g c b =
    regroup (name_text name) (arguments_text ts) after (term (headed name ts) us) rest (headed_begins name ts after us rest n g c b)
atom_begins false name ts after us rest n g c b =
    let inner = (name_text name ++ arguments_text ts) ++ after in
    (inner, not_next inner, regroup (name_text name) (arguments_text ts) after (term (headed name ts) us) rest (headed_begins name ts after us rest n g c b))

equation_begins : (positive : Bool) (t u : Tree) (after : List ℕ) (us : List Tok) (rest : List ℕ) → good_tree t ≡ true → good_tree u ≡ true → Clear after → Begins after us rest
    → Begins (((tree_text t ++ equality_sign positive) ++ tree_text u) ++ after) (simple_text (sides_of positive [] (tree.more t (tree.more u tree.none))) us) rest
equation_begins true t u after us rest g h c b =
    let right = tree_text u ++ after in
    regroup_three (tree_text t) (codes " = ") (tree_text u) after (term (written t) (mark 61 ∷ term (written u) us)) rest
    (tree_begins t (32 ∷ 61 ∷ 32 ∷ right) (mark 61 ∷ term (written u) us) rest g refl (
      32 ∷ right,
      skip_blank (61 ∷ 32 ∷ right) (mark 61) (32 ∷ right) (equal_next (32 ∷ right)),
      term_blank (written u) us right rest (tree_begins u after us rest h c b),
    ))
equation_begins false t u after us rest g h c b =
    let right = tree_text u ++ after in
    regroup_three (tree_text t) (codes " != ") (tree_text u) after (term (written t) (unequal_mark ∷ term (written u) us)) rest
    (tree_begins t (32 ∷ 33 ∷ 61 ∷ 32 ∷ right) (unequal_mark ∷ term (written u) us) rest g refl (
      32 ∷ right,
      skip_blank (33 ∷ 61 ∷ 32 ∷ right) unequal_mark (32 ∷ right) (unequal_next (32 ∷ right)),
      term_blank (written u) us right rest (tree_begins u after us rest h c b),
    ))

sides_begins : (positive : Bool) (name : List ℕ) (ts : Trees) (after : List ℕ) (us : List Tok) (rest : List ℕ) → good_sides ts ≡ true → Clear after → Begins after us rest
    → Begins (sides_text (equality_sign positive) ts ++ after) (simple_text (sides_of positive name ts) us) rest
sides_begins positive name (tree.more t (tree.more u tree.none)) after us rest g c b =
    let both = both_true (good_tree t) (good_tree u) g in
    equation_begins positive t u after us rest both.0 both.1 c b
sides_begins positive name tree.none after us rest g c b = absurd cc
sides_begins positive name (tree.more t tree.none) after us rest g c b = absurd cc
sides_begins positive name (tree.more t (tree.more u (tree.more v ts))) after us rest g c b = absurd cc

kind_begins : (positive : Bool) (k : Kind) (name : List ℕ) (ts : Trees) (after : List ℕ) (us : List Tok) (rest : List ℕ) → good_by k name ts ≡ true → Clear after → Begins after us rest
    → Begins (atom_text positive k name ts ++ after) (simple_text (simple_by positive k name ts) us) rest
kind_begins positive Predicate name ts after us rest g c b =
    let both = both_true (is_readable_name name) (good_trees ts) g in
    atom_begins positive name ts after us rest both.0 both.1 c b
kind_begins positive Equality name ts after us rest g c b = sides_begins positive name ts after us rest g c b
kind_begins positive Function name ts after us rest g c b = absurd cc

tree_literal : (positive : Bool) (t : Tree) (after : List ℕ) (us : List Tok) (rest : List ℕ) → good_atom t ≡ true → Clear after → Begins after us rest
    → Begins (signed_text positive t ++ after) (simple_text (simple_tree positive t) us) rest
tree_literal positive (var n) after us rest g c b = absurd cc
tree_literal positive (app s ts) after us rest g c b = kind_begins positive s.kind s.name ts after us rest g c b

literal_begins : (l : Signed Tree) (after : List ℕ) (us : List Tok) (rest : List ℕ) → good_literal l ≡ true → Clear after → Begins after us rest
    → Begins (literal_text l ++ after) (simple_text (simple_of l) us) rest
literal_begins l after us rest g c b = tree_literal l.positive l.atom after us rest g c b

-- ---- clauses

clause_begins : (l : Signed Tree) (ls : TreeClause) (after : List ℕ) (us : List Tok) (rest : List ℕ) → good_literal l ≡ true → list_all good_literal ls ≡ true → Clear after → Begins after us rest
    → Begins (joined (codes " | ") (map literal_text (l ∷ ls)) ++ after) (simple_text (simple_of l) (items (items_of ls) us)) rest
clause_begins l [] after us rest g gs c b = literal_begins l after us rest g c b
clause_begins l (m ∷ ls) after us rest g gs c b =
    let both = both_true (good_literal m) (list_all good_literal ls) gs in
    let text = joined (codes " | ") (map literal_text (m ∷ ls)) in
    let inner = text ++ after in
    let more = simple_text (simple_of m) (items (items_of ls) us) in
    regroup_three (literal_text l) (codes " | ") text after (simple_text (simple_of l) (mark 124 ∷ more)) rest
    (literal_begins l (32 ∷ 124 ∷ 32 ∷ inner) (mark 124 ∷ more) rest g refl (
      32 ∷ inner,
      skip_blank (124 ∷ 32 ∷ inner) (mark 124) (32 ∷ inner) (or_next (32 ∷ inner)),
      simple_blank (simple_of m) (items (items_of ls) us) inner rest (clause_begins m ls after us rest both.0 both.1 c b),
    ))

tail_begins : Begins (41 ∷ 46 ∷ []) (mark 41 ∷ mark 46 ∷ []) []
tail_begins = (46 ∷ [], close_next (46 ∷ []), ([], stop_next [], refl))

head_begins : (text : List ℕ) (ts : List Tok) (rest : List ℕ) → Begins text ts rest
    → Begins (codes "cnf(a,axiom," ++ text) (lower (codes "cnf") ∷ mark 40 ∷ lower (codes "a") ∷ mark 44 ∷ lower (codes "axiom") ∷ mark 44 ∷ ts) rest
head_begins text ts rest b =
    let six = 44 ∷ text in
    let five = codes "axiom" ++ six in
    let four = 44 ∷ five in
    let three = codes "a" ++ four in
    (40 ∷ three, cnf_next three, (three, open_next three, (four, a_next five, (five, comma_next five, (six, axiom_next text, (text, comma_next text, b))))))

pub statement_begins : (c : TreeClause) → list_all good_literal c ≡ true → Begins (as_statement (clause_text c)) (form (form_of c)) []
statement_begins [] g =
    head_begins (codes "$false" ++ codes ").") (false_tok ∷ mark 41 ∷ mark 46 ∷ []) [] (41 ∷ 46 ∷ [], false_next (46 ∷ []), tail_begins)
statement_begins (l ∷ ls) g =
    let both = both_true (good_literal l) (list_all good_literal ls) g in
    head_begins (clause_text (l ∷ ls) ++ codes ").") (simple_text (simple_of l) (items (items_of ls) (mark 41 ∷ mark 46 ∷ []))) []
    (clause_begins l ls (41 ∷ 46 ∷ []) (mark 41 ∷ mark 46 ∷ []) [] both.0 both.1 refl tail_begins)
