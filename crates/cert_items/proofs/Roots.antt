-- Terms by their roots.
use Rattle.std.proofs.Common.{◌≡◌, ◌≢◌, ℕ, Bool, true, false, List, [], ◌∷◌, ◌++◌, length, map, refl, sym, ap, ◌∙◌, subst, arith}
use Rattle.std.specs.Prelude.{◌&&◌}
use Rattle.std.specs.List.{list_all}
use Rattle.inst_logic.specs.declared.symbol.Kind.TheVariants.{Predicate, Function}
use Rattle.inst_logic.specs.Tree.{Tree, var, app, Trees, none, more, of_list, to_list}
use Rattle.inst_logic.specs.Printing.{is_readable_name, equality_sign, sign_text}
use Rattle.term_bank.specs.Forest.{Forest, tree_at, IsAt, Extends}
use Rattle.cert_format.specs.Runs.{begins, Ends}
use Rattle.cert_format.specs.Names.{IsNameText}
use Rattle.cert_format.specs.Spelling.{term, arguments, following, is_printable, are_printable, goes_on, Follows, IsEqualitySign}
use Rattle.cert_items.specs.Reading.{IsApplied, NoTerms, NoTerm}
use Rattle.cert_items.specs.Roots.{IsVariableAt, IsApplicationAt, IsTermAt, IsLiteralAt, NoForm, equality_atom}
use Rattle.cert_format.specs.Forms.{as_function, plain, equal}
use Rattle.cert_format.proofs.Clauses.{function_printable, no_tilde, sign_ends, one_sign, rest_of}
use Rattle.inst_logic.specs.declared.signed.Signed.{Signed}
use Rattle.inst_logic.specs.WellFormed.{count_of}
use Rattle.std.proofs.lemmas.Bool.{and_parts, and_from}
use Rattle.cert_format.proofs.Names.{names_once}
use Rattle.cert_format.proofs.Spelling.{parts, no_variable, one_term, arguments_end, small_number}
use Rattle.cert_items.proofs.Reading.{applied_printable, printable_list, count_list}
use Rattle.inst_logic.proofs.Applications.{same_trees}

-- an application whose arguments cannot be read
pub no_arguments : (bytes name inner : List ℕ) → IsNameText name → bytes ≡ name ++ 40 ∷ inner → NoTerms inner 41 → NoTerm bytes
no_arguments bytes name inner named is bad (var n) rest p f e = no_variable n rest named.0 (40 ∷ inner) (sym e ∙ is ∙ ap (λ (xs : List ℕ). xs ++ 40 ∷ inner) named.2)
no_arguments bytes name inner named is bad (app s us) rest p f e =
    let a = parts s us p in
    let k = names_once named.0 s.name (40 ∷ inner) (arguments us rest) named.1 a.name refl (arguments_end s us rest f) (sym (ap (λ (xs : List ℕ). xs ++ 40 ∷ inner) named.2) ∙ (sym is ∙ e)) in
    by us a.args f k.1
  where
    by : (vs : Trees) → are_printable vs ≡ true → Follows (app s vs) rest → 40 ∷ inner ≡ arguments vs rest → ⊥
    by none q g h = let z : begins goes_on rest ≡ true = ap (begins goes_on) (sym h) in cc
    by (more v vs) q g h =
        let both = and_parts (is_printable v) (are_printable vs) q in
        bad v (to_list vs) rest (and_from (is_printable v) (list_all is_printable (to_list vs)) both.0 (sym (printable_list (to_list vs)) ∙ ap are_printable (same_trees vs) ∙ both.1)) (let t : inner ≡ term v (following 41 vs rest) = cc in t ∙ ap (λ (ts : Trees). term v (following 41 ts rest)) (sym (same_trees vs)))

pub variable_term : (g : Forest) (id n : ℕ) (bytes rest : List ℕ) → IsVariableAt n bytes rest → IsAt g id (var n) → IsTermAt g id bytes rest
variable_term g id n bytes rest v at = record {
  within = at.0;
  is = v.is ∙ ap (λ (t : Tree). term t rest) (sym at.1);
  printable = subst (λ (t : Tree). is_printable t ≡ true) (sym at.1) (small_number n v.fits);
  follows = subst (λ (t : Tree). Follows t rest) (sym at.1) v.ends;
}

application_follows : (name : List ℕ) (arity : ℕ) (ts : List Tree) (rest : List ℕ) → (ts ≡ [] → Ends goes_on rest) → Follows (app (record { kind = Function; name = name; arity = arity }) (of_list ts)) rest
application_follows name arity [] rest h = h refl
application_follows name arity (t ∷ ts) rest h = tt

no_ids : (f : Forest) (ids : List ℕ) → map (tree_at f) ids ≡ [] → ids ≡ []
no_ids f [] h = refl
no_ids f (i ∷ ids) h = absurd cc

pub application_term : (f g : Forest) (id : ℕ) (name ids bytes rest : List ℕ) → IsApplicationAt f name ids bytes rest → IsApplied g id Function name (map (tree_at f) ids) → IsTermAt g id bytes rest
application_term f g id name ids bytes rest a made =
    let ts = map (tree_at f) ids in
    let t = app (record { kind = Function; name = made.name; arity = length ts }) (of_list ts) in
    record {
      within = made.at.0;
      is = a.is ∙ ap (λ (xs : List ℕ). xs ++ arguments (of_list ts) rest) made.spelled ∙ ap (λ (u : Tree). term u rest) (sym made.at.1);
      printable = subst (λ (u : Tree). is_printable u ≡ true) (sym made.at.1) (applied_printable made.name ts made.readable a.printable);
      follows = subst (λ (u : Tree). Follows u rest) (sym made.at.1) (application_follows made.name (length ts) ts rest (λ e. a.ends (no_ids f ids e)));
    }

-- ---- literals

pub plain_literal : (f g : Forest) (positive : Bool) (id : ℕ) (name ids bytes rest : List ℕ) → IsApplicationAt f name ids bytes rest → ¬ IsEqualitySign rest → IsApplied g id Predicate name (map (tree_at f) ids)
    → IsLiteralAt g (record { positive = positive; atom = id }) (sign_text positive ++ bytes) rest
plain_literal f g positive id name ids bytes rest a unequal_ made =
    let ts = map (tree_at f) ids in
    let arity : count_of (of_list ts) ≡ length ts = count_list ts in
    record {
      form = plain positive made.name (of_list ts);
      within = made.at.0;
      literal = ap (λ (t : Tree). record { positive = positive; atom = t }) (made.at.1 ∙ ap (λ (n : ℕ). app (record { kind = Predicate; name = made.name; arity = n }) (of_list ts)) (sym arity));
      is = ap (λ (xs : List ℕ). sign_text positive ++ xs) (a.is ∙ ap (λ (xs : List ℕ). xs ++ arguments (of_list ts) rest) made.spelled);
      printable = and_from (is_readable_name made.name) (are_printable (of_list ts)) made.readable (printable_list ts ∙ a.printable);
      follows = (application_follows made.name (count_of (of_list ts)) ts rest (λ e. a.ends (no_ids f ids e)), unequal_);
    }

pub equal_literal : (f g : Forest) (l : Signed ℕ) (positive : Bool) (left right : ℕ) (bytes after rest : List ℕ) → IsTermAt f left bytes (equality_sign positive ++ after) → IsTermAt f right after rest
    → l.positive ≡ positive → IsAt g l.atom (equality_atom (tree_at f left) (tree_at f right)) → IsLiteralAt g l bytes rest
equal_literal f g l positive left right bytes after rest a b sign made = record {
  form = equal positive (tree_at f left) (tree_at f right);
  within = made.0;
  literal = λ i. record { positive = sign i; atom = made.1 i };
  is = a.is ∙ ap (λ (xs : List ℕ). term (tree_at f left) (equality_sign positive ++ xs)) b.is;
  printable = and_from (is_printable (tree_at f left)) (is_printable (tree_at f right)) a.printable b.printable;
  follows = b.follows;
}

-- no literal where no term is at the front
pub no_first : (bytes : List ℕ) → ((rest : List ℕ) → bytes ≢ 126 ∷ rest) → NoTerm bytes → NoForm bytes
no_first bytes mark_ bad (plain true name ts) rest p f e = bad (as_function name ts) rest (function_printable name ts p) f.0 e
no_first bytes mark_ bad (plain false name ts) rest p f e = mark_ (term (as_function name ts) rest) e
no_first bytes mark_ bad (equal b t u) rest p f e = bad t (equality_sign b ++ term u rest) (and_parts (is_printable t) (is_printable u) p).0 (sign_ends b t (term u rest)) e

-- behind the `~`
pub no_negated : (bytes : List ℕ) → ((name rest : List ℕ) (ts : Trees) → (is_readable_name name && are_printable ts) ≡ true → Follows (as_function name ts) rest → ¬ IsEqualitySign rest → bytes ≢ term (as_function name ts) rest) → NoForm (126 ∷ bytes)
no_negated bytes bad (plain true name ts) rest p f e = no_tilde (as_function name ts) rest bytes (function_printable name ts p) e
no_negated bytes bad (plain false name ts) rest p f e = bad name rest ts p f.0 f.1 (ap rest_of e)
no_negated bytes bad (equal b t u) rest p f e = no_tilde t (equality_sign b ++ term u rest) bytes (and_parts (is_printable t) (is_printable u) p).0 e

-- a left side whose right side cannot be read
pub no_right : (f : Forest) (left : ℕ) (positive : Bool) (bytes after : List ℕ) → ((rest : List ℕ) → bytes ≢ 126 ∷ rest) → IsTermAt f left bytes (equality_sign positive ++ after) → NoTerm after → NoForm bytes
no_right f left positive bytes after mark_ a bad (plain true name ts) rest p h e =
    let k = one_term (tree_at f left) (as_function name ts) (equality_sign positive ++ after) rest a.printable (function_printable name ts p) (sign_ends positive (tree_at f left) after) h.0 (sym a.is ∙ e) in
    h.1 (positive, after, sym k.1)
no_right f left positive bytes after mark_ a bad (plain false name ts) rest p h e = mark_ (term (as_function name ts) rest) e
no_right f left positive bytes after mark_ a bad (equal b t u) rest p h e =
    let g = and_parts (is_printable t) (is_printable u) p in
    let k = one_term (tree_at f left) t (equality_sign positive ++ after) (equality_sign b ++ term u rest) a.printable g.0 (sign_ends positive (tree_at f left) after) (sign_ends b t (term u rest)) (sym a.is ∙ e) in
    let s = one_sign positive b after (term u rest) k.1 in
    bad u rest g.1 h s.1

-- a variable alone
pub no_variable_alone : (n : ℕ) (bytes after : List ℕ) → ((rest : List ℕ) → bytes ≢ 126 ∷ rest) → IsVariableAt n bytes after → ¬ IsEqualitySign after → NoForm bytes
no_variable_alone n bytes after mark_ v bad (plain true name ts) rest p h e = no_variable n after name (arguments ts rest) (sym v.is ∙ e)
no_variable_alone n bytes after mark_ v bad (plain false name ts) rest p h e = mark_ (term (as_function name ts) rest) e
no_variable_alone n bytes after mark_ v bad (equal b t u) rest p h e =
    let g = and_parts (is_printable t) (is_printable u) p in
    let k = one_term (var n) t after (equality_sign b ++ term u rest) (small_number n v.fits) g.0 v.ends (sign_ends b t (term u rest)) (sym v.is ∙ e) in
    bad (b, term u rest, k.1)

-- a variable, or an application before a sign of equality, behind a `~`
pub no_negated_variable : (n : ℕ) (bytes after : List ℕ) → IsVariableAt n bytes after → NoForm (126 ∷ bytes)
no_negated_variable n bytes after v = no_negated bytes (λ name rest ts p f s e. no_variable n after name (arguments ts rest) (sym v.is ∙ e))

pub no_negated_equation : (f : Forest) (name ids bytes after : List ℕ) → IsApplicationAt f name ids bytes after → IsEqualitySign after → NoForm (126 ∷ bytes)
no_negated_equation f name ids bytes after a sign = no_negated bytes (λ other rest ts p h s e.
    let us = map (tree_at f) ids in
    let k = one_term (as_function a.name.0 (of_list us)) (as_function other ts) after rest
    (function_printable a.name.0 (of_list us) (and_from (is_readable_name a.name.0) (are_printable (of_list us)) a.name.1 (printable_list us ∙ a.printable)))
    (function_printable other ts p) (application_follows a.name.0 (count_of (of_list us)) us after (λ z. a.ends (no_ids f ids z))) h
    (ap (λ (xs : List ℕ). xs ++ arguments (of_list us) after) (sym a.name.2) ∙ sym a.is ∙ e) in
    s (subst IsEqualitySign k.1 sign))

pub no_negated_term : (bytes : List ℕ) → NoTerm bytes → NoForm (126 ∷ bytes)
no_negated_term bytes bad = no_negated bytes (λ name rest ts p f s e. bad (as_function name ts) rest (function_printable name ts p) f e)

-- ---- a bank that grew

pub kept_term : (f g : Forest) (id : ℕ) (bytes rest : List ℕ) → Extends f g → IsTermAt f id bytes rest → IsTermAt g id bytes rest
kept_term f g id bytes rest e a =
    let same = e.trees.1 id a.within in
    record {
      within = let l = e.trees.0 in let w = a.within in omega arith;
      is = a.is ∙ ap (λ (t : Tree). term t rest) (sym same);
      printable = subst (λ (t : Tree). is_printable t ≡ true) (sym same) a.printable;
      follows = subst (λ (t : Tree). Follows t rest) (sym same) a.follows;
    }
