-- An atom whose tokens are without variables is without variables.
use Rattle.std.proofs.Common.{◌≡◌, Bool, true, false, cond, List, [], ◌∷◌, ℕ, refl, sym, ap, ◌∙◌}
use Rattle.std.specs.Prelude.{◌&&◌, IsTrue}
use Rattle.std.specs.List.{position_or_len}
use Rattle.std.specs.Str.{bytes_eq}
use Rattle.std.proofs.lemmas.Bool.{and_from}
use Rattle.inst_logic.specs.Tree.{Tree, var, app}
use Rattle.inst_logic.specs.Tree as tree
use Rattle.inst_logic.specs.declared.symbol.Kind.TheVariants.{Equality, Function}
use Rattle.inst_logic.specs.declared.signed.Signed.{Signed}
use Rattle.term_bank.specs.Forest.{is_ground, are_ground}
use Rattle.tptp_read.specs.Stream.{Tok}
use Rattle.tptp_read.specs.Atoms.{has_variable, is_plain_atom, ReadsAtom}
use Rattle.tptp_read.specs.Grammar.{Written, single, applied, Writtens, none, more, Simple, atom, equation, unequal, negated, simple_text, term, terms}
use Rattle.tptp_read.specs.Lexemes.{is_variable_kind, mark}
use Rattle.tptp_read.specs.Meaning.{from_simple, is_constant_atom, literal_of, name_of, predicate_of, tree_of, trees_of}
use Rattle.std.proofs.lemmas.Bool.{or_parts}

one_fewer : (t : Tok) (ts : List Tok) → has_variable (t ∷ ts) ≡ false → (is_variable_kind t.kind ≡ false) × (has_variable ts ≡ false)
one_fewer t ts h = or_parts (is_variable_kind t.kind) (has_variable ts) h

chosen_free : (b : Bool) (t u : Tree) → b ≡ false → is_ground u ≡ true → is_ground (cond b t u) ≡ true
chosen_free true t u e h = absurd cc
chosen_free false t u e h = h

mutual
  term_free : (vs : List (List ℕ)) (t : Written) (rest : List Tok) → has_variable (term t rest) ≡ false → (is_ground (tree_of vs t) ≡ true) × (has_variable rest ≡ false)
  term_free vs (single t) rest h =
      let both = one_fewer t rest h in
      (chosen_free (is_variable_kind t.kind) (var (position_or_len (λ v. bytes_eq v t.text) vs)) (app (record { kind = Function; name = name_of t; arity = 0 }) tree.none) both.0 refl, both.1)
  term_free vs (applied f t ts) rest h =
      let opened = one_fewer f (mark 40 ∷ term t (terms ts (mark 41 ∷ rest))) h in
      let inner = one_fewer (mark 40) (term t (terms ts (mark 41 ∷ rest))) opened.1 in
      let first = term_free vs t (terms ts (mark 41 ∷ rest)) inner.1 in
      let others = terms_free vs ts (mark 41 ∷ rest) first.1 in
      (and_from (is_ground (tree_of vs t)) (are_ground (trees_of vs ts)) first.0 others.0, (one_fewer (mark 41) rest others.1).1)

  terms_free : (vs : List (List ℕ)) (ts : Writtens) (rest : List Tok) → has_variable (terms ts rest) ≡ false → (are_ground (trees_of vs ts) ≡ true) × (has_variable rest ≡ false)
  terms_free vs none rest h = (refl, h)
  terms_free vs (more t ts) rest h =
      let inner = one_fewer (mark 44) (term t (terms ts rest)) h in
      let first = term_free vs t (terms ts rest) inner.1 in
      let others = terms_free vs ts rest first.1 in
      (and_from (is_ground (tree_of vs t)) (are_ground (trees_of vs ts)) first.0 others.0, others.1)

predicate_free : (t : Written) (rest : List Tok) → has_variable (term t rest) ≡ false → is_ground (predicate_of [] t) ≡ true
predicate_free (single t) rest h = refl
predicate_free (applied f t ts) rest h = (term_free [] (applied f t ts) rest h).0

equation_free : (t u : Written) → has_variable (simple_text (equation t u) []) ≡ false → (is_ground (tree_of [] t) && (is_ground (tree_of [] u) && true)) ≡ true
equation_free t u h =
    let first = term_free [] t (mark 61 ∷ term u []) h in
    let second = term_free [] u [] (one_fewer (mark 61) (term u []) first.1).1 in
    and_from (is_ground (tree_of [] t)) (is_ground (tree_of [] u) && true) first.0 (and_from (is_ground (tree_of [] u)) true second.0 refl)

only_one : (b : Bool) (k l : Signed Tree) → is_ground k.atom ≡ true → cond b [] (k ∷ []) ≡ l ∷ [] → is_ground l.atom ≡ true
only_one true k l h e = absurd cc
only_one false k l h e = let same : k ≡ l = cc in ap (λ (x : Signed Tree). is_ground x.atom) (sym same) ∙ h

form_free : (a : Simple) (l : Signed Tree) → IsTrue (is_plain_atom a) → has_variable (simple_text a []) ≡ false → literal_of [] (from_simple a) ≡ l ∷ [] → is_ground l.atom ≡ true
form_free (atom t) l plain h e = only_one (is_constant_atom t) (record { positive = true; atom = predicate_of [] t }) l (predicate_free t [] h) e
form_free (equation t u) l plain h e =
    only_one false (record { positive = true; atom = app (record { kind = Equality; name = 61 ∷ []; arity = 2 }) (tree.more (tree_of [] t) (tree.more (tree_of [] u) tree.none)) }) l (equation_free t u h) e
form_free (unequal t u) l plain h e = absurd cc
form_free (negated n) l plain h e = absurd cc

pub atom_free : (text : List ℕ) (l : Signed Tree) → ReadsAtom text l → is_ground l.atom ≡ true
atom_free text l r = form_free r.form l r.is_form.plain (ap has_variable r.is_form.spelled ∙ r.is_form.variable_free) r.value
