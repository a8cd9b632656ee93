-- A literal has at most as many function symbols as its text has bytes, and the text of a saturation has those of its members.
use Rattle.std.proofs.Common.{◌≡◌, ℕ, zero, suc, ◌+◌, ◌<◌, ◌≤◌, List, [], ◌∷◌, ◌++◌, length, length-append, refl, ap, ◌∙◌, arith, map, Bool, true, false}
use Rattle.std.specs.Prelude.{All, Option, None, Some, if◌then◌else◌, slice_get, option_map, codes, decimal}
use Rattle.std.proofs.lemmas.List.Elements.{All-cons, All-nil}
use Rattle.std.proofs.lemmas.Option.{slice_get-map}
use Rattle.inst_logic.specs.declared.symbol.Kind.{Kind}
use Rattle.inst_logic.specs.declared.symbol.Kind.TheVariants.{Predicate, Equality, Function}
use Rattle.inst_logic.specs.declared.signed.Signed.{Signed}
use Rattle.inst_logic.specs.Tree.{Tree, var, app, Trees, none, more}
use Rattle.inst_logic.specs.Clauses.{TreeClause}
use Rattle.inst_logic.specs.Derivations.{at_number}
use Rattle.inst_logic.specs.Measure.{tree_weight, trees_weight, function_count}
use Rattle.inst_logic.specs.Printing.{is_lower_word, escaped_all, name_text, tree_text, arguments_text, more_text, sides_text, equality_sign, sign_text, atom_text, signed_text, literal_text, joined, clause_text}
use Rattle.inst_calculus.specs.Entries.{Entry}
use Rattle.inst_calculus.specs.Models.{SelectedClause}
use Rattle.cert_format.specs.Certificate.{Saturation, Certificate, first_refutation, refutation, saturation, covered, with_selected, selected_at, selected_members}
use Rattle.cert_format.specs.Lines.{clause_line, selected_line, shown_line, cover_line, origin_text, end_line, format_line}
use Rattle.cert_format.specs.Text.{numbered_lines, paired_lines, input_lines, axiom_lines, head_lines, certificate_text}
use Rattle.cert_front.specs.Kinds.{selected_of}

not_empty_if : (x : Bool) (a b : List ℕ) → 1 ≤ length a → 1 ≤ length b → 1 ≤ length (if x then a else b)
not_empty_if true a b p q = p
not_empty_if false a b p q = q

name_not_empty : (n : List ℕ) → 1 ≤ length (name_text n)
name_not_empty [] = omega arith
name_not_empty (b ∷ bs) = not_empty_if (is_lower_word (b ∷ bs)) (b ∷ bs) (39 ∷ escaped_all (b ∷ bs) ++ 39 ∷ []) (omega arith) (omega arith)

kind_counts_once : (k : Kind) → function_count k ≤ 1
kind_counts_once Predicate = omega arith
kind_counts_once Equality = omega arith
kind_counts_once Function = omega arith

mutual
  tree_light : (t : Tree) → tree_weight t ≤ length (tree_text t)
  tree_light (var n) = omega arith
  tree_light (app s ts) =
      let a = arguments_light ts in
      let b = name_not_empty s.name in
      let k = kind_counts_once s.kind in
      omega (arith, length-append (name_text s.name) (arguments_text ts))

  arguments_light : (ts : Trees) → trees_weight ts ≤ length (arguments_text ts)
  arguments_light none = omega arith
  arguments_light (more t ts) =
      let a = tree_light t in
      let b = more_light ts in
      omega (arith, length-append (tree_text t) (more_text ts))

  more_light : (ts : Trees) → trees_weight ts ≤ length (more_text ts)
  more_light none = omega arith
  more_light (more t ts) =
      let a = tree_light t in
      let b = more_light ts in
      omega (arith, length-append (tree_text t) (more_text ts))

sides_light : (sign : List ℕ) (ts : Trees) → trees_weight ts ≤ length (sides_text sign ts)
sides_light sign none = arguments_light none
sides_light sign (more t none) = arguments_light (more t none)
sides_light sign (more t (more u none)) =
    let a = tree_light t in
    let b = tree_light u in
    omega (arith, length-append (tree_text t ++ sign) (tree_text u), length-append (tree_text t) sign)
sides_light sign (more t (more u (more v ts))) = arguments_light (more t (more u (more v ts)))

named_light : (positive : Bool) (name : List ℕ) (ts : Trees) → trees_weight ts + 1 ≤ length (sign_text positive ++ name_text name ++ arguments_text ts)
named_light positive name ts =
    let a = arguments_light ts in
    let b = name_not_empty name in
    omega (arith, length-append (sign_text positive ++ name_text name) (arguments_text ts), length-append (sign_text positive) (name_text name))

atom_light : (positive : Bool) (k : Kind) (name : List ℕ) (ts : Trees) → trees_weight ts + function_count k ≤ length (atom_text positive k name ts)
atom_light positive Equality name ts = let a = sides_light (equality_sign positive) ts in omega arith
atom_light positive Predicate name ts = let a = named_light positive name ts in omega arith
atom_light positive Function name ts = named_light positive name ts

literal_light : (l : Signed Tree) → tree_weight l.atom ≤ length (literal_text l)
literal_light l = by l.positive l.atom
  where
    by : (positive : Bool) (t : Tree) → tree_weight t ≤ length (signed_text positive t)
    by positive (var n) = omega arith
    by positive (app s ts) = atom_light positive s.kind s.name ts

piece_within : (separator : List ℕ) (ps : List (List ℕ)) (i : ℕ) (p : List ℕ) → slice_get ps i ≡ Some p → length p ≤ length (joined separator ps)
piece_within separator [] i p e = absurd (cc)
piece_within separator (q ∷ []) zero p e = let same : q ≡ p = cc in let l = ap length same in omega arith
piece_within separator (q ∷ []) (suc i) p e = absurd (cc)
piece_within separator (q ∷ r ∷ ps) zero p e =
    let same : q ≡ p = cc in
    let l = ap length same in
    omega (arith, length-append (q ++ separator) (joined separator (r ∷ ps)), length-append q separator)
piece_within separator (q ∷ r ∷ ps) (suc i) p e =
    let l = piece_within separator (r ∷ ps) i p e in
    omega (arith, length-append (q ++ separator) (joined separator (r ∷ ps)), length-append q separator)

literal_within : (c : TreeClause) (n : ℕ) (l : Signed Tree) → at_number c n ≡ Some l → length (literal_text l) ≤ length (clause_text c)
literal_within c zero l e = absurd (cc)
literal_within [] (suc n) l e = absurd (cc)
literal_within (k ∷ c) (suc n) l e = piece_within (codes " | ") (map literal_text (k ∷ c)) n (literal_text l) (slice_get-map literal_text (k ∷ c) n ∙ ap (option_map literal_text) e)

clause_within : (label : List ℕ) (n : ℕ) (role : List ℕ) (c : TreeClause) (note : List ℕ) → length (clause_text c) ≤ length (clause_line label n role c note)
clause_within label n role c note = simp length-append (omega arith)

module _ (bound : ℕ) where
  abbrev IsBelow : SelectedClause → Type 0
  IsBelow m = tree_weight m.selected.atom < bound

  with_light : (c : TreeClause) (o : Option (Signed Tree)) (ms : List SelectedClause) → ((l : Signed Tree) → o ≡ Some l → tree_weight l.atom < bound) → All IsBelow ms → All IsBelow (with_selected c o ms)
  with_light c None ms h all = all
  with_light c (Some l) ms h all = All-cons IsBelow (record { clause = c; selected = l }) ms (h l refl) all

  members_light : (n : ℕ) (es : List Entry) (ps : List ℕ) → length (paired_lines selected_line n es ps) < bound → All IsBelow (selected_at es ps)
  members_light n [] ps h = All-nil IsBelow
  members_light n (e ∷ es) [] h = All-nil IsBelow
  members_light n (e ∷ es) (p ∷ ps) h =
      let line = selected_line n e p in
      let others = paired_lines selected_line (n + 1) es ps in
      let split = length-append line others in
      let rest : length others < bound = omega arith in
      with_light e.clause (at_number e.clause p) (selected_at es ps) here (members_light (n + 1) es ps rest)
    where
      here : (l : Signed Tree) → at_number e.clause p ≡ Some l → tree_weight l.atom < bound
      here l at =
          let a = literal_light l in
          let b = literal_within e.clause p l at in
          let d = clause_within (codes "m") n (codes "plain") e.clause (origin_text e.origin ++ codes ",[selected(" ++ decimal p ++ codes ")]") in
          omega (arith, length-append (selected_line n e p) (paired_lines selected_line (n + 1) es ps))

  parts_light : (before after : List ℕ) (c : Saturation) → length (before ++ paired_lines selected_line 1 c.base.members c.places ++ after) < bound → All IsBelow (selected_members c)
  parts_light before after c h =
      let lines = paired_lines selected_line 1 c.base.members c.places in
      members_light 1 c.base.members c.places (omega (arith, length-append (before ++ lines) after, length-append before lines))

  pub text_light : (format : ℕ) (name : List ℕ) (c : Certificate) → length (certificate_text format name c) < bound → All IsBelow (selected_of c)
  text_light format name (first_refutation r) h = All-nil IsBelow
  text_light format name (refutation r) h = All-nil IsBelow
  text_light format name (saturation s) h =
      parts_light (head_lines (codes "Satisfiable") (codes "Saturation") name ++ format_line format ++ input_lines s.base ++ axiom_lines s.base) (end_line (codes "Saturation") name) s h
  text_light format name (covered c) h =
      let s = c.saturation in
      let shown = paired_lines shown_line 1 (s.base.inputs ++ s.base.axioms) c.shown in
      let before = head_lines (codes "Satisfiable") (codes "Saturation") name ++ format_line format ++ input_lines s.base ++ axiom_lines s.base in
      let members = before ++ paired_lines selected_line 1 s.base.members s.places in
      let covers = numbered_lines cover_line 1 c.covers in
      let end = end_line (codes "Saturation") name in
      parts_light before [] s (shorter members shown covers end h)
    where
      -- what stands behind the members does not make them longer
      shorter : (a b d e : List ℕ) → length (a ++ b ++ d ++ e) < bound → length (a ++ []) < bound
      shorter a b d e l = omega (arith, length-append (a ++ b ++ d) e, length-append (a ++ b) d, length-append a b, length-append a [])
