-- One text, one clause.
use Rattle.std.proofs.Common.{◌≡◌, ◌≢◌, ℕ, ◌<◌, ◌≤◌, Bool, true, false, List, [], ◌∷◌, ◌++◌, length, length-append, map, refl, sym, ap, ap₂, ◌∙◌, arith}
use Rattle.std.specs.Prelude.{◌&&◌, nat_eq, codes}
use Rattle.std.specs.List.{list_all}
use Rattle.inst_logic.specs.declared.signed.Signed.{Signed}
use Rattle.inst_logic.specs.Tree.{Tree, var, app, Trees, none, more}
use Rattle.inst_logic.specs.Clauses.{TreeClause}
use Rattle.inst_logic.specs.Printing.{equality_sign, sign_text}
use Rattle.cert_format.specs.Spelling.{term, Follows, IsEqualitySign}
use Rattle.cert_format.specs.Forms.{as_function, Form, plain, equal, form_text, form_is_printable, form_atom, FollowsForm, more_forms, forms_text, ArePrintableForms}
use Rattle.cert_items.specs.ClauseTexts.{before_forms, ended_by, read_by, HasRead, NoClause}
use Rattle.cert_items.specs.Roots.{IsLiteralAt, NoForm, NoFormHead}
use Rattle.std.proofs.lemmas.List.{map-append}
use Rattle.std.proofs.lemmas.List.Elements.{All-push}
use Rattle.std.proofs.lemmas.List.Folds.{list_all-append}
use Rattle.term_bank.specs.Forest.{Forest, tree_at, IsClauseAt, Extends}
use Rattle.std.proofs.lemmas.Bool.{and_parts, and_from}
use Rattle.term_bank.proofs.Clauses.{clause_of_extends, clause_extends}
use Rattle.cert_format.proofs.Clauses.{first, rest_of, one_form, forms_follow}
use Rattle.cert_format.proofs.Spelling.{term_longer}

-- a form and what follows it of a clause
pub record IsFormHead (rest : List ℕ) (after : List ℕ) : Type 0 where
  pub form : Form
  pub others : List Form
  pub is : rest ≡ form_text form (more_forms others after)
  pub form_is : form_is_printable form ≡ true
  pub others_are : ArePrintableForms others

-- a bar is no sign of equality
no_sign : (x : List ℕ) → ¬ IsEqualitySign (32 ∷ 124 ∷ 32 ∷ x)
no_sign x (true, y, e) = let q = ap (λ (xs : List ℕ). nat_eq (first (rest_of xs)) 61) e in cc
no_sign x (false, y, e) = let q = ap (λ (xs : List ℕ). nat_eq (first (rest_of xs)) 33) e in cc

bar_follows : (f : Form) (x : List ℕ) → FollowsForm f (32 ∷ 124 ∷ 32 ∷ x)
bar_follows (plain b name ts) x = (by ts, no_sign x)
  where
    by : (us : Trees) → Follows (as_function name us) (32 ∷ 124 ∷ 32 ∷ x)
    by none = refl
    by (more u us) = tt
bar_follows (equal b t u) x = by u
  where
    by : (v : Tree) → Follows v (32 ∷ 124 ∷ 32 ∷ x)
    by (var n) = refl
    by (app s none) = refl
    by (app s (more v vs)) = tt

pub form_head : (done : List Form) (rest after : List ℕ) → ArePrintableForms done → IsFormHead (before_forms done rest) after → IsFormHead rest after
form_head [] rest after good h = h
form_head (f ∷ fs) rest after good h =
    let g = and_parts (form_is_printable f) (list_all form_is_printable fs) good in
    let k = one_form f h.form (32 ∷ 124 ∷ 32 ∷ before_forms fs rest) (more_forms h.others after) g.0 h.form_is (bar_follows f (before_forms fs rest)) (forms_follow h.form h.others after) h.is in
    by h.others h.others_are k.1 (form_head fs rest after g.1)
  where
    by : (es : List Form) → ArePrintableForms es → 32 ∷ 124 ∷ 32 ∷ before_forms fs rest ≡ more_forms es after → (IsFormHead (before_forms fs rest) after → IsFormHead rest after) → IsFormHead rest after
    by [] p e next = absurd (let q : 32 ≡ 44 = ap first e in omega arith)
    by (d ∷ es) p e next =
        let r = and_parts (form_is_printable d) (list_all form_is_printable es) p in
        next (record { form = d; others = es; is = ap (λ (xs : List ℕ). rest_of (rest_of (rest_of xs))) e; form_is = r.0; others_are = r.1 })

pub forms_push : (fs : List Form) (f : Form) (rest : List ℕ) → before_forms (fs ++ f ∷ []) rest ≡ before_forms fs (form_text f (32 ∷ 124 ∷ 32 ∷ rest))
forms_push [] f rest = refl
forms_push (g ∷ fs) f rest = ap (λ (xs : List ℕ). form_text g (32 ∷ 124 ∷ 32 ∷ xs)) (forms_push fs f rest)

more_last : (fs : List Form) (f : Form) (rest : List ℕ) → more_forms (fs ++ f ∷ []) rest ≡ 32 ∷ 124 ∷ 32 ∷ before_forms fs (form_text f (44 ∷ rest))
more_last [] f rest = refl
more_last (g ∷ fs) f rest = ap (λ (xs : List ℕ). 32 ∷ 124 ∷ 32 ∷ form_text g xs) (more_last fs f rest)

pub forms_last : (fs : List Form) (f : Form) (rest : List ℕ) → forms_text (fs ++ f ∷ []) rest ≡ before_forms fs (form_text f (44 ∷ rest))
forms_last [] f rest = refl
forms_last (g ∷ fs) f rest = ap (form_text g) (more_last fs f rest)

-- ---- lengths

pub form_longer : (f : Form) (x : List ℕ) → length x ≤ length (form_text f x)
form_longer (plain b name ts) x = let a = term_longer (as_function name ts) x in let c = length-append (sign_text b) (term (as_function name ts) x) in omega arith
form_longer (equal b t u) x = let a = term_longer t (equality_sign b ++ term u x) in let c = length-append (equality_sign b) (term u x) in let d = term_longer u x in omega arith

pub ended_longer : (e : Bool) (x : List ℕ) → length x < length (ended_by e x)
ended_longer true x = omega arith
ended_longer false x = omega arith

-- ---- what stands behind a literal

more_ended : (fs : List Form) (rest : List ℕ) → (e : Bool) × (x : List ℕ) × (more_forms fs rest ≡ ended_by e x)
more_ended [] rest = (true, rest, refl)
more_ended (f ∷ fs) rest = (false, form_text f (more_forms fs rest), refl)

pub no_item : (bytes : List ℕ) → NoForm bytes → NoFormHead bytes
no_item bytes bad f fs rest p q e = bad f (more_forms fs rest) p (forms_follow f fs rest) e

pub no_end : (bytes after : List ℕ) (g : Form) → bytes ≡ form_text g after → form_is_printable g ≡ true → FollowsForm g after → ((e : Bool) (x : List ℕ) → after ≢ ended_by e x) → NoFormHead bytes
no_end bytes after g is p follows bad f fs rest q r e =
    let k = one_form g f after (more_forms fs rest) p q follows (forms_follow f fs rest) (sym is ∙ e) in
    let m = more_ended fs rest in
    bad m.0 m.1 (k.1 ∙ m.2)

-- ---- the clause so far

all_forms : (fs : List Form) (f : Form) → ArePrintableForms fs → form_is_printable f ≡ true → ArePrintableForms (fs ++ f ∷ [])
all_forms fs f h p = list_all-append form_is_printable fs (f ∷ []) ∙ and_from (list_all form_is_printable fs) (form_is_printable f && true) h (and_from (form_is_printable f) true p refl)

read_push : (e : Bool) (fs : List Form) (f : Form) (rest : List ℕ) → read_by e (fs ++ f ∷ []) rest ≡ before_forms fs (form_text f (ended_by e rest))
read_push true fs f rest = forms_last fs f rest
read_push false fs f rest = forms_push fs f rest

pub grown_clause : (f g : Forest) (c : List (Signed ℕ)) (ts : TreeClause) → Extends f g → IsClauseAt f c ts → IsClauseAt g c ts
grown_clause f g c ts e h = (clause_of_extends f g e c h.0, clause_extends f g e c h.0 ∙ h.1)

pub read_literal : (f g : Forest) (c : List (Signed ℕ)) (l : Signed ℕ) (bytes rest : List ℕ) (e : Bool) (after : List ℕ) → HasRead f c false bytes rest → Extends f g → IsLiteralAt g l rest (ended_by e after) → HasRead g (c ++ l ∷ []) e bytes after
read_literal f g c l bytes rest e after h grows a =
    let old = grown_clause f g c (map form_atom h.forms) grows h.clause in
    record {
      forms = h.forms ++ a.form ∷ [];
      clause = (All-push (λ (m : Signed ℕ). m.atom < length g.trees) c l old.0 a.within, map-append (λ (m : Signed ℕ). record { positive = m.positive; atom = tree_at g m.atom }) c (l ∷ []) ∙ ap₂ (λ (xs : TreeClause) (x : Signed Tree). xs ++ x ∷ []) old.1 a.literal ∙ sym (map-append form_atom h.forms (a.form ∷ [])));
      is = h.is ∙ ap (before_forms h.forms) a.is ∙ sym (read_push e h.forms a.form after);
      printable = all_forms h.forms a.form h.printable a.printable;
    }

pub no_clause : (f : Forest) (c : List (Signed ℕ)) (bytes rest : List ℕ) → ((x : List ℕ) → bytes ≢ codes "$false," ++ x) → HasRead f c false bytes rest → NoFormHead rest → NoClause bytes
no_clause f c bytes rest empty_ h bad [] after good is = empty_ after is
no_clause f c bytes rest empty_ h bad (g ∷ gs) after good is =
    let q = and_parts (form_is_printable g) (list_all form_is_printable gs) good in
    let k = form_head h.forms rest after h.printable (record { form = g; others = gs; is = sym h.is ∙ is; form_is = q.0; others_are = q.1 }) in
    bad k.form k.others after k.form_is k.others_are k.is
