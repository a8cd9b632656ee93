-- From what is read of a literal to an atom without variables.
use Rattle.std.proofs.Common.{◌≡◌, ℕ, ◌≤◌, Bool, true, false, cond, List, [], ◌∷◌, length, Some, None, Result, Err, refl, sym, ap, subst, ◌∙◌, arith}
use Rattle.std.specs.Prelude.{not}
use Rattle.std.specs.List.{list_any}
use Rattle.inst_logic.specs.Tree.{Tree}
use Rattle.inst_logic.specs.declared.signed.Signed.{Signed}
use Rattle.inst_logic.specs.declared.clause.Literal.{Literal}
use Rattle.tptp_read.specs.Stream.{Tok}
use Rattle.tptp_read.specs.declared.stop.Stop.{Stop}
use Rattle.tptp_read.specs.declared.stop.Stop.TheVariants as stops
use Rattle.tptp_read.specs.Grammar.{Negated, no_atom, no_equation, in_parens, Simple, atom, equation, unequal, negated, simple_fits, simple}
use Rattle.tptp_read.specs.Meaning.{from_negated, from_simple, literal_of, predicate_of, is_constant_atom, wrote_wide}
use Rattle.tptp_read.specs.ParseClause.{simple_at}
use Rattle.tptp_read.specs.LexemeView.{Fails}
use Rattle.tptp_read.specs.Shapes.{seen}
use Rattle.tptp_read.specs.Gathered.{Gathered, gather, literal_wide}
use Rattle.tptp_read.specs.Atoms.{is_plain_atom, has_variable, IsAtomForm}
use Rattle.tptp_read.specs.AtomReading.{FormOf}
use Rattle.tptp_read.proofs.ParseLaws.{some_is}
use Rattle.tptp_read.proofs.ItemLaws.{simple_again, simple_spelled, simple_depth}
use Rattle.tptp_read.proofs.Lengths.{item_deep_len}
use Rattle.tptp_read.proofs.GatherLaws.{seen_some, seen_fails}
use Rattle.tptp_read.proofs.BodyLaws.{started, width_literal, or_false_right}
use Rattle.inst_logic.proofs.Booleans.{is_true, true_is, not_both}
use Rattle.inst_logic.proofs.Outcomes.{not_some_and_none}

-- an atom is read from its tokens
pub atom_again : (ts : List Tok) (a : Simple) → IsAtomForm ts a → simple_at (length ts) ts ≡ Some (a, [])
atom_again ts a f =
    let deep = item_deep_len (simple a) [] in
    let few : simple_depth a ≤ length ts = omega (arith, deep, ap length f.spelled) in
    ap (simple_at (length ts)) (sym f.spelled) ∙ simple_again a (length ts) [] (record { opens = refl; equals = refl; differs = refl }) (is_true (simple_fits a) f.fits) few

-- ---- the sign of a literal

atom_sign : (vs : List (List ℕ)) (sign : Bool) (t : Tree) (l : Signed Tree) (b : Bool) → cond {A = List (Signed Tree)} b [] (record { positive = sign; atom = t } ∷ []) ≡ l ∷ [] → (b ≡ false) × (l.positive ≡ sign)
atom_sign vs sign t l true e = absurd cc
atom_sign vs sign t l false e = let same : record { positive = sign; atom = t } ≡ l = cc in (refl, sym (ap (λ (x : Signed Tree). x.positive) same))

one_sign : (x l : Signed Tree) → ◌≡◌ {A = List (Signed Tree)} (x ∷ []) (l ∷ []) → l.positive ≡ x.positive
one_sign x l e = let same : x ≡ l = cc in sym (ap (λ (y : Signed Tree). y.positive) same)

negated_sign : (n : Negated) (l : Signed Tree) → literal_of [] (from_negated n) ≡ l ∷ [] → l.positive ≡ false
negated_sign (no_atom t) l e = (atom_sign [] false (predicate_of [] t) l (is_constant_atom t) e).1
negated_sign (no_equation t u) l e = one_sign _ l e
negated_sign (in_parens n) l e = negated_sign n l e

positive_plain : (s : Simple) (l : Signed Tree) → literal_of [] (from_simple s) ≡ l ∷ [] → l.positive ≡ true → is_plain_atom s ≡ true
positive_plain (atom t) l e p = ap not (atom_sign [] true (predicate_of [] t) l (is_constant_atom t) e).0
positive_plain (equation t u) l e p = refl
positive_plain (unequal t u) l e p = not_both l.positive p (one_sign _ l e)
positive_plain (negated n) l e p = not_both l.positive p (negated_sign n l e)

plain_positive : (s : Simple) (l : Signed Tree) → is_plain_atom s ≡ true → literal_of [] (from_simple s) ≡ l ∷ [] → l.positive ≡ true
plain_positive (atom t) l p e = (atom_sign [] true (predicate_of [] t) l (is_constant_atom t) e).1
plain_positive (equation t u) l p e = one_sign _ l e
plain_positive (unequal t u) l p e = absurd cc
plain_positive (negated n) l p e = absurd cc

atom_one : (x : Signed Tree) (b : Bool) → not b ≡ true → length (cond {A = List (Signed Tree)} b [] (x ∷ [])) ≡ 1
atom_one x true e = absurd cc
atom_one x false e = refl

pub plain_one : (s : Simple) → is_plain_atom s ≡ true → length (literal_of [] (from_simple s)) ≡ 1
plain_one (atom t) p = atom_one (record { positive = true; atom = predicate_of [] t }) (is_constant_atom t) p
plain_one (equation t u) p = refl
plain_one (unequal t u) p = absurd cc
plain_one (negated n) p = absurd cc

-- ---- what was read

abbrev pub of_literal : List (List ℕ) → List (Signed Tree) → Simple → Gathered
of_literal vs clause s = gather vs (started clause) (from_simple s)

pub record IsReadAs (ts us : List Tok) (clause : List (Signed Tree)) : Type 0 where
  pub simple : Simple
  pub read : simple_at (length ts) ts ≡ Some (simple, us)
  pub literals : literal_of [] (from_simple simple) ≡ clause

pub read_as : (ts us : List Tok) (vs : List (List ℕ)) (c : List (Signed Tree)) (g : Gathered) (d : ℕ) → d ≡ length ts → vs ≡ [] → c ≡ [] → seen (of_literal vs c) (simple_at d ts) ≡ Some (g, us) → IsReadAs ts us g.clause
read_as ts us vs c g d long none nil e =
    let a = seen_some (of_literal vs c) (simple_at (length ts) ts) g us (ap (λ (n : ℕ). seen (of_literal vs c) (simple_at n ts)) (sym long) ∙ e) in
    let value : gather [] (started []) (from_simple a.0) ≡ g = (λ i. gather (sym none i) (started (sym nil i)) (from_simple a.0)) ∙ a.2 in
    record { simple = a.0; read = a.1; literals = ap (λ (x : Gathered). x.clause) value }

abbrev pair : Simple → List Tok → Simple × List Tok
pair s us = (s, us)

pub same_read : (ts us : List Tok) (s a : Simple) → simple_at (length ts) ts ≡ Some (s, us) → IsAtomForm ts a → (s ≡ a) × (us ≡ [])
same_read ts us s a e f =
    let same = some_is (pair s us) (pair a []) (sym e ∙ atom_again ts a f) in
    (ap (λ (z : Simple × List Tok). z.0) same, ap (λ (z : Simple × List Tok). z.1) same)

-- ---- the exits

pub form_variable : (ts : List Tok) → has_variable ts ≡ true → (a : Simple) → ¬ IsAtomForm ts a
form_variable ts e a f = not_both (has_variable ts) e f.variable_free

pub form_fails : (x : Stop) (ts : List Tok) (vs : List (List ℕ)) (c : List (Signed Tree)) (r : Result Literal Stop) (d : ℕ) → d ≡ length ts → r ≡ Err x → Fails x (seen (of_literal vs c) (simple_at d ts)) → FormOf ts r
form_fails stops.Memory ts vs c r d long e h = subst (λ (y : Result Literal Stop). FormOf ts y) (sym e) tt
form_fails stops.Wrong ts vs c r d long e h =
    let none : simple_at (length ts) ts ≡ None = ap (λ (n : ℕ). simple_at n ts) (sym long) ∙ seen_fails stops.Wrong (of_literal vs c) (simple_at d ts) h in
    subst (λ (y : Result Literal Stop). FormOf ts y) (sym e) (λ a f. not_some_and_none (pair a []) (simple_at (length ts) ts) (atom_again ts a f) none)

pub form_more : (ts us : List Tok) (c : List (Signed Tree)) → IsReadAs ts us c → (us ≡ [] → ⊥) → (a : Simple) → ¬ IsAtomForm ts a
form_more ts us c r some a f = some (same_read ts us r.simple a r.read f).1

pub form_none : (ts us : List Tok) (c : List (Signed Tree)) → IsReadAs ts us c → (length c ≡ 1 → ⊥) → (a : Simple) → ¬ IsAtomForm ts a
form_none ts us c r not_so a f =
    let same = (same_read ts us r.simple a r.read f).0 in
    not_so (ap length (sym r.literals) ∙ ap (λ (s : Simple). length (literal_of [] (from_simple s))) same ∙ plain_one a (is_true (is_plain_atom a) f.plain))

pub form_negative : (ts us : List Tok) (c : List (Signed Tree)) (l : Signed Tree) → IsReadAs ts us c → c ≡ l ∷ [] → l.positive ≡ false → (a : Simple) → ¬ IsAtomForm ts a
form_negative ts us c l r one not_so a f =
    let same = (same_read ts us r.simple a r.read f).0 in
    not_both l.positive (plain_positive a l (is_true (is_plain_atom a) f.plain) (ap (λ (s : Simple). literal_of [] (from_simple s)) (sym same) ∙ r.literals ∙ one)) not_so

pub form_is : (ts us : List Tok) (c : List (Signed Tree)) (l : Signed Tree) → has_variable ts ≡ false → IsReadAs ts us c → us ≡ [] → c ≡ l ∷ [] → l.positive ≡ true → (a : Simple) × IsAtomForm ts a × (literal_of [] (from_simple a) ≡ l ∷ [])
form_is ts us c l free r end one is_so =
    let read = r.read ∙ ap (λ (x : List Tok). Some (pair r.simple x)) end in
    let spelled = simple_spelled (length ts) ts (r.simple, []) read in
    let value = r.literals ∙ one in
    (r.simple, record { spelled = sym spelled.0; fits = true_is (simple_fits r.simple) spelled.1; plain = true_is (is_plain_atom r.simple) (positive_plain r.simple l value is_so); variable_free = free }, value)

pub width_is : (a : Simple) (l : Signed Tree) → literal_of [] (from_simple a) ≡ l ∷ [] → literal_wide l ≡ wrote_wide (from_simple a)
width_is a l e = sym (or_false_right (literal_wide l)) ∙ sym (ap (list_any literal_wide) e) ∙ width_literal [] (from_simple a)
