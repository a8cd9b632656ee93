-- Literals by their texts: what was read is one, wherever it stands, and stays one as the bank grows.
use Rattle.std.proofs.Common.{◌≡◌, ℕ, List, [], ◌∷◌, ◌++◌, length, get_or, take, refl, sym, ap, ◌∙◌, arith, append_assoc, length-append}
use Rattle.std.proofs.Math.Seq.{take-append_seam}
use Rattle.inst_logic.specs.declared.signed.Signed.{Signed}
use Rattle.inst_logic.specs.Tree.{Tree, var, app, Trees, none, more}
use Rattle.inst_logic.specs.Printing.{name_text, equality_sign, sign_text}
use Rattle.term_bank.specs.Forest.{Forest, Extends}
use Rattle.cert_format.specs.Runs.{Ends}
use Rattle.cert_format.specs.Spelling.{term, arguments, following, goes_on, IsEqualitySign}
use Rattle.cert_format.specs.Forms.{Form, plain, equal, as_function, form_text, FollowsForm}
use Rattle.cert_format.proofs.Spelling.{follows_any}
use Rattle.cert_items.specs.Roots.{IsLiteralAt}
use Rattle.cert_items.specs.declared.recent.Spelled.{Spelled}
use Rattle.cert_items.specs.Spelled.{AreSpelled, IsSpelled}

-- ---- a text in front of a longer one
mutual
  term_before : (t : Tree) (x y : List ℕ) → term t x ++ y ≡ term t (x ++ y)
  term_before (var n) x y = ap (λ (bs : List ℕ). 88 ∷ bs) (append_assoc _ x y)
  term_before (app s ts) x y = append_assoc (name_text s.name) (arguments ts x) y ∙ ap (λ (bs : List ℕ). name_text s.name ++ bs) (arguments_before ts x y)

  arguments_before : (ts : Trees) (x y : List ℕ) → arguments ts x ++ y ≡ arguments ts (x ++ y)
  arguments_before none x y = refl
  arguments_before (more t ts) x y = ap (λ (bs : List ℕ). 40 ∷ bs) (term_before t (following 41 ts x) y ∙ ap (term t) (following_before 41 ts x y))

  following_before : (c : ℕ) (ts : Trees) (x y : List ℕ) → following c ts x ++ y ≡ following c ts (x ++ y)
  following_before c none x y = refl
  following_before c (more t ts) x y = ap (λ (bs : List ℕ). 44 ∷ bs) (term_before t (following c ts x) y ∙ ap (term t) (following_before c ts x y))

form_before : (g : Form) (y : List ℕ) → form_text g [] ++ y ≡ form_text g y
form_before (plain b name ts) y = append_assoc (sign_text b) (term (as_function name ts) []) y ∙ ap (λ (bs : List ℕ). sign_text b ++ bs) (term_before (as_function name ts) [] y)
form_before (equal b t u) y = term_before t (equality_sign b ++ term u []) y ∙ ap (term t) (append_assoc (equality_sign b) (term u []) y ∙ ap (λ (bs : List ℕ). equality_sign b ++ bs) (term_before u [] y))

follows_form : (g : Form) (rest : List ℕ) → Ends goes_on rest → ¬ IsEqualitySign rest → FollowsForm g rest
follows_form (plain b name ts) rest ends unequal_ = (follows_any (as_function name ts) rest ends, unequal_)
follows_form (equal b t u) rest ends unequal_ = follows_any u rest ends

-- ---- literals

pub spelled_at : (f : Forest) (l : Signed ℕ) (bytes text rest : List ℕ) → IsSpelled f text l → bytes ≡ text ++ rest → Ends goes_on rest → ¬ IsEqualitySign rest → IsLiteralAt f l bytes rest
spelled_at f l bytes text rest s is ends unequal_ = record {
  form = s.form;
  within = s.within;
  literal = s.literal;
  is = is ∙ ap (λ (bs : List ℕ). bs ++ rest) s.is ∙ form_before s.form rest;
  printable = s.printable;
  follows = follows_form s.form rest ends unequal_;
}

pub spelled_there : (f : Forest) (l : Signed ℕ) (bytes text after rest : List ℕ) → IsLiteralAt f l bytes rest → bytes ≡ text ++ after → length after ≡ length rest → IsSpelled f text l
spelled_there f l bytes text after rest a is same =
    let front = form_text a.form [] in
    let whole : text ++ after ≡ front ++ rest = sym is ∙ a.is ∙ sym (form_before a.form rest) in
    let count : length text ≡ length front = let p = ap length whole in let q = length-append text after in let r = length-append front rest in omega arith in
    record {
      form = a.form;
      within = a.within;
      literal = a.literal;
      is = sym (take-append_seam text after) ∙ ap (take (length text)) whole ∙ ap (λ (n : ℕ). take n (front ++ rest)) count ∙ take-append_seam front rest;
      printable = a.printable;
    }

pub spelled_later : (f g : Forest) (text : List ℕ) (l : Signed ℕ) → Extends f g → IsSpelled f text l → IsSpelled g text l
spelled_later f g text l e s =
    let same = e.trees.1 l.atom s.within in
    record {
      form = s.form;
      within = let n = e.trees.0 in let w = s.within in omega arith;
      literal = ap (λ (t : Tree). record { positive = l.positive; atom = t }) (sym (sym same)) ∙ s.literal;
      is = s.is;
      printable = s.printable;
    }

pub all_later : (f g : Forest) → Extends f g → (ss : List Spelled) → AreSpelled f ss → AreSpelled g ss
all_later f g e ss h k d within = let s = get_or ss k d in spelled_later f g s.text.items s.literal e (h k d within)
