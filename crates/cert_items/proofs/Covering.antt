-- Terms in brackets, what covers a clause, and sides of members: one text, one reading.
use Rattle.std.proofs.Common.{◌≡◌, ◌≢◌, ℕ, ◌^◌, ◌<◌, List, [], ◌∷◌, ◌++◌, length, map, refl, sym, ◌∙◌}
use Rattle.std.specs.Prelude.{decimal, codes, All}
use Rattle.std.specs.List.{list_all}
use Rattle.std.proofs.lemmas.Bool.{and_parts}
use Rattle.std.proofs.lemmas.List.Elements.{All-nil, All-cons, All-head, All-tail}
use Rattle.inst_logic.specs.Tree.{Tree}
use Rattle.term_bank.specs.Forest.{Forest, tree_at, AreIds}
use Rattle.cert_format.specs.Certificate.{Side}
use Rattle.cert_format.specs.Lines.{side_word}
use Rattle.cert_format.specs.LineTexts as texts
use Rattle.cert_format.specs.Spelling.{is_printable}
use Rattle.cert_format.proofs.LineNotes.{behind_front, terms_once, side_once}
use Rattle.cert_format.proofs.Marked.{marked_once}
use Rattle.cert_values.specs.Wholes.{IsWholeTerm}
use Rattle.cert_items.specs.Reading.{ArePrintable}
use Rattle.cert_items.specs.Notes.{members_text, side_text}
use Rattle.cert_items.proofs.Formed.{tree_formed}

-- ---- terms

pub whole_terms : (f : Forest) (ids : List ℕ) → AreIds f ids → ArePrintable (map (tree_at f) ids) → All (IsWholeTerm f) ids
whole_terms f [] h p = All-nil (IsWholeTerm f)
whole_terms f (i ∷ ids) h p =
    let a = and_parts (is_printable (tree_at f i)) (list_all is_printable (map (tree_at f) ids)) p in
    All-cons (IsWholeTerm f) i ids (record { within = All-head (λ k. k < length f.trees) i ids h; term = tree_formed (tree_at f i) a.0 }) (whole_terms f ids (All-tail (λ k. k < length f.trees) i ids h) a.1)

-- ---- a number with terms

-- the text of a number with terms
abbrev pub numbered : ℕ → List Tree → List ℕ → List ℕ
numbered n ts rest = decimal n ++ 44 ∷ 91 ∷ texts.terms ts (41 ∷ rest)

-- no number with terms is at the front
abbrev pub NoNumbered : List ℕ → Type 0
NoNumbered bytes = (n : ℕ) (ts : List Tree) (rest : List ℕ) → n < 2 ^ 64 → ArePrintable ts → bytes ≢ numbered n ts rest

module _ (bytes after : List ℕ) (m : ℕ) (is : bytes ≡ decimal m ++ 44 ∷ after) (fits : m < 2 ^ 64) where
  behind_number : (n : ℕ) (ts : List Tree) (rest : List ℕ) → n < 2 ^ 64 → bytes ≡ numbered n ts rest → after ≡ 91 ∷ texts.terms ts (41 ∷ rest)
  behind_number n ts rest h e = (marked_once m n 44 after (91 ∷ texts.terms ts (41 ∷ rest)) fits h refl (sym is ∙ e)).1

  pub no_bracket : ((x : List ℕ) → after ≢ 91 ∷ x) → NoNumbered bytes
  no_bracket bad n ts rest h p e = bad _ (behind_number n ts rest h e)

  pub no_inner : (inner : List ℕ) → after ≡ 91 ∷ inner → ((ts : List Tree) (rest : List ℕ) → ArePrintable ts → inner ≢ texts.terms ts rest) → NoNumbered bytes
  no_inner inner at bad n ts rest h p e = bad ts (41 ∷ rest) p (behind_front (91 ∷ []) _ _ (sym at ∙ behind_number n ts rest h e))

  pub no_parenthesis : (inner behind : List ℕ) (us : List Tree) → after ≡ 91 ∷ inner → inner ≡ texts.terms us behind → ArePrintable us → ((x : List ℕ) → behind ≢ 41 ∷ x) → NoNumbered bytes
  no_parenthesis inner behind us at in_is good bad n ts rest h p e =
      bad rest (terms_once us ts behind (41 ∷ rest) good p (sym in_is ∙ behind_front (91 ∷ []) _ _ (sym at ∙ behind_number n ts rest h e))).1

-- ---- what covers a clause

-- ---- sides

-- no members of a cover are at the front, and none with a side
abbrev pub NoMembers : List ℕ → Type 0
NoMembers bytes = (m n : ℕ) (rest : List ℕ) → m < 2 ^ 64 → n < 2 ^ 64 → bytes ≢ members_text m n rest

abbrev pub NoSides : List ℕ → Type 0
NoSides bytes = (m n : ℕ) (s : Side) (rest : List ℕ) → m < 2 ^ 64 → n < 2 ^ 64 → bytes ≢ side_text m n s rest

module _ (bytes after : List ℕ) (is : bytes ≡ codes "cover(m" ++ after) where
  pub no_left : ((n : ℕ) (x : List ℕ) → n < 2 ^ 64 → after ≢ decimal n ++ 44 ∷ x) → NoMembers bytes
  no_left bad m n rest h k e = bad m _ h (behind_front (codes "cover(m") _ _ (sym is ∙ e))

  module _ (left : ℕ) (behind : List ℕ) (at : after ≡ decimal left ++ 44 ∷ behind) (fits : left < 2 ^ 64) where
    behind_left : (m n : ℕ) (rest : List ℕ) → m < 2 ^ 64 → bytes ≡ members_text m n rest → behind ≡ 109 ∷ (decimal n ++ 44 ∷ rest)
    behind_left m n rest h e = (marked_once left m 44 behind _ fits h refl (sym at ∙ behind_front (codes "cover(m") _ _ (sym is ∙ e))).1

    pub no_letter : ((x : List ℕ) → behind ≢ 109 ∷ x) → NoMembers bytes
    no_letter bad m n rest h k e = bad _ (behind_left m n rest h e)

    pub no_right : (second : List ℕ) → behind ≡ 109 ∷ second → ((n : ℕ) (x : List ℕ) → n < 2 ^ 64 → second ≢ decimal n ++ 44 ∷ x) → NoMembers bytes
    no_right second two bad m n rest h k e = bad n rest k (behind_front (109 ∷ []) _ _ (sym two ∙ behind_left m n rest h e))

members_once : (l r m n : ℕ) (x y : List ℕ) → l < 2 ^ 64 → r < 2 ^ 64 → m < 2 ^ 64 → n < 2 ^ 64 → members_text l r x ≡ members_text m n y → x ≡ y
members_once l r m n x y a b c d e =
    let e0 = marked_once l m 44 _ _ a c refl (behind_front (codes "cover(m") _ _ e) in
    (marked_once r n 44 x y b d refl (behind_front (109 ∷ []) _ _ e0.1)).1

module _ (bytes after : List ℕ) (l r : ℕ) (is : bytes ≡ members_text l r after) (left : l < 2 ^ 64) (right : r < 2 ^ 64) where
  pub no_word : ((s : Side) (rest : List ℕ) → after ≢ side_word s ++ rest) → NoSides bytes
  no_word bad m n s rest h k e = bad s _ (members_once l r m n after _ left right h k (sym is ∙ e))

  pub no_list : (d : Side) (behind : List ℕ) → after ≡ side_word d ++ behind → ((x : List ℕ) → behind ≢ codes "),[" ++ x) → NoSides bytes
  no_list d behind at bad m n s rest h k e = bad rest (side_once d s behind _ (sym at ∙ members_once l r m n after _ left right h k (sym is ∙ e))).1

-- behind the side stands what covers the clause
pub behind_sides : (bytes after : List ℕ) (l r : ℕ) (d : Side) → bytes ≡ side_text l r d after → l < 2 ^ 64 → r < 2 ^ 64 → (m n : ℕ) (s : Side) (rest : List ℕ) → m < 2 ^ 64 → n < 2 ^ 64 → bytes ≡ side_text m n s rest → after ≡ rest
behind_sides bytes after l r d is left right m n s rest h k e =
    let a = members_once l r m n _ _ left right h k (sym is ∙ e) in
    behind_front (codes "),[") after rest (side_once d s _ _ a).1
