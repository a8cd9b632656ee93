-- Clauses that have been read are printable where they are canonical, and otherwise no printable clause is there.
use Rattle.std.proofs.Common.{◌≡◌, ◌≢◌, ℕ, true, List, [], ◌∷◌, ◌++◌, map, sym, ap, ◌∙◌, subst}
use Rattle.std.specs.List.{All}
use Rattle.std.proofs.lemmas.List.Elements.{All-nil, All-cons}
use Rattle.std.proofs.lemmas.Bool.{and_parts}
use Rattle.inst_logic.specs.declared.signed.Signed.{Signed}
use Rattle.inst_logic.specs.Clauses.{TreeClause, IsCanonical}
use Rattle.inst_logic.specs.Printing.{clause_text}
use Rattle.inst_logic.specs.WellFormed.{atom_is_formed, clause_is_formed, IsAtom}
use Rattle.term_bank.specs.Forest.{Forest, tree_at, clause_at, Extends}
use Rattle.cert_format.specs.Formats.{clause_is_printable}
use Rattle.cert_format.specs.Forms.{form_atom}
use Rattle.cert_format.proofs.Clauses.{one_clause}
use Rattle.cert_format.proofs.ClauseForms.{forms_printable, clause_text_is, text_of_forms}
use Rattle.cert_format.proofs.Formats.{test_forms, test_yes, test_is}
use Rattle.cert_values.specs.Wholes.{IsWholeClause}
use Rattle.cert_items.specs.ClauseTexts.{IsClauseText, NoClause}
use Rattle.cert_items.proofs.Clauses.{grown_clause}

atoms_of : (f : Forest) (c : List (Signed ℕ)) → clause_is_formed (clause_at f c) ≡ true → All (λ (l : Signed ℕ). IsAtom (tree_at f l.atom)) c
atoms_of f [] h = All-nil (λ (l : Signed ℕ). IsAtom (tree_at f l.atom))
atoms_of f (l ∷ c) h =
    let a = and_parts (atom_is_formed (tree_at f l.atom)) (clause_is_formed (clause_at f c)) h in
    All-cons (λ (m : Signed ℕ). IsAtom (tree_at f m.atom)) l c a.0 (atoms_of f c a.1)

pub record IsReadClause (g : Forest) (c : List (Signed ℕ)) (bytes rest : List ℕ) : Type 0 where
  pub text : bytes ≡ clause_text (clause_at g c) ++ 44 ∷ rest
  pub test : clause_is_printable (clause_at g c) ≡ true
  pub whole : IsWholeClause g c

pub read_printable : (f g : Forest) (c : List (Signed ℕ)) (bytes rest : List ℕ) → Extends f g → IsClauseText f c bytes rest → IsCanonical (clause_at f c) → IsReadClause g c bytes rest
read_printable f g c bytes rest grows h canonical_ =
    let forms = map form_atom h.forms in
    let w = forms_printable h.forms h.printable (subst IsCanonical h.clause.1 canonical_) in
    let at = grown_clause f g c forms grows h.clause in
    let test : clause_is_printable (clause_at g c) ≡ true = ap clause_is_printable at.1 ∙ test_is forms w in
    record {
      text = h.is ∙ clause_text_is h.forms rest ∙ ap (λ (d : TreeClause). clause_text d ++ 44 ∷ rest) (sym at.1);
      test = test;
      whole = record { ids = at.0; atoms = atoms_of g c (test_yes (clause_at g c) test).printable.formed };
    }

pub no_printable : (bytes : List ℕ) → NoClause bytes → (d : TreeClause) (rest : List ℕ) → clause_is_printable d ≡ true → bytes ≢ clause_text d ++ 44 ∷ rest
no_printable bytes bad d rest p e = let a = test_forms d p in bad a.forms rest a.printable (e ∙ text_of_forms d a rest)

-- a printable clause there is the one that has been read
pub not_canonical : (f : Forest) (c : List (Signed ℕ)) (bytes rest : List ℕ) → IsClauseText f c bytes rest → (d : TreeClause) (x : List ℕ) → clause_is_printable d ≡ true → bytes ≡ clause_text d ++ 44 ∷ x → IsCanonical (clause_at f c)
not_canonical f c bytes rest h d x p e =
    let a = test_forms d p in
    let same = one_clause h.forms a.forms rest x h.printable a.printable (sym h.is ∙ e ∙ text_of_forms d a x) in
    let is : clause_at f c ≡ d = h.clause.1 ∙ ap (map form_atom) same ∙ a.are in
    subst IsCanonical (sym is) (test_yes d p).printable.canonical
