use Rattle.std.proofs.Common.{◌≡◌, ◌≢◌, ◌∷◌, ◌++◌, ◌∙◌, List, ℕ, refl, sym, ap}
use Rattle.std.specs.Prelude.{codes, IsTrue}
use Rattle.inst_logic.specs.Printing.{is_readable_name, name_text}
use Rattle.cert_format.proofs.LineNotes.{behind_front}
use Rattle.cert_format.proofs.Names.{names_once}
use Rattle.cert_items.proofs.Reading.{none_if}
use Rattle.cert_items.proofs.notes.statement_name.Goals as goal

-- no name of a statement is at the front
abbrev NoName : List ℕ → Type 0
NoName bytes = (w rest : List ℕ) → IsTrue (is_readable_name w) → bytes ≢ codes "named(" ++ (name_text w ++ 41 ∷ rest)

pub returns-in_err-after-clause-none : goal.returns-in_err-after-clause-none
returns-in_err-after-clause-none c = none_if _ (NoName c.args.bytes.now) (λ w rest h e. c.in_err-after.ensures.none (name_text w ++ 41 ∷ rest) e)

pub returns-in_err-text-clause-none : goal.returns-in_err-text-clause-none
returns-in_err-text-clause-none c =
    none_if _ (NoName c.args.bytes.now) (λ w rest h e. c.in_err-text.ensures.none w (41 ∷ rest) h refl (behind_front (codes "named(") _ _ (sym c.in_ok-after.ensures.some ∙ e)))

pub returns-in_err-rest-clause-none : goal.returns-in_err-rest-clause-none
returns-in_err-rest-clause-none c =
    let s = c.in_ok-text.ensures.some in
    let n = s.1 in
    none_if _ (NoName c.args.bytes.now) (λ w rest h e.
    let q = behind_front (codes "named(") _ _ (sym c.in_ok-after.ensures.some ∙ e) in
    let t : name_text n.0 ++ c.in_ok-text.behind.now ≡ name_text w ++ 41 ∷ rest = ap (λ (xs : List ℕ). xs ++ c.in_ok-text.behind.now) (sym n.2) ∙ sym s.0 ∙ q in
    c.in_err-rest.ensures.none rest (names_once n.0 w c.in_ok-text.behind.now (41 ∷ rest) n.1 h s.2 refl t).1)
