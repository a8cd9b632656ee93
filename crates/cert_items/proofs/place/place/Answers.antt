use Rattle.std.proofs.Common.{◌≢◌, ◌∷◌, ◌++◌, ◌∙◌, ◌<◌, ◌^◌, List, ℕ, refl, sym}
use Rattle.std.specs.Prelude.{codes, decimal}
use Rattle.cert_format.proofs.LineNotes.{behind_front}
use Rattle.cert_format.proofs.Marked.{marked_once}
use Rattle.cert_items.proofs.Reading.{none_if}
use Rattle.cert_items.proofs.place.place.Goals as goal

-- no place is at the front
abbrev NoPlace : List ℕ → Type 0
NoPlace bytes = (p : ℕ) (rest : List ℕ) → p < 2 ^ 64 → bytes ≢ codes ",[selected(" ++ (decimal p ++ 41 ∷ 93 ∷ rest)

pub returns-in_err-after-clause-none : goal.returns-in_err-after-clause-none
returns-in_err-after-clause-none c = none_if _ (NoPlace c.args.bytes.now) (λ p rest h e. c.in_err-after.ensures.none (decimal p ++ 41 ∷ 93 ∷ rest) e)

pub returns-in_err-p-clause-none : goal.returns-in_err-p-clause-none
returns-in_err-p-clause-none c =
    none_if _ (NoPlace c.args.bytes.now) (λ p rest h e. c.in_err-p.ensures.none p (93 ∷ rest) h (behind_front (codes ",[selected(") _ _ (sym c.in_ok-after.ensures.some ∙ e)))

pub returns-in_err-rest-clause-none : goal.returns-in_err-rest-clause-none
returns-in_err-rest-clause-none c =
    let s = c.in_ok-p in
    none_if _ (NoPlace c.args.bytes.now) (λ p rest h e.
    let q = behind_front (codes ",[selected(") _ _ (sym c.in_ok-after.ensures.some ∙ e) in
    c.in_err-rest.ensures.none rest (marked_once s.p p 41 s.behind.now (93 ∷ rest) s.ensures.fits h refl (sym s.ensures.some ∙ q)).1)
