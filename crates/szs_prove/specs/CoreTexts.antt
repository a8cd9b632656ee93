-- The texts of cores: which clauses they are, and the certificates that show it.
use Rattle.std.specs.Prelude.{ℕ, zero, suc, ◌≡◌, List, [], ◌∷◌, ◌++◌, codes, decimal, map, length, remove}
use Rattle.std.specs.List.{concat}
use Rattle.inst_logic.specs.Codes as byte
use Rattle.inst_logic.specs.declared.clause.Problem.{Problem}
use Rattle.core_min.specs.Cores.{HasRefutation, HasSelection, IsCore}
use Rattle.cert_format.specs.Certificate.{Covered, Refutation, covered, refutation}
use Rattle.cert_format.specs.Text.{written_text}
use Rattle.szs_prove.specs.Decisions.{IsShownBy}
use Rattle.szs_prove.specs.SubProblems.{problem_at}

-- the text is that of a refutation of the problem under the file's name, and the refutation comes from a run
pub record IsRefutationText (p : Problem) (file text : List ℕ) : Type 0 where
  pub certificate : Refutation
  pub shown : IsShownBy p (refutation certificate)
  pub is : text ≡ written_text file (refutation certificate)

-- the text is that of a saturation of the problem under the file's name, and the saturation comes from a run
pub record IsSaturationText (p : Problem) (file text : List ℕ) : Type 0 where
  pub certificate : Covered
  pub shown : IsShownBy p (covered certificate)
  pub is : text ≡ written_text file (covered certificate)

-- each place behind a blank
abbrev pub place_words : List ℕ → List ℕ
place_words places = concat (map (λ n. byte.space ∷ decimal n) places)

-- `% core of NAME:` and the places
abbrev pub core_line : List ℕ → List ℕ → List ℕ
core_line file places = concat (codes "% core of " ∷ file ∷ codes ":" ∷ place_words places ∷ codes "\n" ∷ [])

-- `% no core for NAME`
abbrev pub no_core_line : List ℕ → List ℕ
no_core_line file = concat (codes "% no core for " ∷ file ∷ codes "\n" ∷ [])

-- The text is made of one saturation for each of the first n places, in their order: that of the clauses at the other places.
abbrev pub AreRestTexts : Problem → List ℕ → List ℕ → ℕ → List ℕ → Type 0
AreRestTexts p file places zero text = text ≡ []
AreRestTexts p file places (suc n) text =
    (before last : List ℕ) × AreRestTexts p file places n before × IsSaturationText (problem_at p (remove places n)) file last × (text ≡ before ++ last)

-- the new text is the old one, and behind it one of which this holds
abbrev pub IsContinued : List ℕ → List ℕ → (List ℕ → Type 0) → Type 0
IsContinued old new Holds = (part : List ℕ) × Holds part × (new ≡ old ++ part)

-- the places of a core, the refutation of its clauses, and for each of them the saturation of the others
pub record IsCoreText (p : Problem) (file text : List ℕ) : Type 0 where
  pub places : List ℕ
  pub core : IsCore p.clauses places
  pub refutation_text : List ℕ
  pub rest_texts : List ℕ
  pub refuted : IsRefutationText (problem_at p places) file refutation_text
  pub needed : AreRestTexts p file places (length places) rest_texts
  pub is : text ≡ core_line file places ++ (refutation_text ++ rest_texts)

-- the clauses are satisfiable, so no ground instances of them are refuted, and the text has their saturation
pub record IsNoCoreText (p : Problem) (file text : List ℕ) : Type 0 where
  pub satisfiable : HasSelection p.clauses
  pub not_refuted : ¬ HasRefutation p.clauses
  pub saturation_text : List ℕ
  pub saturated : IsSaturationText p file saturation_text
  pub is : text ≡ no_core_line file ++ saturation_text
