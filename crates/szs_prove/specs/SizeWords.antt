-- The lines that say how large the refutation of a chain is.
use Rattle.std.specs.Prelude.{ℕ, List, [], ◌∷◌, codes, decimal}
use Rattle.std.specs.List.{concat}
use Rattle.szs_prove.specs.declared.sizes.Size.{Size}

-- `% SZS status Unsatisfiable for stress`, `% clauses C` and `% members M, steps S`, each with its line feed
abbrev pub size_lines : Size → List ℕ
size_lines s = concat (codes "% SZS status Unsatisfiable for stress\n% clauses " ∷ decimal s.clauses
    ∷ codes "\n% members " ∷ decimal s.members ∷ codes ", steps " ∷ decimal s.steps ∷ codes "\n" ∷ [])
