-- One more statement of a list.
use Rattle.std.proofs.Common.{◌≡◌, List, ◌++◌, ap, ◌∙◌, map}
use Rattle.std.specs.Prelude.{not}
use Rattle.std.proofs.lemmas.List.{map-append}
use Rattle.std.proofs.lemmas.List.Elements.{filter-append}
use Rattle.inst_logic.specs.Clauses.{canonical_form}
use Rattle.tptp_load.specs.Includes.{Stated}
use Rattle.tptp_load.specs.Problems.{giving}

pub clauses_more : (ss ts : List Stated) → map (λ s. canonical_form s.clause) (giving (ss ++ ts)) ≡ map (λ s. canonical_form s.clause) (giving ss) ++ map (λ s. canonical_form s.clause) (giving ts)
clauses_more ss ts = ap (map (λ s. canonical_form s.clause)) (filter-append (λ s. not s.always) ss ts) ∙ map-append (λ s. canonical_form s.clause) (giving ss) (giving ts)

pub names_more : (ss ts : List Stated) → map (λ s. s.name) (giving (ss ++ ts)) ≡ map (λ s. s.name) (giving ss) ++ map (λ s. s.name) (giving ts)
names_more ss ts = ap (map (λ s. s.name)) (filter-append (λ s. not s.always) ss ts) ∙ map-append (λ s. s.name) (giving ss) (giving ts)
