-- A packed list of measures, as the list of the long ones grows.
use Rattle.std.proofs.Common.{◌≡◌, ◌<◌, List, [], ◌∷◌, ◌++◌, length, map, Bool, true, false, refl, ap₂, ◌∙◌, nat_eq, if◌then◌else◌}
use Rattle.std.specs.Prelude.{slice_index_or}
use Rattle.std.specs.List.{All}
use Rattle.std.proofs.lemmas.List.{map_push}
use Rattle.std.proofs.lemmas.List.Elements.{All-head, All-tail}
use Rattle.std.proofs.lemmas.Bool.Decides.{Decides-eqb}
use Rattle.term_bank.specs.declared.node.Measures.{Measures}
use Rattle.term_bank.specs.declared.measure_list.ShortMeasures.{ShortMeasures}
use Rattle.term_bank.specs.Forest.{KeepsPlaces}
use Rattle.term_bank.specs.Nodes.{no_measures}
use Rattle.term_bank.specs.ShortMeasures.{long_size, greatest_in, measures_of, IsWithin}

module _ (ls ms : List Measures) (keeps : KeepsPlaces no_measures ls ms) where
  -- an entry keeps its measures
  entry_kept : (s : ShortMeasures) → IsWithin (length ls) s → measures_of ms s ≡ measures_of ls s
  entry_kept s within = by (nat_eq s.size long_size) (λ h. within ((Decides-eqb s.size long_size).0 h))
    where
      own : Measures
      own = record { size = s.size; weight = s.weight; greatest = greatest_in s.greatest }

      by : (b : Bool) → (b ≡ true → s.weight < length ls)
          → (if b then slice_index_or ms s.weight no_measures else own) ≡ (if b then slice_index_or ls s.weight no_measures else own)
      by true h = keeps.1 s.weight (h refl)
      by false h = refl

  -- all entries keep their measures
  entries_kept : (ss : List ShortMeasures) → All (IsWithin (length ls)) ss → map (measures_of ms) ss ≡ map (measures_of ls) ss
  entries_kept [] within = refl
  entries_kept (s ∷ ss) within =
      ap₂ (λ x xs. x ∷ xs) (entry_kept s (All-head (IsWithin (length ls)) s ss within)) (entries_kept ss (All-tail (IsWithin (length ls)) s ss within))

  -- one more entry
  pub entry_pushed : (ss : List ShortMeasures) (s : ShortMeasures) (x : Measures) → All (IsWithin (length ls)) ss → measures_of ms s ≡ x
      → map (measures_of ms) (ss ++ s ∷ []) ≡ map (measures_of ls) ss ++ x ∷ []
  entry_pushed ss s x within is = map_push (measures_of ms) ss s ∙ ap₂ (λ xs y. xs ++ y ∷ []) (entries_kept ss within) is
