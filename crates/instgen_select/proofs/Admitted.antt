-- What waits apart, as it comes and is let in.
use Rattle.std.proofs.Common.{◌≡◌, refl, sym, ap, ◌∙◌, ◌<◌, List, [], ◌∷◌, ◌++◌, Option, Some, length, append_assoc, arith}
use Rattle.std.specs.Prelude.{slice_index_or}
use Rattle.std.specs.Option.{option_to_list}
use Rattle.instgen_select.specs.declared.turns.Arrival.{Arrival}
use Rattle.instgen_select.specs.Queues.{Waiting}
use Rattle.instgen_select.specs.Passives.{fresh_of}

-- the first one left
pub first_left : (fresh rest : List Arrival) (a : Arrival) (o : Option Arrival) → fresh ≡ option_to_list o ++ rest → o ≡ Some (slice_index_or fresh 0 a) → a ≡ slice_index_or fresh 0 a → fresh ≡ a ∷ rest
first_left fresh rest a o e v q = e ∙ ap (λ p. option_to_list p ++ rest) (v ∙ ap Some (sym q))

pub one_admitted : (ready later all : List Waiting) (fresh rest : List Arrival) (a : Arrival) → ready ++ fresh_of fresh ≡ all → fresh ≡ a ∷ rest → later ≡ ready ++ (a.number, a.size) ∷ [] → later ++ fresh_of rest ≡ all
one_admitted ready later all fresh rest a h e p =
    ap (λ xs. xs ++ fresh_of rest) p ∙ append_assoc ready ((a.number, a.size) ∷ []) (fresh_of rest) ∙ ap (λ xs. ready ++ fresh_of xs) (sym e) ∙ h

pub fewer_left : (fresh rest : List Arrival) (a : Arrival) → fresh ≡ a ∷ rest → length rest < length fresh
fewer_left fresh rest a e = let q : length fresh ≡ length (a ∷ rest) = ap length e in omega arith

fresh_more : (fresh : List Arrival) (a : Arrival) → fresh_of (fresh ++ a ∷ []) ≡ fresh_of fresh ++ (a.number, a.size) ∷ []
fresh_more [] a = refl
fresh_more (x ∷ fresh) a = ap (λ xs. (x.number, x.size) ∷ xs) (fresh_more fresh a)

pub one_more_apart : (ready : List Waiting) (fresh more : List Arrival) (a : Arrival) → more ≡ fresh ++ a ∷ [] → ready ++ fresh_of more ≡ (ready ++ fresh_of fresh) ++ (a.number, a.size) ∷ []
one_more_apart ready fresh more a e =
    ap (λ xs. ready ++ fresh_of xs) e ∙ ap (λ xs. ready ++ xs) (fresh_more fresh a) ∙ sym (append_assoc ready (fresh_of fresh) ((a.number, a.size) ∷ []))
