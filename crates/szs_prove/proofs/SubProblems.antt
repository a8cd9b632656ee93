-- What the problem of some clauses has of the whole.
use Rattle.std.proofs.Common.{◌≡◌, ℕ, suc, ◌+◌, ◌<◌, ◌≤◌, inl, inr, List, [], ◌∷◌, ◌++◌, refl, sym, ap, ap₂, ◌∙◌, subst as transport, length, take, get_or, Option, Some, None, Bool, true, false}
use Rattle.std.specs.Prelude.{filter_map, All, Contains, IsTrue, MatchOption, Result, Ok, Err, IfOk, not}
use Rattle.std.specs.List.Sorted.{IsStrictlyIncreasing}
use Rattle.std.specs.List.{cons_option, list_any}
use Rattle.std.proofs.lemmas.List.{take_more}
use Rattle.std.proofs.lemmas.List.Elements.{filter_map-append}
use Rattle.inst_logic.specs.declared.clause.Problem.{Problem}
use Rattle.inst_logic.specs.Clauses.{TreeClause}
use Rattle.inst_logic.specs.Derivations.{at_number}
use Rattle.inst_logic.specs.Measure.{clause_applies, is_function_free}
use Rattle.inst_logic.specs.Printing.{is_readable_name}
use Rattle.inst_logic.proofs.Items.{at_number_contains, at_number_in}
use Rattle.inst_logic.proofs.Membership.{◌∈◌, contains_in, in_contains, all_in, in_all, any_true, any_from}
use Rattle.inst_logic.proofs.Booleans.{not_true}
use Rattle.cert_format.specs.Printable.{IsPrintableClause}
use Rattle.core_min.specs.Cores.{clauses_at, ArePlaces, HasRefutation, HasSelection}
use Rattle.core_min.specs.Verdicts.{IsCited}
use Rattle.szs_prove.specs.SubProblems.{IsDecidable, IsSettled, problem_at}

module _ {A : Type 0} (xs : List A) where
  -- what stands at some places is among the items
  from_places : (x : A) (places : List ℕ) → x ∈ filter_map (at_number xs) places → x ∈ xs
  from_places x [] i = absurd i
  from_places x (n ∷ ns) i = go (at_number xs n) refl i (from_places x ns)
    where
      go : (o : Option A) → at_number xs n ≡ o → x ∈ cons_option o (filter_map (at_number xs) ns) → (x ∈ filter_map (at_number xs) ns → x ∈ xs) → x ∈ xs
      go (Some y) e (inl q) rest = contains_in x xs (at_number_contains xs n x (e ∙ ap Some (sym q)))
      go (Some y) e (inr j) rest = rest j
      go None e j rest = rest j

  -- there is an item at each place
  length_at : (d : A) (places : List ℕ) → ((n : ℕ) → n ∈ places → (0 < n) × (n ≤ length xs)) → length (filter_map (at_number xs) places) ≡ length places
  length_at d [] h = refl
  length_at d (n ∷ ns) h =
      let (low, high) = h n (inl refl) in
      ap (λ o. length (cons_option o (filter_map (at_number xs) ns))) (at_number_in xs n d low high) ∙ ap suc (length_at d ns (λ m i. h m (inr i)))

-- one more place
pub added_so_far : (p before after : Problem) (places : List ℕ) (i d place : ℕ) → i < length places → get_or places i d ≡ place → before ≡ problem_at p (take i places)
    → after.clauses ≡ before.clauses ++ clauses_at p.clauses (place ∷ []) → after.names ≡ before.names ++ filter_map (at_number p.names) (place ∷ [])
    → after ≡ problem_at p (take (i + 1) places)
added_so_far p before after places i d place within there e clauses names =
    let more : take (i + 1) places ≡ take i places ++ place ∷ [] = take_more places i d within ∙ ap (λ n. take i places ++ n ∷ []) there in
    let all_clauses : after.clauses ≡ clauses_at p.clauses (take (i + 1) places) =
    clauses ∙ ap (λ (q : Problem). q.clauses ++ clauses_at p.clauses (place ∷ [])) e ∙ sym (filter_map-append (at_number p.clauses) (take i places) (place ∷ [])) ∙ ap (clauses_at p.clauses) (sym more) in
    let all_names : after.names ≡ filter_map (at_number p.names) (take (i + 1) places) =
    names ∙ ap (λ (q : Problem). q.names ++ filter_map (at_number p.names) (place ∷ [])) e ∙ sym (filter_map-append (at_number p.names) (take i places) (place ∷ [])) ∙ ap (filter_map (at_number p.names)) (sym more) in
    ap₂ (λ cs ns. record { clauses = cs; names = ns }) all_clauses all_names

function_free_at : (cs : List TreeClause) (places : List ℕ) → IsTrue (is_function_free cs) → IsTrue (is_function_free (clauses_at cs places))
function_free_at cs places free = go (list_any clause_applies (clauses_at cs places)) refl
  where
    go : (b : Bool) → list_any clause_applies (clauses_at cs places) ≡ b → not b ≡ true
    go false e = refl
    go true e =
        let (c, i, applies) = any_true clause_applies (clauses_at cs places) e in
        let some : list_any clause_applies cs ≡ true = any_from clause_applies cs c (from_places cs c places i) applies in
        let none : list_any clause_applies cs ≡ false = not_true (list_any clause_applies cs) free in
        cc

module _ (p : Problem) (places : List ℕ) (decidable : IsDecidable p) (h : ArePlaces p.clauses places) where
  pub decidable_at : IsDecidable (problem_at p places)
  decidable_at =
      let within = all_in (λ n. (0 < n) × (n ≤ length p.clauses)) places h.within in
      record {
        printable = record {
          clauses = in_all IsPrintableClause (clauses_at p.clauses places) (λ c i. all_in IsPrintableClause p.clauses decidable.printable.clauses c (from_places p.clauses c places i));
          named = length_at p.names [] places (λ n i. ((within n i).0, transport (λ k. n ≤ k) (sym decidable.printable.named) (within n i).1))
              ∙ sym (length_at p.clauses [] places within);
          readable = in_all (λ n. IsTrue (is_readable_name n)) (filter_map (at_number p.names) places) (λ n i. all_in (λ n. IsTrue (is_readable_name n)) p.names decidable.printable.readable n (from_places p.names n places i));
        };
        function_free = function_free_at p.clauses places decidable.function_free;
      }

-- ---- what is decided of them

module _ (cs : List TreeClause) (places : List ℕ) (h : ArePlaces cs places) where
  pub some_places : (some : List ℕ) → IsStrictlyIncreasing some → All (Contains places) some → ArePlaces cs some
  some_places some rising within = record {
    rising = rising;
    within = in_all (λ n. (0 < n) × (n ≤ length cs)) some (λ n i. all_in (λ n. (0 < n) × (n ≤ length cs)) places h.within n (contains_in n places (all_in (Contains places) some within n i)));
  }

  -- all of them are refuted
  pub all_cited : HasRefutation (clauses_at cs places) → IsCited cs places places
  all_cited refuted = record { rising = h.rising; within = in_all (Contains places) places (λ n i. in_contains n places i); refuted = refuted }

  counted : length (clauses_at cs places) ≡ length places
  counted = length_at cs [] places (all_in (λ n. (0 < n) × (n ≤ length cs)) places h.within)

  -- what is settled of the clauses at the places
  pub settled_at : {E : Type 0} (ds : List TreeClause) → ds ≡ clauses_at cs places → (r : Result (Option (List Bool)) E) → IfOk r (IsSettled ds)
      → IfOk r (λ marks. MatchOption marks (HasSelection (clauses_at cs places)) (λ m. HasRefutation (clauses_at cs places) × (length m ≡ length places)))
  settled_at ds e (Ok None) satisfiable = transport HasSelection e satisfiable
  settled_at ds e (Ok (Some marks)) refuted = (transport HasRefutation e refuted.0, refuted.1 ∙ (ap length e ∙ counted))
  settled_at ds e (Err why) h = tt
