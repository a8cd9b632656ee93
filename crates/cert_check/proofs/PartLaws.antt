-- Parts of conclusions, over their ids and over their trees.
use Rattle.std.proofs.Common.{◌≡◌, ℕ, ◌+◌, ◌<◌, List, [], ◌∷◌, ◌++◌, refl, ap, ap₂, sym, ◌∙◌, map, subst, take, length, get_or}
use Rattle.std.specs.Prelude.{◌↔◌, Option, None, Some, Bool, false, IsTrue, option_map}
use Rattle.std.specs.List.{cons_option}
use mathlib.Core.List.{append-nil}
use Rattle.std.proofs.lemmas.List.{length-map, take_more}
use Rattle.std.proofs.lemmas.List.Elements.{filter_map-append}
use Rattle.inst_logic.specs.declared.signed.Signed.{Signed}
use Rattle.inst_logic.specs.Clauses.{TreeClause, canonical_form}
use Rattle.inst_logic.specs.Derivations.{at_number}
use Rattle.inst_logic.proofs.ShownLaws.{at_number_contains}
use Rattle.inst_calculus.specs.Conclusions.{IsConclusion, IsPartOfConclusion}
use Rattle.inst_calculus.specs.Entries.{Entry}
use Rattle.inst_calculus.specs.Parts.{chosen, IsProperPart}
use Rattle.inst_calculus.proofs.Membership.{all_in, in_all, contains_in}
use Rattle.inst_calculus.proofs.OneConclusion.{one_conclusion}
use Rattle.inst_calculus.proofs.ProperParts.{from_chosen}
use Rattle.inst_calculus.proofs.StepLaws.{at_number_map}
use Rattle.term_bank.specs.Forest.{Forest, IsClauseOf, clause_at, literal_tree}

cons_map : {A B : Type 0} (f : A → B) (o : Option A) (ys : List A) → cons_option (option_map f o) (map f ys) ≡ map f (cons_option o ys)
cons_map f None ys = refl
cons_map f (Some x) ys = refl

chosen_map : {A B : Type 0} (f : A → B) (xs : List A) (ns : List ℕ) → chosen (map f xs) ns ≡ map f (chosen xs ns)
chosen_map f xs [] = refl
chosen_map f xs (n ∷ ns) = ap₂ (λ o ys. cons_option o ys) (at_number_map f xs n) (chosen_map f xs ns) ∙ cons_map f (at_number xs n) (chosen xs ns)

-- the chosen literals stand for the chosen trees
pub chosen_trees : (f : Forest) (c : List (Signed ℕ)) (keep : List ℕ) → clause_at f (chosen c keep) ≡ chosen (clause_at f c) keep
chosen_trees f c keep = sym (chosen_map (literal_tree f) c keep)

pub chosen_ids : (f : Forest) (c : List (Signed ℕ)) (keep : List ℕ) → IsClauseOf f c → IsClauseOf f (chosen c keep)
chosen_ids f c keep h =
    in_all (λ (l : Signed ℕ). l.atom < length f.trees) (chosen c keep)
    (λ l i. let (n, j, at) = from_chosen c keep l i in all_in (λ (k : Signed ℕ). k.atom < length f.trees) c h l (contains_in l c (at_number_contains c n l at)))

-- one more place
pub one_more_chosen : (c : List (Signed ℕ)) (keep : List ℕ) (i : ℕ) (place : ℕ) → i < length keep → get_or keep i 0 ≡ place → (o : Option (Signed ℕ)) → at_number c place ≡ o
    → chosen c (take (i + 1) keep) ≡ chosen c (take i keep) ++ cons_option o []
one_more_chosen c keep i place within is o at =
    ap (chosen c) (take_more keep i 0 within) ∙ filter_map-append (at_number c) (take i keep) (get_or keep i 0 ∷ [])
    ∙ ap (λ x. chosen c (take i keep) ++ cons_option x []) (ap (at_number c) is ∙ at)

pub none_more_chosen : (c : List (Signed ℕ)) (keep : List ℕ) (i : ℕ) (place : ℕ) → i < length keep → get_or keep i 0 ≡ place → at_number c place ≡ None → chosen c (take (i + 1) keep) ≡ chosen c (take i keep)
none_more_chosen c keep i place within is at = one_more_chosen c keep i place within is None at ∙ append-nil (chosen c (take i keep))

-- A clause is a part of what the entries conclude where it is one of the clause that they conclude.
module _ (es : List Entry) (from place partner other : ℕ) (keep : List ℕ) (c : TreeClause) where
  pub no_part : ((d : TreeClause) → ¬ IsConclusion es from place partner other d) → IsTrue false ↔ IsPartOfConclusion es from place partner other keep c
  no_part none = ((λ t. absurd cc), (λ h. absurd (none h.whole h.conclusion)))

  pub part_by : (f : Forest) (d : List (Signed ℕ)) → IsConclusion es from place partner other (clause_at f d) → (b : Bool)
      → IsTrue b ↔ (IsProperPart (length d) keep × (c ≡ canonical_form (chosen (clause_at f d) keep))) → IsTrue b ↔ IsPartOfConclusion es from place partner other keep c
  part_by f d concluded b h = (
    (λ t. record {
      whole = clause_at f d;
      conclusion = concluded;
      part = subst (λ n. IsProperPart n keep) (sym (length-map d (literal_tree f))) (h.0 t).0;
      canonical = (h.0 t).1;
    }),
    (λ p.
        let same : p.whole ≡ clause_at f d = one_conclusion es from place partner other p.whole (clause_at f d) p.conclusion concluded in
        h.1 (
          subst (λ n. IsProperPart n keep) (ap (λ (x : TreeClause). length x) same ∙ length-map d (literal_tree f)) p.part,
          p.canonical ∙ ap (λ (x : TreeClause). canonical_form (chosen x keep)) same,
        )),
  )
