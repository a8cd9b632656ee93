-- What is put for variables are terms, so the bank stays formed.
use Rattle.std.proofs.Common.{◌≡◌, ℕ, ◌<◌, List, [], ◌∷◌, ◌++◌, inl, refl, sym, subst, length, arith, Some}
use Rattle.std.specs.Prelude.{All}
use Rattle.std.proofs.lemmas.List.Elements.{All-nil, All-push, All-weaker}
use Rattle.inst_logic.specs.Derivations.{at_number}
use Rattle.inst_logic.specs.WellFormed.{IsTerm}
use Rattle.inst_logic.proofs.Membership.{in_right, in_left, all_in, in_all}
use Rattle.term_bank.specs.Forest.{Forest, AreFormed, AreIds, Extends, tree_at, IsTermIn}
use Rattle.clause_form.specs.Conclusions.{AreTermIds}
use Rattle.global_subs.specs.declared.made.Made.{Made}
use Rattle.global_subs.specs.declared.unrolling.Task.{Task}
use Rattle.global_subs.specs.Terms.{HasTerms}
use Rattle.global_subs.specs.Unrolls.{AreEntriesOf, terms_of}
use Rattle.global_subs.proofs.TaskLaws.{entry_of}

pub terms_in : (f : Forest) (ids : List ℕ) → AreIds f ids → AreTermIds f ids → All (IsTermIn f) ids
terms_in f ids within terms = in_all (IsTermIn f) ids (λ n i. (all_in (λ id. id < length f.trees) ids within n i, all_in (λ id. IsTerm (tree_at f id)) ids terms n i))

pub term_ids : (f : Forest) (ids : List ℕ) → All (IsTermIn f) ids → AreTermIds f ids
term_ids f ids h = All-weaker (IsTermIn f) (λ id. IsTerm (tree_at f id)) (λ n k. k.1) ids h

pub term_stays : (f g : Forest) → Extends f g → (id : ℕ) → IsTermIn f id → IsTermIn g id
term_stays f g x id h = (omega (arith, x.trees.0, h.0), subst IsTerm (sym (x.trees.1 id h.0)) h.1)

-- the bank may have grown
pub has_terms_later : (f g : Forest) → Extends f g → AreFormed g → (made : List Made) (tasks : List Task) → HasTerms f made tasks → HasTerms g made tasks
has_terms_later f g x formed made tasks h = record {
  formed = formed;
  entries = All-weaker (λ (m : Made). All (IsTermIn f) (terms_of m.how)) (λ (m : Made). All (IsTermIn g) (terms_of m.how)) (λ m k. All-weaker (IsTermIn f) (IsTermIn g) (term_stays f g x) (terms_of m.how) k) made h.entries;
  waiting = All-weaker (λ (t : Task). All (IsTermIn f) t.terms) (λ (t : Task). All (IsTermIn g) t.terms) (λ t k. All-weaker (IsTermIn f) (IsTermIn g) (term_stays f g x) t.terms k) tasks h.waiting;
}

module _ (f : Forest) (made : List Made) where
  pub one_more_task : (tasks : List Task) (t : Task) → HasTerms f made tasks → All (IsTermIn f) t.terms → HasTerms f made (tasks ++ t ∷ [])
  one_more_task tasks t h k = record { formed = h.formed; entries = h.entries; waiting = All-push (λ (t : Task). All (IsTermIn f) t.terms) tasks t h.waiting k }

  pub with_tasks : (tasks more : List Task) → HasTerms f made tasks → All (λ (t : Task). All (IsTermIn f) t.terms) more → HasTerms f made more
  with_tasks tasks more h k = record { formed = h.formed; entries = h.entries; waiting = k }

  pub last_task : (tasks : List Task) (t : Task) → HasTerms f made (tasks ++ t ∷ []) → All (IsTermIn f) t.terms
  last_task tasks t h = all_in (λ (t : Task). All (IsTermIn f) t.terms) (tasks ++ t ∷ []) h.waiting t (in_right t tasks (t ∷ []) (inl refl))

  pub but_last : (tasks : List Task) (t : Task) → HasTerms f made (tasks ++ t ∷ []) → HasTerms f made tasks
  but_last tasks t h = record {
    formed = h.formed;
    entries = h.entries;
    waiting = in_all (λ (t : Task). All (IsTermIn f) t.terms) tasks (λ x i. all_in (λ (t : Task). All (IsTermIn f) t.terms) (tasks ++ t ∷ []) h.waiting x (in_left x tasks (t ∷ []) i));
  }

  pub entry_terms : (tasks : List Task) (n : ℕ) (m : Made) → HasTerms f made tasks → at_number made n ≡ Some m → All (IsTermIn f) (terms_of m.how)
  entry_terms tasks n m h at = entry_of (λ (m : Made). All (IsTermIn f) (terms_of m.how)) made n m h.entries at

  pub no_tasks : AreFormed f → AreEntriesOf f made → All (λ (m : Made). AreTermIds f (terms_of m.how)) made → HasTerms f made []
  no_tasks formed entries terms = record {
    formed = formed;
    entries = in_all (λ (m : Made). All (IsTermIn f) (terms_of m.how)) made (λ m i.
        terms_in f (terms_of m.how) (all_in (λ (m : Made). AreIds f (terms_of m.how)) made entries.ids m i) (all_in (λ (m : Made). AreTermIds f (terms_of m.how)) made terms m i));
    waiting = All-nil (λ (t : Task). All (IsTermIn f) t.terms);
  }
