-- A run at rest that decided what was held back.
use Rattle.std.proofs.Common.{◌≡◌, ℕ, List, refl, sym, ap, ◌∙◌, subst as transport, length, All, Option, None, Some}
use Rattle.std.proofs.lemmas.List.Elements.{All-nil}
use Rattle.inst_logic.specs.declared.signed.Signed.{Signed}
use Rattle.inst_logic.specs.Clauses.{TreeClause}
use Rattle.inst_calculus.specs.Entries.{Entry}
use Rattle.inst_calculus.proofs.Membership.{all_in, in_all}
use Rattle.engine_laws.specs.Pairs.{AreWorked, IsHeldBack}
use Rattle.term_bank.specs.Forest.{Forest, IsClauseOf}
use Rattle.term_index.specs.Pairs.{Posting}
use Rattle.instgen_loop.specs.declared.start.Given.{Given}
use Rattle.instgen_run.specs.declared.state.Run.{Run}
use Rattle.instgen_run.specs.declared.premises.Premises.{Premises}
use Rattle.instgen_run.specs.declared.queue.Partners.{Partners}
use Rattle.instgen_loop.specs.declared.task.Task.{Task}
use Rattle.instgen_run.specs.Clauses.{Item, entries_in}
use Rattle.instgen_run.specs.Deciding.{IsSomeConclusion}
use Rattle.instgen_loop.specs.Ending.{IsFinished}
use Rattle.instgen_run.specs.Loops.{items, held_in, held_of, IsConsistent}
use Rattle.instgen_run.specs.Running.{entries_of, events_so_far, IsSolvedFor, Reads}
use Rattle.instgen_loop.specs.Tasks.{all_clauses}
use Rattle.instgen_run.specs.Tended.{AreTended, indexed_of}
use Rattle.instgen_loop.proofs.FreshRuns.{problem_later}
use Rattle.instgen_run.proofs.Grown.{entries_stay}
use Rattle.instgen_run.proofs.Runs.{running_read}

-- what is held back is a conclusion
pub held_conclude : {S I C : Type 0} (atoms : S → ℕ) (added : S → List (List (Signed ℕ))) (r : Run S I C) (cs : List TreeClause) (budget : ℕ) → IsSolvedFor atoms added r cs budget
    → All (IsSomeConclusion (entries_of r)) (held_of r)
held_conclude atoms added r cs budget (bot, v, h) = go r.left refl
  where
    go : (o : Option ℕ) → r.left ≡ o → All (IsSomeConclusion (entries_of r)) (held_of r)
    go None e = transport (λ (hs : List Premises). All (IsSomeConclusion (entries_of r)) (held_in hs)) (sym (h.none_held e)) (All-nil (IsSomeConclusion (entries_of r)))
    go (Some k) e = in_all (IsSomeConclusion (entries_of r)) (held_of r) (λ x i. let b = all_in (IsHeldBack (entries_of r) k) (held_of r) (h.held k e) x i in (b.clause, b.concluded))

module _ {S I C : Type 0} (old new : Run S I C) (reads : Reads old new) where
  tended_read : (pairs : I → List Posting) (p : Partners I C) → entries_in new.entries.bank (items old) ≡ entries_of old → AreTended pairs old p → AreTended pairs new p
  tended_read pairs p same h = transport (λ r. AreTended pairs r p) (sym reads.rest) (record {
    once = h.once;
    positive = h.positive;
    apart = h.apart;
    queued = h.queued;
    worked = transport (λ (es : List Entry). AreWorked es old.selection.places (held_of old) (indexed_of pairs p)) (sym same) h.worked;
  })

  pub finished_read : (atoms : S → ℕ) (added : S → List (List (Signed ℕ))) (pairs : I → List Posting) (fits : Forest → I → Type 0) (t : Task) (p : Partners I C) (g : Given) → IsConsistent atoms pairs fits new
      → IsFinished atoms added pairs fits t old p g → IsFinished atoms added pairs fits t new p g
  finished_read atoms added pairs fits t p g safe h =
      let before = h.rest in
      let (bot, v, k) = h.solved in
      let same = entries_stay old.entries.bank new.entries.bank reads.bank (items old) (λ x i. all_in (λ (x : Item). IsClauseOf old.entries.bank x.0) (items old) before.safe.entries.ids x i) in
      record {
        rest = record {
          safe = safe;
          tended = tended_read pairs p same before.tended;
          rests = ap (λ (r : Run S I C). r.queue.items) reads.rest ∙ before.rests;
          whole = ap (λ (r : Run S I C). length r.selection.places) reads.rest ∙ before.whole ∙ sym (ap (λ (r : Run S I C). length (items r)) reads.rest);
        };
        solved = (bot, v, running_read atoms added old new reads before.safe.entries bot (all_clauses t) t.budget v k);
        problem = problem_later old new g t.problem.now.clauses reads.bank (ap (λ (r : Run S I C). r.ground.abstraction.bot) reads.rest) h.problem;
      }

  pub events_read : events_so_far new ≡ events_so_far old
  events_read = ap (λ (r : Run S I C). events_so_far r) reads.rest
