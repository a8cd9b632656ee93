-- A run that begins, and what stays of what it was given.
use Rattle.std.proofs.Common.{◌≡◌, inl, ℕ, suc, ◌<◌, List, [], ◌++◌, sym, ap₂, subst as transport, map, length, arith, Bool, true, false, All, Contains, Option, Some, None}
use Rattle.std.specs.Prelude.{IfOk, IfSome, IsSome, Result, Ok, Err, IsTrue, IsFalse}
use Rattle.inst_logic.specs.Clauses.{TreeClause}
use Rattle.inst_logic.specs.Measure.{is_function_free}
use Rattle.inst_logic.specs.WellFormed.{clause_is_formed, AreFormedClauses}
use Rattle.inst_calculus.proofs.Membership.{contains_in, in_contains, all_in, in_all, all_pass}
use Rattle.cert_format.specs.Printable.{IsPrintableClause}
use Rattle.term_index.specs.Pairs.{Posting}
use Rattle.instgen_select.specs.Queues.{numbers}
use Rattle.instgen_loop.specs.declared.outcome.Outcome.{Outcome}
use Rattle.instgen_loop.specs.declared.outcome.Outcome.TheVariants.{Refuted, Saturated, OutOfBudget}
use Rattle.instgen_run.specs.declared.queue.Partners.{Partners}
use Rattle.instgen_run.specs.declared.state.Run.{Run}
use Rattle.instgen_run.specs.Loops.{items, after}
use Rattle.instgen_loop.specs.Outcomes.{IsOutcome, IsDecided}
use Rattle.instgen_run.specs.Tended.{AreTended, AreOnce, indexed_of}
use Rattle.instgen_run.proofs.Tending.{above, there, after_once}

-- All entries wait, and none is indexed

pub all_wait : {S I C : Type 0} (pairs : I → List Posting) (r : Run S I C) (p : Partners I C) → pairs p.positive ≡ [] → pairs p.negative ≡ [] → numbers r.queue.items ≡ after 0 (length (items r)) → AreTended pairs r p
all_wait pairs r p positive negative waiting = record {
  once = transport AreOnce (sym waiting) (after_once 0 (length (items r)));
  positive = transport (All (λ n. 0 < n)) (sym waiting) (in_all (λ n. 0 < n) (after 0 (length (items r))) (λ n i. above 0 (length (items r)) n i));
  apart = λ n i j. none n j;
  queued = λ i l. inl (transport (λ ns. Contains ns (suc i)) (sym waiting) (in_contains (suc i) (after 0 (length (items r))) (there 0 (length (items r)) (suc i) (omega arith) (omega arith))));
  worked = λ i j a b. absurd (none i a);
}
  where
    none : (n : ℕ) → ¬ Contains (indexed_of pairs p) n
    none n i = contains_in n [] (transport (λ (qs : List Posting). Contains (map (λ (q : Posting). q.1) qs) n) (ap₂ (λ (xs ys : List Posting). xs ++ ys) positive negative) i)

-- Printable clauses are well formed

pub printable_formed : (cs : List TreeClause) → All IsPrintableClause cs → AreFormedClauses cs
printable_formed cs h = all_pass clause_is_formed cs (λ c i. (all_in IsPrintableClause cs h c i).formed)

-- Function-free clauses are decided

decided : (o : Outcome) (clauses : List TreeClause) (names : List (List ℕ)) (budget : ℕ) → IsOutcome clauses names budget o → IsTrue (is_function_free clauses) → IsDecided o
decided (Refuted cert journal) clauses names budget h free = tt
decided (Saturated cert journal) clauses names budget h free = tt
decided (OutOfBudget left wanted cert journal) clauses names budget h free = let f = h.ends.functions in absurd (opposite (is_function_free clauses) free f)
  where
    opposite : (b : Bool) → IsTrue b → IsFalse b → ⊥
    opposite true t f = cc
    opposite false t f = cc

-- what follows for each outcome follows for one that may be there
pub where_ended : {E : Type 0} (r : Result (Option Outcome) E) (P Q : Outcome → Type 0) → ((o : Outcome) → P o → Q o) → IfOk r (λ o. IfSome o P) → IfOk r (λ o. IfSome o Q)
where_ended (Ok (Some o)) P Q f h = f o h
where_ended (Ok None) P Q f h = tt
where_ended (Err e) P Q f h = tt

pub always_decided : {E : Type 0} (r : Result (Option Outcome) E) (clauses : List TreeClause) (names : List (List ℕ)) (budget : ℕ) → IfOk r (λ o. IfSome o (IsOutcome clauses names budget))
    → IfOk r (λ o. IfSome o (λ it. IsTrue (is_function_free clauses) → IsDecided it))
always_decided r clauses names budget h = where_ended r (IsOutcome clauses names budget) (λ it. IsTrue (is_function_free clauses) → IsDecided it) (λ o k. decided o clauses names budget k) h

-- nothing is not something
pub not_nothing : {T : Type 0} (o : Option T) → IsSome o → o ≡ None → ⊥
not_nothing (Some x) some is = cc
not_nothing None some is = cc
