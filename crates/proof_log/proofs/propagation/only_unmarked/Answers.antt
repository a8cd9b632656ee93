use Rattle.std.proofs.Common.{ℕ, ◌≡◌, false, inl, inr, List, [], ◌∷◌, ◌++◌, take, Option, Some, None, get_or, sym, ◌∙◌, subst}
use Rattle.std.specs.Prelude.{All, Contains, MatchOption, IfSome}
use Rattle.std.proofs.lemmas.List.{take_more, take_all}
use Rattle.std.proofs.lemmas.List.Elements.{All-push, Contains-get_or}
use Rattle.inst_logic.specs.declared.signed.Signed.{Signed}
use Rattle.inst_logic.specs.Derivations.{IsOnlyOutside}
use Rattle.proof_log.proofs.MarkedSets.{marked_in, unmarked_out, differ, do_not_differ, outside_first, outside_stays, no_outside, two_outside}
use Rattle.proof_log.proofs.propagation.only_unmarked.Goals as goal
use Rattle.proof_log.proofs.propagation.only_unmarked.Goals.{then-not-contains+in-None, then-not-contains+in-Some+else-ne, else-not-contains}

pub returns-then-ne-clause-outside : goal.returns-then-ne-clause-outside
returns-then-ne-clause-outside c = λ F h l.
    let d : Signed ℕ = record { atom = 0; positive = false } in
    let found = subst (λ o. MatchOption o (All (Contains F) (take c.loop-lit.lit-index c.args.clause.now)) (λ x. IsOnlyOutside F (take c.loop-lit.lit-index c.args.clause.now) x)) c.in-Some.is (c.loop-lit.invariant.so_far F h) in
    two_outside F c.args.clause.now c.loop-lit.lit-index d c.in-Some.other c.loop-lit-test.true found
    (unmarked_out c.args.marks.now F _ h (c.requires c.loop-lit.lit-index d c.loop-lit-test.true) (sym c.contains.ensures ∙ c.if-not-contains.true))
    (differ c.in-Some.other _ (sym c.ne.ensures ∙ c.if-ne.true)) l

-- what has been found
abbrev Found : List (Signed ℕ) → List (Signed ℕ) → Option (Signed ℕ) → Type 0
Found F clause found = MatchOption found (All (Contains F) clause) (λ x. IsOnlyOutside F clause x)

found_inside : (F clause : List (Signed ℕ)) (x : Signed ℕ) (found : Option (Signed ℕ)) → Contains F x → Found F clause found → Found F (clause ++ x ∷ []) found
found_inside F clause x None h all = All-push (Contains F) clause x all h
found_inside F clause x (Some y) h one = outside_stays F clause x y one (inl h)

found_all : (F clause : List (Signed ℕ)) (found : Option (Signed ℕ)) → Found F clause found → MatchOption found ((l : Signed ℕ) → IsOnlyOutside F clause l → ⊥) (λ l. IsOnlyOutside F clause l)
found_all F clause None all = no_outside F clause all
found_all F clause (Some y) one = one

pub loop-lit-preserved : goal.loop-lit-preserved
loop-lit-preserved c = record {
  here =
      (elim c.if-not-contains.branch [
        | then-not-contains+in-None w ↦ subst (λ o. IfSome o (Contains c.args.clause.now)) (sym w.found-is) (Contains-get_or c.args.clause.now c.loop-lit.lit-index (record { atom = 0; positive = false }) c.loop-lit-test.true)
        | then-not-contains+in-Some+else-ne w ↦ subst (λ o. IfSome o (Contains c.args.clause.now)) (sym (w.found-is ∙ sym w.in-Some.is)) c.loop-lit.invariant.here
        | else-not-contains w ↦ subst (λ o. IfSome o (Contains c.args.clause.now)) (sym w.found-is) c.loop-lit.invariant.here
      ]);
  so_far = λ F h.
      let d : Signed ℕ = record { atom = 0; positive = false } in
      let i = c.loop-lit.lit-index in
      let clause = c.args.clause.now in
      let x = get_or clause i d in
      let more = take_more clause i d c.loop-lit-test.true in
      let within = c.requires i d c.loop-lit-test.true in
      subst (λ xs. Found F xs c.if-not-contains.found) (sym more)
      (elim c.if-not-contains.branch [
        | then-not-contains+in-None w ↦
            let all : All (Contains F) (take i clause) = subst (λ o. Found F (take i clause) o) w.in-None.is (c.loop-lit.invariant.so_far F h) in
            let out : Contains F x → ⊥ = unmarked_out c.args.marks.now F x h within (sym c.contains.ensures ∙ w.if-not-contains.true) in
            subst (λ o. Found F (take i clause ++ x ∷ []) o) (sym w.found-is) (outside_first F (take i clause) x all out)
        | then-not-contains+in-Some+else-ne w ↦
            let one : IsOnlyOutside F (take i clause) w.in-Some.other = subst (λ o. Found F (take i clause) o) w.in-Some.is (c.loop-lit.invariant.so_far F h) in
            let same : w.in-Some.other ≡ x = do_not_differ w.in-Some.other x (sym w.ne.ensures ∙ w.if-ne.false) in
            subst (λ o. Found F (take i clause ++ x ∷ []) o) (sym w.found-is) (outside_stays F (take i clause) x w.in-Some.other one (inr (sym same)))
        | else-not-contains w ↦
            let inside : Contains F x = marked_in c.args.marks.now F x h within (sym c.contains.ensures ∙ w.if-not-contains.false) in
            subst (λ o. Found F (take i clause ++ x ∷ []) o) (sym w.found-is) (found_inside F (take i clause) x c.loop-lit.found inside (c.loop-lit.invariant.so_far F h))
      ]);
}

pub returns-clause-outside : goal.returns-clause-outside
returns-clause-outside c = λ F h.
    found_all F c.args.clause.now c.loop-lit.found (subst (λ xs. Found F xs c.loop-lit.found) (take_all c.loop-lit.lit-index c.args.clause.now c.loop-lit-test.false) (c.loop-lit.invariant.so_far F h))
