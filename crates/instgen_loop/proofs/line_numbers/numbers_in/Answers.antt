use Rattle.std.proofs.Common.{◌≡◌, ◌∙◌, ℕ, suc, List, ◌++◌, [], ◌∷◌, inl, inr, ap, sym, length, Some, Contains, arith}
use Rattle.std.specs.Prelude.{slice_get}
use Rattle.std.proofs.lemmas.List.{length-append}
use Rattle.inst_logic.specs.declared.signed.Signed.{Signed}
use Rattle.inst_logic.specs.Derivations.{at_number}
use Rattle.inst_logic.proofs.Items.{slice_get_push}
use Rattle.inst_calculus.proofs.Items.{same_item}
use Rattle.inst_calculus.proofs.Membership.{all_in, contains_in}
use Rattle.inst_logic.proofs.ShownLaws.{at_number_contains}
use Rattle.instgen_loop.specs.LineNumbers.{clauses_of}
use Rattle.instgen_loop.specs.Refuting.{ground_clause}
use Rattle.instgen_loop.proofs.line_numbers.numbers_in.Goals as goal

pub number_of-requires-clause-found : goal.number_of-requires-clause-found
number_of-requires-clause-found c =
    let ids = c.args.abstraction.now.ids in
    let cs = c.args.clauses.now in
    let lines = c.args._lines.now in
    let at : slice_get cs c.loop-i.i ≡ Some c.of_packed-literals.result = c.clause_after.ensures ∙ ap Some (sym c.of_packed-literals.ensures) in
    let i = contains_in c.of_packed-literals.result cs (at_number_contains cs (suc c.loop-i.i) c.of_packed-literals.result at) in
    c.requires.indexed.all (ground_clause ids c.of_packed-literals.result) (all_in (λ (x : List (Signed ℕ)). Contains (clauses_of lines) (ground_clause ids x)) cs c.requires.lines c.of_packed-literals.result i)

pub loop-i-preserved : goal.loop-i-preserved
loop-i-preserved c =
    let ids = c.args.abstraction.now.ids in
    let cs = c.args.clauses.now in
    let lines = c.args._lines.now in
    let numbers = c.loop-i.numbers.items in
    let n = c.in_ok-number.number in
    let at : slice_get cs c.loop-i.i ≡ Some c.of_packed-literals.result = c.clause_after.ensures ∙ ap Some (sym c.of_packed-literals.ensures) in
    let items : c.push.new.self.items ≡ numbers ++ n ∷ [] = c.in_ok-push.ensures.items in
    let named : at_number (clauses_of lines) n ≡ Some (ground_clause ids c.of_packed-literals.result) = c.requires.indexed.numbers (ground_clause ids c.of_packed-literals.result) n c.in_ok-number.ensures in
    record {
      count = ap length items ∙ omega (arith, length-append numbers (n ∷ []), c.loop-i.invariant.count);
      each = λ i m d there here. elim (slice_get_push numbers n i m (ap (λ (xs : List ℕ). slice_get xs i) (sym items) ∙ there)) [
        | inl p ↦ c.loop-i.invariant.each i m d p.0 here
        | inr p ↦
            let k : i ≡ c.loop-i.i = p.0 ∙ c.loop-i.invariant.count in
            let e : d ≡ c.of_packed-literals.result = same_item (slice_get cs c.loop-i.i) d c.of_packed-literals.result (ap (slice_get cs) (sym k) ∙ here) at in
            ap (at_number (clauses_of lines)) (sym p.1) ∙ named ∙ ap (λ (x : List (Signed ℕ)). Some (ground_clause ids x)) (sym e)
      ];
    }
