use Rattle.std.proofs.Common.{◌≡◌, ◌<◌, ◌∙◌, List, length, get_or, sym, ap, subst, cond, arith, None, Some, ℕ}
use Rattle.std.proofs.lemmas.List.{get_or_default}
use Rattle.std.specs.Map.{lookup}
use Rattle.std.specs.Cmp.Lexicographic.{pointwise}
use Rattle.indexmap.specs.IndexMap.{get}
use Rattle.inst_logic.specs.declared.signed.Signed.{Signed}
use Rattle.clause_form.specs.Literals.{id_eq}
use Rattle.cert_index.proofs.LookupLaws.{more_found, more_there, are_clauses}
use Rattle.cert_index.proofs.lookup.clauses_of.Goals as goal

pub loop-i-init : goal.loop-i-init
loop-i-init c = record {
  found = λ q k h. absurd (let e : None ≡ Some k = sym (ap (lookup (pointwise id_eq q)) c.new-clauses.ensures.empty) ∙ h in cc);
  there = λ k d less. absurd (omega arith);
}

pub loop-i-preserved : goal.loop-i-preserved
loop-i-preserved c =
    let ms = c.args.members.now in
    let old = get (pointwise id_eq) c.loop-i.clauses in
    let new = get (pointwise id_eq) c.insert.new.self in
    let i = c.loop-i.i in
    let r = c.index-members-i.result in
    let m = get_or ms i r in
    let within : i < length ms = omega (arith, c.loop-i-test.true) in
    let more : (q : List (Signed ℕ)) → new q ≡ cond (pointwise id_eq m.clause q) (Some i) (old q) =
    subst (λ (x : List (Signed ℕ)). (q : List (Signed ℕ)) → new q ≡ cond (pointwise id_eq x q) (Some i) (old q)) c.in_ok-clause.ensures c.in_ok-insert.ensures.updates.0 in
    record {
      found = more_found ms old new i m within (get_or_default ms i r m within) more c.loop-i.invariant.found;
      there = more_there ms old new i m within (get_or_default ms i r m within) more c.loop-i.invariant.there;
    }

pub returns : goal.returns
returns c =
    are_clauses c.args.members.now (get (pointwise id_eq) c.loop-i.clauses) c.loop-i.invariant.found
    (λ k d less. c.loop-i.invariant.there k d (omega (arith, less, c.loop-i-test.false)))
