use Rattle.std.proofs.Common.{◌≡◌, ℕ, ◌<◌, ◌≤◌, ◌++◌, ◌∷◌, [], take, sym, ap, ◌∙◌, subst, arith}
use Rattle.std.specs.Prelude.{All, unwrap_or}
use Rattle.std.proofs.lemmas.List.{take_all}
use Rattle.std.proofs.lemmas.List.Elements.{All-push, All-weaker, All-contains, Contains-push, Contains-append_left}
use Rattle.inst_logic.specs.declared.signed.Signed.{Signed}
use Rattle.prop_logic.proofs.ListLaws.{All-from_contained}
use Rattle.cdcl_trail.specs.Trail.{level_of}
use Rattle.cdcl_core.proofs.EntryLaws.{take_item}
use Rattle.cdcl_core.proofs.EndLaws.{max_facts}
use Rattle.cdcl_core.proofs.search.highest_level.Goals as goal

pub loop-i-preserved : goal.loop-i-preserved
loop-i-preserved c =
    let es = c.args.trail.now.trail.entries in
    let xs = c.args.literals.now in
    let i = c.loop-i.i in
    let x = c.at.result in
    let level : Signed ℕ → ℕ = λ l. unwrap_or (level_of es l.atom) 0 in
    let here : c.unwrap_or.result ≡ level x = c.unwrap_or.ensures ∙ ap (λ o. unwrap_or o 0) c.level_of.ensures in
    let inv = c.loop-i.invariant in
    let more = take_item xs i x c.at.ensures in
    let m = max_facts c.loop-i.highest c.unwrap_or.result c.max-highest.result c.max-highest.ensures in
    record {
      reached = subst (All (λ l. level l ≤ c.max-highest.result)) (sym more) (All-push (λ l. level l ≤ c.max-highest.result) (take i xs) x
          (All-weaker (λ l. level l ≤ c.loop-i.highest) (λ l. level l ≤ c.max-highest.result) (λ l h. omega (arith, h, m.0)) (take i xs) inv.reached) (omega (arith, here, m.1)));
      least = λ top low all.
          let whole = subst (λ ys. All (λ l. level l < top) ys) more all in
          let first = inv.least top low (All-from_contained (λ l. level l < top) (take i xs) (λ l k. All-contains (λ y. level y < top) (take i xs ++ x ∷ []) l whole (Contains-append_left (take i xs) (x ∷ []) l k))) in
          let last = All-contains (λ y. level y < top) (take i xs ++ x ∷ []) x whole (Contains-push (take i xs) x) in
          m.2 top first (omega (arith, last, here));
    }

pub returns-clause-reached : goal.returns-clause-reached
returns-clause-reached c = subst (λ ys. All (λ l. unwrap_or (level_of c.args.trail.now.trail.entries l.atom) 0 ≤ c.loop-i.highest) ys) (take_all c.loop-i.i c.args.literals.now (omega arith)) c.loop-i.invariant.reached

pub returns-clause-least : goal.returns-clause-least
returns-clause-least c = λ top low all. c.loop-i.invariant.least top low (subst (λ ys. All (λ l. unwrap_or (level_of c.args.trail.now.trail.entries l.atom) 0 < top) ys) (sym (take_all c.loop-i.i c.args.literals.now (omega arith))) all)
