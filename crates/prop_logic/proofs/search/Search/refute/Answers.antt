use Rattle.std.proofs.Common.{[], ◌++◌, ◌∷◌, map, ap, ◌∙◌, sym, subst}
use Rattle.std.specs.Prelude.{All, Contains}
use Rattle.inst_logic.specs.Signed.{complement}
use Rattle.prop_logic.specs.Literal.{cited}
use Rattle.prop_logic.specs.Search.{IsCore}
use Rattle.prop_logic.proofs.PlainLaws.{refuted}
use Rattle.prop_logic.proofs.search.Search.refute.Goals as goal

pub returns-clause-core : goal.returns-clause-core
returns-clause-core c =
    let s = c.args.self.now in
    let core = c.in_ok-core.core in
    let conflict = c.requires.conflict in
    let read = c.cited_clause.ensures conflict.0 (ap (λ ss. cited c.args.clauses.now ss c.args.conflict) c.as_slice.ensures ∙ conflict.1) in
    let whole = subst (λ xs. All (λ l. Contains xs (complement l) → Contains core l) c.args.assumptions.now) read c.in_ok-core.ensures.whole in
    let clause = c.in_ok-clause.ensures ∙ ap (map complement) c.as_slice-2.ensures in
    let hints = c.from-hints.ensures ∙ c.in_ok-vec.ensures.items in
    subst (IsCore c.args.clauses.now c.args.assumptions.now core s.atoms)
    (sym (c.in_ok-push.ensures.ok ∙ ap (λ f. s.steps ++ (record { clause = f; hints = c.from-hints.result }) ∷ []) clause ∙ ap (λ hs. s.steps ++ (record { clause = map complement core; hints = hs }) ∷ []) hints))
    (refuted c.args.clauses.now c.args.assumptions.now core s.atoms s.steps c.args.conflict conflict.0 c.requires.steps c.requires.assumptions conflict.1 conflict.2 c.in_ok-core.ensures.within whole)
