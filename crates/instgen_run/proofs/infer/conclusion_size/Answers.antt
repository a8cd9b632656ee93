use Rattle.std.proofs.Common.{◌≡◌, ◌-◌, ◌^◌, Some, arith, List, subst, sym}
use Rattle.unify_core.specs.Sides.{Binding}
use Rattle.std.proofs.lemmas.Result.{IfOk-weaker}
use Rattle.inst_logic.specs.Derivations.{at_number}
use Rattle.unify_core.specs.Sizes.{IsSizeUnder}
use Rattle.instgen_run.specs.Clauses.{Item}
use Rattle.instgen_run.proofs.Covers.{at_suc}
use Rattle.instgen_run.proofs.infer.conclusion_size.Goals as goal

pub returns-clause-size : goal.returns-clause-size
returns-clause-size g c =
    let run = c.args.run.now in
    IfOk-weaker c.size_under.result (IsSizeUnder run.entries.bank run.bindings.entries c.args.side c.in-Some.clause.now (2 ^ 64 - 1))
    (λ n. (item : Item) × (at_number run.entries.clauses.entries c.args.from ≡ Some item) × IsSizeUnder run.entries.bank c.size_under.new.self.entries c.args.side item.0 (2 ^ 64 - 1) n)
    (λ n h. (
      (c.in-Some.clause.now, c.in-Some.field-0-1.now),
      at_suc run.entries.clauses.entries c.args.from (c.in-Some.clause.now, c.in-Some.field-0-1.now) (λ e. omega arith) c.in-Some.ensures.entry,
      subst (λ (bs : List Binding). IsSizeUnder run.entries.bank bs c.args.side c.in-Some.clause.now (2 ^ 64 - 1) n) (sym c.size_under.ensures.kept) h,
    )) c.size_under.ensures.size
