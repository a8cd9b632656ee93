use Rattle.std.proofs.Common.{◌≡◌, subst, IfOk}
use Rattle.tptp_load.proofs.Selections.{kept_listed}
use Rattle.tptp_load.proofs.stated.chosen_of.Goals as goal

pub returns-in-Ok : goal.returns-in-Ok
returns-in-Ok c =
    subst (λ l. IfOk c.clauses_named_in-chosen.result (λ v. v.items ≡ l)) (kept_listed c.in-Ok.wanted.keys c.args.names.now c.args.part.items c.in-Ok.ensures) c.clauses_named_in-chosen.ensures
