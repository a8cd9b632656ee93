use Rattle.std.proofs.Common.{◌≡◌, subst, None, OnOk, IfErr}
use Rattle.tptp_load.specs.Selecting.{names_of, Tells}
use Rattle.tptp_load.proofs.Selections.{same_outside}
use Rattle.tptp_load.proofs.stated.are_chosen.Goals as goal

pub returns-clause-ok : goal.returns-clause-ok
returns-clause-ok c =
    subst (λ m. OnOk c.are_found-told.result (m ≡ None)) (same_outside c.in_ok-found.found.keys (names_of c.args.chosen.now) c.args.names.now c.in_ok-found.ensures) c.are_found-told.ensures.ok

pub returns-clause-err : goal.returns-clause-err
returns-clause-err c =
    subst (λ m. IfErr c.are_found-told.result (Tells m c.args.file.now)) (same_outside c.in_ok-found.found.keys (names_of c.args.chosen.now) c.args.names.now c.in_ok-found.ensures) c.are_found-told.ensures.err
