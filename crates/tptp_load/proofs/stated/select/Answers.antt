use Rattle.std.proofs.Common.{◌≡◌, subst, refl, ◌++◌, None, OnOk, IfErr}
use Rattle.tptp_load.specs.Selecting.{names_of, Tells}
use Rattle.tptp_load.proofs.Selections.{outside_missing}
use Rattle.tptp_load.proofs.stated.select.Goals as goal

pub returns-clause-complete : goal.returns-clause-complete
returns-clause-complete c =
    subst (λ m. OnOk c.add_chosen.result (m ≡ None)) (outside_missing (names_of c.in_ok-chosen.chosen.items) c.args.names.now c.args.part.items c.in_ok-chosen.chosen.items c.in_ok-chosen.ensures (λ n. refl)) c.add_chosen.ensures.complete

pub returns-clause-added : goal.returns-clause-added
returns-clause-added c =
    subst (λ l. OnOk c.add_chosen.result (c.add_chosen.new.stated.items ≡ c.args.stated.now.items ++ l)) c.in_ok-chosen.ensures c.add_chosen.ensures.added

pub returns-clause-err : goal.returns-clause-err
returns-clause-err c =
    subst (λ m. IfErr c.add_chosen.result (Tells m c.args.file.now)) (outside_missing (names_of c.in_ok-chosen.chosen.items) c.args.names.now c.args.part.items c.in_ok-chosen.chosen.items c.in_ok-chosen.ensures (λ n. refl)) c.add_chosen.ensures.err
