use Rattle.std.proofs.Common.{IsTrue, rules, ◌↔◌}
use Rattle.std.specs.List.{list_any, Any}
use Rattle.inst_logic.specs.Signed.{complement}
use Rattle.clause_form.specs.Literals.{id_eq}
use Rattle.clause_form.proofs.Ids.{tautology_at}
use Rattle.clause_form.proofs.SomeComplement.{some_complement}
use Rattle.clause_form.proofs.complements.some_meets.Goals as goal

pub returns-clause-ids : goal.returns-clause-ids
returns-clause-ids c =
    let k = some_complement c.args.c.now c.args.all.now.keys c.requires in
    let e : IsTrue c.any.result ↔ Any (λ l. IsTrue (list_any (id_eq (complement l)) c.args.all.now.keys)) c.args.c.now = search rules in
    (λ t. k.0 (e.0 t), λ t. e.1 (k.1 t))

pub returns-clause-trees : goal.returns-clause-trees
returns-clause-trees c f once ids =
    let k = tautology_at f c.args.c.now once ids in
    let e = returns-clause-ids c in
    (λ t. k.0 (e.0 t), λ t. e.1 (k.1 t))
