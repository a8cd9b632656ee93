use Rattle.std.proofs.Common.{◌≡◌, ◌-◌, suc, subst, arith}
use Rattle.cert_values.specs.SelectedLiteral.{IsSelectedLiteral}
use Rattle.cert_values.proofs.selected_literal.selected_of.Goals as goal

pub returns : goal.returns
returns c =
    let e : suc (c.args.n - 1) ≡ c.args.n = omega (arith, c.requires.member) in
    subst (λ n. IsSelectedLiteral c.args.cert.now n c.selected.result.now) e c.selected.ensures
