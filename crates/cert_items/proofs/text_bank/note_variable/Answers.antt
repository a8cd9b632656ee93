use Rattle.std.proofs.Common.{◌≡◌, ◌∷◌, ◌++◌, [], List, ℕ, arith, length, subst, sym}
use Rattle.inst_logic.specs.Tree.{var}
use Rattle.term_bank.specs.Forest.{IsAt}
use Rattle.term_bank.proofs.Growth.{extends_itself}
use Rattle.clause_form.specs.Conclusions.{AreVariables}
use Rattle.clause_form.proofs.Variables.{one_variable}
use Rattle.cert_items.proofs.text_bank.note_variable.Goals as goal

pub returns-in_ok-push : goal.returns-in_ok-push
returns-in_ok-push c =
    let f = c.args._bank.now in
    let old = c.args.variables.now.items in
    let next : c.args.v ≡ length old = omega (arith, c.if-v-len.true, c.len.ensures) in
    let more = one_variable f f (length old) c.args.id old (extends_itself f) c.requires.variables (subst (λ (n : ℕ). IsAt f c.args.id (var n)) next c.requires.at) in
    subst (λ (ids : List ℕ). AreVariables f (length ids) ids) (sym c.in_ok-push.ensures.items) (subst (λ (n : ℕ). AreVariables f n (old ++ c.args.id ∷ [])) (sym more.count_of) more)
