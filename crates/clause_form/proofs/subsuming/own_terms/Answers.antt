use Rattle.std.proofs.Common.{◌≡◌, ℕ, List, rules, sym, subst as transport}
use Rattle.clause_form.specs.Placements.{ArePartTerms}
use Rattle.clause_form.proofs.OwnTerms.{own_part_terms}
use Rattle.clause_form.proofs.subsuming.own_terms.Goals as goal

pub returns : goal.returns
returns c =
    let f = c.args._bank.now in
    let own : c.from.result ≡ c.args.variables.now = search rules in
    transport (λ (ids : List ℕ). ArePartTerms f c.args._f.now c.args._f.now ids) (sym own) (own_part_terms f c.args._f.now c.args.variables.now c.requires.canonical c.requires.variables)
