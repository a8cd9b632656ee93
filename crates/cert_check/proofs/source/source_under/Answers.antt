use Rattle.std.proofs.Common.{ℕ, List, ap, ◌∙◌, map, sym, subst}
use Rattle.std.specs.Prelude.{All}
use Rattle.inst_logic.specs.Substitution.{subst as apply}
use Rattle.term_bank.specs.Forest.{tree_at}
use Rattle.clause_form.specs.Walks.{listed}
use Rattle.cert_values.specs.Wholes.{IsWholeTerm}
use Rattle.cert_check.proofs.SourceLaws.{terms_whole}
use Rattle.cert_check.proofs.source.source_under.Goals as goal

pub returns-clause-terms : goal.returns-clause-terms
returns-clause-terms c =
    let f = c.args.bank.now in
    let trees = c.in_ok-under.ensures.trees
    ∙ ap (λ (ids : List ℕ). map (apply (listed f ids)) (map (tree_at f) c.as_slice.result.now)) c.as_slice-2.ensures
    ∙ ap (λ (list : List ℕ). map (apply (listed f c.args.terms.now)) (map (tree_at f) list)) c.as_slice.ensures in
    subst (λ (xs : List ℕ). All (IsWholeTerm c.terms_under.new.bank) xs) (sym c.from.ensures)
    (terms_whole c.args.bank.now c.terms_under.new.bank c.args.terms.now c.args.source.now.terms c.in_ok-under.under.items c.requires.terms c.requires.source c.in_ok-under.ensures.ids trees)
