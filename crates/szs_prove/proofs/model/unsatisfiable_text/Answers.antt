use Rattle.std.proofs.Common.{◌≡◌, ◌++◌, ℕ, List, IfOk, subst}
use Rattle.szs_prove.specs.TableTexts.{no_tables_line}
use Rattle.szs_prove.proofs.ModelTexts.{told_none}
use Rattle.szs_prove.proofs.model.unsatisfiable_text.Goals as goal

pub returns : goal.returns
returns c =
    told_none c.args.k c.args.file.now c.args._p.now c.requires.some c.requires.few c.requires.good c.requires.narrow c.args.cert c.requires.shown c.in_ok-refutation.refutation c.in_ok-refutation.ensures c.no_tables_text.result
    (subst (λ (n : List ℕ). IfOk c.no_tables_text.result (λ text. text ≡ no_tables_line c.args.k n ++ c.in_ok-refutation.refutation)) c.as_bytes.ensures.value c.no_tables_text.ensures)
