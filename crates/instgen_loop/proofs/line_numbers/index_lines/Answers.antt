use Rattle.std.proofs.Common.{◌≡◌, ◌∙◌, ◌+◌, ◌<◌, refl, ℕ, suc, List, ◌++◌, [], ◌∷◌, ap, sym, subst, take, length, Some, arith}
use Rattle.std.specs.Prelude.{slice_get}
use Rattle.std.proofs.lemmas.List.{length-take}
use Rattle.std.proofs.lemmas.Option.{slice_get_read}
use Rattle.inst_logic.specs.declared.signed.Signed.{Signed}
use Rattle.cert_values.specs.declared.certificate.GroundLine.{GroundLine}
use Rattle.indexmap.specs.IndexMap.{insert_entry}
use Rattle.instgen_loop.specs.LineNumbers.{AreIndexed}
use Rattle.instgen_run.proofs.Decisions.{take_next}
use Rattle.instgen_loop.proofs.LineNumbers.{one_more_indexed, same}
use Rattle.instgen_loop.proofs.line_numbers.index_lines.Goals as goal

pub loop-i-preserved : goal.loop-i-preserved
loop-i-preserved c =
    let lines = c.as_slice-lines.result.now in
    let l = c.index-lines-i.result in
    let i = c.loop-i.i in
    let within : i < length lines = omega arith in
    let at : slice_get lines i ≡ Some l = slice_get_read lines (length lines) i l refl within c.index-lines-i.is in
    let next : i + 1 ≡ suc i = omega arith in
    let more : take (i + 1) lines ≡ take i lines ++ l ∷ [] = ap (λ n. take n lines) next ∙ take_next lines i l at in
    let count : i + 1 ≡ length (take i lines) + 1 = omega (arith, length-take i lines) in
    let clause : c.in_ok-clause.clause ≡ l.clause = c.in_ok-clause.ensures ∙ c.as_slice.ensures ∙ ap (λ (x : GroundLine). x.clause) (sym c.index-lines-i.is) in
    subst (λ (xs : List GroundLine). AreIndexed xs c.insert.new.self.entries) (sym more)
    (one_more_indexed (take i lines) l c.loop-i.index.entries c.insert.new.self.entries (i + 1) count
    (c.in_ok-insert.ensures.entries ∙ ap (λ (d : List (Signed ℕ)). insert_entry same c.loop-i.index.entries d (i + 1)) clause) c.loop-i.invariant)
