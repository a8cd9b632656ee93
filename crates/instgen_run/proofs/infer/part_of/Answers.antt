use Rattle.std.proofs.Common.{◌≡◌, List, ap, ◌∙◌, sym, subst}
use Rattle.std.proofs.lemmas.Result.{IfOk-weaker, on_ok_weaker}
use Rattle.inst_logic.specs.declared.signed.Signed.{Signed}
use Rattle.inst_logic.specs.Clauses.{canonical_form, IsCanonical}
use Rattle.inst_calculus.specs.Parts.{chosen}
use Rattle.term_bank.specs.Forest.{IsClauseAt, IsClauseOf, clause_at}
use Rattle.cert_values.specs.Wholes.{IsWholeClause}
use Rattle.instgen_run.proofs.Inferred.{safe_grown}
use Rattle.instgen_run.proofs.Parted.{kept_whole, part_is, part_canonical, part_whole}
use Rattle.instgen_run.proofs.infer.part_of.Goals as goal

pub canonical-requires : goal.canonical-requires
canonical-requires g c =
    let f = c.args.run.now.entries.bank in
    let is : c.in_ok-kept.kept ≡ chosen c.args.conclusion.now c.args.keep.now = c.in_ok-kept.ensures ∙ ap (λ (x : List (Signed _)). chosen x c.args.keep.now) c.as_slice.ensures in
    subst (IsClauseOf f) (sym is) (kept_whole f c.args.conclusion.now c.args.keep.now c.requires.whole).ids

pub returns-clause-safe : goal.returns-clause-safe
returns-clause-safe g c =
    let run = c.args.run.now in
    let bank = c.canonical.new.bank in
    let e = c.canonical.ensures in
    on_ok_weaker c.canonical.result
    (λ u. safe_grown g.S.Solver.atoms g.I.PartnerIndex.pairs g.I.PartnerIndex.fits run bank c.requires.safe e.extends (e.formed c.requires.safe.entries.formed)
    (g.met.I.PartnerIndex.grown_fits run.entries.bank bank run.entries.first e.extends c.requires.safe.stored)) e.unspent

pub returns-clause-whole : goal.returns-clause-whole
returns-clause-whole g c =
    let f = c.args.run.now.entries.bank in
    let h = c.canonical.new.bank in
    let whole = c.args.conclusion.now in
    let is : c.in_ok-kept.kept ≡ chosen whole c.args.keep.now = c.in_ok-kept.ensures ∙ ap (λ (x : List (Signed _)). chosen x c.args.keep.now) c.as_slice.ensures in
    IfOk-weaker c.canonical.result (λ d. IsClauseAt h d (canonical_form (clause_at f c.in_ok-kept.kept))) (IsWholeClause h)
    (λ d made. part_whole f h whole c.in_ok-kept.kept d c.args.keep.now is made c.requires.whole) c.canonical.ensures.canonical

pub returns-clause-canonical : goal.returns-clause-canonical
returns-clause-canonical g c =
    let f = c.args.run.now.entries.bank in
    let h = c.canonical.new.bank in
    let whole = c.args.conclusion.now in
    let is : c.in_ok-kept.kept ≡ chosen whole c.args.keep.now = c.in_ok-kept.ensures ∙ ap (λ (x : List (Signed _)). chosen x c.args.keep.now) c.as_slice.ensures in
    IfOk-weaker c.canonical.result (λ d. IsClauseAt h d (canonical_form (clause_at f c.in_ok-kept.kept))) (λ d. IsCanonical (clause_at h d))
    (λ d made. part_canonical f h whole c.in_ok-kept.kept d c.args.keep.now is made) c.canonical.ensures.canonical

pub returns-clause-part : goal.returns-clause-part
returns-clause-part g c =
    let f = c.args.run.now.entries.bank in
    let h = c.canonical.new.bank in
    let whole = c.args.conclusion.now in
    let is : c.in_ok-kept.kept ≡ chosen whole c.args.keep.now = c.in_ok-kept.ensures ∙ ap (λ (x : List (Signed _)). chosen x c.args.keep.now) c.as_slice.ensures in
    IfOk-weaker c.canonical.result (λ d. IsClauseAt h d (canonical_form (clause_at f c.in_ok-kept.kept))) (λ d. clause_at h d ≡ canonical_form (chosen (clause_at f whole) c.args.keep.now))
    (λ d made. part_is f h whole c.in_ok-kept.kept d c.args.keep.now is made) c.canonical.ensures.canonical
