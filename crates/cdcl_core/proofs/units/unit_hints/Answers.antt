use Rattle.std.proofs.Common.{rules, map, ◌≡◌, ◌+◌, ◌∷◌, ◌++◌, [], Some, false, take, sym, ap, ◌∙◌, subst, arith, ℕ}
use Rattle.std.proofs.lemmas.List.{take_all, take_more}
use Rattle.std.proofs.lemmas.Option.{slice_get-get_or}
use Rattle.inst_logic.specs.declared.signed.Signed.{Signed}
use Rattle.inst_logic.specs.Signed.{complement}
use Rattle.prop_logic.specs.Literal.{cited}
use Rattle.prop_logic.specs.Analysis.{ClosesAll}
use Rattle.prop_logic.proofs.ListLaws.{Contains-slice_get}
use Rattle.prop_logic.proofs.SearchLaws.{complement_twice}
use Rattle.cdcl_trail.specs.Propagation.{GivesUnit}
use Rattle.cdcl_core.proofs.EntryLaws.{entry_at}
use Rattle.cdcl_core.proofs.EndLaws.{literals_differ}
use Rattle.cdcl_core.proofs.SearchLaws.{implied_of}
use Rattle.cdcl_core.proofs.UnitLaws.{Leads, leads_same, leads_more, leads_done, false_other}
use Rattle.cdcl_core.proofs.units.unit_hints.Goals as goal

pub loop-packed-preserved-then-eq : goal.loop-packed-preserved-then-eq
loop-packed-preserved-then-eq c =
    let log = c.args.log.now in
    let entries = c.args.trail.now.trail.entries in
    let clause = c.cited_clause-clause.result.now in
    let i = c.loop-packed.packed-index in
    let l = c.literal_at-lit.result in
    let hints = c.loop-packed.hints.items in
    let same : c.lit-other.result ≡ l = search rules in
    let part : take (i + 1) clause ≡ take i clause ++ l ∷ [] = take_more clause i c.packed-item.result c.loop-packed-test.true ∙ ap (λ x. take i clause ++ x ∷ []) (sym (c.lit-other.ensures ∙ c.packed-item.is)) ∙ ap (λ m. take i clause ++ m ∷ []) same in
    subst (λ xs. Leads log entries l xs hints) (sym part) (leads_same log entries l (take i clause) hints c.loop-packed.invariant)

pub loop-packed-preserved : goal.loop-packed-preserved
loop-packed-preserved c =
    let log = c.args.log.now in
    let t = c.args.trail.now.trail in
    let clause = c.cited_clause-clause.result.now in
    let i = c.loop-packed.packed-index in
    let d : Signed ℕ = record { positive = false; atom = 0 } in
    let l = c.literal_at-lit.result in
    let m = c.lit-other.result in
    let f = entry_at t.entries c.args.place d c.requires.place in
    let at = f.1 in
    let is = c.literal_at-lit.ensures.literal f.0 f.1 in
    let why = implied_of t.atoms c.requires.log.0 log t.entries c.requires.log.1 c.requires.log.2 c.args.place c.args.number f.0 f.1 (c.requires.given f.0 f.1) in
    let same = c.cited_clause-clause.ensures.clause why.0 (ap (cited log.added log.steps) (c.hint_of-last.ensures why.1.0 why.1.1) ∙ why.1.2) in
    let unit = subst (λ xs. GivesUnit (take c.args.place t.entries) xs f.0.lit) (sym same) why.2 in
    let inside = Contains-slice_get clause i m (slice_get-get_or clause i c.packed-item.result c.loop-packed-test.true ∙ ap Some (sym (c.lit-other.ensures ∙ c.packed-item.is))) in
    let e = false_other t c.args.place f.0 clause m c.requires.trail f.1 unit inside (λ q. literals_differ m l c.if-eq.ensures (q ∙ sym is)) in
    let named = c.in-Some.ensures ∙ ap (λ x. Some (x ∷ [])) (c.complement.ensures ∙ ap complement e.3 ∙ complement_twice e.0.lit) in
    let more = leads_more log t l (take i clause) c.loop-packed.hints.items e.0 c.in-Some.hint c.requires.trail e.1 (λ q. e.2 (q ∙ is)) named c.loop-packed.invariant in
    let part : take (i + 1) clause ≡ take i clause ++ complement e.0.lit ∷ [] = take_more clause i c.packed-item.result c.loop-packed-test.true ∙ ap (λ x. take i clause ++ x ∷ []) (sym (c.lit-other.ensures ∙ c.packed-item.is)) ∙ ap (λ x. take i clause ++ x ∷ []) e.3 in
    subst (λ xs. Leads log t.entries l xs c.push.new.self.items) (sym part) (subst (Leads log t.entries l (take i clause ++ complement e.0.lit ∷ [])) (sym c.in_ok-push-in-Some.ensures.items) more)

pub returns : goal.returns
returns c = λ e at.
    let log = c.args.log.now in
    let t = c.args.trail.now.trail in
    let clause = c.cited_clause-clause.result.now in
    let l = c.literal_at-lit.result in
    let why = implied_of t.atoms c.requires.log.0 log t.entries c.requires.log.1 c.requires.log.2 c.args.place c.args.number e at (c.requires.given e at) in
    let cites = ap (cited log.added log.steps) (c.hint_of-last.ensures why.1.0 why.1.1) ∙ why.1.2 in
    let same = c.cited_clause-clause.ensures.clause why.0 cites in
    let whole : take c.loop-packed.packed-index clause ≡ clause = take_all c.loop-packed.packed-index clause (omega arith) in
    let leads = subst (λ xs. Leads log t.entries l xs c.loop-packed.hints.items) whole c.loop-packed.invariant in
    let done = leads_done log t.entries l clause c.loop-packed.hints.items c.hint_of-last.result (cites ∙ ap Some (sym same)) leads in
    subst (λ hs. ClosesAll (e.lit ∷ []) (map (cited log.added log.steps) hs)) (sym c.in_ok-push.ensures.items) (subst (λ x. ClosesAll (x ∷ []) (map (cited log.added log.steps) (c.loop-packed.hints.items ++ c.hint_of-last.result ∷ []))) (c.literal_at-lit.ensures.literal e at) done)
