use Rattle.std.proofs.Common.{◌≡◌, sym, subst}
use Rattle.std.specs.Prelude.{IfOk}
use Rattle.std.proofs.lemmas.Result.{IfOk-weaker}
use Rattle.inst_logic.specs.declared.symbol.Sym.{Sym}
use Rattle.inst_logic.specs.Tree.{app, none}
use Rattle.inst_logic.specs.Clauses.{TreeClause}
use Rattle.inst_calculus.specs.Conclusions.{IsConclusion, IsPartOfConclusion}
use Rattle.inst_calculus.specs.Parts.{chosen}
use Rattle.inst_calculus.specs.Unrolling.{conclusion_terms, part_terms, implied_by, instance_of, TellsHow}
use Rattle.global_subs.specs.Unrolls.{how_at}
use Rattle.cert_values.specs.Values.{origin_of}
use Rattle.cert_values.specs.declared.member.Origin.{Origin}
use Rattle.term_bank.specs.Forest.{tree_at}
use Rattle.instgen_run.specs.Clauses.{entries_in}
use Rattle.instgen_loop.specs.Records.{IsConcluded}
use Rattle.instgen_run.specs.declared.premises.Premises.{Premises}
use Rattle.instgen_loop.proofs.records.how_of.Goals as goal

pub returns-in_ok-at-in-Inst-clause-told : goal.returns-in_ok-at-in-Inst-clause-told
returns-in_ok-at-in-Inst-clause-told c =
    let f = c.args.bank.now in
    let es = entries_in f c.args.clauses.now.entries in
    let g = c.how_whole.new.bank in
    subst (λ (o : Origin). IfOk c.how_whole.result (λ h. (bot : Sym) → tree_at f c.args.room.now.constant ≡ app bot none → (x : TreeClause) → IsConcluded es o x
    → TellsHow bot es (origin_of o) x (how_at g h))) (sym c.in-Inst.is)
    (IfOk-weaker c.how_whole.result _ _ (λ h tells bot e x k. (k, tells x k))
    (subst (λ (at : Premises). IfOk c.how_whole.result (λ h. (x : TreeClause) (k : IsConclusion es at.from at.place at.partner at.other x)
    → how_at g h ≡ instance_of at.from (conclusion_terms k.unifier.left k.entry.clause))) c.in_ok-at-in-Inst.ensures c.how_whole.ensures.told))

pub returns-in_ok-at-in-Lemma-clause-told : goal.returns-in_ok-at-in-Lemma-clause-told
returns-in_ok-at-in-Lemma-clause-told c =
    let f = c.args.bank.now in
    let es = entries_in f c.args.clauses.now.entries in
    let g = c.how_part.new.bank in
    let keep = c.in-Lemma.keep in
    let cites = c.in-Lemma.premises in
    subst (λ (o : Origin). IfOk c.how_part.result (λ h. (bot : Sym) → tree_at f c.args.room.now.constant ≡ app bot none → (x : TreeClause) → IsConcluded es o x
    → TellsHow bot es (origin_of o) x (how_at g h))) (sym c.in-Lemma.is)
    (IfOk-weaker c.how_part.result _ _ (λ h tells bot e x k. (k, tells bot e x k))
    (subst (λ (at : Premises). IfOk c.how_part.result (λ h. (bot : Sym) → tree_at f c.args.room.now.constant ≡ app bot none
    → (x : TreeClause) (p : IsPartOfConclusion es at.from at.place at.partner at.other keep x)
    → how_at g h ≡ implied_by cites (part_terms bot p.whole (chosen p.whole keep)))) c.in_ok-at-in-Lemma.ensures c.how_part.ensures.told))
