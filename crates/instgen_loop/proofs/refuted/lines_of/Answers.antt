use Rattle.std.proofs.Common.{◌≡◌, sym, ap, ◌∙◌, subst, All, length}
use Rattle.inst_logic.specs.declared.symbol.Sym.{Sym}
use Rattle.inst_logic.specs.WellFormed.{IsTerm}
use Rattle.inst_calculus.specs.Unrolling.{AreMade, Grounded, all_unrolled, each_once}
use Rattle.global_subs.specs.Unrolls.{entries_at}
use Rattle.engine_laws.specs.GroundLines.{ground_lines}
use Rattle.instgen_loop.specs.Lines.{given_trees}
use Rattle.instgen_loop.specs.Records.{AreRecordsOf}
use Rattle.instgen_loop.proofs.Refuting.{concluded, has_clauses, item_terms, lines_are, refuted_later, right, term_ids, unrolled_entries, with_bank}
use Rattle.instgen_loop.proofs.refuted.lines_of.Goals as goal

pub records_of-requires-clause-concluded : goal.records_of-requires-clause-concluded
records_of-requires-clause-concluded c = concluded c.args._p.now.clauses c.args._p.now.names c.args.run.now c.args._journal.now c.requires.refuted

pub ground_lines-requires-clause-given : goal.ground_lines-requires-clause-given
ground_lines-requires-clause-given c =
    let r = c.args.run.now in
    let clauses = c.args._p.now.clauses in
    let names = c.args._p.now.names in
    let journal = c.args._journal.now in
    let g = c.records_of.new.bank in
    let h = refuted_later clauses names r journal g c.in_ok-made.ensures.extends c.in_ok-made.ensures.formed c.requires.refuted in
    let made = c.in_ok-made.made in
    let same : r.abstraction.bot ≡ c.in_ok-bot.bot = sym (c.in_ok-bot.ensures.cases ∙ c.bot.ensures.bot) in
    let k = subst (λ (b : Sym). AreRecordsOf b g r.remains.clauses.entries made) (sym same) c.in_ok-made.ensures.records in
    has_clauses clauses names (with_bank r g) journal h

pub ground_lines-requires-clause-entries : goal.ground_lines-requires-clause-entries
ground_lines-requires-clause-entries c =
    let r = c.args.run.now in
    let clauses = c.args._p.now.clauses in
    let names = c.args._p.now.names in
    let journal = c.args._journal.now in
    let g = c.records_of.new.bank in
    let h = refuted_later clauses names r journal g c.in_ok-made.ensures.extends c.in_ok-made.ensures.formed c.requires.refuted in
    let made = c.in_ok-made.made in
    let same : r.abstraction.bot ≡ c.in_ok-bot.bot = sym (c.in_ok-bot.ensures.cases ∙ c.bot.ensures.bot) in
    let k = subst (λ (b : Sym). AreRecordsOf b g r.remains.clauses.entries made) (sym same) c.in_ok-made.ensures.records in
    unrolled_entries clauses names (with_bank r g) journal h made k

pub ground_lines-requires-clause-made : goal.ground_lines-requires-clause-made
ground_lines-requires-clause-made c =
    let r = c.args.run.now in
    let clauses = c.args._p.now.clauses in
    let names = c.args._p.now.names in
    let journal = c.args._journal.now in
    let g = c.records_of.new.bank in
    let h = refuted_later clauses names r journal g c.in_ok-made.ensures.extends c.in_ok-made.ensures.formed c.requires.refuted in
    let made = c.in_ok-made.made in
    let same : r.abstraction.bot ≡ c.in_ok-bot.bot = sym (c.in_ok-bot.ensures.cases ∙ c.bot.ensures.bot) in
    let k = subst (λ (b : Sym). AreRecordsOf b g r.remains.clauses.entries made) (sym same) c.in_ok-made.ensures.records in
    subst (λ (b : Sym). AreMade b (given_trees g r.remains.given) (entries_at g made)) same (right clauses names (with_bank r g) journal h made k)

pub ground_lines-requires-clause-terms : goal.ground_lines-requires-clause-terms
ground_lines-requires-clause-terms c =
    let r = c.args.run.now in
    let clauses = c.args._p.now.clauses in
    let names = c.args._p.now.names in
    let journal = c.args._journal.now in
    let g = c.records_of.new.bank in
    let h = refuted_later clauses names r journal g c.in_ok-made.ensures.extends c.in_ok-made.ensures.formed c.requires.refuted in
    let made = c.in_ok-made.made in
    let same : r.abstraction.bot ≡ c.in_ok-bot.bot = sym (c.in_ok-bot.ensures.cases ∙ c.bot.ensures.bot) in
    let k = subst (λ (b : Sym). AreRecordsOf b g r.remains.clauses.entries made) (sym same) c.in_ok-made.ensures.records in
    term_ids clauses names (with_bank r g) journal h made k

pub ground_lines-requires-clause-items : goal.ground_lines-requires-clause-items
ground_lines-requires-clause-items c =
    let r = c.args.run.now in
    let clauses = c.args._p.now.clauses in
    let names = c.args._p.now.names in
    let journal = c.args._journal.now in
    let g = c.records_of.new.bank in
    let h = refuted_later clauses names r journal g c.in_ok-made.ensures.extends c.in_ok-made.ensures.formed c.requires.refuted in
    let made = c.in_ok-made.made in
    let same : r.abstraction.bot ≡ c.in_ok-bot.bot = sym (c.in_ok-bot.ensures.cases ∙ c.bot.ensures.bot) in
    let k = subst (λ (b : Sym). AreRecordsOf b g r.remains.clauses.entries made) (sym same) c.in_ok-made.ensures.records in
    subst (λ (b : Sym). All (λ (x : Grounded). All IsTerm x.terms) (each_once (all_unrolled b (entries_at g made) (length made)))) same (item_terms clauses names (with_bank r g) journal h made k)

pub returns-clause-refuted : goal.returns-clause-refuted
returns-clause-refuted c =
    let r = c.args.run.now in
    let clauses = c.args._p.now.clauses in
    let names = c.args._p.now.names in
    let journal = c.args._journal.now in
    let g = c.records_of.new.bank in
    let h = refuted_later clauses names r journal g c.in_ok-made.ensures.extends c.in_ok-made.ensures.formed c.requires.refuted in
    let made = c.in_ok-made.made in
    let same : r.abstraction.bot ≡ c.in_ok-bot.bot = sym (c.in_ok-bot.ensures.cases ∙ c.bot.ensures.bot) in
    let k = subst (λ (b : Sym). AreRecordsOf b g r.remains.clauses.entries made) (sym same) c.in_ok-made.ensures.records in
    let last = c.in_ok-lines.ensures in
    refuted_later clauses names (with_bank r g) journal c.ground_lines.new.bank last.extends (last.formed h.entries.formed) h

pub returns-clause-lines : goal.returns-clause-lines
returns-clause-lines c =
    let r = c.args.run.now in
    let clauses = c.args._p.now.clauses in
    let names = c.args._p.now.names in
    let journal = c.args._journal.now in
    let g = c.records_of.new.bank in
    let h = refuted_later clauses names r journal g c.in_ok-made.ensures.extends c.in_ok-made.ensures.formed c.requires.refuted in
    let made = c.in_ok-made.made in
    let same : r.abstraction.bot ≡ c.in_ok-bot.bot = sym (c.in_ok-bot.ensures.cases ∙ c.bot.ensures.bot) in
    let k = subst (λ (b : Sym). AreRecordsOf b g r.remains.clauses.entries made) (sym same) c.in_ok-made.ensures.records in
    let last = c.in_ok-lines.ensures in
    lines_are clauses names (with_bank r g) journal h made k c.ground_lines.new.bank last.extends c.in_ok-lines.lines
    (last.lines ∙ ap (λ (b : Sym). ground_lines b (given_trees g r.remains.given) (entries_at g made)) (sym same)) last.ids
