use Rattle.std.proofs.Common.{◌∙◌, sym, subst}
use Rattle.instgen_loop.specs.Refuting.{AreHintsWithin}
use Rattle.instgen_loop.proofs.DerivedLaws.{carried, refuted_lines}
use Rattle.instgen_loop.proofs.Refuting.{lines_of_later, refuted_later, with_bank}
use Rattle.instgen_loop.proofs.TreeSteps.{hints_within}
use Rattle.instgen_loop.proofs.refuted.shown_of.Goals as goal

pub derive-requires-clause-refuted : goal.derive-requires-clause-refuted
derive-requires-clause-refuted g c =
    refuted_lines c.args.p.now.clauses c.args.p.now.names c.lines_of.new.run c.args.journal.now c.in_ok-grounds.ensures.refuted c.in_ok-grounds.grounds c.in_ok-grounds.ensures.lines

pub derive-requires-clause-carried : goal.derive-requires-clause-carried
derive-requires-clause-carried g c =
    carried c.args.p.now.clauses c.args.p.now.names c.lines_of.new.run c.args.journal.now c.in_ok-grounds.ensures.refuted c.in_ok-grounds.grounds c.in_ok-grounds.ensures.lines

pub ground_steps-requires-clause-within : goal.ground_steps-requires-clause-within
ground_steps-requires-clause-within g c =
    let r = c.derive.new.run in
    subst (λ n. AreHintsWithin n r.derivation) (sym c.in_ok-numbers.ensures.count) (hints_within r.literals r.derivation c.in_ok-derive.ensures.derived.refutes.shown)

pub returns : goal.returns
returns g c =
    let clauses = c.args.p.now.clauses in
    let names = c.args.p.now.names in
    let journal = c.args.journal.now in
    let r = c.lines_of.new.run in
    let later = c.derive.new.run.remains.bank in
    let d = c.in_ok-derive.ensures in
    let h = c.in_ok-grounds.ensures.refuted in
    record {
      shown = record {
        before = with_bank r later;
        same = sym d.remains;
        refuted = refuted_later clauses names r journal later d.extends d.formed h;
        distinct = d.distinct;
        bot = c.in_ok-bot.ensures.cases ∙ c.bot.ensures.bot;
        lines = lines_of_later clauses names r journal later d.extends h c.in_ok-grounds.grounds c.in_ok-grounds.ensures.lines;
        derived = d.derived;
        numbers = c.in_ok-numbers.numbers;
        numbered = c.in_ok-numbers.ensures;
        steps = c.in_ok-steps.ensures;
      };
    }
