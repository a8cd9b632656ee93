use Rattle.std.proofs.Common.{◌≡◌, ◌+◌, ◌∙◌, List, [], ◌∷◌, ◌++◌, sym, subst, map, take, get_or, arith, All}
use Rattle.std.proofs.lemmas.List.{take_more}
use Rattle.inst_logic.specs.Clauses.{TreeClause}
use Rattle.term_bank.specs.Forest.{clause_at}
use Rattle.term_bank.proofs.Growth.{extends_trans}
use Rattle.cert_values.specs.declared.certificate.GroundLine.{GroundLine}
use Rattle.cert_values.specs.Wholes.{IsWholeClause}
use Rattle.instgen_run.specs.Grounds.{IsLinked}
use Rattle.instgen_loop.specs.LineNumbers.{clauses_of}
use Rattle.instgen_run.proofs.Grown.{whole_kept}
use Rattle.instgen_loop.proofs.DerivedLaws.{clauses_push, line_whole_at}
use Rattle.instgen_loop.proofs.derived.add_lines.Goals as goal

pub add_entry-requires-clause-clause : goal.add_entry-requires-clause-clause
add_entry-requires-clause-clause g c =
    let f = c.args.bank.now in
    let lines = c.as_slice-lines.result.now in
    let all = subst (λ (ls : List GroundLine). All (IsWholeClause f) (clauses_of ls)) (sym c.as_slice-lines.ensures) c.requires.lines in
    let l = get_or lines c.loop-i.i c.index-lines-i.result in
    (whole_kept f c.loop-i.bank c.loop-i.invariant.extends l.clause (line_whole_at f lines c.loop-i.i c.index-lines-i.result all (omega arith))).ids

pub add_entry-requires-clause-atoms : goal.add_entry-requires-clause-atoms
add_entry-requires-clause-atoms g c =
    let f = c.args.bank.now in
    let lines = c.as_slice-lines.result.now in
    let all = subst (λ (ls : List GroundLine). All (IsWholeClause f) (clauses_of ls)) (sym c.as_slice-lines.ensures) c.requires.lines in
    let l = get_or lines c.loop-i.i c.index-lines-i.result in
    (whole_kept f c.loop-i.bank c.loop-i.invariant.extends l.clause (line_whole_at f lines c.loop-i.i c.index-lines-i.result all (omega arith))).atoms

pub loop-i-preserved : goal.loop-i-preserved
loop-i-preserved g c =
    let f = c.args.bank.now in
    let lines = c.as_slice-lines.result.now in
    let all = subst (λ (ls : List GroundLine). All (IsWholeClause f) (clauses_of ls)) (sym c.as_slice-lines.ensures) c.requires.lines in
    let i = c.loop-i.i in
    let l = get_or lines i c.index-lines-i.result in
    let whole = line_whole_at f lines i c.index-lines-i.result all (omega arith) in
    let inv = c.loop-i.invariant in
    let add = c.in_ok-add_entry.ensures in
    let bot = c.args.ground.now.abstraction.bot in
    let mid = c.loop-i.bank in
    let more : take (i + 1) lines ≡ take i lines ++ l ∷ [] = take_more lines i c.index-lines-i.result (omega arith) in
    record {
      extends = extends_trans f mid c.add_entry.new.bank inv.extends add.extends;
      formed = add.formed inv.formed;
      bot = add.bot ∙ inv.bot;
      fits = add.fits;
      notes = add.notes;
      count = add.count;
      linked = subst (λ (cs : List TreeClause). IsLinked c.add_entry.new.bank c.add_entry.new.ground (g.S.Solver.atoms c.add_entry.new.ground.solver) (g.S.Solver.added c.add_entry.new.ground.solver) bot cs)
          (sym (clauses_push f mid (take i lines) (take (i + 1) lines) l inv.extends whole.ids more))
          (add.linked bot (map (clause_at f) (clauses_of (take i lines))) inv.linked);
    }
