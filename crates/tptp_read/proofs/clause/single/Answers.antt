use Rattle.std.proofs.Common.{◌≤◌, ◌-◌, ◌∙◌, Some, take, drop, sym, ap, arith}
use Rattle.tptp_read.specs.LexemeView.{toks, texts}
use Rattle.tptp_read.specs.Shapes.{shape}
use Rattle.tptp_read.specs.Gathered.{Gathered, gathered}
use Rattle.tptp_read.proofs.GatherLaws.{slice_split, literal_read}
use Rattle.tptp_read.proofs.clause.single.Goals as goal

pub returns-clause-is : goal.returns-clause-is
returns-clause-is c =
    let ls = c.args.reader.now.tokens.now in
    let at = c.args.at in
    let after = c.in_ok-read.after in
    let le : at ≤ after = omega (arith, c.in_ok-read.ensures.within) in
    literal_read (texts c.args.reader.now.vars.now.keys) (gathered c.args.into.now) c.args.depth (toks (drop at ls)) (toks (drop after ls)) (toks (take (after - at) (drop at ls))) (shape c.in_ok-read.read) (slice_split ls at after le) c.in_ok-read.ensures.is
    ∙ ap (λ (x : Gathered). Some (x, toks (drop after ls))) (sym c.in_ok-add.ensures)
