use Rattle.std.proofs.Common.{◌≡◌, ◌+◌, ◌++◌, ◌∙◌, refl, sym, ap, arith, drop, map}
use Rattle.std.proofs.lemmas.List.{append-nil}
use Rattle.cert_format.specs.Lines.{shown_line}
use Rattle.cert_format.specs.Text.{paired_lines}
use Rattle.term_bank.specs.Forest.{clause_at}
use Rattle.cert_values.specs.Values.{by_of}
use Rattle.cert_values.specs.Wholes.{IsWholeBy, IsWholeClause}
use Rattle.cert_values.proofs.EachItem.{each_item}
use Rattle.cert_text.proofs.Pieces.{paired_more, paired_over}
use Rattle.cert_text.proofs.listing.push_shown_clauses.Goals as goal

pub loop-i-init : goal.loop-i-init
loop-i-init c =
    let same : c.args.before + 0 ≡ c.args.before = omega arith in
    ap (λ n. c.args.pen.now ++ paired_lines shown_line (n + 1) (map (clause_at c.args.bank.now) c.args.clauses.now) (map (by_of c.args.bank.now) (drop n c.args.shown.now))) same

pub push_shown-requires-clause-clause : goal.push_shown-requires-clause-clause
push_shown-requires-clause-clause c =
    (each_item (IsWholeClause c.args.bank.now) c.args.clauses.now c.args.clauses.now c.loop-i.i c.index-clauses-i.result c.requires.clauses refl (omega arith) c.index-clauses-i.is).ids

pub push_shown-requires-clause-by : goal.push_shown-requires-clause-by
push_shown-requires-clause-by c =
    each_item (IsWholeBy c.args.bank.now) c.args.shown.now c.args.shown.now (c.args.before + c.loop-i.i) c.index-shown-n.result c.requires.shown refl (omega arith) c.index-shown-n.is

pub loop-i-preserved : goal.loop-i-preserved
loop-i-preserved c =
    paired_more shown_line (clause_at c.args.bank.now) (by_of c.args.bank.now) c.loop-i.pen _ _ (c.args.before + c.loop-i.i + 1) c.loop-i.i (c.args.before + c.loop-i.i)
    c.args.clauses.now c.args.shown.now c.index-clauses-i.result c.index-shown-n.result _ _ _
    (omega arith) c.index-clauses-i.is (omega arith) c.index-shown-n.is c.in_ok-push_shown.ensures c.loop-i.invariant (omega arith) (omega arith) (omega arith)

pub returns : goal.returns
returns c =
    sym (append-nil c.loop-i.pen)
    ∙ sym (ap (λ t. c.loop-i.pen ++ t) (paired_over shown_line (clause_at c.args.bank.now) (by_of c.args.bank.now) (c.args.before + c.loop-i.i + 1) c.loop-i.i c.args.before c.args.clauses.now c.args.shown.now (omega arith)))
    ∙ c.loop-i.invariant
