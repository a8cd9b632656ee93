use Rattle.std.proofs.Common.{◌≡◌, [], ◌∷◌, List, length, sym, ap, ◌∙◌, subst, arith, map, All, rules}
use Rattle.std.specs.Vec.Iter.{into_iter_items}
use Rattle.term_bank.proofs.Growth.{extends_trans}
use Rattle.cert_values.specs.declared.certificate.GroundLine.{GroundLine}
use Rattle.cert_values.specs.Values.{line_of}
use Rattle.instgen_loop.specs.Lines.{IsLineIn}
use Rattle.instgen_loop.proofs.LineLaws.{IsLineWalk, all_lines, no_lines, next_given, next_grounded, next_ids, nothing_left, one_more_line}
use Rattle.instgen_loop.proofs.lines.lines_of.Goals as goal

pub loop-item-init : goal.loop-item-init
loop-item-init c =
    let start = c.into_iter-item-iterator.ensures.into_iter_gives in
    let all : into_iter_items c.into_iter-item-iterator.result ≡ c.args.items = start.0 ∙ c.into-items.ensures in
    record {
      walk = rw (all, c.in_ok-lines.ensures.items) (no_lines c.args.bank.now c.args.given.now c.args.items c.requires.items c.requires.ids);
      count = search rules;
    }

pub line_of-requires : goal.line_of-requires
line_of-requires c =
    let f = c.args.bank.now in
    let g = c.loop-item.bank in
    let given = c.args.given.now in
    let rest = into_iter_items c.next.new.self in
    let all = into_iter_items c.loop-item.item-iterator in
    let w = c.loop-item.invariant.walk in
    let e = c.in-Some.ensures.steps.0 in
    record {
      given = next_given f g given c.args.items c.in-Some.item rest all c.loop-item.lines.items c.requires.given w e;
      item = next_grounded f g given c.args.items c.in-Some.item rest all c.loop-item.lines.items c.requires.given w e;
      ids = next_ids f g given c.args.items c.in-Some.item rest all c.loop-item.lines.items c.requires.given w e;
    }

pub loop-item-preserved : goal.loop-item-preserved
loop-item-preserved c =
    let f = c.args.bank.now in
    let g = c.loop-item.bank in
    let given = c.args.given.now in
    let rest = into_iter_items c.next.new.self in
    let all = into_iter_items c.loop-item.item-iterator in
    let w = c.loop-item.invariant.walk in
    let steps : all ≡ c.in-Some.item ∷ rest = c.in-Some.ensures.steps.0 in
    record {
      walk = subst (λ (ls : List GroundLine). IsLineWalk f c.line_of.new.bank given c.args.items rest ls) (sym c.in_ok-push.ensures.items)
          (one_more_line f g given c.args.items c.in-Some.item rest all c.loop-item.lines.items c.requires.given w steps c.line_of.new.bank c.in_ok-line.line c.in_ok-line.ensures.extends c.in_ok-line.ensures.formed c.in_ok-line.ensures.line);
      count =
          let was = c.loop-item.invariant.count in
          let gone = c.in-Some.ensures.steps.1 in
          let short = ap length steps in
          omega arith;
    }

pub returns-in_err-line-clause-extends : goal.returns-in_err-line-clause-extends
returns-in_err-line-clause-extends c = extends_trans c.args.bank.now c.loop-item.bank c.line_of.new.bank c.loop-item.invariant.walk.extends c.line_of.ensures.extends

pub returns-in_err-push-clause-extends : goal.returns-in_err-push-clause-extends
returns-in_err-push-clause-extends c = extends_trans c.args.bank.now c.loop-item.bank c.line_of.new.bank c.loop-item.invariant.walk.extends c.line_of.ensures.extends

pub returns : goal.returns
returns c =
    let f = c.args.bank.now in
    let g = c.loop-item.bank in
    let given = c.args.given.now in
    let w = c.loop-item.invariant.walk in
    let rest = into_iter_items c.loop-item.item-iterator in
    let empty : rest ≡ [] = nothing_left rest (sym c.loop-item.invariant.count ∙ c.in-None.ensures.steps.0) in
    record {
      extends = w.extends;
      formed = λ old terms. (w.formed old terms).0;
      lines = ap (map (line_of g)) c.from.ensures ∙ all_lines f g given c.args.items rest c.loop-item.lines.items w empty;
      ids = subst (All (IsLineIn g)) (sym c.from.ensures) w.ids;
    }
