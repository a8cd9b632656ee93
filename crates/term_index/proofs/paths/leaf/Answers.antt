use Rattle.std.proofs.Common.{◌∙◌, ◌++◌, length, ap, sym}
use Rattle.term_bank.specs.Forest.{tree_at}
use Rattle.term_index.specs.Labels.{labels}
use Rattle.term_index.specs.Left.{left_labels}
use Rattle.term_index.proofs.DescentLaws.{descent_begun, none_below}
use Rattle.term_index.proofs.LeftLaws.{leads_nowhere}
use Rattle.term_index.proofs.paths.leaf.Goals as goal

pub loop-id-init : goal.loop-id-init
loop-id-init c =
    let f = c.args.bank.now in
    let d = c.args.descent.now in
    record {
      descent = descent_begun f c.args.edges.now.keys c.args.atom d.left.items d.opened.items d.closed.items c.requires.atom c.requires.begins;
      below = none_below (length d.left.items) d.opened.items c.requires.begins.1;
    }

pub returns-in-None : goal.returns-in-None
returns-in-None c =
    let f = c.args.bank.now in
    let es = c.args.edges.now.keys in
    let all = labels f (tree_at f c.args.atom) in
    let d = c.loop-id.invariant.descent in
    let whole = ap (λ xs. d.path ++ left_labels f xs) (sym c.in-Some.ensures.items) ∙ d.split in
    let absent = rw c.in-None.is at c.in_ok-step.ensures in
    record {
      way = leads_nowhere f es c.requires.once all d.path c.loop-id.node c.in-Some.id c.pop.new.self.items absent d.leads whole;
    }
