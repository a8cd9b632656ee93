use Rattle.std.proofs.Common.{sym, ap, ap₂, ◌∙◌, ℕ, ◌≡◌, ◌++◌, ◌∷◌, List, refl, reverse, append_assoc, subst as transport}
use Rattle.std.specs.Prelude.{option_map}
use Rattle.term_bank.specs.Forest.{symbol_at}
use Rattle.clause_form.specs.declared.walk.Leaves.TheVariants.{Led}
use Rattle.cert_inference.specs.Comparisons.{IsStep, pairs_of}
use Rattle.cert_inference.specs.declared.comparison.NodePair.{NodePair}
use Rattle.cert_inference.proofs.ComparisonLaws.{slice_to_end, same_numbers, step_application, step_trans}
use Rattle.cert_inference.proofs.comparison.open.Goals as goal

pub returns : goal.returns
returns c t below os bs same =
    let f = c.args.bank.now in
    let node = c.args.next.node in
    let term = c.args.next.term in
    let old = reverse c.args.pairs.now.items in
    let rest = old ++ below in
    let ns = c.args-nodes.result.now in
    let ts = c.args-terms.result.now in
    let e : c.symbol_number.result ≡ c.symbol_number-2.result = same_numbers _ _ (sym c.ne.ensures ∙ c.if-ne.false) in
    let n = c.seen_count-seen.result in
    let put = ap (λ (zs : List NodePair). zs ++ below) c.in_ok-push_pairs.ensures ∙ append_assoc (pairs_of node.side _ _) old below in
    let left = put ∙ ap₂ (λ (xs ys : List ℕ). pairs_of node.side xs ys ++ rest) (slice_to_end n ns) (slice_to_end n ts) in
    step_trans f (Led bs) (c.args.next ∷ rest) (pairs_of node.side ns ts ++ rest) (reverse c.push_pairs.new.pairs.items ++ below) os os os
    (step_application f (Led bs) node term rest (pairs_of node.side ns ts ++ rest) os ns ts c.requires.node c.requires.term
    (sym c.symbol_number.ensures.symbol ∙ ap (option_map (symbol_at f.symbols)) e ∙ c.symbol_number-2.ensures.symbol) c.requires.application
    c.args-nodes.ensures.trees c.args-nodes.ensures.smaller c.args-terms.ensures.trees c.args-terms.ensures.smaller c.if-nodes-terms.false refl)
    (transport (λ (zs : List NodePair). IsStep f (Led bs) (pairs_of node.side ns ts ++ rest) zs os os) (sym left) (c.seen_count-seen.ensures.seen rest os bs same))
