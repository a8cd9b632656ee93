use Rattle.std.proofs.Common.{◌∙◌, ℕ, Option, Some, None, sym, ap, arith}
use Rattle.term_index.specs.Paths.{exit_at}
use Rattle.term_index.proofs.Linking.{not_listed, some_same}
use Rattle.term_index.proofs.links.listed_at.Goals as goal

pub returns-in_default : goal.returns-in_default
returns-in_default c = not_listed c.args.edges.now.keys c.args.places.now c.args.nodes.now.items c.args.span c.requires.listed (λ p q w e. (let k : Path (Option ℕ) None (Some p) = sym c.in_default.is ∙ c.place_of.ensures ∙ q in cc))

pub returns-in-None : goal.returns-in-None
returns-in-None c = not_listed c.args.edges.now.keys c.args.places.now c.args.nodes.now.items c.args.span c.requires.listed
    (λ p q w e. (let k = some_same c.in-Some.place p (sym c.in-Some.is ∙ c.place_of.ensures ∙ q) in omega (arith, k, w, c.in-None.ensures)))

pub returns-else-end-span : goal.returns-else-end-span
returns-else-end-span c = not_listed c.args.edges.now.keys c.args.places.now c.args.nodes.now.items c.args.span c.requires.listed
    (λ p q w e. (let k = some_same c.in-Some.place p (sym c.in-Some.is ∙ c.place_of.ensures ∙ q) in
    c.if-end-span.false (sym c.in-Some-exit_in.ensures.1 ∙ ap (exit_at c.args.nodes.now.items c.args.span.begin) k ∙ e)))
