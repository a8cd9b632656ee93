use Rattle.std.proofs.Common.{◌≡◌, ◌++◌, ◌∷◌, [], refl, subst}
use Rattle.term_index.specs.Paths.{IsChild}
use Rattle.term_index.proofs.Growing.{not_any}
use Rattle.term_index.proofs.paths.push_edge.Goals as goal

pub returns : goal.returns
returns c =
    let es = c.args.edges.now.keys in
    let l = c.args.label in
    let e = c.in_ok-short.ensures.same in
    let absent = not_any es c.in_ok-short.field-0 l (λ k h. c.requires k (subst (λ n. IsChild es n l k) e h)) in
    subst (λ n. c.insert.new.self.keys ≡ es ++ record { from = n; label = l } ∷ []) e (rw (c.in_ok-insert.ensures.keys, absent) refl)
