use Rattle.std.proofs.Common.{◌≡◌, length, map, None, refl, ap, ◌∙◌, subst, arith}
use Rattle.prop_logic.specs.declared.search.Search.{Search}
use Rattle.prop_logic.specs.Search.{Follows}
use Rattle.prop_logic.proofs.PlainLaws.{satisfied, extended, value_follows}
use Rattle.prop_logic.proofs.search.Search.extend.Goals as goal

pub returns-then-atom-self : goal.returns-then-atom-self
returns-then-atom-self c =
    let s = c.args.self.now in
    let full : length s.entries.items ≡ s.atoms = omega (arith, c.len-atom.ensures, c.if-atom-self.true, s.entries.ok.0) in
    (refl, satisfied c.args.clauses.now c.args.assumptions.now s c.in_ok-valuation.valuation c.requires.search c.requires.clauses c.requires.assumptions full c.requires.rest (c.in_ok-valuation.ensures ∙ ap (map (λ x. x.value)) c.as_slice.ensures.value))

pub returns : goal.returns
returns c =
    let s = c.args.self.now in
    let t : Search = record { atoms = s.atoms; entries = c.push.new.self; steps = s.steps } in
    let count : c.len-atom.result ≡ length s.entries.items = omega (arith, c.len-atom.ensures, s.entries.ok.0) in
    let follows = value_follows c.args.assumptions.now c.len-atom.result c.assumed_value.result c.unwrap_or-value.result None c.requires.consistent c.unwrap_or-value.ensures c.assumed_value.ensures.some c.assumed_value.ensures.none in
    extended c.args.clauses.now c.args.assumptions.now s t c.unwrap_or-value.result c.requires.search refl refl (λ e. c.if-atom-self.false (count ∙ e)) c.in_ok-push.ensures.items
    (subst (λ n. Follows c.args.assumptions.now n (record { value = c.unwrap_or-value.result; reason = None })) count follows)
