use Rattle.std.proofs.Common.{◌≡◌, ℕ, ◌<◌, List, [], ◌∷◌, ◌++◌, map, length, sym, ap, ◌∙◌, subst}
use Rattle.std.specs.Prelude.{reverse}
use Rattle.std.proofs.lemmas.List.{append-nil, reverse-append}
use Rattle.std.proofs.lemmas.List.Elements.{All-tail}
use Rattle.term_bank.specs.Forest.{AreIds}
use Rattle.cert_items.specs.Orders.{in_order, ids_vars}
use Rattle.term_bank.proofs.Clauses.{atom_ids}
use Rattle.cert_items.proofs.Orders.{clause_ids}
use Rattle.cert_items.proofs.order.is_ordered.Goals as goal

pub loop-id-init : goal.loop-id-init
loop-id-init c =
    let f = c.args.bank.now in
    let start : reverse c.push_atoms.new.left.items ≡ map (λ l. l.atom) c.args.c.now =
    c.in_ok-push_atoms.ensures ∙ ap (λ (ls : List ℕ). map (λ l. l.atom) c.as_slice.result.now ++ reverse ls) c.clear.ensures.items ∙ append-nil _ ∙ ap (map (λ l. l.atom)) c.as_slice.ensures in
    record {
      order = λ h. sym (ap (in_order 0) (clause_ids f c.args.c.now)) ∙ sym (ap (λ (ids : List ℕ). in_order 0 (ids_vars f ids)) start) ∙ h;
      within = subst (AreIds f) (sym start) (atom_ids f c.args.c.now c.requires);
    }

pub visit-requires-clause-within : goal.visit-requires-clause-within
visit-requires-clause-within c =
    let f = c.args.bank.now in
    let rest = c.pop.new.self.items in
    let ids : reverse c.loop-id.left.items ≡ c.in-Some.id ∷ reverse rest = ap reverse c.in-Some.ensures.items ∙ reverse-append rest (c.in-Some.id ∷ []) in
    All-tail (λ (i : ℕ). i < length f.trees) c.in-Some.id (reverse rest) (subst (AreIds f) ids c.loop-id.invariant.within)
