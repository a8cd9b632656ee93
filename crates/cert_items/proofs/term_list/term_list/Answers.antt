use Rattle.std.proofs.Common.{Bor, List, ℕ, sym, subst, ◌∙◌}
use Rattle.std.specs.Prelude.{All}
use Rattle.cert_values.specs.Wholes.{IsWholeTerm}
use Rattle.cert_items.specs.Reading.{AreTerms}
use Rattle.cert_items.proofs.Reading.{is_some}
use Rattle.cert_items.proofs.Covering.{whole_terms}
use Rattle.cert_items.proofs.term_list.term_list.Goals as goal

pub returns-clause-whole : goal.returns-clause-whole
returns-clause-whole c =
    let k = c.in_ok-rest in
    let s = c.in-Some-2 in
    let f = c.terms.new.bank in
    let a = is_some k.field-0 s.rest (λ (x : Bor (List ℕ)). AreTerms f c.args.bytes.now 93 c.terms.new.ids.items x.now) s.is k.ensures.some in
    subst (All (IsWholeTerm f)) (sym (c.in_ok-list.ensures ∙ c.as_slice.ensures.value)) (whole_terms f c.terms.new.ids.items a.1 a.2)
