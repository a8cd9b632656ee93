use Rattle.std.proofs.Common.{◌≡◌, ◌∙◌, ◌+◌, List, suc, ap, arith, sym}
use Rattle.std.specs.Prelude.{option_copied}
use Rattle.inst_logic.specs.Derivations.{at_number}
use Rattle.cert_values.specs.declared.member.Member.{Member}
use Rattle.cert_values.specs.declared.member.Origin.TheVariants.{Inst}
use Rattle.cert_check.specs.Origins.{origin_from}
use Rattle.cert_check.proofs.made.is_made.Goals as goal

pub returns-then-is_from : goal.returns-then-is_from
returns-then-is_from c found =
    let due = c.args.due in
    let own : due.own + 1 ≡ suc due.own = omega arith in
    let partner : due.other + 1 ≡ suc due.other = omega arith in
    let place = c.in-Some-get.place.now in
    let other = c.in-Some-get-2.other.now in
    record {
      number = c.in-Variant.number;
      member = c.in-Some.member.now;
      place = place;
      other = other;
      by = c.in-Variant.is;
      at = sym (ap (λ (ms : List Member). at_number ms c.in-Variant.number) c.as_slice.ensures) ∙ sym c.numbered_item.ensures ∙ ap option_copied c.in-Some.is;
      here = sym c.get.ensures ∙ ap option_copied c.in-Some-get.is;
      there = sym c.get-2.ensures ∙ ap option_copied c.in-Some-get-2.is;
      origin = c.is_from.ensures c.if-is_from.true ∙ ap origin_from c.new-premises.ensures ∙ (λ i. Inst (own i) place (partner i) other);
      clause = c.same_clause.ensures.0 found;
    }
