use Rattle.std.proofs.Common.{Some, None, sym, ap, ◌∙◌}
use Rattle.std.specs.Bool.{beq}
use Rattle.std.specs.Option.{option_map}
use Rattle.cdcl_trail.specs.Values.{entries_of}
use Rattle.cdcl_trail.proofs.TrailLaws.{value_found, sign_equal, sign_of}
use Rattle.cdcl_trail.proofs.ValuesLaws.{found_is}
use Rattle.cdcl_trail.proofs.values.Values.value.Goals as goal

pub returns-in-Some : goal.returns-in-Some
returns-in-Some c =
    let l = c.args.l in
    let v = c.args.self.now in
    let s = c.in-Some.ensures.some in
    let found = found_is (entries_of v) v.entries.items l.atom (Some s.0) c.requires.values.by_atom s.1 in
    ap (λ p. Some (beq p l.positive)) (sym s.2) ∙ ap Some (sign_equal s.0.lit.positive l.positive) ∙ ap (option_map (sign_of l)) found ∙ sym (value_found (entries_of v) l)

pub returns-in-None : goal.returns-in-None
returns-in-None c =
    let l = c.args.l in
    let v = c.args.self.now in
    let found = found_is (entries_of v) v.entries.items l.atom None c.requires.values.by_atom c.in-None.ensures.none in
    ap (option_map (sign_of l)) found ∙ sym (value_found (entries_of v) l)
