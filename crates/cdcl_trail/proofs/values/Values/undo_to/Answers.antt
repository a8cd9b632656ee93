use Rattle.std.proofs.Common.{◌≡◌, ◌≤◌, ◌<◌, ◌∷◌, [], length, take, sym, ap, ◌∙◌, arith}
use Rattle.std.proofs.lemmas.List.{length-map, length_push, take_all}
use Rattle.prop_logic.proofs.ListLaws.{take_of_append}
use Rattle.cdcl_trail.specs.Values.{entries_of, entry_at}
use Rattle.cdcl_trail.proofs.ValuesLaws.{split_nonempty}
use Rattle.cdcl_trail.proofs.values.Values.undo_to.Goals as goal

pub loop-self-smaller : goal.loop-self-smaller
loop-self-smaller c =
    let v = c.loop-self.self in
    let n : length (entries_of v) ≡ length v.literals.items = length-map v.literals.items (entry_at v.entries.items) in
    let m : length (entries_of c.undo.new.self) ≡ length c.undo.new.self.literals.items = length-map c.undo.new.self.literals.items (entry_at c.undo.new.self.entries.items) in
    let some : 0 < length (entries_of v) = omega (arith, n, v.literals.ok.0) in
    let x = split_nonempty (entries_of v) some in
    omega (arith, n, m, ap length x.2, length_push x.0 x.1, ap length (c.undo.ensures.entries x.0 x.1 x.2))

pub loop-self-preserved : goal.loop-self-preserved
loop-self-preserved c =
    let v = c.loop-self.self in
    let n : length (entries_of v) ≡ length v.literals.items = length-map v.literals.items (entry_at v.entries.items) in
    let some : c.args.count < length (entries_of v) = omega (arith, n, v.literals.ok.0) in
    let x = split_nonempty (entries_of v) (omega (arith, some)) in
    let low : c.args.count ≤ length x.0 = omega (arith, some, ap length x.2, length_push x.0 x.1) in
    record {
      values = c.undo.ensures.values;
      entries = ap (take c.args.count) (c.undo.ensures.entries x.0 x.1 x.2) ∙ sym (ap (take c.args.count) x.2 ∙ take_of_append x.0 (x.1 ∷ []) c.args.count low) ∙ c.loop-self.invariant.entries;
      atoms = c.undo.ensures.atoms ∙ c.loop-self.invariant.atoms;
    }

pub returns-clause-entries : goal.returns-clause-entries
returns-clause-entries c =
    let v = c.loop-self.self in
    let n : length (entries_of v) ≡ length v.literals.items = length-map v.literals.items (entry_at v.entries.items) in
    let all : length (entries_of v) ≤ c.args.count = omega (arith, n, v.literals.ok.0) in
    sym (take_all c.args.count (entries_of v) all) ∙ c.loop-self.invariant.entries
