use Rattle.std.proofs.Common.{◌≡◌, ◌⊎◌}
use Rattle.std.specs.Prelude.{Contains}
use Rattle.std.proofs.lemmas.List.Elements.{All-weaker}
use Rattle.prop_logic.proofs.PlainLaws.{either_map, resolved_from}
use Rattle.prop_logic.proofs.resolution.resolvent.Goals as goal

pub returns : goal.returns
returns c =
    let first = c.in_ok-add_others.ensures in
    let second = c.in_ok-add_others-2.ensures in
    let mid = c.add_others.new.clause in
    let all = c.add_others-2.new.clause in
    record {
      first = All-weaker (λ m. (m.atom ≡ c.args.atom) ⊎ Contains mid m) (λ m. (m.atom ≡ c.args.atom) ⊎ Contains all m) (λ m h. either_map h (second.kept m)) c.args.first.now first.added;
      second = second.added;
      from = λ l inside. resolved_from c.args.first.now c.args.second.now mid l c.args.atom c.new-clause.result c.new-clause.ensures (first.from l) (second.from l inside);
    }
