use Rattle.std.proofs.Common.{◌≡◌, ◌++◌}
use Rattle.szs_prove.specs.SubProblems.{problem_at}
use Rattle.szs_prove.proofs.CoreParts.{refutation_text}
use Rattle.szs_prove.proofs.core_text.push_refutation.Goals as goal

pub returns : goal.returns
returns c =
    let first = c.in_ok-extend_from_slice.ensures.items in
    let second = c.as_slice.ensures in
    let third = c.part.view_is in
    let joined : c.extend_from_slice.new.self.items ≡ c.args.text.now.items ++ c.in_ok-part.part = cc in
    (c.in_ok-part.part, refutation_text (problem_at c.args.lists.now c.args.places.now) c.args.file.now c.in_ok-part.part c.requires.refuted c.in_ok-part.ensures, joined)
