use Rattle.std.proofs.Common.{◌≡◌, ◌++◌}
use Rattle.szs_prove.proofs.CoreParts.{no_core_text}
use Rattle.szs_prove.proofs.core_text.text_of_no_core.Goals as goal

pub returns : goal.returns
returns c =
    let first = c.from.ensures in
    let second = c.in_ok-extend_from_slice.ensures.items in
    let third = c.as_slice.ensures in
    let fourth = c.saturation.view_is in
    let joined : c.from.result ≡ c.in_ok-text.text.items ++ c.in_ok-saturation.saturation = cc in
    no_core_text c.args.lists.now c.args.file.now c.in_ok-text.text.items c.in_ok-saturation.saturation c.from.result c.requires c.in_ok-text.ensures c.in_ok-saturation.ensures joined
