use Rattle.std.proofs.Common.{◌∙◌, ap, sym, subst}
use Rattle.cert_index.specs.Lengths.{AreGrouped, heads_by}
use Rattle.cert_index.proofs.LengthLaws.{grouped}
use Rattle.cert_index.proofs.lengths.find_lengths.Goals as goal

pub returns : goal.returns
returns c =
    let ms = c.args.members.now in
    let hs = c.args.heads.now in
    let p = c.in_ok-partners.partners in
    let h = c.in_ok-partners.ensures in
    let is = h.0 ∙ c.in_ok-ordered.ensures ∙ ap (heads_by hs) c.deref.ensures.value in
    subst (AreGrouped ms hs) (sym c.lengths_of.ensures)
    (grouped ms hs p.heads.items (record { ranked = c.in_ok-ranked.ranked; first = p.first; same = p.same }) c.in_ok-ranked.ensures is h.1 h.2)
