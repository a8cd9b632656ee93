use Rattle.std.proofs.Common.{◌+◌, ◌++◌, ◌∙◌, refl, sym, ap, arith}
use Rattle.std.proofs.lemmas.List.{append-nil}
use Rattle.cert_format.specs.Lines.{selected_line}
use Rattle.cert_values.specs.Values.{entry_of}
use Rattle.cert_values.specs.Wholes.{IsWholeClause}
use Rattle.cert_values.specs.declared.member.Member.{Member}
use Rattle.cert_values.proofs.EachItem.{each_item}
use Rattle.cert_text.proofs.Pieces.{paired_end}
use Rattle.cert_text.proofs.listing.push_selected_members.Goals as goal

pub push_selected-requires : goal.push_selected-requires
push_selected-requires c = (each_item (λ (x : Member). IsWholeClause c.args.bank.now x.clause) c.args.members.now c.args.members.now c.loop-i.i c.index-members-i.result c.requires refl (omega arith) c.index-members-i.is).ids

pub returns : goal.returns
returns c =
    sym (append-nil c.loop-i.pen)
    ∙ sym (ap (λ t. c.loop-i.pen ++ t) (paired_end selected_line (entry_of c.args.bank.now) (c.loop-i.i + 1) c.loop-i.i c.args.members.now c.args.places.now (omega arith)))
    ∙ c.loop-i.invariant
