use Rattle.std.proofs.Common.{arith, map}
use Rattle.std.proofs.lemmas.List.{length-map}
use Rattle.term_bank.specs.Forest.{tree_at}
use Rattle.cert_items.proofs.Known.{all_known_later, applied_known}
use Rattle.cert_items.proofs.text_bank.apply_first.Goals as goal

pub returns-in_err-id-clause-known : goal.returns-in_err-id-clause-known
returns-in_err-id-clause-known c = all_known_later c.args.bank.now c.apply_named.new.bank c.args.known.now.entries c.in_err-id.ensures.extends c.requires.known

pub returns-in_err-id-clause-extends : goal.returns-in_err-id-clause-extends
returns-in_err-id-clause-extends c = c.in_err-id.ensures.extends

pub returns-in_err-id-clause-formed : goal.returns-in_err-id-clause-formed
returns-in_err-id-clause-formed c = c.in_err-id.ensures.formed

pub note-requires-clause-new : goal.note-requires-clause-new
note-requires-clause-new c = c.requires.new

pub note-requires-clause-value : goal.note-requires-clause-value
note-requires-clause-value c =
    applied_known c.apply_named.new.bank c.in_ok-id.id c.args.kind c.args.text.now (map (tree_at c.args.bank.now) c.args.args.now) _ (omega (arith, length-map c.args.args.now (tree_at c.args.bank.now))) c.in_ok-id.ensures.at

pub note-requires-clause-known : goal.note-requires-clause-known
note-requires-clause-known c = all_known_later c.args.bank.now c.apply_named.new.bank c.args.known.now.entries c.in_ok-id.ensures.extends c.requires.known

pub returns-in_err-note-clause-known : goal.returns-in_err-note-clause-known
returns-in_err-note-clause-known c = c.note.ensures

pub returns-in_err-note-clause-extends : goal.returns-in_err-note-clause-extends
returns-in_err-note-clause-extends c = c.in_ok-id.ensures.extends

pub returns-in_err-note-clause-formed : goal.returns-in_err-note-clause-formed
returns-in_err-note-clause-formed c = c.in_ok-id.ensures.formed

pub returns-clause-known : goal.returns-clause-known
returns-clause-known c = c.note.ensures

pub returns-clause-at : goal.returns-clause-at
returns-clause-at c = c.in_ok-id.ensures.at

pub returns-clause-extends : goal.returns-clause-extends
returns-clause-extends c = c.in_ok-id.ensures.extends

pub returns-clause-formed : goal.returns-clause-formed
returns-clause-formed c = c.in_ok-id.ensures.formed
