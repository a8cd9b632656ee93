use Rattle.std.proofs.Common.{◌∙◌, sym}
use Rattle.cert_items.proofs.Known.{found, all_known_later}
use Rattle.cert_items.proofs.text_bank.symbol_application.Goals as goal

pub apply_again-requires-clause-known : goal.apply_again-requires-clause-known
apply_again-requires-clause-known c = found c.args.bank.now c.args.text.now c.args.known.now.entries c.in-Some.found c.requires.known (sym c.in-Some.is ∙ c.known_of.ensures)

pub returns-in-None-clause-known : goal.returns-in-None-clause-known
returns-in-None-clause-known c = c.apply_first.ensures.known

pub returns-in-None-clause-at : goal.returns-in-None-clause-at
returns-in-None-clause-at c = c.apply_first.ensures.at

pub returns-in-None-clause-extends : goal.returns-in-None-clause-extends
returns-in-None-clause-extends c = c.apply_first.ensures.extends

pub returns-in-None-clause-formed : goal.returns-in-None-clause-formed
returns-in-None-clause-formed c = c.apply_first.ensures.formed

pub returns-then-found-args-clause-known : goal.returns-then-found-args-clause-known
returns-then-found-args-clause-known c = all_known_later c.args.bank.now c.apply_again.new.bank c.args.known.now.entries c.apply_again.ensures.extends c.requires.known

pub returns-then-found-args-clause-extends : goal.returns-then-found-args-clause-extends
returns-then-found-args-clause-extends c = c.apply_again.ensures.extends

pub returns-else-eq-clause-known : goal.returns-else-eq-clause-known
returns-else-eq-clause-known c = all_known_later c.args.bank.now c.apply_named.new.bank c.args.known.now.entries c.apply_named.ensures.extends c.requires.known

pub returns-else-eq-clause-at : goal.returns-else-eq-clause-at
returns-else-eq-clause-at c = c.apply_named.ensures.at

pub returns-else-eq-clause-extends : goal.returns-else-eq-clause-extends
returns-else-eq-clause-extends c = c.apply_named.ensures.extends

pub returns-else-eq-clause-formed : goal.returns-else-eq-clause-formed
returns-else-eq-clause-formed c = c.apply_named.ensures.formed
