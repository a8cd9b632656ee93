use Rattle.std.proofs.Common.{sym, rules}
use Rattle.std.proofs.lemmas.List.Quantifiers.{position-Some}
use Rattle.term_bank.specs.Forest.{no_symbol}
use Rattle.term_bank.proofs.store.symbol_number.Goals as goal

pub returns-in-Some-clause-at : goal.returns-in-Some-clause-at
returns-in-Some-clause-at c =
    let s = position-Some _ c.args.symbols.now.keys c.in-Some.i no_symbol (sym c.in-Some.ensures.index) in
    search (rules, s.1)
