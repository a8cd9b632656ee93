use Rattle.term_index.proofs.pairs.replace.Goals as goal

pub returns-clause-late : goal.returns-clause-late
returns-clause-late c = λ _. (c.insert.new.self.entries, c.in_ok-insert.ensures.updates.0, c.swap_remove-2.ensures.updates.0)
