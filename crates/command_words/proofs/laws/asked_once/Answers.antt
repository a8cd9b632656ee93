use Rattle.command_words.proofs.AskedOnce.{once, named, within}
use Rattle.command_words.proofs.laws.asked_once.Goals as goal

pub returns : goal.returns
returns c = record { once = once; named = named; within = within }
