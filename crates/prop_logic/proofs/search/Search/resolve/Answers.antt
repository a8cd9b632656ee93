use Rattle.std.proofs.Common.{subst}
use Rattle.std.specs.Prelude.{IfNone}
use Rattle.prop_logic.specs.Search.{Turns}
use Rattle.prop_logic.proofs.PlainLaws.{turn_advances}
use Rattle.prop_logic.proofs.search.Search.resolve.Goals as goal

pub returns-in-None : goal.returns-in-None
returns-in-None c =
    let old = c.args.self.now in
    let new = c.back.new.self in
    let f = c.in_ok-left.ensures in
    (f.search, turn_advances old new c.requires.search.within f.atoms (subst (λ o. IfNone o (Turns old.entries.items new.entries.items)) c.in-None.is f.turned))
