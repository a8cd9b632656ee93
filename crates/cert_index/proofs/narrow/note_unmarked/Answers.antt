use Rattle.std.proofs.Common.{◌∙◌, nat_eq, refl, ap, true, cond}
use Rattle.std.specs.List.{list_any}
use Rattle.std.proofs.lemmas.Bool.Decides.{Decides-eqb}
use Rattle.cert_index.proofs.NarrowLaws.{still_there}
use Rattle.cert_index.proofs.narrow.note_unmarked.Goals as goal

pub returns-clause-noted : goal.returns-clause-noted
returns-clause-noted c zero =
    let a = c.args.head.now.atom in
    c.in_ok-insert.ensures.updates.0 a ∙ ap (λ b. cond b true (list_any (nat_eq a) c.args.unmarked.now.keys)) ((Decides-eqb a a).1 refl)

pub returns-clause-kept : goal.returns-clause-kept
returns-clause-kept c s h = c.in_ok-insert.ensures.updates.0 s ∙ still_there (nat_eq c.args.head.now.atom s) (list_any (nat_eq s) c.args.unmarked.now.keys) h
