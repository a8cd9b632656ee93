use Rattle.std.proofs.Common.{◌≡◌, ◌∙◌, List, ℕ, [], Option, None, ap, sym}
use Rattle.std.specs.Prelude.{option_copied, slice_get, unwrap_or}
use Rattle.std.proofs.lemmas.Option.{unwrap_or-slice_get}
use Rattle.cert_index.proofs.meetings.Meetings.opposites_of.Goals as goal

pub returns-in-None : goal.returns-in-None
returns-in-None c =
    let vs = c.args.self.now.opposites in
    let none : slice_get vs c.args.bucket ≡ None = sym c.get.ensures ∙ ap option_copied c.in-None.is in
    sym (sym (unwrap_or-slice_get vs c.args.bucket []) ∙ ap (λ (o : Option (List ℕ)). unwrap_or o []) none)
