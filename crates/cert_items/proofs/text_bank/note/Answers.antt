use Rattle.std.proofs.Common.{◌∙◌, List, ℕ, ap}
use Rattle.indexmap.proofs.CallerLemmas.{insert_entry-new}
use Rattle.cert_items.specs.Known.{remembered}
use Rattle.cert_items.proofs.Known.{one_more_known}
use Rattle.cert_items.proofs.text_bank.note.Goals as goal

pub returns : goal.returns
returns c =
    let same = c.in_ok-key.ensures.items in
    let new = insert_entry-new _ c.args.known.now c.in_ok-key.key c.args.value (ap (λ (t : List ℕ). remembered t c.args.known.now.entries) same ∙ c.requires.new) in
    one_more_known c.args.bank.now c.args.known.now.entries c.insert.new.self.entries c.args.text.now c.in_ok-key.key c.args.value (c.in_ok-insert.ensures.entries ∙ new) same c.requires.value c.requires.known
