use Rattle.std.proofs.Common.{◌≡◌, ◌++◌, ◌∙◌, List, ℕ, ap, sym, append_assoc, codes, decimal}
use Rattle.cert_format.specs.Lines.{origin_text}
use Rattle.cert_values.specs.Values.{origin_of}
use Rattle.term_bank.specs.Forest.{clause_at}
use Rattle.cert_text.specs.Pieces.{line_front}
use Rattle.cert_text.proofs.Pieces.{line_written, more}
use Rattle.cert_text.proofs.lines.push_selected.Goals as goal

-- the note is the origin with the place behind it
grouped : (t o a d b : List ℕ) → t ++ (o ++ (a ++ d ++ b)) ≡ t ++ (o ++ a ++ d ++ b)
grouped t o a d b = ap (λ x. t ++ x) (sym (append_assoc (o ++ a) d b ∙ append_assoc o a (d ++ b) ∙ ap (λ x. o ++ x) (sym (append_assoc a d b))))

pub returns : goal.returns
returns c =
    let origin = origin_text (origin_of c.args.member.now.origin) in
    let place = codes ",[selected(" ++ decimal c.args.place ++ codes ")]" in
    let note = more c.push_front.new.pen _ _ origin place c.in_ok-push_origin.ensures c.in_ok-push_place.ensures ∙ grouped c.push_front.new.pen origin (codes ",[selected(") (decimal c.args.place) (codes ")]") in
    line_written _ _ _ _ (line_front (codes "m") c.args.n (codes "plain") (clause_at c.args.bank.now c.args.member.now.clause)) (origin ++ codes ",[selected(" ++ decimal c.args.place ++ codes ")]") c.in_ok-push_front.ensures note c.in_ok-bytes.ensures
