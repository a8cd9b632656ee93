use Rattle.std.proofs.Common.{◌∷◌, ◌++◌, ◌∙◌, refl, sym}
use Rattle.std.specs.Prelude.{codes}
use Rattle.std.specs.Char.{is_ascii_digit}
use Rattle.cert_format.proofs.Digits.{split_of}
use Rattle.cert_format.proofs.LineNotes.{behind_front}
use Rattle.cert_format.proofs.Runs.{one_split}
use Rattle.cert_reader.proofs.lines.format.Goals as goal

pub returns-in-None-clause-none : goal.returns-in-None-clause-none
returns-in-None-clause-none c w rest h e = c.in-None.ensures.none (w ++ 10 ∷ rest) e

pub returns-in-None-mark-clause-none : goal.returns-in-None-mark-clause-none
returns-in-None-mark-clause-none c w rest h e =
    let after = c.in-Some.after.now in
    let digits = c.split_at.result.0.now in
    let behind = c.split_at.result.1.now in
    let s = split_of after digits behind c.digits_len.result c.digits_len.ensures.is c.split_at.ensures.front c.split_at.ensures.back in
    let q = behind_front (codes "% instgen certificate ") after (w ++ 10 ∷ rest) (sym c.in-Some.ensures.some ∙ e) in
    c.in-None-mark.ensures.none rest (sym (one_split is_ascii_digit w digits (10 ∷ rest) behind h s.digits refl s.ends (sym q ∙ s.is)).1)

pub returns-in-Some-mark-clause-digits : goal.returns-in-Some-mark-clause-digits
returns-in-Some-mark-clause-digits c =
    (split_of c.in-Some.after.now c.split_at.result.0.now c.split_at.result.1.now c.digits_len.result c.digits_len.ensures.is c.split_at.ensures.front c.split_at.ensures.back).digits
