use Rattle.std.proofs.Common.{◌≢◌, ◌∙◌, List, ℕ, refl, sym}
use Rattle.cert_items.specs.Notes.{lists_text, ListsFit}
use Rattle.cert_items.proofs.Reading.{is_none}
use Rattle.cert_items.proofs.Origins.{no_lemma, instance_once}
use Rattle.cert_items.proofs.origin.lemma.Goals as goal

pub returns-in_default-clause-none : goal.returns-in_default-clause-none
returns-in_default-clause-none c = no_lemma c.args.format c.args.bytes.now (λ i ks ds rest g l f e. c.in_default.ensures.none i (lists_text ks ds rest) g e)

pub returns-in_default-2-clause-none : goal.returns-in_default-2-clause-none
returns-in_default-2-clause-none c =
    let s = c.in-Some in
    let k = c.in_ok-keep in
    let bad = is_none k.field-0 ((ks ds rest : List ℕ) → ListsFit ks ds → s.after.now ≢ lists_text ks ds rest) c.in_default-2.is k.ensures.none in
    no_lemma c.args.format c.args.bytes.now (λ i ks ds rest g l f e. bad ks ds rest l (instance_once s.i i 44 s.after.now (lists_text ks ds rest) s.ensures.fits g refl (sym s.ensures.some ∙ e)))
