use Rattle.std.proofs.Common.{[], ◌∷◌, true}
use Rattle.cert_items.specs.NumberTexts.{HasNumbers, NoNumbers}
use Rattle.cert_items.proofs.Reading.{is_none, is_some}
use Rattle.cert_items.proofs.Origins.{no_between, no_premises, no_close}
use Rattle.cert_items.proofs.origin.lists.Goals as goal

pub returns-in_default-word-clause-none : goal.returns-in_default-word-clause-none
returns-in_default-word-clause-none c =
    let s = c.in-Some in
    let k = c.in-Some-2 in
    let first = is_some c.in_ok-keep.field-0 (k.keep, k.between) (λ p. HasNumbers [] p.0 true s.first.now p.1.now) k.is c.in_ok-keep.ensures.some in
    no_between c.args.bytes.now s.first.now k.keep k.between.now s.ensures.some first c.in_default-word.ensures.none

pub returns-in_default-3-clause-none : goal.returns-in_default-3-clause-none
returns-in_default-3-clause-none c =
    let s = c.in-Some in
    let k = c.in-Some-2 in
    let w = c.in-Some-word in
    let first = is_some c.in_ok-keep.field-0 (k.keep, k.between) (λ p. HasNumbers [] p.0 true s.first.now p.1.now) k.is c.in_ok-keep.ensures.some in
    no_premises c.args.bytes.now s.first.now k.keep k.between.now w.second.now s.ensures.some first w.ensures.some (is_none c.in_ok-premises.field-0 (NoNumbers (109 ∷ []) w.second.now) c.in_default-3.is c.in_ok-premises.ensures.none)

pub returns-in_default-mark-clause-none : goal.returns-in_default-mark-clause-none
returns-in_default-mark-clause-none c =
    let s = c.in-Some in
    let k = c.in-Some-2 in
    let w = c.in-Some-word in
    let l = c.in-Some-3 in
    let first = is_some c.in_ok-keep.field-0 (k.keep, k.between) (λ p. HasNumbers [] p.0 true s.first.now p.1.now) k.is c.in_ok-keep.ensures.some in
    let second = is_some c.in_ok-premises.field-0 (l.premises, l.behind) (λ p. HasNumbers (109 ∷ []) p.0 true w.second.now p.1.now) l.is c.in_ok-premises.ensures.some in
    no_close c.args.bytes.now s.first.now k.keep k.between.now w.second.now l.premises l.behind.now s.ensures.some first w.ensures.some second c.in_default-mark.ensures.none
