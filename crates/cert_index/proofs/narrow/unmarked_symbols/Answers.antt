use Rattle.std.proofs.Common.{◌≡◌, nat_eq, arith, true, below_more}
use Rattle.std.specs.List.{list_any}
use Rattle.cert_index.specs.Fingerprints.{fingerprint_at}
use Rattle.cert_index.specs.Partners.{head_at}
use Rattle.cert_index.proofs.narrow.unmarked_symbols.Goals as goal

pub loop-i-preserved : goal.loop-i-preserved
loop-i-preserved c =
    let hs = c.args.heads.now in
    let ps = c.args.fingerprints.now in
    let i = c.loop-i.i in
    let ks = c.note_unmarked.new.unmarked.keys in
    below_more (λ k. (fingerprint_at ps k).own.first ≡ 0 → list_any (nat_eq (head_at hs k).atom) ks ≡ true) i
    (λ k less zero. c.in_ok-note_unmarked.ensures.kept (head_at hs k).atom (c.loop-i.invariant k less zero))
    c.in_ok-note_unmarked.ensures.noted

pub returns : goal.returns
returns c = λ k less. c.loop-i.invariant k (omega (arith, less, c.loop-i-test.false))
