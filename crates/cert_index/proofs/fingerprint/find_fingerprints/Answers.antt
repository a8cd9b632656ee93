use Rattle.std.proofs.Common.{ℕ, ◌<◌, List, subst, sym, rules, arith}
use Rattle.cert_index.specs.declared.fingerprint.Fingerprint.{Fingerprint}
use Rattle.cert_index.specs.Fingerprints.{IsFingerprintOf, fingerprint_at}
use Rattle.cert_index.proofs.FingerprintLaws.{all_told, one_more_fingerprint}
use Rattle.cert_index.proofs.fingerprint.find_fingerprints.Goals as goal

pub loop-i-preserved : goal.loop-i-preserved
loop-i-preserved c = record {
  count = search rules;
  each = λ k less. subst (λ (ps : List Fingerprint). IsFingerprintOf c.args.cert.now k (fingerprint_at ps k)) (sym c.in_ok-push.ensures.items)
      (one_more_fingerprint c.args.cert.now c.loop-i.fingerprints.items c.loop-i.i c.selected_fingerprint-fingerprint.result c.loop-i.invariant.count c.loop-i.invariant.each c.selected_fingerprint-fingerprint.ensures k less);
}

pub returns-clause-count : goal.returns-clause-count
returns-clause-count c = omega (arith, c.loop-i.invariant.count, c.loop-i-test.false)

pub returns-clause-each : goal.returns-clause-each
returns-clause-each c = subst (λ n. (k : ℕ) → k < n → IsFingerprintOf c.args.cert.now k (fingerprint_at c.loop-i.fingerprints.items k)) (sym c.loop-i.invariant.count) c.loop-i.invariant.each

pub returns-clause-apart : goal.returns-clause-apart
returns-clause-apart c =
    all_told c.args.cert.now c.loop-i.fingerprints.items (omega (arith, c.loop-i.invariant.count, c.loop-i-test.false))
    (subst (λ n. (k : ℕ) → k < n → IsFingerprintOf c.args.cert.now k (fingerprint_at c.loop-i.fingerprints.items k)) (sym c.loop-i.invariant.count) c.loop-i.invariant.each)
