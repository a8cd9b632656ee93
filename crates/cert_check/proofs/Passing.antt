-- No member is wrong past the last one.
use Rattle.std.proofs.Common.{◌≡◌, ℕ, zero, suc, ◌+◌, ◌<◌, ◌≤◌, map, arith, inl, inr, length, None, Some}
use Rattle.std.specs.Prelude.{slice_get}
use Rattle.std.proofs.lemmas.Bool.{cases_lt}
use Rattle.std.proofs.lemmas.List.{length-map}
use Rattle.std.proofs.lemmas.Option.{slice_get_past}
use Rattle.inst_logic.specs.Derivations.{at_number}
use Rattle.inst_calculus.specs.Entries.{Entry}
use Rattle.cert_values.specs.declared.certificate.Base.{Base}
use Rattle.cert_values.specs.Values.{base_of, entry_of}
use Rattle.cert_check.specs.Stages.{IsAllowedMember}
use Rattle.cert_check.specs.declared.base.Lemmas.{Lemmas}
use Rattle.cert_check.specs.declared.base.Lemmas.TheVariants.{Allowed, Refused}

none_past : (b : Base) (k : ℕ) (e : Entry) → length b.members < k → at_number (base_of b).members k ≡ Some e → ⊥
none_past b zero e g at = absurd (omega arith)
none_past b (suc k) e g at =
    let none : slice_get (map (entry_of b.bank) b.members) k ≡ None = slice_get_past (map (entry_of b.bank) b.members) k (let l = length-map b.members (entry_of b.bank) in omega arith) in
    absurd (cc)

allowed_past : (lemmas : Lemmas) (b : Base) (k : ℕ) → length b.members < k → IsAllowedMember lemmas (base_of b) k
allowed_past Allowed b k g = λ e at. absurd (none_past b k e g at)
allowed_past Refused b k g = λ e at. absurd (none_past b k e g at)

pub all_allowed : (lemmas : Lemmas) (b : Base) (n : ℕ) → length b.members ≤ n → ((m : ℕ) → m < n + 1 → IsAllowedMember lemmas (base_of b) m) → (m : ℕ) → IsAllowedMember lemmas (base_of b) m
all_allowed lemmas b n h f m = elim (cases_lt m (n + 1)) [ inl l ↦ f m l | inr g ↦ allowed_past lemmas b m (omega arith) ]
