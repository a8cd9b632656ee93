use Rattle.std.proofs.Common.{◌≡◌, length, All}
use Rattle.cert_check.proofs.grounds.id_for_each_variable.Given as goal

abbrev pub invariant-loop : goal.invariant-loop
invariant-loop l = record { count : length l.ids ≡ l.counter; same : All (λ id. id ≡ l.term) l.ids }
