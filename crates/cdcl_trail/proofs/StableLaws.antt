-- Propagation is at its end where every clause is settled.
use Rattle.std.proofs.Common.{◌≡◌, ◌≢◌, ℕ, ◌≤◌, Bool, true, false, inl, inr, List, length, take, Option, Some, None, refl, sym, ap, ◌∙◌, subst, arith}
use Rattle.std.specs.Prelude.{All, Contains, IfNone, IfSome}
use Rattle.std.proofs.lemmas.List.{take_all, length-map}
use Rattle.std.proofs.lemmas.List.Elements.{All-contains}
use Rattle.std.proofs.lemmas.Option.{same_Some}
use Rattle.inst_logic.specs.declared.signed.Signed.{Signed}
use Rattle.inst_logic.specs.Signed.{complement}
use Rattle.cdcl_trail.specs.Clauses.{clause_number}
use Rattle.cdcl_trail.specs.Loose.{AreLoose}
use Rattle.cdcl_trail.specs.Propagation.{IsStable}
use Rattle.cdcl_trail.specs.Running.{IsRunning}
use Rattle.cdcl_trail.specs.Scan.{HasRest}
use Rattle.cdcl_trail.specs.Trail.{literals_of, value_of}
use Rattle.cdcl_trail.specs.Values.{entries_of}
use Rattle.cdcl_trail.specs.Watch.{slot_of, pair_at}
use Rattle.cdcl_trail.specs.Watching.{IsTrueAt, Watches, IsSettled}
use Rattle.cdcl_trail.specs.declared.entry.Entry.{Entry}
use Rattle.cdcl_trail.specs.declared.values.Values.{Values}
use Rattle.cdcl_trail.specs.declared.watch.WatchedPair.{WatchedPair}
use Rattle.cdcl_trail.specs.declared.watch.Watch.{Watch}
use Rattle.cdcl_trail.proofs.ScanLaws.{rests_stable, true_value, false_value, none_value}

pub all_stable : (clauses : List (Option (List (Signed ℕ)))) (level : ℕ) (v : Values) (lists : List (List Watch)) (pairs : List (Option WatchedPair)) (loose : List ℕ) (passed head : ℕ) → IsRunning clauses level v lists pairs → AreLoose clauses (entries_of v) pairs loose passed
    → passed ≡ length loose → IsSettled clauses pairs (entries_of v) head → head ≡ length (entries_of v) → IsStable clauses (entries_of v)
all_stable clauses level v lists pairs loose passed head r a whole settled ends = rests_stable clauses (entries_of v) r.values.by_atom.once (λ n c at. by_pair n c at (pair_at pairs n) refl)
  where
    by_pair : (n : ℕ) (c : List (Signed ℕ)) → clause_number clauses n ≡ Some c → (o : Option WatchedPair) → pair_at pairs n ≡ o → HasRest (entries_of v) c
    by_pair n c at None e =
        let all : take passed loose ≡ loose = take_all passed loose (omega (arith, whole)) in
        inl (All-contains (IsTrueAt clauses (entries_of v)) loose n (subst (All (IsTrueAt clauses (entries_of v))) all a.seen) (a.all n c at e) c at)
    by_pair n c at (Some p) e =
        let x = r.watched.of_clauses n p e in
        let same : x.clause ≡ c = same_Some x.clause c (sym x.here ∙ at) in
        first n c at p e (subst (λ d. Contains d p.first) same x.first) (subst (λ d. Contains d p.second) same x.second) x.apart (value_of (entries_of v) p.first) refl (value_of (entries_of v) p.second) refl
      where
        settled_by : (n : ℕ) (c : List (Signed ℕ)) → clause_number clauses n ≡ Some c → (p : WatchedPair) → pair_at pairs n ≡ Some p → (g : Signed ℕ) → Watches p g → value_of (entries_of v) g ≡ Some false → HasRest (entries_of v) c
        settled_by n c at p e g watches f =
            let long : length (literals_of (entries_of v)) ≤ head = omega (arith, ends, length-map (entries_of v) (λ (y : Entry). y.lit)) in
            let falsified : Contains (take head (literals_of (entries_of v))) (complement g) = subst (λ xs. Contains xs (complement g)) (sym (take_all head (literals_of (entries_of v)) long)) (false_value (entries_of v) g f) in
            inl (settled n p g e watches falsified c at)

        first : (n : ℕ) (c : List (Signed ℕ)) → clause_number clauses n ≡ Some c → (p : WatchedPair) → pair_at pairs n ≡ Some p → Contains c p.first → Contains c p.second → slot_of p.first ≢ slot_of p.second
            → (o : Option Bool) → value_of (entries_of v) p.first ≡ o → (q : Option Bool) → value_of (entries_of v) p.second ≡ q → HasRest (entries_of v) c
        first n c at p e in_a in_b apart (Some true) h q k = inl (p.first, in_a, true_value (entries_of v) p.first h)
        first n c at p e in_a in_b apart (Some false) h q k = settled_by n c at p e p.first (inl refl) h
        first n c at p e in_a in_b apart None h (Some true) k = inl (p.second, in_b, true_value (entries_of v) p.second k)
        first n c at p e in_a in_b apart None h (Some false) k = settled_by n c at p e p.second (inr refl) k
        first n c at p e in_a in_b apart None h None k = inr (p.first, p.second, in_a, in_b, λ s. apart (ap slot_of s), none_value (entries_of v) p.first h, none_value (entries_of v) p.second k)

pub stable_when : {X : Type 0} (o : Option X) {P Q : Type 0} → (P → Q) → IfNone o P → IfNone o Q
stable_when None f p = f p
stable_when (Some x) f p = p

pub some_when : {X : Type 0} (o : Option X) {P Q : X → Type 0} → ((x : X) → P x → Q x) → IfSome o P → IfSome o Q
some_when None f p = p
some_when (Some x) f p = f x p
