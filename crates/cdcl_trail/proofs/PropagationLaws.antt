-- What propagation adds.
use Rattle.std.proofs.Common.{◌≡◌, ℕ, ◌<◌, ◌≤◌, ◌⊎◌, inl, inr, List, [], ◌∷◌, ◌++◌, length, take, Option, Some, refl, sym, ap, ◌∙◌, subst, arith}
use Rattle.std.specs.Prelude.{slice_get}
use Rattle.std.proofs.lemmas.List.{length-take}
use Rattle.std.proofs.lemmas.Option.{slice_get_within}
use Rattle.inst_logic.specs.declared.signed.Signed.{Signed}
use Rattle.prop_logic.proofs.ListLaws.{slice_get_push, take_slice_get, take_of_append, take_whole, take_of_take}
use Rattle.cdcl_trail.specs.declared.entry.Entry.{Entry}
use Rattle.cdcl_trail.specs.Clauses.{clause_number}
use Rattle.cdcl_trail.specs.Propagation.{GivesUnit, IsGiven, Propagates}
use Rattle.cdcl_trail.specs.Trail.{Trail, with_implied}

pub nothing_added : (clauses : List (Option (List (Signed ℕ)))) (t : Trail) → Propagates clauses t t
nothing_added clauses t = record {
  atoms = refl;
  level = refl;
  kept = take_whole t.entries;
  at_level = λ k e h at. absurd (omega (arith, h, slice_get_within t.entries k e at));
  given = λ k e h at. absurd (omega (arith, h, slice_get_within t.entries k e at));
}

pub one_added : (clauses : List (Option (List (Signed ℕ)))) (t : Trail) (l : Signed ℕ) (n : ℕ) (c : List (Signed ℕ)) → clause_number clauses n ≡ Some c → GivesUnit t.entries c l → Propagates clauses t (with_implied t l n)
one_added clauses t l n c at unit =
    let x : Entry = record { lit = l; level = t.level; reason = Some n } in
    record {
      atoms = refl;
      level = refl;
      kept = take_of_append t.entries (x ∷ []) (length t.entries) (omega arith) ∙ take_whole t.entries;
      at_level = λ k e h get. elim (slice_get_push t.entries x k e get) [
        | inl old ↦ absurd (omega (arith, h, old.1))
        | inr new ↦ ap (λ (y : Entry). y.level) (sym new.1)
      ];
      given = λ k e h get. elim (slice_get_push t.entries x k e get) [
        | inl old ↦ absurd (omega (arith, h, old.1))
        | inr new ↦
            let before : take k (t.entries ++ x ∷ []) ≡ t.entries = ap (λ i. take i (t.entries ++ x ∷ [])) new.0 ∙ take_of_append t.entries (x ∷ []) (length t.entries) (omega arith) ∙ take_whole t.entries in
            subst (λ y. IsGiven clauses (take k (t.entries ++ x ∷ [])) y) new.1 (subst (λ es. IsGiven clauses es x) (sym before) (n, c, refl, at, unit))
      ];
    }

pub longer : (clauses : List (Option (List (Signed ℕ)))) (old new : Trail) → Propagates clauses old new → length old.entries ≤ length new.entries
longer clauses old new p = omega (arith, ap length p.kept, length-take (length old.entries) new.entries)

pub more_added : (clauses : List (Option (List (Signed ℕ)))) (old mid new : Trail) → Propagates clauses old mid → Propagates clauses mid new → Propagates clauses old new
more_added clauses old mid new p q =
    let up : length old.entries ≤ length mid.entries = longer clauses old mid p in
    record {
      atoms = q.atoms ∙ p.atoms;
      level = q.level ∙ p.level;
      kept = sym (take_of_take new.entries (length mid.entries) (length old.entries) up) ∙ ap (take (length old.entries)) q.kept ∙ p.kept;
      at_level = λ k e h get. elim (within k) [
        | inl low ↦ p.at_level k e h (early k e low get)
        | inr high ↦ q.at_level k e high get ∙ p.level
      ];
      given = λ k e h get. elim (within k) [
        | inl low ↦
            let same : take k mid.entries ≡ take k new.entries = ap (take k) (sym q.kept) ∙ take_of_take new.entries (length mid.entries) k (omega (arith, low)) in
            subst (λ es. IsGiven clauses es e) same (p.given k e h (early k e low get))
        | inr high ↦ q.given k e high get
      ];
    }
  where
    within : (k : ℕ) → (k < length mid.entries) ⊎ (length mid.entries ≤ k)
    within k = grind arith

    early : (k : ℕ) (e : Entry) → k < length mid.entries → slice_get new.entries k ≡ Some e → slice_get mid.entries k ≡ Some e
    early k e low get = subst (λ es. slice_get es k ≡ Some e) q.kept (take_slice_get new.entries (length mid.entries) k e low get)
