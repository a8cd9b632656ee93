-- The values that atoms had last, as the trail changes.
use Rattle.std.proofs.Common.{◌≡◌, ◌≢◌, ℕ, ◌+◌, ◌<◌, ◌≤◌, Bool, List, [], ◌∷◌, ◌++◌, length, take, set, length-set, Some, sym, ap, ◌∙◌, subst, arith}
use Rattle.std.specs.Prelude.{All, Contains, slice_get}
use Rattle.std.proofs.lemmas.List.{length_push, length-take, take_all}
use Rattle.std.proofs.lemmas.List.Elements.{All-nil, All-contains, All-push}
use Rattle.inst_logic.specs.declared.signed.Signed.{Signed}
use Rattle.prop_logic.proofs.ListLaws.{slice_get_set, slice_get_set_other, slice_get_append, take_of_append, take_whole, take_of_take, All-from_contained, Contains-take}
use Rattle.cdcl_trail.specs.declared.entry.Entry.{Entry}
use Rattle.cdcl_trail.specs.Trail.{Trail, IsTrail, IsUnset, with_atom, entries_up_to}
use Rattle.cdcl_core.specs.declared.phases.Phases.{Phases}
use Rattle.cdcl_core.specs.Phases.{IsSaved, ArePhases}
use Rattle.cdcl_core.proofs.EntryLaws.{entry_at, take_item, pair_before}
use Rattle.cdcl_core.proofs.SearchLaws.{of_up_to, up_to_take}

take_zero : (values : List Bool) (n : ℕ) (es : List Entry) → n ≡ 0 → All (IsSaved values) (take n es)
take_zero values n es e = subst (λ k. All (IsSaved values) (take k es)) (sym e) (none es)
  where
    none : (es : List Entry) → All (IsSaved values) (take 0 es)
    none [] = All-nil (IsSaved values)
    none (x ∷ xs) = All-nil (IsSaved values)

pub no_phases : (t : Trail) (p : Phases) → p.values ≡ [] → p.saved ≡ 0 → t.atoms ≡ 0 → ArePhases t p
no_phases t p values saved atoms = record {
  size = ap length values ∙ sym atoms;
  within = omega (arith, saved);
  saved = take_zero p.values p.saved t.entries saved;
}

pub phases_same : (old new : Trail) (p q : Phases) → new ≡ old → q ≡ p → ArePhases old p → ArePhases new q
phases_same old new p q t e h = subst (λ x. ArePhases x q) (sym t) (subst (ArePhases old) (sym e) h)

pub phases_kept : (old new : Trail) (p : Phases) → new.atoms ≡ old.atoms → take (length old.entries) new.entries ≡ old.entries → ArePhases old p → ArePhases new p
phases_kept old new p atoms kept h = record {
  size = h.size ∙ sym atoms;
  within = omega (arith, h.within, ap length kept, length-take (length old.entries) new.entries);
  saved = subst (All (IsSaved p.values)) (ap (take p.saved) (sym kept) ∙ take_of_take new.entries (length old.entries) p.saved (omega (arith, h.within))) h.saved;
}

pub phases_push : (old new : Trail) (p : Phases) (d : Entry) → new.atoms ≡ old.atoms → new.entries ≡ old.entries ++ d ∷ [] → ArePhases old p → ArePhases new p
phases_push old new p d atoms entries h = phases_kept old new p atoms (ap (take (length old.entries)) entries ∙ take_of_append old.entries (d ∷ []) (length old.entries) (omega arith) ∙ take_whole old.entries) h

pub phases_back : (old new : Trail) (p : Phases) (level : ℕ) → new.atoms ≡ old.atoms → new.entries ≡ entries_up_to old.entries level → length p.values ≡ old.atoms → All (IsSaved p.values) old.entries → p.saved ≤ length new.entries → ArePhases new p
phases_back old new p level atoms entries size whole within = record {
  size = size ∙ sym atoms;
  within = within;
  saved = All-from_contained (IsSaved p.values) (take p.saved new.entries) (λ e c.
      let f = of_up_to old.entries level e (subst (λ es. Contains es e) entries (Contains-take new.entries p.saved e c)) in
      All-contains (IsSaved p.values) old.entries e whole f.0);
}

-- levels are taken back, and nothing more is saved before
pub phases_cut : (old new : Trail) (p q : Phases) (level : ℕ) → IsTrail old → new.atoms ≡ old.atoms → new.entries ≡ entries_up_to old.entries level → q.values ≡ p.values → q.saved ≤ p.saved → q.saved ≤ length new.entries → ArePhases old p → ArePhases new q
phases_cut old new p q level v atoms entries values fewer within h =
    let n = length (entries_up_to old.entries level) in
    let low : q.saved ≤ n = omega (arith, within, ap length entries) in
    let part : take q.saved new.entries ≡ take q.saved (take p.saved old.entries) =
    ap (take q.saved) (entries ∙ up_to_take old.entries level v.rising) ∙ take_of_take old.entries n q.saved low ∙ sym (take_of_take old.entries p.saved q.saved fewer) in
    record {
      size = ap length values ∙ h.size ∙ sym atoms;
      within = within;
      saved = subst (λ xs. All (IsSaved xs) (take q.saved new.entries)) (sym values) (subst (All (IsSaved p.values)) (sym part)
          (All-from_contained (IsSaved p.values) (take q.saved (take p.saved old.entries)) (λ e c.
          All-contains (IsSaved p.values) (take p.saved old.entries) e h.saved (Contains-take (take p.saved old.entries) q.saved e c))));
    }

pub phases_atom : (old new : Trail) (p q : Phases) (first : Bool) → new ≡ with_atom old → q.values ≡ p.values ++ first ∷ [] → q.saved ≡ p.saved → ArePhases old p → ArePhases new q
phases_atom old new p q first t values saved h = record {
  size = omega (arith, ap length values, length_push p.values first, h.size, ap (λ x. x.atoms) t);
  within = omega (arith, saved, h.within, ap (λ x. length x.entries) t);
  saved = subst (λ n. All (IsSaved q.values) (take n new.entries)) (sym saved) (subst (λ es. All (IsSaved q.values) (take p.saved es)) (sym (ap (λ x. x.entries) t))
      (All-from_contained (IsSaved q.values) (take p.saved old.entries) (λ e c.
      ap (λ xs. slice_get xs e.lit.atom) values ∙ slice_get_append p.values (first ∷ []) e.lit.atom e.lit.positive (All-contains (IsSaved p.values) (take p.saved old.entries) e h.saved c))));
}

-- another value for an atom that has none on the trail
pub phases_preferred : (t : Trail) (p q : Phases) (atom : ℕ) (value : Bool) → IsUnset t.entries atom → q.values ≡ set p.values atom value → q.saved ≡ p.saved → ArePhases t p → ArePhases t q
phases_preferred t p q atom value unset values saved h = record {
  size = ap length values ∙ length-set p.values atom value ∙ h.size;
  within = omega (arith, saved, h.within);
  saved = subst (λ n. All (IsSaved q.values) (take n t.entries)) (sym saved) (All-from_contained (IsSaved q.values) (take p.saved t.entries) (λ e c.
      ap (λ xs. slice_get xs e.lit.atom) values
      ∙ slice_get_set_other p.values atom e.lit.atom value (All-contains (λ x. x.lit.atom ≢ atom) t.entries e unset (Contains-take t.entries p.saved e c))
      ∙ All-contains (IsSaved p.values) (take p.saved t.entries) e h.saved c));
}

-- one value more
pub saved_more : (t : Trail) (values : List Bool) (place : ℕ) (lit : Signed ℕ) → IsTrail t → place < length t.entries → ((e : Entry) → slice_get t.entries place ≡ Some e → lit ≡ e.lit) → lit.atom < t.atoms → length values ≡ t.atoms → All (IsSaved values) (take place t.entries) → All (IsSaved (set values lit.atom lit.positive)) (take (place + 1) t.entries)
saved_more t values place lit v low read below size before =
    let x = entry_at t.entries place lit low in
    let is = read x.0 x.1 in
    let new = set values lit.atom lit.positive in
    subst (All (IsSaved new)) (sym (take_item t.entries place x.0 x.1))
    (All-push (IsSaved new) (take place t.entries) x.0
    (All-from_contained (IsSaved new) (take place t.entries) (λ e c.
    slice_get_set_other values lit.atom e.lit.atom lit.positive (λ same. pair_before (λ a b. a.lit.atom ≡ b.lit.atom → ⊥) t.entries place e x.0 v.once x.1 c (same ∙ ap (λ l. l.atom) is))
    ∙ All-contains (IsSaved values) (take place t.entries) e before c))
    (subst (λ l. slice_get new l.atom ≡ Some l.positive) is (slice_get_set values lit.atom lit.positive (omega (arith, below, size)))))

pub saved_all : (t : Trail) (values : List Bool) (n : ℕ) → length t.entries ≤ n → All (IsSaved values) (take n t.entries) → All (IsSaved values) t.entries
saved_all t values n low h = subst (All (IsSaved values)) (take_all n t.entries low) h
