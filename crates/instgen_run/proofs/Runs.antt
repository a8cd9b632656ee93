-- The invariant of a run as it reads, holds back and appends.
use Rattle.std.proofs.Common.{◌≡◌, ℕ, suc, ◌-◌, ◌^◌, ◌<◌, ◌≤◌, List, [], ◌∷◌, ◌++◌, refl, sym, ap, ap₂, ◌∙◌, subst as transport, map, length, length-append, min, arith, true, All, Option, Some, None, inl, inr}
use Rattle.std.specs.Prelude.{option_map}
use Rattle.std.proofs.lemmas.List.Elements.{All-push}
use Rattle.inst_logic.specs.declared.symbol.Sym.{Sym}
use Rattle.inst_logic.specs.declared.signed.Signed.{Signed}
use Rattle.inst_logic.specs.Tree.{Tree}
use Rattle.inst_logic.specs.Derivations.{at_number}
use Rattle.inst_logic.specs.Measure.{clause_size}
use Rattle.inst_logic.specs.Clauses.{TreeClause, instance, canonical_form}
use Rattle.inst_logic.specs.Unifiers.{Sided, IsMostGeneral, IsProper}
use Rattle.inst_logic.proofs.ShownLaws.{at_number_append, at_number_contains}
use Rattle.inst_calculus.specs.Entries.{Entry, entry_clauses}
use Rattle.inst_calculus.specs.Models.{SelectedClause}
use Rattle.inst_calculus.specs.Saturation.{IsCovered}
use Rattle.inst_calculus.proofs.Membership.{◌∈◌, in_all, all_in, contains_in}
use Rattle.inst_calculus.proofs.Distinct.{map_append, length_map}
use Rattle.inst_calculus.specs.Conclusions.{IsConclusion}
use Rattle.inst_calculus.specs.Lemmas.{IsIrreducible}
use Rattle.inst_calculus.specs.Parts.{AreWithin, chosen}
use Rattle.inst_calculus.proofs.ProperParts.{part_size}
use Rattle.global_subs.specs.Reductions.{IsReduction}
use Rattle.inst_machine.specs.Machine as machine
use Rattle.inst_machine.specs.Machine.{State}
use Rattle.inst_machine.specs.Replay.{Replays}
use Rattle.inst_machine.specs.Budget.{IsLeft, appended_size}
use Rattle.engine_laws.specs.Places.{IsPlaced, ArePlacedTrue}
use Rattle.engine_laws.specs.Pairs.{Held, IsHeldBack}
use Rattle.engine_laws.specs.Valuations.{IsValuationOf}
use Rattle.inst_calculus.specs.Abstraction.{AreAbstracted, AreGroundAtoms}
use Rattle.inst_calculus.proofs.Items.{same_item}
use Rattle.engine_laws.proofs.Bits.{grown}
use Rattle.instgen_run.specs.Running.{IsRunningFor, IsSolvedFor, KeepsTruth}
use Rattle.inst_machine.proofs.Prolonged.{replay_goes_on, left_after}
use Rattle.engine_laws.proofs.ConclusionSteps.{concludes as concludes_at, step, part_step}
use Rattle.term_bank.specs.Forest.{Forest, Extends, IsClauseOf, clause_at, tree_at}
use Rattle.ground_abs.specs.Abstracts.{atoms_in}
use Rattle.cert_values.specs.Values.{origin_of}
use Rattle.cert_values.specs.declared.member.Origin.{Origin}
use Rattle.cert_values.specs.declared.member.Origin.TheVariants.{Inst, Lemma}
use Rattle.unify_core.specs.Sides.{Binding, IsResolvedBy, of_side}
use Rattle.unify_core.specs.Chains.{AreBindings}
use Rattle.unify_core.specs.declared.side.Side.{Side}
use Rattle.unify_core.specs.declared.side.Side.TheVariants.{Left, Right}
use Rattle.unify_core.specs.Sizes.{IsSizeUnder}
use Rattle.unify_core.proofs.Stays.{substitutions_stay}
use Rattle.instgen_run.specs.declared.event.Event.{Event}
use Rattle.instgen_run.specs.declared.event.Event.TheVariants.{Solved, Inferred}
use Rattle.instgen_run.specs.declared.state.Run.{Run}
use Rattle.instgen_run.specs.declared.premises.Premises.{Premises}
use Rattle.instgen_run.specs.Clauses.{Item, AreEntries, entries_in, clauses_in}
use Rattle.instgen_run.specs.Grounds.{IsLinked, IsUsed}
use Rattle.instgen_run.specs.Loops.{items, held_in, held_of, Appends, KeepsLink, IsSelectedLiteral}
use Rattle.instgen_run.specs.Logs.{Log}
use Rattle.instgen_run.specs.Marks.{told_by, events_of, IsLogOf}
use Rattle.instgen_run.proofs.Logged.{entry_logged, order_after_entry}
use Rattle.instgen_run.specs.Running.{event_in, IsEventOf, entries_of, state_of, IsRunning, KeepsRunning, Reads, Holds, from_side, MayInfer, events_so_far}
use Rattle.term_bank.proofs.Growth.{map_extends}
use Rattle.term_bank.proofs.Clauses.{clause_extends}
use Rattle.instgen_run.proofs.Grown.{clauses_kept, entries_stay}
use Rattle.instgen_run.proofs.Links.{atoms_grow}
use Rattle.instgen_run.proofs.Selected.{same_places}
use Rattle.inst_calculus.proofs.InstanceSizes.{canonical_size}
use Rattle.instgen_run.proofs.Inferred.{same_clauses, length_at}
use Rattle.inst_calculus.proofs.OneConclusion.{conclusion_when_grown}
use Rattle.inst_calculus.proofs.CanonicalForms.{canonical_of_canonical}
use Rattle.inst_calculus.proofs.CoveredInstances.{covered_when_renamed}
use Rattle.instgen_run.specs.Loops.{IsConclusionFor}
use Rattle.instgen_run.specs.Running.{AppendsWhole, AppendsPart, AppendsUncovered}
use Rattle.instgen_run.proofs.Works.{at_number_map, selected_within}

-- Growth of the bank

pub events_kept : (f g : Forest) → Extends f g → (js : List Event) → ((j : Event) → j ∈ js → IsEventOf f j) → map (event_in g) js ≡ map (event_in f) js
events_kept f g e [] h = refl
events_kept f g e (j ∷ js) h = ap₂ (λ x xs. x ∷ xs) (one j (h j (inl refl))) (events_kept f g e js (λ k i. h k (inr i)))
  where
    one : (j : Event) → IsEventOf f j → event_in g j ≡ event_in f j
    one (Solved flips) k = ap machine.solved (map_extends f g flips e k)
    one (Inferred origin) k = refl

event_later : (f g : Forest) → Extends f g → (j : Event) → IsEventOf f j → IsEventOf g j
event_later f g e (Solved flips) h = in_all (λ id. id < length g.trees) flips (λ id i. let k = all_in (λ id. id < length f.trees) flips h id i in omega (arith, e.trees.0))
event_later f g e (Inferred origin) h = h

pub events_later : (f g : Forest) → Extends f g → (js : List Event) → All (IsEventOf f) js → All (IsEventOf g) js
events_later f g e js h = in_all (IsEventOf g) js (λ j i. event_later f g e j (all_in (IsEventOf f) js h j i))

-- the solver stays linked where only the bank grew
pub linked_read : {S I C : Type 0} (atoms : S → ℕ) (added : S → List (List (Signed ℕ))) (old new : Run S I C) → Reads old new → AreEntries old.entries.bank (items old) → KeepsLink atoms added old new
linked_read atoms added old new reads entries bot h =
    transport (λ r. IsLinked r.entries.bank r.ground (atoms r.ground.solver) (added r.ground.solver) bot (clauses_in r.entries.bank (items r))) (sym reads.rest) (record {
      constant = h.constant;
      fits = record {
        within = in_all (λ id. id < length g.trees) ids (λ id i. let k = all_in (λ id. id < length f.trees) ids h.fits.within id i in omega (arith, reads.bank.trees.0));
        atoms = transport AreGroundAtoms (sym atoms_same) h.fits.atoms;
      };
      count = h.count;
      given = h.given;
      same = transport (λ ts. AreAbstracted bot ts old.ground.literals (clauses_in g (items old))) (sym atoms_same) (transport (λ cs. AreAbstracted bot (atoms_in f ids) old.ground.literals cs) (sym clauses_same) h.same);
      used = transport (λ ts. All (IsUsed bot (clauses_in g (items old))) ts) (sym atoms_same) (transport (λ cs. All (IsUsed bot cs) (atoms_in f ids)) (sym clauses_same) h.used);
    })
  where
    f : Forest
    f = old.entries.bank

    g : Forest
    g = new.entries.bank

    ids : List ℕ
    ids = old.ground.abstraction.ids

    atoms_same : atoms_in g ids ≡ atoms_in f ids
    atoms_same = map_extends f g ids reads.bank h.fits.within

    clauses_same : clauses_in g (items old) ≡ clauses_in f (items old)
    clauses_same = clauses_kept f g reads.bank (items old) (λ x i. all_in (λ (x : Item). IsClauseOf f x.0) (items old) entries.ids x i)

-- the invariant of a run that only read
pub running_read : {S I C : Type 0} (atoms : S → ℕ) (added : S → List (List (Signed ℕ))) (old new : Run S I C) → Reads old new → AreEntries old.entries.bank (items old) → KeepsRunning atoms added old new
running_read atoms added old new reads entries bot cs budget v h =
    transport (λ r. IsRunning atoms added r bot cs budget v true) (sym reads.rest) (record {
      logged = h.logged;
      events = events_later f g reads.bank (events_so_far old) h.events;
      replays = transport (λ es. Replays bot cs (map (event_in g) (events_so_far old)) (record { entries = es; valuation = v; has_solved = true })) (sym es_same)
          (transport (λ js. Replays bot cs js (state_of old v true)) (sym (events_kept f g reads.bank (events_so_far old) (λ j i. all_in (IsEventOf f) (events_so_far old) h.events j i))) h.replays);
      linked = transport (λ r. IsLinked r.entries.bank r.ground (atoms r.ground.solver) (added r.ground.solver) bot (clauses_in r.entries.bank (items r))) reads.rest (linked_read atoms added old new reads entries bot h.linked);
      bits = transport (λ ts. IsValuationOf ts old.ground.valuation v) (sym atoms_same) h.bits;
      width = h.width;
      places = transport (λ es. ArePlacedTrue bot (record { entries = es; valuation = v; has_solved = true }) old.selection.places) (sym es_same) h.places;
      left = λ k e. transport (λ es. IsLeft budget es k) (sym es_same) (h.left k e);
      light = h.light;
      free = h.free;
      budgeted = h.budgeted;
      none_held = h.none_held;
      held = λ k e. transport (λ es. All (IsHeldBack es k) (held_of old)) (sym es_same) (h.held k e);
    })
  where
    f : Forest
    f = old.entries.bank

    g : Forest
    g = new.entries.bank

    ids : List ℕ
    ids = old.ground.abstraction.ids

    es_same : entries_in g (items old) ≡ entries_in f (items old)
    es_same = entries_stay f g reads.bank (items old) (λ x i. all_in (λ (x : Item). IsClauseOf f x.0) (items old) entries.ids x i)

    atoms_same : atoms_in g ids ≡ atoms_in f ids
    atoms_same = map_extends f g ids reads.bank h.linked.fits.within

-- Conclusions

pub from_left : (side : Side) (s : Sided) → (from_side side s).left ≡ of_side s side
from_left Left s = refl
from_left Right s = refl

-- the clause that the unifier gives
abbrev pub concluded : {S I C : Type 0} (r : Run S I C) (side : Side) (from partner : ℕ) → MayInfer r side from partner → TreeClause
concluded r side from partner m = instance (from_side side m.0.unifier).left (clause_at r.entries.bank m.0.literals.left_at.item.0)

pub concludes : {S I C : Type 0} (r : Run S I C) (side : Side) (from partner : ℕ) (m : MayInfer r side from partner)
    → IsConclusion (entries_of r) from m.0.literals.left_at.place partner m.0.literals.right_at.place (canonical_form (concluded r side from partner m))
concludes r side from partner m =
    let f = r.entries.bank in
    let l = m.0.literals.left_at in
    let o = m.0.literals.right_at in
    let entry : Item → Entry = λ x. record { clause = clause_at f x.0; origin = origin_of x.1 } in
    let literal : Signed ℕ → Signed Tree = λ x. record { positive = x.positive; atom = tree_at f x.atom } in
    record {
      entry = entry l.item;
      partner_entry = entry o.item;
      literal = literal m.0.literals.left;
      other_literal = literal m.0.literals.right;
      entry_at = at_number_map entry (items r) from l.item l.item_at;
      partner_at = at_number_map entry (items r) partner o.item o.item_at;
      literal_at = at_number_map literal l.item.0 l.place m.0.literals.left l.literal_at;
      other_at = at_number_map literal o.item.0 o.place m.0.literals.right o.literal_at;
      opposite = m.0.literals.opposite;
      unifier = from_side side m.0.unifier;
      most_general = m.0.most_general;
      proper = m.1;
      conclusion = refl;
    }

-- what was held back stays so where entries are appended and less is left
pub held_later : (es more : List Entry) (k l : ℕ) (h : Held) → l ≤ k → IsHeldBack es k h → IsHeldBack (es ++ more) l h
held_later es more k l h le b = record { clause = b.clause; concluded = conclusion_when_grown es more h.from h.place h.partner h.other b.clause b.concluded; large = let m = b.large in omega arith }

some_is_not_none : (k : ℕ) → Some k ≡ None → ⊥
some_is_not_none k e = cc

-- the invariant of a run that held a large conclusion back
pub running_held : {S I C : Type 0} (atoms : S → ℕ) (added : S → List (List (Signed ℕ))) (old new : Run S I C) (side : Side) (from partner : ℕ) → Holds old new from partner → (m : MayInfer old side from partner)
    → ((k : ℕ) → old.left ≡ Some k → k < clause_size (canonical_form (concluded old side from partner m))) → (k : ℕ) × (old.left ≡ Some k) → KeepsRunning atoms added old new
running_held atoms added old new side from partner holds m large some bot cs budget v h =
    transport (λ r. IsRunning atoms added r bot cs budget v true) (sym holds.rest) (record {
      logged = h.logged;
      events = h.events;
      replays = h.replays;
      linked = record { constant = h.linked.constant; fits = h.linked.fits; count = h.linked.count; given = h.linked.given; same = h.linked.same; used = h.linked.used };
      bits = h.bits;
      width = h.width;
      places = h.places;
      left = h.left;
      light = h.light;
      free = h.free;
      budgeted = h.budgeted;
      none_held = λ e. absurd (some_is_not_none some.0 (sym some.1 ∙ e));
      held = λ k e. transport (All (IsHeldBack (entries_of old) k)) (sym (ap held_in holds.held ∙ map_append one old.held.items (record { from = from; place = holds.place; partner = partner; other = holds.other } ∷ [])))
          (All-push (IsHeldBack (entries_of old) k) (held_of old) (record { from = from; place = holds.place; partner = partner; other = holds.other }) (h.held k e) (record {
            clause = canonical_form (concluded old side from partner m);
            concluded = transport (λ p. IsConclusion (entries_of old) from p partner holds.other (canonical_form (concluded old side from partner m))) first
                (transport (λ q. IsConclusion (entries_of old) from m.0.literals.left_at.place partner q (canonical_form (concluded old side from partner m))) second (concludes old side from partner m));
            large = large k e;
          }));
    })
  where
    one : Premises → Held
    one x = record { from = x.from; place = x.place; partner = x.partner; other = x.other }

    first : m.0.literals.left_at.place ≡ holds.place
    first = same_item (at_number old.selection.places from) m.0.literals.left_at.place holds.place m.0.literals.left_at.place_at holds.place_at

    second : m.0.literals.right_at.place ≡ holds.other
    second = same_item (at_number old.selection.places partner) m.0.literals.right_at.place holds.other m.0.literals.right_at.place_at holds.other_at

-- what fits into what is left is not cut
pub left_before : (o : Option ℕ) (n l : ℕ) → option_map (λ k. k - n) o ≡ Some l → (k : ℕ) × (o ≡ Some k) × (l ≡ k - n)
left_before None n l e = absurd cc
left_before (Some k) n l e = (k, refl, sym (same_item (Some (k - n)) (k - n) l refl e))

none_before : (o : Option ℕ) (n : ℕ) → option_map (λ k. k - n) o ≡ None → o ≡ None
none_before None n e = refl
none_before (Some k) n e = absurd cc

pub placed_on : (es more : List Entry) (places : List ℕ) (n : ℕ) (m : SelectedClause) → IsPlaced es places n m → IsPlaced (es ++ more) places n m
placed_on es more places n m l = record {
  entry = l.entry;
  place = l.place;
  entry_at = at_number_append es more n l.entry l.entry_at;
  place_at = l.place_at;
  clause = l.clause;
  selected = l.selected;
}

-- the invariant of a run that appended a clause, where that is a step of the machine for its size
module _ {S I C : Type 0} (atoms : S → ℕ) (added : S → List (List (Signed ℕ))) (old new : Run S I C) (size : ℕ) (d : List (Signed ℕ)) (o : Origin) (c : TreeClause)
    (entries : AreEntries old.entries.bank (items old)) (appends : Appends (record old { left = option_map (λ k. k - size) old.left }) new d o)
    (links : KeepsLink atoms added old new) (made : clause_at new.entries.bank d ≡ c) (told : told_by o ≡ Inferred o ∷ [])
    (steps : (bot : Sym) (v : List Tree) → ArePlacedTrue bot (state_of old v true) old.selection.places
    → machine.IsStep bot (state_of old v true) (machine.inferred (origin_of o)) (record { entries = entries_of old ++ record { clause = c; origin = origin_of o } ∷ []; valuation = v; has_solved = true }))
    (fits : (k : ℕ) → old.left ≡ Some k → k < 2 ^ 64 - 1 → (size ≡ appended_size (origin_of o) c) × (size ≤ k)) where
  abbrev f : Forest
  f = old.entries.bank

  abbrev g : Forest
  g = new.entries.bank

  abbrev last : Entry
  last = record { clause = c; origin = origin_of o }

  entries_now : entries_of new ≡ entries_of old ++ last ∷ []
  entries_now =
      ap (entries_in g) appends.entry
      ∙ map_append (λ (x : Item). record { clause = clause_at g x.0; origin = origin_of x.1 }) (items old) ((d, o) ∷ [])
      ∙ ap₂ (λ (xs : List Entry) (e : TreeClause). xs ++ record { clause = e; origin = origin_of o } ∷ [])
      (entries_stay f g appends.bank (items old) (λ x i. all_in (λ (x : Item). IsClauseOf f x.0) (items old) entries.ids x i)) made

  events_now : IsLogOf old.log (items old) → events_so_far new ≡ events_so_far old ++ Inferred o ∷ []
  events_now h = ap₂ events_of appends.log appends.entry ∙ entry_logged old.log (items old) (d, o) h ∙ ap (λ (es : List Event). events_so_far old ++ es) told

  journal_now : IsLogOf old.log (items old) → All (IsEventOf f) (events_so_far old) → map (event_in g) (events_so_far new) ≡ map (event_in f) (events_so_far old) ++ machine.inferred (origin_of o) ∷ []
  journal_now l h =
      ap (map (event_in g)) (events_now l)
      ∙ map_append (event_in g) (events_so_far old) (Inferred o ∷ [])
      ∙ ap (λ xs. xs ++ machine.inferred (origin_of o) ∷ []) (events_kept f g appends.bank (events_so_far old) (λ j i. all_in (IsEventOf f) (events_so_far old) h j i))

  places_now : (bot : Sym) (v : List Tree) → ArePlacedTrue bot (state_of old v true) old.selection.places → ArePlacedTrue bot (record { entries = entries_of old ++ last ∷ []; valuation = v; has_solved = true }) old.selection.places
  places_now bot v h = record {
    within = let a = h.within in let b = length-append (entries_of old) (last ∷ []) in omega arith;
    placed = λ i l. let (n, p, t) = h.placed i l in (n, placed_on (entries_of old) (last ∷ []) old.selection.places (suc i) n p, t);
  }

  left_now : (budget l : ℕ) → budget < 2 ^ 64 - 1 → ((k : ℕ) → old.left ≡ Some k → IsLeft budget (entries_of old) k) → new.left ≡ Some l
      → IsLeft budget (entries_of old ++ last ∷ []) l × ((k : ℕ) × (old.left ≡ Some k) × (l ≤ k))
  left_now budget l light left e =
      let (k, q, r) = left_before old.left size l (sym appends.left ∙ e) in
      let before = left k q in
      let (same, le) = fits k q (omega arith) in (
        transport (λ n. IsLeft budget (entries_of old ++ last ∷ []) n) (sym (r ∙ ap (λ n. k - n) same))
            (left_after budget k (entries_of old) last before (omega arith)),
        (k, q, omega arith),
      )

  pub running_appended : KeepsRunning atoms added old new
  running_appended bot cs budget v h = record {
    logged = transport (λ (l : Log). IsLogOf l (items new)) (sym appends.log) (transport (IsLogOf old.log) (sym appends.entry) (order_after_entry old.log (items old) (d, o) h.logged));
    events = transport (All (IsEventOf g)) (sym (events_now h.logged)) (All-push (IsEventOf g) (events_so_far old) (Inferred o) (events_later f g appends.bank (events_so_far old) h.events) tt);
    replays = transport (λ es. Replays bot cs (map (event_in g) (events_so_far new)) (record { entries = es; valuation = v; has_solved = true })) (sym entries_now)
        (transport (λ js. Replays bot cs js (record { entries = entries_of old ++ last ∷ []; valuation = v; has_solved = true })) (sym (journal_now h.logged h.events))
        (replay_goes_on bot cs (map (event_in f) (events_so_far old)) (state_of old v true) (record { entries = entries_of old ++ last ∷ []; valuation = v; has_solved = true })
        (machine.inferred (origin_of o)) h.replays (steps bot v h.places)));
    linked = links bot h.linked;
    bits = let (more, q) = atoms_grow f g old.ground.abstraction.ids new.ground.abstraction.ids appends.bank h.linked.fits.within appends.atoms in
        transport (λ ts. IsValuationOf ts new.ground.valuation v) (sym q)
        (transport (λ b. IsValuationOf (atoms_in f old.ground.abstraction.ids ++ more) b v) (sym appends.valuation)
        (grown (atoms_in f old.ground.abstraction.ids) more old.ground.valuation v (transport (λ n. length old.ground.valuation ≤ n) (sym (length_map (tree_at f) old.ground.abstraction.ids)) h.width) h.bits));
    width = let (more, q) = appends.atoms in let a = h.width in let b = length-append old.ground.abstraction.ids more in
        transport (λ b. length b ≤ length new.ground.abstraction.ids) (sym appends.valuation) (transport (λ xs. length old.ground.valuation ≤ length xs) (sym q) (omega arith));
    places = transport (λ es. ArePlacedTrue bot (record { entries = es; valuation = v; has_solved = true }) new.selection.places) (sym entries_now)
        (transport (λ ps. ArePlacedTrue bot (record { entries = entries_of old ++ last ∷ []; valuation = v; has_solved = true }) ps) (sym (same_places appends.selection)) (places_now bot v h.places));
    left = λ l e. transport (λ es. IsLeft budget es l) (sym entries_now) (left_now budget l h.light h.left e).0;
    light = h.light;
    free = λ e. h.free (none_before old.left size (sym appends.left ∙ e));
    budgeted = λ l e. let (k, q, r) = left_before old.left size l (sym appends.left ∙ e) in h.budgeted k q;
    none_held = λ e. appends.held ∙ h.none_held (none_before old.left size (sym appends.left ∙ e));
    held = λ l e.
        let (k, q, le) = (left_now budget l h.light h.left e).1 in
        transport (λ es. All (IsHeldBack es l) (held_of new)) (sym entries_now)
        (transport (λ hs. All (IsHeldBack (entries_of old ++ last ∷ []) l) hs) (sym (ap held_in appends.held))
        (in_all (IsHeldBack (entries_of old ++ last ∷ []) l) (held_of old) (λ x i. held_later (entries_of old) (last ∷ []) k l x le (all_in (IsHeldBack (entries_of old) k) (held_of old) (h.held k q) x i))));
  }

-- what may be inferred may be after a read, and it is the same
pub may_read : {S I C : Type 0} (old new : Run S I C) (side : Side) (from partner : ℕ) → Reads old new → new.bindings.entries ≡ old.bindings.entries → AreBindings old.entries.bank old.bindings.entries
    → AreEntries old.entries.bank (items old) → (m : MayInfer old side from partner) → (n : MayInfer new side from partner) × (concluded new side from partner n ≡ concluded old side from partner m)
may_read old new side from partner reads same bindings entries m =
    transport (λ r. (n : MayInfer r side from partner) × (concluded r side from partner n ≡ concluded old side from partner m)) (sym reads.rest) (
      (
        record {
          literals = record { left = a; right = b; left_at = literal from a m.0.literals.left_at; right_at = literal partner b m.0.literals.right_at; opposite = m.0.literals.opposite };
          unifier = m.0.unifier;
          resolved = transport (λ (bs : List Binding). IsResolvedBy g bs m.0.unifier) (sym same) (substitutions_stay f g old.bindings.entries m.0.unifier reads.bank bindings m.0.resolved);
          most_general = transport (λ x. IsMostGeneral (from_side side m.0.unifier) x (tree_at g b.atom)) (sym (kept from a m.0.literals.left_at))
              (transport (λ y. IsMostGeneral (from_side side m.0.unifier) (tree_at f a.atom) y) (sym (kept partner b m.0.literals.right_at)) m.0.most_general);
        },
        transport (λ x. IsProper (from_side side m.0.unifier).left x) (sym (kept from a m.0.literals.left_at)) m.1,
      ),
      ap (instance (from_side side m.0.unifier).left) (clause_extends f g reads.bank m.0.literals.left_at.item.0
          (all_in (λ (x : Item). IsClauseOf f x.0) (items old) entries.ids m.0.literals.left_at.item (contains_in m.0.literals.left_at.item (items old) (at_number_contains (items old) from m.0.literals.left_at.item m.0.literals.left_at.item_at)))),
    )
  where
    f : Forest
    f = old.entries.bank

    g : Forest
    g = new.entries.bank

    a : Signed ℕ
    a = m.0.literals.left

    b : Signed ℕ
    b = m.0.literals.right

    literal : (n : ℕ) (l : Signed ℕ) → IsSelectedLiteral old n l → IsSelectedLiteral (record old { entries = record old.entries { bank = g }; bindings = new.bindings }) n l
    literal n l h = record { item = h.item; place = h.place; item_at = h.item_at; place_at = h.place_at; literal_at = h.literal_at }

    kept : (n : ℕ) (l : Signed ℕ) → IsSelectedLiteral old n l → tree_at g l.atom ≡ tree_at f l.atom
    kept n l h = reads.bank.trees.1 l.atom (selected_within old n l.atom entries (record { item = h.item; place = h.place; literal = l; item_at = h.item_at; place_at = h.place_at; literal_at = h.literal_at; atom = refl })).0

-- the size that was found is that of the conclusion, cut at the greatest number
pub size_concluded : {S I C : Type 0} (r : Run S I C) (side : Side) (from partner n : ℕ) (m : MayInfer r side from partner) (item : Item) → at_number (items r) from ≡ Some item
    → IsSizeUnder r.entries.bank r.bindings.entries side item.0 (2 ^ 64 - 1) n → n ≡ min (clause_size (canonical_form (concluded r side from partner m))) (2 ^ 64 - 1)
size_concluded r side from partner n m item at sized =
    let f = r.entries.bank in
    let l = m.0.literals.left_at in
    let same : item ≡ l.item = same_item (at_number (items r) from) item l.item at l.item_at in
    sized m.0.unifier m.0.resolved
    ∙ ap (λ k. min k (2 ^ 64 - 1)) (ap (λ (x : Item). clause_size (instance (of_side m.0.unifier side) (clause_at f x.0))) same
    ∙ ap (λ s. clause_size (instance s (clause_at f l.item.0))) (sym (from_left side m.0.unifier)) ∙ sym (canonical_size (from_side side m.0.unifier).left (clause_at f l.item.0)))

pub made_concluded : {S I C : Type 0} (old new : Run S I C) (side : Side) (from partner : ℕ) (d : List (Signed ℕ)) (m : MayInfer old side from partner) → IsConclusionFor old new side from d
    → clause_at new.entries.bank d ≡ canonical_form (concluded old side from partner m)
made_concluded old new side from partner d m k =
    let f = old.entries.bank in
    let l = m.0.literals.left_at in
    let same : k.item ≡ l.item = same_item (at_number (items old) from) k.item l.item k.item_at l.item_at in
    k.made m.0.unifier m.0.resolved
    ∙ ap canonical_form (ap (λ (x : Item). instance (of_side m.0.unifier side) (clause_at f x.0)) same ∙ ap (λ s. instance s (clause_at f l.item.0)) (sym (from_left side m.0.unifier)))

-- an inference after its size and its clause were found
module _ {S I C : Type 0} (atoms : S → ℕ) (added : S → List (List (Signed ℕ))) (old new : Run S I C) (side : Side) (from partner size len : ℕ) (at : Premises) (d : List (Signed ℕ)) (item : Item)
    (m : MayInfer old side from partner) (entries : AreEntries old.entries.bank (items old)) (ids : IsClauseOf old.entries.bank d)
    (links : KeepsLink atoms added old new) (made : clause_at old.entries.bank d ≡ canonical_form (concluded old side from partner m))
    (first : at.from ≡ from) (second : at.partner ≡ partner) (item_at : at_number (items old) from ≡ Some item) (long : length item.0 ≡ len)
    (here : at_number old.selection.places from ≡ Some at.place) (there : at_number old.selection.places partner ≡ Some at.other)
    (sized : (k : ℕ) → old.left ≡ Some k → size ≡ min (clause_size (canonical_form (concluded old side from partner m))) (2 ^ 64 - 1)) (fits : (k : ℕ) → old.left ≡ Some k → size ≤ k) where
  abbrev before : Forest
  before = old.entries.bank

  abbrev whole : TreeClause
  whole = canonical_form (concluded old side from partner m)

  abbrev premise : TreeClause
  premise = clause_at before m.0.literals.left_at.item.0

  same_place : at.place ≡ m.0.literals.left_at.place
  same_place = same_item (at_number old.selection.places from) at.place m.0.literals.left_at.place here m.0.literals.left_at.place_at

  same_other : at.other ≡ m.0.literals.right_at.place
  same_other = same_item (at_number old.selection.places partner) at.other m.0.literals.right_at.place there m.0.literals.right_at.place_at

  -- the conclusion at these numbers
  concludes_here : IsConclusion (entries_of old) at.from at.place at.partner at.other whole
  concludes_here =
      transport (λ n. IsConclusion (entries_of old) n at.place at.partner at.other whole) (sym first)
      (transport (λ n. IsConclusion (entries_of old) from n at.partner at.other whole) (sym same_place)
      (transport (λ n. IsConclusion (entries_of old) from m.0.literals.left_at.place n at.other whole) (sym second)
      (transport (λ n. IsConclusion (entries_of old) from m.0.literals.left_at.place partner n whole) (sym same_other) (concludes old side from partner m))))

  module _ (uncovered : (c : TreeClause) → length c ≡ len → ¬ IsCovered (clauses_in before (items old)) c (clause_at before d)) where
    -- the entries do not cover what is concluded, whichever unifier is taken
    not_covered : (k : IsConclusion (entries_of old) at.from at.place at.partner at.other whole) → ¬ IsCovered (entry_clauses (entries_of old)) k.entry.clause (instance k.unifier.left k.entry.clause)
    not_covered k covered =
        let e : Entry = record { clause = clause_at before item.0; origin = origin_of item.1 } in
        let same : k.entry ≡ e =
        same_item (at_number (entries_of old) at.from) k.entry e k.entry_at (ap (at_number (entries_of old)) first ∙ at_number_map (λ (x : Item). record { clause = clause_at before x.0; origin = origin_of x.1 }) (items old) from item item_at) in
        uncovered k.entry.clause (ap (λ (x : Entry). length x.clause) same ∙ length_at before item.0 ∙ long)
        (covered_when_renamed (clauses_in before (items old)) k.entry.clause (instance k.unifier.left k.entry.clause) (clause_at before d)
        (transport (λ cs. IsCovered cs k.entry.clause (instance k.unifier.left k.entry.clause)) (same_clauses before (items old)) covered)
        (sym (ap canonical_form (made ∙ k.conclusion) ∙ canonical_of_canonical (instance k.unifier.left k.entry.clause))))

    taken : (bot : Sym) (v : List Tree) → ArePlacedTrue bot (state_of old v true) old.selection.places → machine.Concludes bot (state_of old v true) at.from at.place at.partner at.other whole
    taken bot v placed =
        concludes_at bot (state_of old v true) old.selection.places at.from at.place at.partner at.other whole placed refl (ap (at_number old.selection.places) first ∙ here) (ap (at_number old.selection.places) second ∙ there)
        concludes_here (not_covered concludes_here)

    whole_appended : AppendsWhole old new d at size → KeepsRunning atoms added old new
    whole_appended w =
        running_appended atoms added old new size d (Inst at.from at.place at.partner at.other) whole entries w.appends links (clause_extends before new.entries.bank w.appends.bank d ids ∙ made) refl
        (λ bot v placed. step bot (state_of old v true) at.from at.place at.partner at.other whole (taken bot v placed)
        (transport (λ cs. IsIrreducible cs whole) (sym (same_clauses before (items old))) (transport (IsIrreducible (clauses_in before (items old))) made w.irreducible)))
        (λ k e light. let cut = sized k e in let le = fits k e in (omega arith, le))

    part_appended : AppendsPart old new d at → KeepsRunning atoms added old new
    part_appended w =
        let r : IsReduction (entry_clauses (entries_of old)) whole w.lemma =
        transport (λ cs. IsReduction cs whole w.lemma) (sym (same_clauses before (items old))) (transport (λ c. IsReduction (clauses_in before (items old)) c w.lemma) made w.reduction) in
        let literals = chosen whole w.lemma.keep in
        let clause : clause_at new.entries.bank w.part ≡ canonical_form literals = w.canonical ∙ ap (λ c. canonical_form (chosen c w.lemma.keep)) made in
        let smaller = part_size whole w.lemma.keep r.keep in
        let size_is : clause_size (clause_at new.entries.bank w.part) ≡ clause_size (canonical_form literals) = ap clause_size clause in
        running_appended atoms added old new (min (clause_size (clause_at new.entries.bank w.part)) (2 ^ 64 - 1)) w.part (Lemma at.from at.place at.partner at.other w.lemma.keep w.lemma.premises)
        (canonical_form literals) entries w.appends links clause refl
        (λ bot v placed. part_step bot (state_of old v true) at.from at.place at.partner at.other whole (taken bot v placed) w.lemma.keep w.lemma.premises r.keep
        (transport (λ n. AreWithin n w.lemma.premises) (length_map (λ (x : Entry). x.clause) (entries_of old)) r.premises.within) r.follows)
        (λ k e light. let cut = sized k e in let le = fits k e in (omega arith, omega arith))

  pub running_inferred : AppendsUncovered old new d at len size → KeepsRunning atoms added old new
  running_inferred (inl same) = λ bot cs budget v h. transport (λ r. IsRunning atoms added r bot cs budget v true) (sym same) h
  running_inferred (inr (inl w, uncovered)) = whole_appended uncovered w
  running_inferred (inr (inr w, uncovered)) = part_appended uncovered w

-- a solve, and then work under its valuation
pub solved_on : {S I C : Type 0} (atoms : S → ℕ) (added : S → List (List (Signed ℕ))) (old mid new : Run S I C) (cs : List TreeClause) (budget : ℕ) → KeepsTruth atoms added old mid → KeepsRunning atoms added mid new
    → IsRunningFor atoms added old cs budget → IsSolvedFor atoms added new cs budget
solved_on atoms added old mid new cs budget solved works (bot, v, b, h) = let (w, k) = solved bot cs budget v b h in (bot, w, works bot cs budget w k)
