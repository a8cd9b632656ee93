-- What values that make the clauses true say of another clause, and what keeps its notes as atoms and values come.
use Rattle.std.proofs.Common.{◌≡◌, ◌≢◌, ℕ, zero, suc, ◌+◌, ◌<◌, ◌≤◌, Bool, true, false, not, ◌⊎◌, inl, inr, List, [], ◌∷◌, ◌++◌, length, refl, sym, ◌∙◌, subst, arith, length-append, cond}
use Rattle.std.specs.Prelude.{All, Contains}
use Rattle.std.proofs.lemmas.Bool.{cases_lt}
use Rattle.std.proofs.lemmas.List.{get_or_append_left, get_or_past}
use Rattle.std.proofs.lemmas.List.Elements.{All-weaker, All-map}
use Rattle.inst_logic.specs.declared.signed.Signed.{Signed}
use Rattle.inst_logic.specs.Signed.{signed, complement}
use Rattle.inst_logic.specs.Truth.{IsTrueLiteral, IsTrueClause}
use Rattle.inst_logic.proofs.Booleans.{true_or_false}
use Rattle.inst_logic.proofs.Items.{All-from_slice_get, All-slice_get}
use Rattle.inst_logic.proofs.Membership.{contains_in, in_contains, in_all}
use Rattle.prop_logic.specs.Literal.{AtomsBelow, AllAtomsBelow}
use Rattle.prop_logic.specs.Valuation.{IsHeld, value_at, AreChanges}
use Rattle.prop_logic.proofs.PackedLaws.{value_held}
use Rattle.compact_lists.specs.Codes.{code_of}
use Rattle.global_subs.specs.Notes.{KeepsNotes}
use Rattle.global_subs.specs.Keeping.{IsTrueIn, HasTrue, AreTrueAt, IsWitnessed, AreWitnessed, AreKept, HaveRoom, CanBeFalse}
use Rattle.global_subs.proofs.MoveLaws.{kept_notes, kept_values}

-- a literal is true by the values where it is by the atoms that they hold
pub true_literal : (v : List Bool) (l : Signed ℕ) → IsTrueIn v l → IsTrueLiteral (IsHeld v) l
true_literal v l = go l.positive (value_at v l.atom) refl
  where
    go : (p b : Bool) → b ≡ value_at v l.atom → value_at v l.atom ≡ p → signed p (IsHeld v l.atom)
    go true b e t = (value_held v l.atom b e).0 (e ∙ t)
    go false b e t = λ h. let both : true ≡ false = sym ((value_held v l.atom b e).1 h) ∙ e ∙ t in absurd cc

pub literal_true : (v : List Bool) (l : Signed ℕ) → IsTrueLiteral (IsHeld v) l → IsTrueIn v l
literal_true v l = go l.positive
  where
    go : (p : Bool) → signed p (IsHeld v l.atom) → value_at v l.atom ≡ p
    go true h = (value_held v l.atom (value_at v l.atom) refl).1 h
    go false n =
        elim (true_or_false (value_at v l.atom)) [
          | inl held ↦ absurd (n ((value_held v l.atom (value_at v l.atom) refl).0 held))
          | inr other ↦ other
        ]

pub clause_true : (v : List Bool) (c : List (Signed ℕ)) → HasTrue v c → IsTrueClause (IsHeld v) c
clause_true v c (l, (k, inside, at), holds) = (k, l, inside, at, true_literal v l holds)

pub true_clause : (v : List Bool) (c : List (Signed ℕ)) → IsTrueClause (IsHeld v) c → HasTrue v c
true_clause v c (k, l, inside, at, holds) = (l, (k, inside, at), literal_true v l holds)

pub all_true_at : (clauses : List (List (Signed ℕ))) (v : List Bool) → All (IsTrueClause (IsHeld v)) clauses → (k : ℕ) → AreTrueAt clauses v k
all_true_at clauses v truth k clause at = true_clause v clause (All-slice_get (IsTrueClause (IsHeld v)) clauses truth k clause at)

-- Values that make the clauses true, and all literals of another clause false, say that it can be false.
pub refuting : (clauses : List (List (Signed ℕ))) (lists : List (List ℕ)) (values : List Bool) (c : List (Signed ℕ)) → AreWitnessed clauses lists values []
    → All (λ l. value_at values l.atom ≡ not l.positive) c → CanBeFalse clauses c
refuting clauses lists values c each untrue = (
  values,
  record {
    clauses_true = All-from_slice_get (IsTrueClause (IsHeld values)) clauses (λ k clause at. clause_true values clause (has_true k clause (each k clause at)));
    assumptions_true = All-map (IsTrueLiteral (IsHeld values)) complement c (All-weaker (λ (l : Signed ℕ). value_at values l.atom ≡ not l.positive) (λ l. IsTrueLiteral (IsHeld values) (complement l)) (λ l e. true_literal values (complement l) e) c untrue);
  },
)
  where
    has_true : (k : ℕ) (clause : List (Signed ℕ)) → Contains [] k ⊎ IsWitnessed lists values clause k → HasTrue values clause
    has_true k clause (inl free) = absurd (contains_in k [] free)
    has_true k clause (inr w) = (w.literal, w.here, w.holds)

-- Room for literals

code_within : (l : Signed ℕ) (n m : ℕ) → l.atom < n → n + n ≤ m → code_of l < m
code_within l n m below room = go l.positive
  where
    go : (b : Bool) → l.atom + l.atom + cond b 1 0 < m
    go true = omega arith
    go false = omega arith

pub room_for : (n m : ℕ) (c : List (Signed ℕ)) → n + n ≤ m → AtomsBelow n c → All (λ l. code_of l < m) c
room_for n m c room below = All-weaker (λ (l : Signed ℕ). l.atom < n) (λ l. code_of l < m) (λ l h. code_within l n m h room) c below

pub have_room : (n m : ℕ) (clauses : List (List (Signed ℕ))) → n + n ≤ m → AllAtomsBelow n clauses → HaveRoom clauses m
have_room n m clauses room below = All-weaker (AtomsBelow n) (λ c. All (λ l. code_of l < m) c) (λ c. room_for n m c room) clauses below

-- One more atom

grown_notes : (lists : List (List ℕ)) → KeepsNotes lists (lists ++ [] ∷ [] ∷ [])
grown_notes lists l n h =
    elim (cases_lt (code_of l) (length lists)) [
      | inl inside ↦ subst (λ ns. Contains ns n) (sym (get_or_append_left lists ([] ∷ [] ∷ []) [] (code_of l) inside)) h
      | inr past ↦ absurd (contains_in n [] (subst (λ ns. Contains ns n) (get_or_past lists (code_of l) [] past) h))
    ]

grown_value : (v : List Bool) (a : ℕ) → value_at (v ++ false ∷ []) a ≡ value_at v a
grown_value [] zero = refl
grown_value [] (suc a) = refl
grown_value (b ∷ v) zero = refl
grown_value (b ∷ v) (suc a) = grown_value v a

pub kept_room : (clauses : List (List (Signed ℕ))) (lists : List (List ℕ)) (v : List Bool) (loose : List ℕ) → AreKept clauses lists v loose → AreKept clauses (lists ++ [] ∷ [] ∷ []) v loose
kept_room clauses lists v loose k = record {
  below = k.below;
  room = simp length-append (omega (arith, k.room));
  each = kept_notes clauses lists (lists ++ [] ∷ [] ∷ []) v loose (grown_notes lists) k.each;
}

pub kept_atom : (clauses : List (List (Signed ℕ))) (lists : List (List ℕ)) (v : List Bool) (loose : List ℕ) → AreKept clauses lists v loose → AreKept clauses (lists ++ [] ∷ [] ∷ []) (v ++ false ∷ []) loose
kept_atom clauses lists v loose k =
    let wider : length v ≤ length (v ++ false ∷ []) = simp length-append (omega arith) in record {
      below = All-weaker (AtomsBelow (length v)) (AtomsBelow (length (v ++ false ∷ []))) (λ c. All-weaker (λ (l : Signed ℕ). l.atom < length v) (λ l. l.atom < length (v ++ false ∷ [])) (λ l h. omega (arith, h, wider)) c) clauses k.below;
      room = simp length-append (omega (arith, k.room));
      each = kept_values clauses (lists ++ [] ∷ [] ∷ []) v (v ++ false ∷ []) loose (grown_value v) (kept_notes clauses lists (lists ++ [] ∷ [] ∷ []) v loose (grown_notes lists) k.each);
    }

-- Changes

pub unchanged : (old new : List Bool) (atoms : List ℕ) → AreChanges old new atoms → (a : ℕ) → ¬ Contains atoms a → value_at old a ≡ value_at new a
unchanged old new atoms exact a n = go (value_at old a) (value_at new a) (λ d. n ((exact a).1 d))
  where
    go : (b d : Bool) → ¬ (b ≢ d) → b ≡ d
    go true true h = refl
    go true false h = absurd (h (λ e. cc))
    go false true h = absurd (h (λ e. cc))
    go false false h = refl

pub changed_below : (old new : List Bool) (atoms : List ℕ) → AreChanges old new atoms → length new ≤ length old → All (λ a. a < length old) atoms
changed_below old new atoms exact wide = in_all (λ a. a < length old) atoms (λ a i. within a ((exact a).0 (in_contains a atoms i)))
  where
    within : (a : ℕ) → value_at old a ≢ value_at new a → a < length old
    within a different =
        elim (cases_lt a (length old)) [
          | inl inside ↦ inside
          | inr past ↦ absurd (different (get_or_past old a false past ∙ sym (get_or_past new a false (omega (arith, past, wide)))))
        ]

pub changed_room : (old new : List Bool) (atoms : List ℕ) (m : ℕ) → length old + length old ≤ m → All (λ a. a < length old) atoms → All (λ a. a + a + 1 < m) atoms
changed_room old new atoms m room below = All-weaker (λ a. a < length old) (λ a. a + a + 1 < m) (λ a h. omega (arith, h, room)) atoms below
