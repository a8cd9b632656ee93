-- What holds of the items of a body, and the lines of a run that ends.
use Rattle.std.proofs.Common.{◌≡◌, ℕ, suc, ◌<◌, ◌≤◌, ◌^◌, Bool, true, false, cond, List, [], ◌∷◌, ◌++◌, Some, refl, sym, ap, ap₂, ◌∙◌, subst, arith, append_assoc}
use Rattle.std.specs.Prelude.{nat_eq, nat_le}
use Rattle.std.specs.List.{list_all}
use Rattle.std.proofs.lemmas.List.{append-nil}
use Rattle.std.specs.Str.{bytes_eq}
use Rattle.std.proofs.lemmas.Slice.Eq.{bytes_eq-Decides}
use Rattle.inst_logic.specs.Clauses.{TreeClause}
use Rattle.inst_logic.specs.Equal.{bool_eq}
use Rattle.inst_logic.specs.EqualLaws.{bool_eq_decides}
use Rattle.cert_format.proofs.LineMachine.{IsShown, shown_more, nothing_shown, asked}
use Rattle.inst_logic.proofs.Numbers.{number_is, at_most}
use Rattle.cert_format.specs.LineMachine.{is_number, Note, rank, names_covers, in_turn, has_turn, is_complete, Item, Header, Line, status, opening, version, constant, item, closing, count, State, nothing, body, done, fits, last_rank, last_rank_from, guarded}
use Rattle.cert_format.specs.LineTexts.{line_text, is_text_name, note_is_printable}
use Rattle.cert_format.specs.Formats.{clause_is_printable, may_follow, step, is_done}
use Rattle.cert_format.specs.ValueLines.{item_lines}
use Rattle.cert_format.proofs.LineMachine.{count_push}
use Rattle.std.proofs.lemmas.Bool.{and_parts, and_from}
use Rattle.cert_format.proofs.LineNotes.{below}
use Rattle.cert_format.proofs.Machines.{first_step}
use Rattle.cert_format.proofs.Formats.{exact}
use Rattle.cert_format.proofs.ValueRuns.{IsSorted, good, Few, run}
use Rattle.cert_format.proofs.GroupItems.{all_append}

-- ---- what holds of the items of a body

pub record IsBody (h : Header) (is : List Item) : Type 0 where
  pub sorted : IsSorted 0 is
  pub all_good : list_all (good h) is ≡ true
  pub few : Few (2 ^ 64) is
  pub shown : names_covers h ≡ true → (rest : List TreeClause) × IsShown clause_is_printable is rest

sorted_push : (j : ℕ) (is : List Item) (i : Item) → last_rank_from j is ≤ rank i.note → IsSorted j is → IsSorted j (is ++ i ∷ [])
sorted_push j [] i h s = (h, tt)
sorted_push j (k ∷ is) i h s = (s.0, sorted_push (rank k.note) is i h s.1)

body_push : (h : Header) (is : List Item) (n : ℕ) (c : TreeClause) (note : Note) → may_follow h is n c note ≡ true → IsBody h is → (n ≡ suc (count (rank note) is)) × IsBody h (is ++ record { clause = c; note = note } ∷ [])
body_push h is n c note m b =
    let i : Item = record { clause = c; note = note } in
    let a = and_parts (fits h note) _ m in
    let l = and_parts (nat_le (last_rank is) (rank note)) _ a.1 in
    let d = and_parts (nat_eq n (suc (count (rank note) is))) _ l.1 in
    let q = and_parts (is_number n) _ d.1 in
    let at = number_is n (suc (count (rank note) is)) d.0 in
    let f = and_parts (clause_is_printable c) _ q.1 in
    let w = and_parts (note_is_printable note) (has_turn h is c note) f.1 in
    let small = below n q.0 in (
      at,
      record {
        sorted = sorted_push 0 is i (at_most (last_rank is) (rank note) l.0) b.sorted;
        all_good = all_append (good h) is (i ∷ []) b.all_good (and_from (good h i) true (and_from (fits h note) _ a.0 (and_from (clause_is_printable c) _ f.0 w.0)) refl);
        few = λ k. (let f = b.few k in subst (λ (j : ℕ). j < 2 ^ 64) (sym (count_push k is i)) (by k (nat_eq (rank note) k) refl at small f));
        shown = λ e. (let (rest, z) = b.shown e in shown_more clause_is_printable is c note rest f.0 (asked (names_covers h) (in_turn is c note) e w.1) z);
      },
    )
  where
    by : (k : ℕ) (t : Bool) → nat_eq (rank note) k ≡ t → n ≡ suc (count (rank note) is) → n < 2 ^ 64 → count k is < 2 ^ 64 → cond t (suc (count k is)) (count k is) < 2 ^ 64
    by k true e at small f = let g = ap (λ (j : ℕ). suc (count j is)) (number_is (rank note) k e) in omega arith
    by k false e at small f = f

-- ---- the lines of a run that ends

pub guard_both : (b : Bool) (t u : State) → guarded b t ≡ Some u → (b ≡ true) × (t ≡ u)
guard_both true t u h = (refl, cc)
guard_both false t u h = absurd cc

pub next : (s : State) (l : Line) (ls : List Line) (t : State) → run s (l ∷ ls) ≡ Some t → (u : State) × (step s l ≡ Some u) × (run u ls ≡ Some t)
next s l ls t h = first_step line_text step is_done nothing exact s l ls t h

pub record IsFinished (h : Header) (before : List Item) (ls : List Line) : Type 0 where
  pub items : List Item
  pub are : ls ≡ item_lines before items ++ closing h.refutation h.name ∷ []
  pub is_body : IsBody h (before ++ items)
  pub complete : is_complete h (before ++ items) ≡ true

-- nothing follows the end
alone : (h : Header) (is : List Item) (ls : List Line) (t : State) → run (done h is) ls ≡ Some t → ls ≡ []
alone h is [] t e = refl
alone h is (l ∷ ls) t e = absurd (let n = next (done h is) l ls t e in let k = n.1 in cc)

pub finish : (h : Header) (before : List Item) (ls : List Line) (t : State) → run (body h before) ls ≡ Some t → is_done t ≡ true → IsBody h before → IsFinished h before ls
finish h before [] t e d b = absurd (let k : body h before ≡ t = cc in let j : is_done (body h before) ≡ true = ap is_done k ∙ d in cc)
finish h before (item n c note ∷ ls) t e d b =
    let x = next (body h before) (item n c note) ls t e in
    let i : Item = record { clause = c; note = note } in
    let g = guard_both _ _ _ x.1 in
    let p = body_push h before n c note g.0 b in
    let f = finish h (before ++ i ∷ []) ls t (ap (λ (u : State). run u ls) g.1 ∙ x.2) d p.1 in
    record {
      items = i ∷ f.items;
      are = ap₂ (λ (l : Line) (ms : List Line). l ∷ ms) (ap (λ (k : ℕ). item k c note) p.0) f.are;
      is_body = subst (IsBody h) (append_assoc before (i ∷ []) f.items) f.is_body;
      complete = subst (λ (xs : List Item). is_complete h xs ≡ true) (append_assoc before (i ∷ []) f.items) f.complete;
    }
finish h before (closing r name ∷ ls) t e d b =
    let x = next (body h before) (closing r name) ls t e in
    let g = guard_both _ _ _ x.1 in
    let q = and_parts (is_text_name name) _ g.0 in
    let a = and_parts (bool_eq h.refutation r) _ q.1 in
    let form = (bool_eq_decides h.refutation r).0 a.0 in
    let u = and_parts (bytes_eq h.name name) (is_complete h before) a.1 in
    let same = (bytes_eq-Decides h.name name).0 u.0 in
    let left = alone h before ls t (ap (λ (u : State). run u ls) g.1 ∙ x.2) in
    record { items = []; are = ap₂ (λ (l : Line) (ms : List Line). l ∷ ms) (sym (ap₂ closing form same)) left; is_body = subst (IsBody h) (sym (append-nil before)) b; complete = subst (λ (xs : List Item). is_complete h xs ≡ true) (sym (append-nil before)) u.1 }
finish h before (status r name ∷ ls) t e d b = absurd cc
finish h before (opening r name ∷ ls) t e d b = absurd cc
finish h before (version f ∷ ls) t e d b = absurd cc
finish h before (constant c ∷ ls) t e d b = absurd cc

pub empty_body : (h : Header) → IsBody h []
empty_body h = record { sorted = tt; all_good = refl; few = λ k. omega arith; shown = λ e. ([], nothing_shown clause_is_printable) }
