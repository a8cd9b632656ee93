-- The item that was read may follow those before it, or none that may is at the front.
use Rattle.std.proofs.Common.{◌≡◌, ℕ, suc, ◌≤◌, ◌<◌, true, List, [], ◌∷◌, ◌++◌, length, refl, sym, ap, ap₂, ◌∙◌, subst, arith}
use Rattle.std.specs.Prelude.{nat_eq, nat_le, ◌+◌, All}
use Rattle.std.proofs.lemmas.Bool.{and_parts, and_from}
use Rattle.std.proofs.lemmas.List.{length-append}
use Rattle.std.proofs.lemmas.List.Elements.{All-append}
use Rattle.inst_logic.specs.declared.signed.Signed.{Signed}
use Rattle.inst_logic.specs.Clauses.{TreeClause}
use Rattle.term_bank.specs.Forest.{Forest, AreFormed, Extends, clause_at}
use Rattle.cert_format.specs.LineMachine.{Note, named, equality, member, selected, ground_of, ground_by, shown_by, input_by, side_by, rank, Item, Header, Line, item, count, fits, is_number, last_rank, has_turn}
use Rattle.cert_format.specs.LineTexts.{line, note_is_printable}
use Rattle.cert_format.specs.Formats.{clause_is_printable, may_follow}
use Rattle.cert_format.proofs.Exits as exits
use Rattle.cert_format.proofs.Exits.{item_line_once}
use Rattle.cert_format.proofs.Formats.{next_of}
use Rattle.cert_format.proofs.LineNotes.{line_more}
use Rattle.cert_values.specs.Wholes.{IsWholeClause}
use Rattle.cert_items.specs.declared.shape.TextShape.{TextShape}
use Rattle.cert_items.specs.Items.{shape_of, IsItem, IsWholeNote, NoItem, group_of, note_of, rank_of}
use Rattle.cert_items.specs.declared.group.Group.{Group}
use Rattle.cert_items.specs.declared.note.Note as read
use Rattle.cert_items.specs.declared.note.Note.TheVariants as notes
use Rattle.cert_reader.specs.declared.groups.Groups.{Groups}
use Rattle.cert_reader.specs.Bodies.{header, IsNextItem, NoNextItem}
use Rattle.cert_reader.specs.Groups.{count_of, pushed, items_of, TakesTurn, AreGroups}
use Rattle.cert_reader.proofs.Pushes.{ShowsNext, counts, pushed_items, pushed_groups, grown_items, grown_groups}
use Rattle.cert_reader.proofs.Turns.{AreApart, has_turn_is, from_turn}
use Rattle.inst_logic.proofs.Numbers.{at_most, less_equal, equal_numbers}
use Rattle.cert_items.proofs.GroupNotes.{header as least, form_in, rank_group}

-- ---- forms

by_shape : (h : Header) (note : Note) → fits h note ≡ fits (least (shape_of h)) note
by_shape h (named w) = refl
by_shape h equality = refl
by_shape h (member o) = refl
by_shape h (selected o p) = refl
by_shape h ground_of = refl
by_shape h (ground_by k ts) = refl
by_shape h (shown_by hs) = refl
by_shape h (input_by by) = refl
by_shape h (side_by left right side by) = refl

same_fits : (h k : Header) (note : Note) → shape_of h ≡ shape_of k → fits h note ≡ fits k note
same_fits h k note e = by_shape h note ∙ ap (λ (s : TextShape). fits (least s) note) e ∙ sym (by_shape k note)

exits_item : (s : TextShape) (n : ℕ) (c : TreeClause) (note : Note) → IsItem s n c note → exits.IsItem (least s) n c note
exits_item s n c note i = record { number = i.number; clause = i.clause; note_is = i.printable; form = form_in s note i.form }

following_item : (h : Header) (is : List Item) (n : ℕ) (c : TreeClause) (note : Note) → may_follow h is n c note ≡ true → IsItem (shape_of h) n c note
following_item h is n c note m =
    let p = next_of h is n c note m in
    let f = and_parts (fits h note) _ m in
    record { number = p.fits_number; clause = p.clause_is; printable = p.note_is; form = λ k e. same_fits k h note e ∙ f.0 }

-- ---- no item that may follow

pub no_item_next : (s : TextShape) (is : List Item) (bytes : List ℕ) → NoItem s bytes → NoNextItem s is bytes
no_item_next s is bytes bad h e n c note rest m at = bad n c note rest (subst (λ (z : TextShape). IsItem z n c note) e (following_item h is n c note m)) at

-- what a test of an item that may follow says
record IsNextIn (is : List Item) (n : ℕ) (note : Note) : Type 0 where
  pub low : last_rank is ≤ rank note
  pub at : n ≡ suc (count (rank note) is)

next_in : (h : Header) (is : List Item) (n : ℕ) (c : TreeClause) (note : Note) → may_follow h is n c note ≡ true → IsNextIn is n note
next_in h is n c note m =
    let a = and_parts (fits h note) _ m in
    let b = and_parts (nat_le (last_rank is) (rank note)) _ a.1 in
    record { low = at_most (last_rank is) (rank note) b.0; at = (next_of h is n c note m).at }

abbrev number_in : Line → ℕ
number_in (item n c note) = n
number_in _ = 0

abbrev clause_in : Line → TreeClause
clause_in (item n c note) = c
clause_in _ = []

abbrev note_in : Line → Note
note_in (item n c note) = note
note_in _ = equality

-- an item of this group, number and clause may follow those of the lists
abbrev pub MayFollow : TextShape → Groups → Group → ℕ → List (Signed ℕ) → Type 0
MayFollow s g k n c = (rank_of g.last ≤ rank_of k) × (n ≡ suc (count_of k g)) × TakesTurn s k g c

whole_base : (s : TextShape) (f : Forest) (g : Groups) → AreGroups s f g → All (IsWholeClause f) (g.inputs ++ g.axioms)
whole_base s f g p = All-append (IsWholeClause f) g.inputs g.axioms p.inputs p.axioms

-- the item that was read may not follow
pub wrong_next : (s : TextShape) (f : Forest) (g : Groups) (k : Group) (n : ℕ) (c : List (Signed ℕ)) (note : Note) (bytes rest : List ℕ) → AreGroups s f g → AreApart f → IsWholeClause f c → IsItem s n (clause_at f c) note → bytes ≡ line (item n (clause_at f c) note) rest
    → group_of note ≡ k → (MayFollow s g k n c → ⊥) → NoNextItem s (items_of s f g) bytes
wrong_next s f g k n c note bytes rest p apart whole i at group_is bad h e m d other y follows is =
    let j = subst (λ (z : TextShape). IsItem z m d other) e (following_item h (items_of s f g) m d other follows) in
    let o = item_line_once (least s) n m (clause_at f c) d note other rest y (exits_item s n (clause_at f c) note i) (exits_item s m d other j) (sym at ∙ is) in
    let same_n = ap number_in o.0 in
    let same_c : clause_at f c ≡ d = ap clause_in o.0 in
    let same_note = ap note_in o.0 in
    let q = next_in h (items_of s f g) m d other follows in
    let rank_is : rank other ≡ rank_of k = ap rank (sym same_note) ∙ rank_group note ∙ ap rank_of group_is in
    let low : rank_of g.last ≤ rank_of k = omega (arith, q.low, p.last, rank_is) in
    let number : n ≡ suc (count_of k g) = same_n ∙ q.at ∙ ap (λ (z : ℕ). suc (count z (items_of s f g))) rank_is ∙ ap suc (counts s.refutation s.format f g p k) in
    let turn : has_turn h (items_of s f g) (clause_at f c) note ≡ true = ap₂ (λ (x : TreeClause) (z : Note). has_turn h (items_of s f g) x z) same_c same_note ∙ (next_of h (items_of s f g) m d other follows).turn in
    bad (low, number, from_turn s f g p c apart whole (whole_base s f g p) h note k e group_is turn)

-- ---- one item that may follow

follows : (s : TextShape) (f : Forest) (g : Groups) (k : Group) (n : ℕ) (c : List (Signed ℕ)) (note : Note) → AreGroups s f g → IsItem s n (clause_at f c) note → group_of note ≡ k → MayFollow s g k n c → (h : Header) → shape_of h ≡ s → may_follow h (items_of s f g) n (clause_at f c) note ≡ true
follows s f g k n c note p i group_is m h e =
    let is = items_of s f g in
    let d = clause_at f c in
    let rank_is : rank note ≡ rank_of k = rank_group note ∙ ap rank_of group_is in
    let last_low : last_rank is ≤ rank note = omega (arith, m.0, p.last, rank_is) in
    let number : n ≡ suc (count (rank note) is) = m.1 ∙ ap suc (sym (counts s.refutation s.format f g p k)) ∙ ap (λ (z : ℕ). suc (count z is)) (sym rank_is) in
    and_from (fits h note) _ (i.form h e) (and_from (nat_le (last_rank is) (rank note)) _ (less_equal (last_rank is) (rank note) last_low) (and_from (nat_eq n (suc (count (rank note) is))) _ (equal_numbers n (suc (count (rank note) is)) number)
    (and_from (is_number n) _ i.number (and_from (clause_is_printable d) _ i.clause (and_from (note_is_printable note) (has_turn h is d note) i.printable (has_turn_is s f g p c h note k e group_is m.2))))))

low_rank : (g : Groups) (k : Group) (note : Note) → group_of note ≡ k → rank_of g.last ≤ rank_of k → rank_of g.last ≤ rank note
low_rank g k note group_is low = subst (λ (z : ℕ). rank_of g.last ≤ z) (sym (rank_group note ∙ ap rank_of group_is)) low

-- the note's clause is the next one where it has to be
shows_next : (s : TextShape) (f : Forest) (g : Groups) (k : Group) (note : read.Note) (c : List (Signed ℕ)) → fits (header s [] []) (note_of f note) ≡ true → group_of (note_of f note) ≡ k → TakesTurn s k g c → ShowsNext note g c
shows_next s f g k (notes.Named w) c fit e t = tt
shows_next s f g k notes.Equality c fit e t = tt
shows_next s f g k (notes.Member o) c fit e t = tt
shows_next s f g k (notes.Selected o p) c fit e t = tt
shows_next s f g k notes.Ground c fit e t = tt
shows_next s f g k (notes.GroundBy n ts) c fit e t = tt
shows_next s f g k (notes.Hinted hs) c fit e t = tt
shows_next s f g k (notes.InputBy by) c fit e t = subst (λ (z : Group). TakesTurn s z g c) (sym e) t fit
shows_next s f g k (notes.SideBy l r d by) c fit e t = tt

module _ (s : TextShape) (f h : Forest) (g : Groups) (k : Group) (n : ℕ) (note : read.Note) (c : List (Signed ℕ)) (grown : Extends f h) (formed : AreFormed h) (p : AreGroups s f g)
    (i : IsItem s n (clause_at h c) (note_of h note)) (group_is : group_of (note_of h note) ≡ k) (m : MayFollow s g k n c) where
  abbrev fit : fits (header s [] []) (note_of h note) ≡ true
  fit = i.form (header s [] []) refl

  abbrev next : ShowsNext note g c
  next = shows_next s h g k note c fit group_is m.2

  pub next_groups : IsWholeClause h c → IsWholeNote h note → AreGroups s h (pushed note c g)
  next_groups whole terms = pushed_groups s.refutation s.format h g note c (grown_groups f h grown s g formed p) (low_rank g k (note_of h note) group_is m.0) fit next whole terms

  pub next_item : (bytes rest : List ℕ) → bytes ≡ line (item n (clause_at h c) (note_of h note)) rest → IsNextItem s (items_of s f g) (items_of s h (pushed note c g)) bytes rest
  next_item bytes rest text =
      let q = grown_groups f h grown s g formed p in
      let same = grown_items f h grown s g p in
      record {
        number = n;
        clause = clause_at h c;
        note = note_of h note;
        follows = λ z e. subst (λ (is : List Item). may_follow z is n (clause_at h c) (note_of h note) ≡ true) same (follows s h g k n c (note_of h note) q i group_is m z e);
        one_more = pushed_items s.refutation s.format h g note c q (low_rank g k (note_of h note) group_is m.0) fit next ∙ ap (λ (is : List Item). is ++ record { clause = clause_at h c; note = note_of h note } ∷ []) same;
        text_is = text;
      }

-- a line is longer than what follows it
pub line_longer : (n : ℕ) (c : TreeClause) (note : Note) (bytes rest : List ℕ) → bytes ≡ line (item n c note) rest → length rest < length bytes
line_longer n c note bytes rest at =
    let e : length bytes ≡ length (line (item n c note) []) + length rest = ap length (at ∙ sym (line_more (item n c note) [] rest)) ∙ length-append (line (item n c note) []) rest in
    omega (arith, e)
