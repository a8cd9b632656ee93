-- What a reader of items knows at each of its exits, in a body.
use Rattle.std.proofs.Common.{◌≡◌, ◌≢◌, ℕ, Bool, true, false, List, [], ◌∷◌, ◌++◌, map, Some, refl, sym, ap, ◌∙◌}
use Rattle.std.specs.Prelude.{codes}
use Rattle.inst_logic.specs.Clauses.{TreeClause}
use Rattle.inst_logic.specs.Printing.{clause_text}
use Rattle.cert_format.specs.Forms.{form_atom}
use Rattle.cert_format.specs.LineMachine.{is_number, fits, Note, rank, Item, Header, Line, status, opening, version, constant, item, closing, State, body}
use Rattle.cert_format.specs.LineTexts.{letter, role, note_text, line, line_text, note_is_printable}
use Rattle.cert_format.specs.Formats.{clause_is_printable, may_follow, step}
use Rattle.cert_format.proofs.Digits.{numbers_once}
use Rattle.cert_format.proofs.Clauses.{one_clause}
use Rattle.cert_format.proofs.ClauseForms.{text_of_forms}
use Rattle.cert_format.proofs.LineNotes.{behind_front, below, line_more, same_rank, note_once}
use Rattle.cert_format.proofs.Formats.{test_forms, next_of, first_two, apart_by, guard_is}

-- an item that can be printed under a header
pub record IsItem (h : Header) (n : ℕ) (c : TreeClause) (note : Note) : Type 0 where
  pub number : is_number n ≡ true
  pub clause : clause_is_printable c ≡ true
  pub note_is : note_is_printable note ≡ true
  pub form : fits h note ≡ true

-- an item's line is known by its text alone
pub item_line_once : (r : Header) (n k : ℕ) (c d : TreeClause) (a b : Note) (x y : List ℕ) → IsItem r n c a → IsItem r k d b → line (item n c a) x ≡ line (item k d b) y → (item n c a ≡ item k d b) × (x ≡ y)
item_line_once r n k c d a b x y p q e =
    let one = first_two (letter a) (letter b) _ _ (behind_front (codes "cnf(") _ _ e) in
    let same = same_rank a b one.0 in
    let X = 41 ∷ 46 ∷ 10 ∷ x in
    let Y = 41 ∷ 46 ∷ 10 ∷ y in
    let two = numbers_once n k (44 ∷ (role (rank a) ++ 44 ∷ (clause_text c ++ 44 ∷ note_text n a X))) (44 ∷ (role (rank b) ++ 44 ∷ (clause_text d ++ 44 ∷ note_text k b Y))) (below n p.number) (below k q.number) refl refl one.1 in
    let nk = two.0 in
    let three = behind_front (44 ∷ role (rank a)) _ _ (two.1 ∙ ap (λ (j : ℕ). 44 ∷ (role j ++ 44 ∷ (clause_text d ++ 44 ∷ note_text k b Y))) (sym same)) in
    let four = behind_front (44 ∷ []) (clause_text c ++ 44 ∷ note_text n a X) (clause_text d ++ 44 ∷ note_text k b Y) three in
    let f = test_forms c p.clause in
    let g = test_forms d q.clause in
    let forms = one_clause f.forms g.forms (note_text n a X) (note_text k b Y) f.printable g.printable (sym (text_of_forms c f (note_text n a X)) ∙ four ∙ text_of_forms d g (note_text k b Y)) in
    let cd : c ≡ d = sym f.are ∙ ap (map form_atom) forms ∙ g.are in
    let five = behind_front (clause_text c) _ _ (four ∙ ap (λ (j : TreeClause). clause_text j ++ 44 ∷ note_text k b Y) (sym cd)) in
    let six = behind_front (44 ∷ []) (note_text n a X) (note_text k b Y) five ∙ ap (λ (j : ℕ). note_text j b Y) (sym nk) in
    let notes = note_once r n a b X Y same p.form q.form p.note_is q.note_is six in
    (λ i. item (nk i) (cd i) (notes.0 i), behind_front (41 ∷ 46 ∷ 10 ∷ []) x y notes.1)

-- no line that may follow is at the front of the text
abbrev pub NoLine : State → List ℕ → Type 0
NoLine s x = (l : Line) (u : State) (y : List ℕ) → step s l ≡ Some u → x ≢ line_text l ++ y

-- no item's line is at the front of the text
abbrev pub NoItem : Header → List ℕ → Type 0
NoItem r x = (n : ℕ) (c : TreeClause) (note : Note) (y : List ℕ) → IsItem r n c note → x ≢ line (item n c note) y

item_of : (h : Header) (is : List Item) (n : ℕ) (c : TreeClause) (note : Note) → may_follow h is n c note ≡ true → IsItem h n c note
item_of h is n c note m = let p = next_of h is n c note m in record { number = p.fits_number; clause = p.clause_is; note_is = p.note_is; form = p.form }

-- neither an item nor the last line
pub no_item : (h : Header) (is : List Item) (x : List ℕ) → NoItem h x → ((r : Bool) (name y : List ℕ) (u : State) → step (body h is) (closing r name) ≡ Some u → x ≢ line (closing r name) y) → NoLine (body h is) x
no_item h is x bad last (item n c note) u y e q = bad n c note y (item_of h is n c note (guard_is _ _ _ e)) (q ∙ line_more (item n c note) [] y)
no_item h is x bad last (closing r name) u y e q = last r name y u e (q ∙ line_more (closing r name) [] y)
no_item h is x bad last (status r name) u y e q = absurd cc
no_item h is x bad last (opening r name) u y e q = absurd cc
no_item h is x bad last (version f) u y e q = absurd cc
no_item h is x bad last (constant c) u y e q = absurd cc

-- whether the line is an item that may follow
abbrev may_line : Header → List Item → Line → Bool
may_line h is (item n c note) = may_follow h is n c note
may_line h is _ = false

-- an item that may not follow
pub wrong_item : (h : Header) (is : List Item) (x rest : List ℕ) (n : ℕ) (c : TreeClause) (note : Note) → x ≡ line (item n c note) rest → IsItem h n c note → may_follow h is n c note ≡ false → NoLine (body h is) x
wrong_item h is x rest n c note at p bad (item k d other) u y e q =
    let m = guard_is _ _ _ e in
    let o = item_line_once h n k c d note other rest y p (item_of h is k d other m) (sym at ∙ q ∙ line_more (item k d other) [] y) in
    let f : may_follow h is k d other ≡ false = sym (ap (may_line h is) o.0) ∙ bad in
    cc
wrong_item h is x rest n c note at p bad (closing r name) u y e q = apart_by 99 _ _ (sym at ∙ q ∙ line_more (closing r name) [] y) refl refl
wrong_item h is x rest n c note at p bad (status r name) u y e q = absurd cc
wrong_item h is x rest n c note at p bad (opening r name) u y e q = absurd cc
wrong_item h is x rest n c note at p bad (version f) u y e q = absurd cc
wrong_item h is x rest n c note at p bad (constant d) u y e q = absurd cc
