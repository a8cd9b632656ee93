-- One more line of the body, and the ends.
use Rattle.std.proofs.Common.{◌≡◌, ◌≢◌, inl, inr, ℕ, ◌+◌, suc, ◌<◌, ◌^◌, Bool, true, false, cond, List, [], ◌∷◌, ◌++◌, length, refl, sym, ap, ap₂, ◌∙◌, subst, arith, append_assoc}
use Rattle.std.specs.Prelude.{nat_eq}
use Rattle.std.proofs.lemmas.Bool.{and_parts, and_from}
use Rattle.std.proofs.lemmas.List.{append-nil, length-append, length_push}
use Rattle.inst_logic.specs.Clauses.{TreeClause}
use Rattle.cert_format.specs.LineMachine.{Note, rank, Item, Header, Line, status, opening, version, item, closing, nothing, body, done, count, fits, guarded, is_complete}
use Rattle.cert_format.specs.LineTexts.{line, line_text, is_text_name}
use Rattle.cert_format.specs.Formats.{may_follow, step, is_done, text_of_lines, Leads}
use Rattle.cert_format.specs.ValueLines.{item_lines}
use Rattle.cert_format.proofs.Formats.{apart_by, exact, next_of}
use Rattle.cert_format.proofs.LineMachine.{count_push}
use Rattle.cert_format.proofs.LineNotes.{below, line_more}
use Rattle.cert_format.proofs.LineTexts.{lines_append}
use Rattle.cert_format.proofs.Machines.{behind_end}
use Rattle.inst_logic.proofs.Numbers.{number_is}
use Rattle.cert_format.proofs.GroupItems.{all_append}
use Rattle.cert_format.proofs.ValueRuns.{name_yes}
use Rattle.cert_items.specs.Items.{shape_of}
use Rattle.cert_items.specs.declared.shape.TextShape.{TextShape}
use Rattle.cert_reader.specs.Bodies.{constant_lines, lines_up_to, is_good, HasRead, IsNextItem, NoNextItem, IsRefusedAt, EndsSo, EndsAt, ending_behind}
use Rattle.cert_reader.specs.declared.body.Ending.{Ending}
use Rattle.cert_reader.specs.declared.groups.Groups.{Groups}
use Rattle.cert_reader.specs.Groups.{AreGroups, items_of}
use Rattle.cert_reader.proofs.Turns.{complete_is, from_complete}
use Rattle.term_bank.specs.Forest.{Forest}
use Rattle.cert_reader.proofs.Steps.{no_next, one_more, closing_step, behind_all, refused, name_is}

-- ---- one more item

abbrev one : TreeClause → Note → List Item
one c note = record { clause = c; note = note } ∷ []

lines_more : (h : Header) (is : List Item) (n : ℕ) (c : TreeClause) (note : Note) → n ≡ suc (count (rank note) is) → lines_up_to h (is ++ one c note) ≡ lines_up_to h is ++ item n c note ∷ []
lines_more h is n c note at =
    ap (λ (ls : List Line). status h.refutation h.name ∷ opening h.refutation h.name ∷ version h.format ∷ ls)
    (ap (λ (ls : List Line). constant_lines h.refutation h.bot ++ ls) (lines_append [] is (one c note) ∙ ap (λ (k : ℕ). item_lines [] is ++ item k c note ∷ []) (sym at))
    ∙ sym (append_assoc (constant_lines h.refutation h.bot) (item_lines [] is) (item n c note ∷ [])))

few_push : (is : List Item) (n : ℕ) (c : TreeClause) (note : Note) → n ≡ suc (count (rank note) is) → n < 2 ^ 64 → ((k : ℕ) → count k is < 2 ^ 64) → (k : ℕ) → count k (is ++ one c note) < 2 ^ 64
few_push is n c note at small few k = subst (λ (j : ℕ). j < 2 ^ 64) (sym (count_push k is (record { clause = c; note = note }))) (by (nat_eq (rank note) k) refl)
  where
    by : (t : Bool) → nat_eq (rank note) k ≡ t → cond t (suc (count k is)) (count k is) < 2 ^ 64
    by true e = let g = ap (λ (j : ℕ). suc (count j is)) (number_is (rank note) k e) in omega (arith, at, small, g)
    by false e = few k

read_more : (text : List ℕ) (h : Header) (is : List Item) (lines : ℕ) (x rest : List ℕ) (n : ℕ) (c : TreeClause) (note : Note) → HasRead text h is lines x → may_follow h is n c note ≡ true → x ≡ line (item n c note) rest → HasRead text h (is ++ one c note) (lines + 1) rest
read_more text h is lines x rest n c note r m at =
    let p = next_of h is n c note m in
    let more = lines_more h is n c note p.at in
    let fit = and_parts (fits h note) _ m in
    record {
      leads = subst (λ (ls : List Line). Leads ls (body h (is ++ one c note))) (sym more) (one_more (lines_up_to h is) (item n c note) (body h is) (body h (is ++ one c note)) r.leads (ap (λ (b : Bool). guarded b (body h (is ++ one c note))) m));
      text_is = r.text_is ∙ ap (λ (xs : List ℕ). text_of_lines (lines_up_to h is) ++ xs) at ∙ sym (behind_all (lines_up_to h is) (item n c note) rest) ∙ ap (λ (ls : List Line). text_of_lines ls ++ rest) (sym more);
      counted = ap length more ∙ length_push (lines_up_to h is) (item n c note) ∙ ap (λ (k : ℕ). k + 1) r.counted;
      good = all_append (is_good h) is (one c note) r.good (and_from (is_good h (record { clause = c; note = note })) true (and_from (fits h note) _ fit.0 (and_from _ _ p.clause_is p.note_is)) refl);
      few = few_push is n c note p.at (below n p.fits_number) r.few;
    }

pub progress : (text : List ℕ) (h : Header) (s : TextShape) (is js : List Item) (lines : ℕ) (x rest : List ℕ) → shape_of h ≡ s → HasRead text h is lines x → IsNextItem s is js x rest → HasRead text h js (lines + 1) rest
progress text h z is js lines x rest e p s =
    subst (λ (ks : List Item). HasRead text h ks (lines + 1) rest) (sym s.one_more) (read_more text h is lines x rest s.number s.clause s.note p (s.follows h e) s.text_is)

-- ---- the ends

refused_next : (text : List ℕ) (h : Header) (is : List Item) (lines : ℕ) (x : List ℕ) → HasRead text h is lines x → NoNextItem (shape_of h) is x → ((y : List ℕ) → is_complete h is ≡ true → x ≢ line (closing h.refutation h.name) y) → IsRefusedAt text (lines + 1)
refused_next text h is lines x p bad last =
    let q = refused (lines_up_to h is) (body h is) text x p.leads p.text_is (no_next h is x bad last) (λ e. (let k = e.0 in cc)) in
    let n : suc (length (lines_up_to h is)) ≡ lines + 1 = omega (arith, p.counted) in
    subst (IsRefusedAt text) n q

-- the last line is no item
no_item_at_end : (s : TextShape) (is : List Item) (r : Bool) (n x y : List ℕ) → x ≡ line (closing r n) y → NoNextItem s is x
no_item_at_end s is r n x y at h e k c note rest m text = apart_by 99 (line (item k c note) rest) (line (closing r n) y) (sym text ∙ at) refl refl

text_name : (text : List ℕ) (h : Header) (is : List Item) (lines : ℕ) (x : List ℕ) → HasRead text h is lines x → is_text_name h.name ≡ true
text_name text h is lines x p = name_yes h.name (name_is h.refutation h.name (opening h.refutation h.name ∷ version h.format ∷ (constant_lines h.refutation h.bot ++ item_lines [] is)) (body h is) p.leads)

closed_leads : (text : List ℕ) (h : Header) (is : List Item) (lines : ℕ) (x : List ℕ) → HasRead text h is lines x → is_complete h is ≡ true → Leads (lines_up_to h is ++ closing h.refutation h.name ∷ []) (done h is)
closed_leads text h is lines x p complete = one_more (lines_up_to h is) (closing h.refutation h.name) (body h is) (done h is) p.leads (closing_step h is (text_name text h is lines x p) complete)

closed_text : (text : List ℕ) (h : Header) (is : List Item) (lines : ℕ) (x rest : List ℕ) → HasRead text h is lines x → x ≡ line (closing h.refutation h.name) rest → text ≡ text_of_lines (lines_up_to h is ++ closing h.refutation h.name ∷ []) ++ rest
closed_text text h is lines x rest p at = p.text_is ∙ ap (λ (xs : List ℕ). text_of_lines (lines_up_to h is) ++ xs) at ∙ sym (behind_all (lines_up_to h is) (closing h.refutation h.name) rest)

ended : (text : List ℕ) (h : Header) (is : List Item) (lines : ℕ) (x rest : List ℕ) → HasRead text h is lines x → is_complete h is ≡ true → x ≡ line (closing h.refutation h.name) rest → EndsSo text h is (ending_behind (lines + 1) rest)
ended text h is lines x [] p complete at = record {
  leads = closed_leads text h is lines x p complete;
  text_is = closed_text text h is lines x [] p at ∙ append-nil (text_of_lines (lines_up_to h is ++ closing h.refutation h.name ∷ []));
  complete = complete;
  good = p.good;
  few = p.few;
}
ended text h is lines x (b ∷ bs) p complete at =
    let ls = lines_up_to h is ++ closing h.refutation h.name ∷ [] in
    let q = refused ls (done h is) text (b ∷ bs) (closed_leads text h is lines x p complete) (closed_text text h is lines x (b ∷ bs) p at) (behind_end line_text step is_done nothing exact (done h is) (b ∷ bs) refl) (λ e. (let k = e.1 in cc)) in
    let n : suc (length ls) ≡ suc (lines + 1) = omega (arith, p.counted, length_push (lines_up_to h is) (closing h.refutation h.name)) in
    subst (IsRefusedAt text) n q

-- ---- the same for a reader, which knows the shape and the name

closing_is : (h : Header) (s : TextShape) (n : List ℕ) → shape_of h ≡ s → h.name ≡ n → closing h.refutation h.name ≡ closing s.refutation n
closing_is h s n shape same = ap₂ closing (ap (λ (z : TextShape). z.refutation) shape) same

-- at the last line
pub ended_so : (text : List ℕ) (h : Header) (s : TextShape) (n : List ℕ) (f : Forest) (g : Groups) (lines : ℕ) (x rest : List ℕ) (e : Ending) → shape_of h ≡ s → h.name ≡ n → AreGroups s f g → HasRead text h (items_of s f g) lines x → x ≡ line (closing s.refutation n) rest
    → EndsAt s g (lines + 1) rest e → EndsSo text h (items_of s f g) e
ended_so text h s n f g lines x rest e shape same groups p at (inl q) =
    subst (EndsSo text h (items_of s f g)) (sym q.1) (ended text h (items_of s f g) lines x rest p (complete_is h s f g shape groups q.0) (at ∙ ap (λ (l : Line). line l rest) (sym (closing_is h s n shape same))))
ended_so text h s n f g lines x rest e shape same groups p at (inr q) =
    subst (EndsSo text h (items_of s f g)) (sym q.1)
    (refused_next text h (items_of s f g) lines x p (no_item_at_end (shape_of h) (items_of s f g) s.refutation n x rest at) (λ y c z. q.0 (from_complete h s f g shape groups c)))

pub refused_so : (text : List ℕ) (h : Header) (s : TextShape) (n : List ℕ) (is : List Item) (lines : ℕ) (x : List ℕ) → shape_of h ≡ s → h.name ≡ n → HasRead text h is lines x → NoNextItem s is x → ((y : List ℕ) → x ≢ line (closing s.refutation n) y) → IsRefusedAt text (lines + 1)
refused_so text h s n is lines x shape same p bad last =
    refused_next text h is lines x p (subst (λ (z : TextShape). NoNextItem z is x) (sym shape) bad) (λ y c e. last y (e ∙ ap (λ (l : Line). line l y) (closing_is h s n shape same)))

pub closing_longer : (r : Bool) (n bytes rest : List ℕ) → bytes ≡ line (closing r n) rest → length rest < length bytes
closing_longer r n bytes rest at =
    let e : length bytes ≡ length (line (closing r n) []) + length rest = ap length (at ∙ sym (line_more (closing r n) [] rest)) ∙ length-append (line (closing r n) []) rest in
    omega (arith, e)
