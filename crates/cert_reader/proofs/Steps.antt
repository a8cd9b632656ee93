-- Which lines may follow those that have been read, and where none of them is at the front.
use Rattle.std.proofs.Common.{◌≡◌, ◌≢◌, ℕ, suc, Bool, true, false, List, [], ◌∷◌, ◌++◌, length, Some, refl, sym, ap, ap₂, ◌∙◌, subst, append_assoc}
use Rattle.std.specs.Option.{option_and_then}
use Rattle.std.specs.Prelude.{◌&&◌}
use Rattle.std.specs.Str.{bytes_eq}
use Rattle.std.proofs.lemmas.Bool.{and_parts, and_from}
use Rattle.std.proofs.lemmas.Slice.Eq.{bytes_eq-Decides}
use Rattle.inst_logic.specs.Equal.{bool_eq}
use Rattle.inst_logic.specs.EqualLaws.{bool_eq_decides}
use Rattle.inst_logic.specs.Printing.{is_readable_name}
use Rattle.cert_format.specs.LineMachine.{Item, Header, Line, status, opening, version, constant, item, closing, State, nothing, begun, opened, awaits, body, done, guarded, is_complete}
use Rattle.cert_format.specs.LineTexts.{line, line_text, is_text_name}
use Rattle.cert_format.specs.Printable.{IsTextName}
use Rattle.cert_format.specs.Formats.{is_known, step, is_done, text_of_lines, Leads}
use Rattle.cert_format.proofs.Formats.{exact, guard_is}
use Rattle.cert_format.proofs.LineNotes.{line_more}
use Rattle.cert_format.proofs.Machines.{run_more, texts_append}
use Rattle.cert_format.proofs.Exits.{NoLine}
use Rattle.cert_format.proofs.Taken.{bad_line, not_taken, begins}
use Rattle.cert_items.specs.Items.{shape_of}
use Rattle.cert_reader.specs.Bodies.{header, refutation_in, saturation_in, IsRefusedAt, NoNextItem}

-- ---- no line

pub no_status : (x : List ℕ) → ((r : Bool) (n y : List ℕ) → is_text_name n ≡ true → x ≢ line (status r n) y) → NoLine nothing x
no_status x bad (status r n) u y e q = bad r n y (guard_is _ _ _ e) (q ∙ line_more (status r n) [] y)
no_status x bad _ u y e q = absurd cc

pub no_opening : (r : Bool) (n x : List ℕ) → ((y : List ℕ) → x ≢ line (opening r n) y) → NoLine (begun r n) x
no_opening r n x bad (opening q m) u y e k =
    let a = and_parts (bool_eq r q) (bytes_eq n m) (and_parts (is_text_name m) _ (guard_is _ _ _ e)).1 in
    let form = (bool_eq_decides r q).0 a.0 in
    let same = (bytes_eq-Decides n m).0 a.1 in
    bad y (k ∙ line_more (opening q m) [] y ∙ ap (λ (l : Line). line l y) (sym (ap₂ opening form same)))
no_opening r n x bad _ u y e k = absurd cc

pub no_version : (r : Bool) (n x : List ℕ) → ((f : ℕ) (y : List ℕ) → is_known f ≡ true → x ≢ line (version f) y) → NoLine (opened r n) x
no_version r n x bad (version f) u y e k = bad f y (guard_is _ _ _ e) (k ∙ line_more (version f) [] y)
no_version r n x bad _ u y e k = absurd cc

pub no_constant : (f : ℕ) (n x : List ℕ) → ((c y : List ℕ) → is_readable_name c ≡ true → x ≢ line (constant c) y) → NoLine (awaits f n) x
no_constant f n x bad (constant c) u y e k = bad c y (guard_is _ _ _ e) (k ∙ line_more (constant c) [] y)
no_constant f n x bad _ u y e k = absurd cc

pub no_next : (h : Header) (is : List Item) (x : List ℕ) → NoNextItem (shape_of h) is x → ((y : List ℕ) → is_complete h is ≡ true → x ≢ line (closing h.refutation h.name) y) → NoLine (body h is) x
no_next h is x bad last (item n c note) u y e k = bad h refl n c note y (guard_is _ _ _ e) (k ∙ line_more (item n c note) [] y)
no_next h is x bad last (closing r m) u y e k =
    let a = and_parts (bool_eq h.refutation r) _ (and_parts (is_text_name m) _ (guard_is _ _ _ e)).1 in
    let form = (bool_eq_decides h.refutation r).0 a.0 in
    let b = and_parts (bytes_eq h.name m) (is_complete h is) a.1 in
    let same = (bytes_eq-Decides h.name m).0 b.0 in
    last y b.1 (k ∙ line_more (closing r m) [] y ∙ ap (λ (l : Line). line l y) (sym (ap₂ closing form same)))
no_next h is x bad last _ u y e k = absurd cc

-- ---- steps

pub one_more : (ls : List Line) (l : Line) (s t : State) → Leads ls s → step s l ≡ Some t → Leads (ls ++ l ∷ []) t
one_more ls l s t h e = run_more line_text step is_done nothing exact ls (l ∷ []) nothing s h ∙ ap (option_and_then (λ (u : State). Some u)) e

same_bool : (b : Bool) → bool_eq b b ≡ true
same_bool true = refl
same_bool false = refl

same_header : (r : Bool) (n : List ℕ) → is_text_name n ≡ true → (is_text_name n && (bool_eq r r && bytes_eq n n)) ≡ true
same_header r n h = and_from (is_text_name n) _ h (and_from (bool_eq r r) (bytes_eq n n) (same_bool r) ((bytes_eq-Decides n n).1 refl))

pub one_line : (r : Bool) (n : List ℕ) → is_text_name n ≡ true → Leads (status r n ∷ []) (begun r n)
one_line r n h = one_more [] (status r n) nothing (begun r n) refl (ap (λ (b : Bool). guarded b (begun r n)) h)

pub two_leads : (r : Bool) (n : List ℕ) → is_text_name n ≡ true → Leads (status r n ∷ opening r n ∷ []) (opened r n)
two_leads r n h = one_more (status r n ∷ []) (opening r n) (begun r n) (opened r n) (one_line r n h) (ap (λ (b : Bool). guarded b (opened r n)) (same_header r n h))

pub saturation_leads : (f : ℕ) (n : List ℕ) → is_known f ≡ true → is_text_name n ≡ true → Leads (status false n ∷ opening false n ∷ version f ∷ []) (body (header (saturation_in f) n []) [])
saturation_leads f n known h =
    let s = body (header (saturation_in f) n []) [] in
    one_more (status false n ∷ opening false n ∷ []) (version f) (opened false n) s (two_leads false n h) (ap (λ (b : Bool). guarded b s) known)

pub refutation_leads : (f : ℕ) (n : List ℕ) → is_known f ≡ true → is_text_name n ≡ true → Leads (status true n ∷ opening true n ∷ version f ∷ []) (awaits f n)
refutation_leads f n known h = one_more (status true n ∷ opening true n ∷ []) (version f) (opened true n) (awaits f n) (two_leads true n h) (ap (λ (b : Bool). guarded b (awaits f n)) known)

pub constant_leads : (f : ℕ) (n c : List ℕ) → is_known f ≡ true → is_text_name n ≡ true → is_readable_name c ≡ true → Leads (status true n ∷ opening true n ∷ version f ∷ constant c ∷ []) (body (header (refutation_in f) n c) [])
constant_leads f n c known h k =
    let s = body (header (refutation_in f) n c) [] in
    one_more (status true n ∷ opening true n ∷ version f ∷ []) (constant c) (awaits f n) s (refutation_leads f n known h) (ap (λ (b : Bool). guarded b s) k)

pub closing_step : (h : Header) (is : List Item) → is_text_name h.name ≡ true → is_complete h is ≡ true → step (body h is) (closing h.refutation h.name) ≡ Some (done h is)
closing_step h is k complete =
    ap (λ (b : Bool). guarded b (done h is))
    (and_from (is_text_name h.name) _ k (and_from (bool_eq h.refutation h.refutation) _ (same_bool h.refutation) (and_from (bytes_eq h.name h.name) (is_complete h is) ((bytes_eq-Decides h.name h.name).1 refl) complete)))

-- ---- texts

-- one more line in front, and one more behind
pub in_front : (l : Line) (ls : List Line) (x : List ℕ) → line l (text_of_lines ls ++ x) ≡ text_of_lines (l ∷ ls) ++ x
in_front l ls x = sym (append_assoc (line_text l) (text_of_lines ls) x ∙ line_more l [] (text_of_lines ls ++ x))

pub behind_all : (ls : List Line) (l : Line) (x : List ℕ) → text_of_lines (ls ++ l ∷ []) ++ x ≡ text_of_lines ls ++ line l x
behind_all ls l x =
    ap (λ (xs : List ℕ). xs ++ x) (texts_append line_text step is_done nothing exact ls (l ∷ [])) ∙ append_assoc (text_of_lines ls) (text_of_lines (l ∷ [])) x
    ∙ ap (λ (xs : List ℕ). text_of_lines ls ++ xs) (sym (in_front l [] x))

-- ---- refusals

pub refused : (ls : List Line) (s : State) (text x : List ℕ) → Leads ls s → text ≡ text_of_lines ls ++ x → NoLine s x → ¬ ((is_done s ≡ true) × (x ≡ [])) → IsRefusedAt text (suc (length ls))
refused ls s text x h is bad open_ = record { first = bad_line ls s text x h is bad; no_text = not_taken ls s text x h is bad open_ }

-- ---- names

abbrev name_in : List Line → List ℕ
name_in (status r n ∷ ls) = n
name_in _ = []

-- lines that may follow one another are under a name of a text
pub name_is : (r : Bool) (n : List ℕ) (ls : List Line) (s : State) → Leads (status r n ∷ ls) s → IsTextName n
name_is r n ls s l =
    let b = begins (status r n ∷ ls) s l in
    let e : b.name ≡ n = ap name_in b.are in
    subst IsTextName e b.name_is
