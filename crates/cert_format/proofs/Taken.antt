-- The machine takes exactly the texts of printable values, and what it refuses is refused at the first bad line.
use Rattle.std.proofs.Common.{◌≡◌, ◌≢◌, ℕ, suc, Bool, true, false, List, [], ◌∷◌, ◌++◌, length, Some, refl, sym, ap, ap₂, ◌∙◌, subst}
use Rattle.std.specs.Option.{option_and_then}
use Rattle.std.specs.Str.{bytes_eq}
use Rattle.std.proofs.lemmas.Slice.Eq.{bytes_eq-Decides}
use Rattle.inst_logic.specs.Equal.{bool_eq}
use Rattle.inst_logic.specs.EqualLaws.{bool_eq_decides}
use Rattle.cert_format.specs.LineMachine.{Line, status, opening, version, constant, item, closing, State, nothing, begun, opened, awaits, body, done, guarded}
use Rattle.cert_format.specs.LineMachine as machine
use Rattle.cert_format.specs.Fronts.{IsFront, IsBadLine}
use Rattle.cert_format.specs.LineTexts.{line_text, is_text_name, note_is_printable}
use Rattle.cert_format.specs.Formats.{clause_is_printable, is_known, step, is_done, AreLines, IsText, text_of_lines}
use Rattle.cert_format.specs.ValueLines.{BeginCertificate, lines_of, IsCertificateText}
use Rattle.cert_format.proofs.Writables.{writable, printable}
use Rattle.std.proofs.lemmas.Bool.{and_parts}
use Rattle.cert_format.proofs.Machines as machines
use Rattle.cert_format.proofs.Formats.{exact}
use Rattle.cert_format.proofs.LineTexts.{text_is}
use Rattle.cert_format.proofs.ValueRuns.{are_lines, run}
use Rattle.cert_format.proofs.BodyItems.{next, guard_both, finish, empty_body}
use Rattle.cert_format.proofs.GroupValues.{header_for}
use Rattle.cert_format.proofs.LineValues.{AreOfValue, saturated_lines, refuted_lines}

-- behind the first two lines
formatted : (r : Bool) (name : List ℕ) (f : ℕ) (ls : List Line) (t : State) → is_text_name name ≡ true → is_known f ≡ true → run (machine.formatted is_known is_text_name clause_is_printable note_is_printable r name f) ls ≡ Some t → is_done t ≡ true
    → AreOfValue (status r name ∷ opening r name ∷ version f ∷ ls)
formatted false name f ls t n read e d = saturated_lines f read name ls n (finish (header_for false f name []) [] ls t e d (empty_body _))
formatted true name f [] t n read e d = absurd (let k : awaits f name ≡ t = cc in let j : is_done (awaits f name) ≡ true = ap is_done k ∙ d in cc)
formatted true name f (constant c ∷ ls) t n read e d =
    let x = next (awaits f name) (constant c) ls t e in
    let g = guard_both _ _ _ x.1 in
    refuted_lines f read name c ls n g.0 (finish (header_for true f name c) [] ls t (ap (λ (u : State). run u ls) g.1 ∙ x.2) d (empty_body _))
formatted true name f (l ∷ ls) t n read e d = absurd cc

behind_opening : (r : Bool) (name : List ℕ) (ls : List Line) (t : State) → is_text_name name ≡ true → run (opened r name) ls ≡ Some t → is_done t ≡ true → AreOfValue (status r name ∷ opening r name ∷ ls)
behind_opening r name [] t n e d = absurd (let k : opened r name ≡ t = cc in let j : is_done (opened r name) ≡ true = ap is_done k ∙ d in cc)
behind_opening r name (version f ∷ ls) t n e d =
    let x = next (opened r name) (version f) ls t e in
    let g = guard_both _ _ _ x.1 in
    formatted r name f ls t n g.0 (ap (λ (u : State). run u ls) g.1 ∙ x.2) d
behind_opening r name (l ∷ ls) t n e d = absurd cc

behind_status : (r : Bool) (name : List ℕ) (ls : List Line) (t : State) → is_text_name name ≡ true → run (begun r name) ls ≡ Some t → is_done t ≡ true → AreOfValue (status r name ∷ ls)
behind_status r name [] t n e d = absurd (let k : begun r name ≡ t = cc in let j : is_done (begun r name) ≡ true = ap is_done k ∙ d in cc)
behind_status r name (opening q other ∷ ls) t n e d =
    let x = next (begun r name) (opening q other) ls t e in
    let g = guard_both _ _ _ x.1 in
    let a = and_parts (is_text_name other) _ g.0 in
    let b = and_parts (bool_eq r q) (bytes_eq name other) a.1 in
    let form = (bool_eq_decides r q).0 b.0 in
    let same = (bytes_eq-Decides name other).0 b.1 in
    let y = behind_opening r name ls t n (ap (λ (u : State). run u ls) g.1 ∙ x.2) d in
    subst (λ (l : Line). AreOfValue (status r name ∷ l ∷ ls)) (ap₂ opening form same) y
behind_status r name (l ∷ ls) t n e d = absurd cc

-- lines that run to the end are those of a printable value
of_lines : (ls : List Line) → AreLines ls → AreOfValue ls
of_lines ls a = by ls a.last a.runs a.ended
  where
    by : (ms : List Line) (t : State) → run nothing ms ≡ Some t → is_done t ≡ true → AreOfValue ms
    by [] t e d = absurd (let k : nothing ≡ t = cc in let j : is_done nothing ≡ true = ap is_done k ∙ d in cc)
    by (status r name ∷ ms) t e d =
        let x = next nothing (status r name) ms t e in
        let g = guard_both _ _ _ x.1 in
        behind_status r name ms t g.0 (ap (λ (u : State). run u ms) g.1 ∙ x.2) d
    by (l ∷ ms) t e d = absurd cc

-- what the machine takes is the text of a printable value, and back
pub text_of_value : (text : List ℕ) → IsText text → IsCertificateText text
text_of_value text h =
    let v = of_lines h.0 h.1 in
    record { format = v.format; name = v.name; value = v.value; name_is = v.name_is; printable = printable v.format v.value v.known v.printable; is = h.2 ∙ ap text_of_lines v.are ∙ sym (text_is v.format v.name v.value) }

pub value_is_taken : (text : List ℕ) → IsCertificateText text → IsText text
value_is_taken text h =
    (lines_of h.format h.name h.value, are_lines h.format h.name h.value h.name_is h.printable.known (writable h.value h.printable.parts h.printable.numbers), h.is ∙ text_is h.format h.name h.value)

front_of_value : (k : ℕ) (text : List ℕ) → IsFront IsText k text → IsFront IsCertificateText k text
front_of_value k text f = record { other = f.other; is_text = text_of_value f.other f.is_text; front = f.front; here = f.here; there = f.there }

front_is_taken : (k : ℕ) (text : List ℕ) → IsFront IsCertificateText k text → IsFront IsText k text
front_is_taken k text f = record { other = f.other; is_text = value_is_taken f.other f.is_text; front = f.front; here = f.here; there = f.there }

-- ---- what a reader cites at each of its exits

abbrev Runs : List Line → State → Type 0
Runs ls s = run nothing ls ≡ Some s

-- where no line that may follow is at the front of what is left, the next line is the first bad one
pub bad_line : (ls : List Line) (s : State) (text x : List ℕ) → Runs ls s → text ≡ text_of_lines ls ++ x → ((l : Line) (u : State) (y : List ℕ) → step s l ≡ Some u → x ≢ line_text l ++ y) → IsBadLine IsCertificateText (suc (length ls)) text
bad_line ls s text x h is bad =
    let b = machines.bad_line line_text step is_done nothing exact ls s text x h is bad in
    record { bad = λ f. b.bad (front_is_taken _ text f); least = λ k less. front_of_value k text (b.least k less) }

pub not_taken : (ls : List Line) (s : State) (text x : List ℕ) → Runs ls s → text ≡ text_of_lines ls ++ x → ((l : Line) (u : State) (y : List ℕ) → step s l ≡ Some u → x ≢ line_text l ++ y) → ¬ ((is_done s ≡ true) × (x ≡ [])) → ¬ IsCertificateText text
not_taken ls s text x h is bad open_ taken = machines.not_taken line_text step is_done nothing exact ls s text x h is bad open_ (value_is_taken text taken)

-- Lines of which each may follow those before it begin a certificate.
pub begins : (ls : List Line) (s : State) → Runs ls s → BeginCertificate ls
begins ls s h =
    let c = exact.completes ls s h in
    let a : AreLines (ls ++ c.0) = record { last = c.1.last; runs = machines.run_more line_text step is_done nothing exact ls c.0 nothing s h ∙ c.1.runs; ended = c.1.ended } in
    let v = of_lines (ls ++ c.0) a in
    record { format = v.format; name = v.name; value = v.value; name_is = v.name_is; printable = printable v.format v.value v.known v.printable; more = c.0; are = sym v.are }

-- and where lines begin a certificate, each may follow those before it
pub runs_of : (ls : List Line) → BeginCertificate ls → (s : State) × Runs ls s
runs_of ls b =
    let a = are_lines b.format b.name b.value b.name_is b.printable.known (writable b.value b.printable.parts b.printable.numbers) in
    front ls b.more nothing a.last (subst (λ (ms : List Line). run nothing ms ≡ Some a.last) b.are a.runs)
  where
    front : (ms more : List Line) (s t : State) → run s (ms ++ more) ≡ Some t → (u : State) × (run s ms ≡ Some u)
    front [] more s t e = (s, refl)
    front (m ∷ ms) more s t e =
        let x = next s m (ms ++ more) t e in
        let y = front ms more x.0 t x.2 in
        (y.0, ap (option_and_then (λ (u : State). run u ms)) x.1 ∙ y.1)

-- no text has another one in front of more
pub no_more : (text rest : List ℕ) → IsCertificateText text → IsCertificateText (text ++ rest) → rest ≡ []
no_more text [] h k = refl
no_more text (b ∷ bs) h k =
    let t = value_is_taken text h in
    absurd (not_taken t.0 t.1.last (text ++ b ∷ bs) (b ∷ bs) t.1.runs (ap (λ (x : List ℕ). x ++ b ∷ bs) t.2)
    (machines.behind_end line_text step is_done nothing exact t.1.last (b ∷ bs) t.1.ended) (λ e. (let z = e.1 in cc)) k)
