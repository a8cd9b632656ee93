-- The first two lines of a text.
use Rattle.std.proofs.Common.{◌≡◌, ℕ, zero, suc, Bool, true, false, cond, List, [], ◌∷◌, ◌++◌, Option, Some, None, refl, sym, ap, ◌∙◌}
use Rattle.std.specs.Prelude.{◌==◌}
use Rattle.std.specs.Option.{option_map}
use Rattle.std.proofs.lemmas.Option.{same_Some}
use Rattle.cert_format.specs.Fronts.{first_lines, IsFront}
use Rattle.cert_format.specs.LineMachine.{Line, status, opening}
use Rattle.cert_format.specs.LineTexts.{line, line_text, is_text_name}
use Rattle.cert_format.proofs.LineNotes.{behind_front, line_more}
use Rattle.cert_format.proofs.WholeLines.{status_is_line, opening_is_line}
use Rattle.cert_reader.specs.Reads.{format_line, IsVersion}
use Rattle.cert_format.proofs.FirstLines.{first_line}

-- ---- the two lines before the format's

abbrev pub two_front : Bool → List ℕ → List ℕ → List ℕ
two_front r n x = line (status r n) (line (opening r n) x)

two_parts : (r : Bool) (n x : List ℕ) → two_front r n x ≡ line_text (status r n) ++ (line_text (opening r n) ++ x)
two_parts r n x = sym (line_more (status r n) [] (line_text (opening r n) ++ x) ∙ ap (line (status r n)) (line_more (opening r n) [] x))

pub two_lines : (r : Bool) (n x : List ℕ) → is_text_name n ≡ true → first_lines 2 (two_front r n x) ≡ Some (two_front r n [])
two_lines r n x h =
    ap (first_lines 2) (two_parts r n x) ∙ first_line 1 (line_text (status r n)) (line_text (opening r n) ++ x) (status_is_line r n h)
    ∙ ap (option_map (λ (ws : List ℕ). line_text (status r n) ++ ws)) (first_line 0 (line_text (opening r n)) x (opening_is_line r n h))
    ∙ ap Some (sym (two_parts r n []))

pub two_more : (r : Bool) (n x : List ℕ) → two_front r n [] ++ x ≡ two_front r n x
two_more r n x = line_more (status r n) (line (opening r n) []) x ∙ ap (line (status r n)) (line_more (opening r n) [] x)

behind_line : (l : Line) (x y : List ℕ) → line l x ≡ line l y → x ≡ y
behind_line l x y e = behind_front (line_text l) x y (line_more l [] x ∙ e ∙ sym (line_more l [] y))

-- the third line of a text of another format
pub version_third : (text : List ℕ) (r : Bool) (n third : List ℕ) → is_text_name n ≡ true → text ≡ two_front r n third → (word : List ℕ) (v : IsVersion text word) → third ≡ format_line word v.rest
version_third text r n third h is word v =
    let F = format_line word v.rest in
    let same = same_Some v.begun.front (two_front r n []) (sym v.begun.here ∙ ap (first_lines 2) is ∙ two_lines r n third h) in
    let e = sym is ∙ v.third ∙ ap (λ (xs : List ℕ). xs ++ F) same ∙ two_more r n F in
    behind_line (opening r n) third F (behind_line (status r n) (line (opening r n) third) (line (opening r n) F) e)

-- ---- one line fewer

mapped : (b : ℕ) (r : Option (List ℕ)) (v : List ℕ) → option_map (λ (ws : List ℕ). b ∷ ws) r ≡ Some v → (u : List ℕ) × (r ≡ Some u) × (b ∷ u ≡ v)
mapped b None v h = absurd cc
mapped b (Some u) v h = (u, refl, cc)

abbrev Fewer : ℕ → List ℕ → List ℕ → Type 0
Fewer n bs w = (v : List ℕ) × (first_lines n bs ≡ Some v) × (first_lines n w ≡ Some v)

fewer : (n : ℕ) (bs w : List ℕ) → first_lines (suc n) bs ≡ Some w → Fewer n bs w
fewer zero bs w h = ([], refl, refl)
fewer (suc n) [] w h = absurd cc
fewer (suc n) (b ∷ bs) w h = by (b == 10) refl (λ u e. fewer n bs u e) (λ u e. fewer (suc n) bs u e)
  where
    by : (t : Bool) → (b == 10) ≡ t → ((u : List ℕ) → first_lines (suc n) bs ≡ Some u → Fewer n bs u) → ((u : List ℕ) → first_lines (suc (suc n)) bs ≡ Some u → Fewer (suc n) bs u) → Fewer (suc n) (b ∷ bs) w
    by true e f g =
        let m = mapped b (first_lines (suc n) bs) w (ap (λ (t : Bool). option_map (λ (ws : List ℕ). b ∷ ws) (first_lines (cond t (suc n) (suc (suc n))) bs)) (sym e) ∙ h) in
        let i = f m.0 m.1 in (
          b ∷ i.0,
          ap (λ (t : Bool). option_map (λ (ws : List ℕ). b ∷ ws) (first_lines (cond t n (suc n)) bs)) e ∙ ap (option_map (λ (ws : List ℕ). b ∷ ws)) i.1,
          ap (first_lines (suc n)) (sym m.2) ∙ ap (λ (t : Bool). option_map (λ (ws : List ℕ). b ∷ ws) (first_lines (cond t n (suc n)) m.0)) e ∙ ap (option_map (λ (ws : List ℕ). b ∷ ws)) i.2,
        )
    by false e f g =
        let m = mapped b (first_lines (suc (suc n)) bs) w (ap (λ (t : Bool). option_map (λ (ws : List ℕ). b ∷ ws) (first_lines (cond t (suc n) (suc (suc n))) bs)) (sym e) ∙ h) in
        let i = g m.0 m.1 in (
          b ∷ i.0,
          ap (λ (t : Bool). option_map (λ (ws : List ℕ). b ∷ ws) (first_lines (cond t n (suc n)) bs)) e ∙ ap (option_map (λ (ws : List ℕ). b ∷ ws)) i.1,
          ap (first_lines (suc n)) (sym m.2) ∙ ap (λ (t : Bool). option_map (λ (ws : List ℕ). b ∷ ws) (first_lines (cond t n (suc n)) m.0)) e ∙ ap (option_map (λ (ws : List ℕ). b ∷ ws)) i.2,
        )

pub fewer_front : (IsText : List ℕ → Type 0) (text : List ℕ) → IsFront IsText 2 text → IsFront IsText 1 text
fewer_front IsText text f =
    let a = fewer 1 text f.front f.here in
    let b = fewer 1 f.other f.front f.there in
    record { other = f.other; is_text = f.is_text; front = a.0; here = a.1; there = b.1 ∙ sym b.2 ∙ a.2 }
