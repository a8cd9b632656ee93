-- Hints are read one by one.
use Rattle.std.proofs.Common.{◌≡◌, ◌≢◌, ℕ, Bool, true, false, List, [], ◌∷◌, ◌++◌, map, refl, sym, ap, ◌∙◌}
use Rattle.std.specs.Prelude.{nat_eq}
use Rattle.std.specs.List.{list_all}
use Rattle.std.specs.Char.{is_ascii_digit}
use Rattle.std.proofs.lemmas.List.Folds.{list_all-append}
use Rattle.std.proofs.lemmas.List.{map-append}
use Rattle.inst_calculus.specs.Steps.{Cited}
use Rattle.cert_format.specs.Runs.{begins, Ends}
use Rattle.cert_format.specs.LineTexts.{hint, more_hints, hints, hint_is_printable}
use Rattle.cert_items.specs.HintTexts.{hint_end, before_hints, read_hints, HasHints, NoHintHead, NoHints}
use Rattle.cert_values.specs.declared.certificate.GroundHint.{GroundHint}
use Rattle.cert_values.specs.Values.{hint_of}
use Rattle.std.proofs.lemmas.Bool.{and_parts, and_from}
use Rattle.cert_format.proofs.LineNotes.{behind_front, hint_once, more_ends}

-- ---- one hint

-- ---- what follows

more_ended : (hs : List Cited) (rest : List ℕ) → (e : Bool) × (x : List ℕ) × (more_hints hs rest ≡ hint_end e x)
more_ended [] rest = (true, rest, refl)
more_ended (h ∷ hs) rest = (false, hint h (more_hints hs rest), refl)

pub no_item : (bytes : List ℕ) → ((h : Cited) (rest : List ℕ) → hint_is_printable h ≡ true → Ends is_ascii_digit rest → bytes ≢ hint h rest) → NoHintHead bytes
no_item bytes bad h hs after p q e = bad h (more_hints hs after) p (more_ends hs after) e

pub no_end : (bytes after : List ℕ) (g : Cited) → bytes ≡ hint g after → hint_is_printable g ≡ true → Ends is_ascii_digit after → ((e : Bool) (x : List ℕ) → after ≢ hint_end e x) → NoHintHead bytes
no_end bytes after g is p ends bad h hs rest q r e =
    let k = hint_once g h after (more_hints hs rest) p q ends (more_ends hs rest) (sym is ∙ e) in
    let m = more_ended hs rest in
    bad m.0 m.1 (k.1 ∙ m.2)

-- ---- the hints so far

hints_push : (hs : List Cited) (h : Cited) (rest : List ℕ) → before_hints (hs ++ h ∷ []) rest ≡ before_hints hs (hint h (44 ∷ rest))
hints_push [] h rest = refl
hints_push (g ∷ hs) h rest = ap (λ (xs : List ℕ). hint g (44 ∷ xs)) (hints_push hs h rest)

more_last : (hs : List Cited) (h : Cited) (rest : List ℕ) → more_hints (hs ++ h ∷ []) rest ≡ 44 ∷ before_hints hs (hint h (93 ∷ 41 ∷ rest))
more_last [] h rest = refl
more_last (g ∷ hs) h rest = ap (λ (xs : List ℕ). 44 ∷ hint g xs) (more_last hs h rest)

hints_last : (hs : List Cited) (h : Cited) (rest : List ℕ) → hints (hs ++ h ∷ []) rest ≡ before_hints hs (hint h (93 ∷ 41 ∷ rest))
hints_last [] h rest = refl
hints_last (g ∷ hs) h rest = ap (hint g) (more_last hs h rest)

read_push : (e : Bool) (hs : List Cited) (h : Cited) (rest : List ℕ) → read_hints e (hs ++ h ∷ []) rest ≡ before_hints hs (hint h (hint_end e rest))
read_push true hs h rest = hints_last hs h rest
read_push false hs h rest = hints_push hs h rest

not_empty : (hs : List GroundHint) (h : GroundHint) → hs ++ h ∷ [] ≢ []
not_empty [] h e = cc
not_empty (g ∷ hs) h e = cc

pub read_hint : (list : List GroundHint) (h : GroundHint) (bytes rest : List ℕ) (e : Bool) (after : List ℕ) → HasHints list false bytes rest → rest ≡ hint (hint_of h) (hint_end e after) → hint_is_printable (hint_of h) ≡ true → HasHints (list ++ h ∷ []) e bytes after
read_hint list h bytes rest e after r is p =
    let m = map-append hint_of list (h ∷ []) in
    record {
      is = r.is ∙ ap (before_hints (map hint_of list)) is ∙ sym (read_push e (map hint_of list) (hint_of h) after) ∙ ap (λ (xs : List Cited). read_hints e xs after) (sym m);
      printable = ap (list_all hint_is_printable) m ∙ list_all-append hint_is_printable (map hint_of list) (hint_of h ∷ []) ∙ and_from (list_all hint_is_printable (map hint_of list)) _ r.printable (and_from (hint_is_printable (hint_of h)) true p refl);
      some = λ _. not_empty list h;
    }

-- what begins behind the hints that have been read
head_by : (done : List Cited) (rest : List ℕ) → list_all hint_is_printable done ≡ true → NoHintHead rest → (h : Cited) (hs : List Cited) (after : List ℕ) → hint_is_printable h ≡ true → list_all hint_is_printable hs ≡ true → before_hints done rest ≢ hint h (more_hints hs after)
head_by [] rest g bad h hs after p q e = bad h hs after p q e
head_by (d ∷ done) rest g bad h hs after p q e =
    let a = and_parts (hint_is_printable d) _ g in
    let k = hint_once d h (44 ∷ before_hints done rest) (more_hints hs after) a.0 p refl (more_ends hs after) e in
    by hs q k.1 (head_by done rest a.1 bad)
  where
    by : (ks : List Cited) → list_all hint_is_printable ks ≡ true → 44 ∷ before_hints done rest ≡ more_hints ks after → ((i : Cited) (is : List Cited) (x : List ℕ) → hint_is_printable i ≡ true → list_all hint_is_printable is ≡ true → before_hints done rest ≢ hint i (more_hints is x)) → ⊥
    by [] r f next = let z = ap (begins (λ (z : ℕ). nat_eq z 44)) f in cc
    by (i ∷ ks) r f next = let b = and_parts (hint_is_printable i) _ r in next i ks after b.0 b.1 (behind_front (44 ∷ []) _ _ f)

pub no_hints : (list : List GroundHint) (bytes rest : List ℕ) → HasHints list false bytes rest → NoHintHead rest → NoHints bytes
no_hints list bytes rest r bad [] after p e = absurd cc
no_hints list bytes rest r bad (h ∷ hs) after p e = let a = and_parts (hint_is_printable h) _ p in head_by (map hint_of list) rest r.printable bad h hs after a.0 a.1 (sym r.is ∙ e)

-- ---- lengths
