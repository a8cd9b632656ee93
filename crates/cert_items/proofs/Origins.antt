-- One text, one origin.
use Rattle.std.proofs.Common.{◌≡◌, ◌≢◌, ℕ, ◌^◌, ◌<◌, true, false, List, [], ◌∷◌, ◌++◌, refl, sym, ap, ◌∙◌}
use Rattle.std.specs.Prelude.{decimal, codes, nat_eq}
use Rattle.std.specs.Char.{is_ascii_digit}
use Rattle.std.specs.List.{list_all}
use Rattle.std.proofs.lemmas.Bool.{and_parts}
use Rattle.inst_calculus.specs.Entries.{input, inst, lemma}
use Rattle.cert_format.specs.LineMachine.{is_number, fits_origin}
use Rattle.cert_format.specs.LineTexts.{numbers, origin_is_printable}
use Rattle.cert_format.proofs.LineNotes.{behind_front, below, at_two, number_lists_once}
use Rattle.cert_items.specs.declared.origin.Instance.{Instance}
use Rattle.cert_items.specs.Notes.{NoOrigin, instance_text, InstanceFits, lists_text, ListsFit}
use Rattle.cert_items.specs.NumberTexts.{HasNumbers, NoNumbers}
use Rattle.cert_items.proofs.Marked.{pair_once}

-- ---- the numbers of an instance

abbrev instance_by : ℕ → ℕ → ℕ → ℕ → Instance
instance_by a p b q = record { from = a; place = p; partner = b; other = q }

pub instance_once : (i j : Instance) (b : ℕ) (x y : List ℕ) → InstanceFits i → InstanceFits j → is_ascii_digit b ≡ false → instance_text i (b ∷ x) ≡ instance_text j (b ∷ y) → x ≡ y
instance_once i j b x y h g d e =
    let r = pair_once i.from i.place j.from j.place 44 _ _ h.from h.place g.from g.place refl e in
    pair_once i.partner i.other j.partner j.other b x y h.partner h.other g.partner g.other d (behind_front (109 ∷ []) _ _ r)

-- behind the first two numbers there is no second member
pub no_partner : (a p b : ℕ) (bytes after : List ℕ) → bytes ≡ decimal a ++ 44 ∷ (decimal p ++ 44 ∷ after) → a < 2 ^ 64 → p < 2 ^ 64 → ((x : List ℕ) → after ≢ 109 ∷ x) → (i : Instance) (rest : List ℕ) → InstanceFits i → bytes ≢ instance_text i (b ∷ rest)
no_partner a p b bytes after is h k bad i rest g e = bad _ (pair_once a p i.from i.place 44 after _ h k g.from g.place refl (sym is ∙ e))

pub no_other : (a p b : ℕ) (bytes after second : List ℕ) → bytes ≡ decimal a ++ 44 ∷ (decimal p ++ 44 ∷ after) → a < 2 ^ 64 → p < 2 ^ 64 → after ≡ 109 ∷ second
    → ((m n : ℕ) (x : List ℕ) → m < 2 ^ 64 → n < 2 ^ 64 → second ≢ decimal m ++ 44 ∷ (decimal n ++ b ∷ x)) → (i : Instance) (rest : List ℕ) → InstanceFits i → bytes ≢ instance_text i (b ∷ rest)
no_other a p b bytes after second is h k at bad i rest g e =
    let r = pair_once a p i.from i.place 44 after _ h k g.from g.place refl (sym is ∙ e) in
    bad i.partner i.other rest g.partner g.other (behind_front (109 ∷ []) _ _ (sym at ∙ r))

-- ---- the two lists of a part

keep_once : (bytes first ks between : List ℕ) → bytes ≡ 91 ∷ first → HasNumbers [] ks true first between → (keep premises rest : List ℕ) → ListsFit keep premises → bytes ≡ lists_text keep premises rest
    → between ≡ 44 ∷ 91 ∷ numbers (109 ∷ []) premises (41 ∷ rest)
keep_once bytes first ks between is h keep premises rest g e = (number_lists_once [] refl ks keep between _ h.fit g.keep (sym h.is ∙ behind_front (91 ∷ []) _ _ (sym is ∙ e))).1

pub no_between : (bytes first ks between : List ℕ) → bytes ≡ 91 ∷ first → HasNumbers [] ks true first between → ((x : List ℕ) → between ≢ 44 ∷ 91 ∷ x) → (keep premises rest : List ℕ) → ListsFit keep premises → bytes ≢ lists_text keep premises rest
no_between bytes first ks between is h bad keep premises rest g e = bad _ (keep_once bytes first ks between is h keep premises rest g e)

pub no_premises : (bytes first ks between second : List ℕ) → bytes ≡ 91 ∷ first → HasNumbers [] ks true first between → between ≡ 44 ∷ 91 ∷ second → NoNumbers (109 ∷ []) second
    → (keep premises rest : List ℕ) → ListsFit keep premises → bytes ≢ lists_text keep premises rest
no_premises bytes first ks between second is h at bad keep premises rest g e = bad premises _ g.premises (behind_front (44 ∷ 91 ∷ []) _ _ (sym at ∙ keep_once bytes first ks between is h keep premises rest g e))

pub no_close : (bytes first ks between second ps behind : List ℕ) → bytes ≡ 91 ∷ first → HasNumbers [] ks true first between → between ≡ 44 ∷ 91 ∷ second → HasNumbers (109 ∷ []) ps true second behind → ((x : List ℕ) → behind ≢ 41 ∷ x)
    → (keep premises rest : List ℕ) → ListsFit keep premises → bytes ≢ lists_text keep premises rest
no_close bytes first ks between second ps behind is h at k bad keep premises rest g e =
    bad rest (number_lists_once (109 ∷ []) refl ps premises behind (41 ∷ rest) k.fit g.premises (sym k.is ∙ behind_front (44 ∷ 91 ∷ []) _ _ (sym at ∙ keep_once bytes first ks between is h keep premises rest g e))).1

-- ---- the three kinds

-- the numbers of an origin fit
pub instance_fits : (a p b q : ℕ) → origin_is_printable (inst a p b q) ≡ true → InstanceFits (instance_by a p b q)
instance_fits a p b q h =
    let x = and_parts (is_number a) _ h in
    let y = and_parts (is_number p) _ x.1 in
    let z = and_parts (is_number b) _ y.1 in
    record { from = below a x.0; place = below p y.0; partner = below b z.0; other = below q z.1 }

pub lemma_fits : (a p b q : ℕ) (ks ds : List ℕ) → origin_is_printable (lemma a p b q ks ds) ≡ true → InstanceFits (instance_by a p b q) × ListsFit ks ds
lemma_fits a p b q ks ds h =
    let x = and_parts (is_number a) _ h in
    let y = and_parts (is_number p) _ x.1 in
    let z = and_parts (is_number b) _ y.1 in
    let w = and_parts (is_number q) _ z.1 in
    let v = and_parts (list_all is_number ks) (list_all is_number ds) w.1 in
    (record { from = below a x.0; place = below p y.0; partner = below b z.0; other = below q w.0 }, record { keep = v.0; premises = v.1 })

pub no_inst : (format : ℕ) (after : List ℕ) → ((i : Instance) (rest : List ℕ) → InstanceFits i → after ≢ instance_text i (41 ∷ rest)) → NoOrigin format (codes "inst(m" ++ after)
no_inst format after bad (input k) rest h f e = let k = ap (λ (xs : List ℕ). nat_eq (at_two xs) 112) e in cc
no_inst format after bad (inst a p b q) rest h f e = bad (instance_by a p b q) rest (instance_fits a p b q h) (behind_front (codes "inst(m") _ _ e)
no_inst format after bad (lemma a p b q ks ds) rest h f e = let k = ap (λ (xs : List ℕ). nat_eq (at_two xs) 109) e in cc

pub no_lemma : (format : ℕ) (after : List ℕ) → ((i : Instance) (ks ds rest : List ℕ) → InstanceFits i → ListsFit ks ds → fits_origin format (lemma i.from i.place i.partner i.other ks ds) ≡ true → after ≢ instance_text i (44 ∷ lists_text ks ds rest)) → NoOrigin format (codes "lemma(m" ++ after)
no_lemma format after bad (input k) rest h f e = let k = ap (λ (xs : List ℕ). nat_eq (at_two xs) 109) e in cc
no_lemma format after bad (inst a p b q) rest h f e = let k = ap (λ (xs : List ℕ). nat_eq (at_two xs) 109) e in cc
no_lemma format after bad (lemma a p b q ks ds) rest h f e = let g = lemma_fits a p b q ks ds h in bad (instance_by a p b q) ks ds rest g.0 g.1 f (behind_front (codes "lemma(m") _ _ e)
