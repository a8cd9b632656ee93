-- Annotations: what is read is spelled so, and what is spelled so is read.
use Rattle.std.proofs.Common.{◌≡◌, ℕ, zero, suc, ◌+◌, ◌≤◌, max, true, false, cond, List, [], ◌∷◌, length, Some, None, refl, sym, ap, subst, ◌∙◌, inl, inr, arith}
use Rattle.std.specs.Prelude.{◌&&◌}
use Rattle.tptp_read.specs.Stream.{Tok}
use Rattle.tptp_read.specs.Lexemes.{mark, is_head, is_plain}
use Rattle.tptp_read.specs.Grammar.{General, thing, pair, empty, filled, Thing, token, call, Generals, ended, also, general, thing_text, generals, general_fits, thing_fits, generals_fit}
use Rattle.tptp_read.specs.Parse.{◌>>=◌, Reads, begins_with, behind, many_at}
use Rattle.tptp_read.specs.ParseGeneral.{generals_of, listing_with, thing_with, general_with, general_at}
use Rattle.tptp_read.proofs.ParseLaws.{both_true, and_both, and_false, bind_some, chosen, some_is, begins_is}
use Rattle.tptp_read.proofs.ClauseLaws.{plain_is_no_mark, head_is_no_mark}
use Rattle.tptp_read.proofs.ManyLaws.{spell_all, all_fit, spelled_many, AllAgain, many_again}

all_spelled : (gs : List General) (rest : List Tok) → spell_all 44 general general_fits gs rest ≡ generals (generals_of gs) rest
all_spelled [] rest = refl
all_spelled (g ∷ gs) rest = ap (λ us. mark 44 ∷ general g us) (all_spelled gs rest)

all_general_fit : (gs : List General) → all_fit 44 general general_fits gs ≡ generals_fit (generals_of gs)
all_general_fit [] = refl
all_general_fit (g ∷ gs) = ap (λ b. general_fits g && b) (all_general_fit gs)

abbrev pub IsGeneralAnd : List Tok → General × List Tok → Type 0
IsGeneralAnd ts z = (ts ≡ general z.0 z.1) × (general_fits z.0 ≡ true)

abbrev pub IsListingAnd : ℕ → List Tok → (General × Generals) × List Tok → Type 0
IsListingAnd c ts z = (ts ≡ general z.0.0 (generals z.0.1 (mark c ∷ z.1))) × ((general_fits z.0.0 && generals_fit z.0.1) ≡ true)

abbrev pub IsThingAnd : List Tok → Thing × List Tok → Type 0
IsThingAnd ts z = (ts ≡ thing_text z.0 z.1) × (thing_fits z.0 ≡ true)

abbrev pub IsGeneralReader : Reads General → Type 0
IsGeneralReader p = (ts : List Tok) (z : General × List Tok) → p ts ≡ Some z → IsGeneralAnd ts z

abbrev listed_as : General → Generals → List Tok → (General × Generals) × List Tok
listed_as g gs rest = ((g, gs), rest)

pub listing_spelled : (p : Reads General) → IsGeneralReader p → (c : ℕ) (ts : List Tok) (z : (General × Generals) × List Tok) → listing_with p c ts ≡ Some z → IsListingAnd c ts z
unfolding listing_with
listing_spelled p exact c ts z e =
    let a = bind_some (p ts) (λ g. many_at 44 p (length g.1) g.1 >>= λ gs. cond (begins_with c gs.1) (Some (listed_as g.0 (generals_of gs.0) (behind gs.1))) None) z e in
    let b = bind_some (many_at 44 p (length a.0.1) a.0.1) (λ gs. cond (begins_with c gs.1) (Some (listed_as a.0.0 (generals_of gs.0) (behind gs.1))) None) z a.2 in
    let first = exact ts a.0 a.1 in
    let others = spelled_many 44 general general_fits p exact (length a.0.1) a.0.1 b.0 b.1 in
    elim (chosen (begins_with c b.0.1) (Some (listed_as a.0.0 (generals_of b.0.0) (behind b.0.1))) None (Some z) b.2) [
      | inl v ↦
          let inside = others.0 ∙ all_spelled b.0.0 b.0.1 ∙ ap (λ us. generals (generals_of b.0.0) us) (begins_is c b.0.1 v.0) in
          subst (IsListingAnd c ts) (some_is (listed_as a.0.0 (generals_of b.0.0) (behind b.0.1)) z v.1)
          (first.0 ∙ ap (λ us. general a.0.0 us) inside, and_both (general_fits a.0.0) (generals_fit (generals_of b.0.0)) first.1 (sym (all_general_fit b.0.0) ∙ others.1))
      | inr v ↦ absurd cc
    ]

pub thing_spelled : (p : Reads General) → IsGeneralReader p → (ts : List Tok) (z : Thing × List Tok) → thing_with p ts ≡ Some z → IsThingAnd ts z
unfolding thing_with
thing_spelled p exact [] z e = absurd cc
thing_spelled p exact (t ∷ ts) z e =
    elim (chosen (is_head t.kind && begins_with 40 ts) (listing_with p 41 (behind ts) >>= λ l. Some (call t l.0.0 l.0.1, l.1)) (cond (is_plain t.kind) (Some (token t, ts)) None) (Some z) e) [
      | inl w ↦
          let both = both_true (is_head t.kind) (begins_with 40 ts) w.0 in
          let a = bind_some (listing_with p 41 (behind ts)) (λ l. Some (call t l.0.0 l.0.1, l.1)) z w.1 in
          let inner = listing_spelled p exact 41 (behind ts) a.0 a.1 in
          subst (IsThingAnd (t ∷ ts)) (some_is (call t a.0.0.0 a.0.0.1, a.0.1) z a.2)
          (ap (λ us. t ∷ us) (begins_is 40 ts both.1 ∙ ap (λ us. mark 40 ∷ us) inner.0), and_both (is_head t.kind) (general_fits a.0.0.0 && generals_fit a.0.0.1) both.0 inner.1)
      | inr w ↦ elim (chosen (is_plain t.kind) (Some (token t, ts)) None (Some z) w.1) [
        | inl v ↦ subst (IsThingAnd (t ∷ ts)) (some_is (token t, ts) z v.1) (refl, v.0)
        | inr v ↦ absurd cc
      ]
    ]

general_spelled_with : (p : Reads General) → IsGeneralReader p → IsGeneralReader (general_with p)
unfolding general_with
general_spelled_with p exact ts z e =
    elim (chosen (begins_with 91 ts) (cond (begins_with 93 (behind ts)) (Some (empty, behind (behind ts))) (listing_with p 93 (behind ts) >>= λ l. Some (filled l.0.0 l.0.1, l.1))) (thing_with p ts >>= λ t. cond (begins_with 58 t.1) (p (behind t.1) >>= λ g. Some (pair t.0 g.0, g.1)) (Some (thing t.0, t.1))) (Some z) e) [
      | inl w ↦ elim (chosen (begins_with 93 (behind ts)) (Some (empty, behind (behind ts))) (listing_with p 93 (behind ts) >>= λ l. Some (filled l.0.0 l.0.1, l.1)) (Some z) w.1) [
        | inl v ↦ subst (IsGeneralAnd ts) (some_is (empty, behind (behind ts)) z v.1) (begins_is 91 ts w.0 ∙ ap (λ us. mark 91 ∷ us) (begins_is 93 (behind ts) v.0), refl)
        | inr v ↦
            let a = bind_some (listing_with p 93 (behind ts)) (λ l. Some (filled l.0.0 l.0.1, l.1)) z v.1 in
            let inner = listing_spelled p exact 93 (behind ts) a.0 a.1 in
            subst (IsGeneralAnd ts) (some_is (filled a.0.0.0 a.0.0.1, a.0.1) z a.2) (begins_is 91 ts w.0 ∙ ap (λ us. mark 91 ∷ us) inner.0, inner.1)
      ]
      | inr w ↦
          let a = bind_some (thing_with p ts) (λ t. cond (begins_with 58 t.1) (p (behind t.1) >>= λ g. Some (pair t.0 g.0, g.1)) (Some (thing t.0, t.1))) z w.1 in
          let left = thing_spelled p exact ts a.0 a.1 in
          elim (chosen (begins_with 58 a.0.1) (p (behind a.0.1) >>= λ g. Some (pair a.0.0 g.0, g.1)) (Some (thing a.0.0, a.0.1)) (Some z) a.2) [
            | inl v ↦
                let b = bind_some (p (behind a.0.1)) (λ g. Some (pair a.0.0 g.0, g.1)) z v.1 in
                let right = exact (behind a.0.1) b.0 b.1 in
                subst (IsGeneralAnd ts) (some_is (pair a.0.0 b.0.0, b.0.1) z b.2) (left.0 ∙ ap (λ us. thing_text a.0.0 us) (begins_is 58 a.0.1 v.0 ∙ ap (λ us. mark 58 ∷ us) right.0), and_both (thing_fits a.0.0) (general_fits b.0.0) left.1 right.1)
            | inr v ↦ subst (IsGeneralAnd ts) (some_is (thing a.0.0, a.0.1) z v.1) left
          ]
    ]

pub general_spelled : (d : ℕ) → IsGeneralReader (general_at d)
unfolding general_at
general_spelled zero ts z e = general_spelled_with (λ us. None) (λ us y h. absurd cc) ts z e
general_spelled (suc d) ts z e = general_spelled_with (general_at d) (general_spelled d) ts z e

-- ---- what is spelled so is read

abbrev mutual
  pub general_depth : General → ℕ
  general_depth (thing t) = thing_depth t
  general_depth (pair t g) = max (thing_depth t) (general_depth g + 1)
  general_depth empty = 0
  general_depth (filled g gs) = max (general_depth g) (generals_depth gs) + 1

  pub thing_depth : Thing → ℕ
  thing_depth (token t) = 0
  thing_depth (call f g gs) = max (general_depth g) (generals_depth gs) + 1

  pub generals_depth : Generals → ℕ
  generals_depth ended = 0
  generals_depth (also g gs) = max (general_depth g) (generals_depth gs)

-- what may follow a general term
pub record Goes (rest : List Tok) : Type 0 where
  pub opens : begins_with 40 rest ≡ false
  pub colon : begins_with 58 rest ≡ false

abbrev pub after_comma : (r : List Tok) → Goes (mark 44 ∷ r)
after_comma r = record { opens = refl; colon = refl }

abbrev pub listed_generals : Generals → List General
listed_generals ended = []
listed_generals (also g gs) = g ∷ listed_generals gs

generals_listed : (gs : Generals) → generals_of (listed_generals gs) ≡ gs
generals_listed ended = refl
generals_listed (also g gs) = ap (λ hs. also g hs) (generals_listed gs)

generals_spelled : (gs : Generals) (rest : List Tok) → spell_all 44 general general_fits (listed_generals gs) rest ≡ generals gs rest
generals_spelled ended rest = refl
generals_spelled (also g gs) rest = ap (λ us. mark 44 ∷ general g us) (generals_spelled gs rest)

mutual
  pub general_len : (g : General) (rest : List Tok) → length rest + general_depth g ≤ length (general g rest)
  general_len (thing t) rest = omega (arith, thing_len t rest)
  general_len (pair t g) rest = omega (arith, thing_len t (mark 58 ∷ general g rest), general_len g rest)
  general_len empty rest = omega arith
  general_len (filled g gs) rest = omega (arith, general_len g (generals gs (mark 93 ∷ rest)), generals_len gs (mark 93 ∷ rest), generals_many gs (mark 93 ∷ rest))

  pub thing_len : (t : Thing) (rest : List Tok) → length rest + thing_depth t ≤ length (thing_text t rest)
  thing_len (token t) rest = omega arith
  thing_len (call f g gs) rest = omega (arith, general_len g (generals gs (mark 41 ∷ rest)), generals_len gs (mark 41 ∷ rest), generals_many gs (mark 41 ∷ rest))

  pub generals_len : (gs : Generals) (rest : List Tok) → length rest + generals_depth gs ≤ length (generals gs rest)
  generals_len ended rest = omega arith
  generals_len (also g gs) rest = omega (arith, general_len g (generals gs rest), generals_len gs rest)

  pub generals_many : (gs : Generals) (rest : List Tok) → length rest + length (listed_generals gs) ≤ length (generals gs rest)
  generals_many ended rest = omega arith
  generals_many (also g gs) rest = omega (arith, general_len g (generals gs rest), generals_many gs rest)

listing_again : (p : Reads General) (c : ℕ) (g : General) (gs : Generals) (rest : List Tok) → begins_with c (mark c ∷ rest) ≡ true → p (general g (generals gs (mark c ∷ rest))) ≡ Some (g, generals gs (mark c ∷ rest))
    → many_at 44 p (length (generals gs (mark c ∷ rest))) (generals gs (mark c ∷ rest)) ≡ Some (listed_generals gs, mark c ∷ rest) → listing_with p c (general g (generals gs (mark c ∷ rest))) ≡ Some (listed_as g gs rest)
unfolding listing_with
listing_again p c g gs rest shut first others = rw (first, others, shut, generals_listed gs) refl

token_again : (p : Reads General) (t : Tok) (rest : List Tok) → is_plain t.kind ≡ true → begins_with 40 rest ≡ false → thing_with p (t ∷ rest) ≡ Some (token t, rest)
unfolding thing_with
token_again p t rest fits follows = rw (and_false (is_head t.kind) (begins_with 40 rest) follows, fits) refl

call_again : (p : Reads General) (f : Tok) (g : General) (gs : Generals) (rest : List Tok) → is_head f.kind ≡ true → listing_with p 41 (general g (generals gs (mark 41 ∷ rest))) ≡ Some (listed_as g gs rest) → thing_with p (thing_text (call f g gs) rest) ≡ Some (call f g gs, rest)
unfolding thing_with
call_again p f g gs rest head e = rw (head, e) refl

no_bracket : (b : ℕ) (t : Thing) (rest : List Tok) → thing_fits t ≡ true → begins_with b (thing_text t rest) ≡ false
no_bracket b (token t) rest fits = rw (plain_is_no_mark t.kind fits) refl
no_bracket b (call f g gs) rest fits = rw (head_is_no_mark f.kind (both_true (is_head f.kind) (general_fits g && generals_fit gs) fits).0) refl

pub no_close : (g : General) (rest : List Tok) → general_fits g ≡ true → begins_with 93 (general g rest) ≡ false
no_close (thing t) rest fits = no_bracket 93 t rest fits
no_close (pair t g) rest fits = no_bracket 93 t (mark 58 ∷ general g rest) (both_true (thing_fits t) (general_fits g) fits).0
no_close empty rest fits = refl
no_close (filled g gs) rest fits = refl

thing_alone : (p : Reads General) (t : Thing) (rest : List Tok) → thing_fits t ≡ true → begins_with 58 rest ≡ false → thing_with p (thing_text t rest) ≡ Some (t, rest) → general_with p (thing_text t rest) ≡ Some (thing t, rest)
unfolding general_with
thing_alone p t rest fits colon e = rw (no_bracket 91 t rest fits, e, colon) refl

pair_again : (p : Reads General) (t : Thing) (g : General) (rest : List Tok) → thing_fits t ≡ true → thing_with p (thing_text t (mark 58 ∷ general g rest)) ≡ Some (t, mark 58 ∷ general g rest) → p (general g rest) ≡ Some (g, rest) → general_with p (general (pair t g) rest) ≡ Some (pair t g, rest)
unfolding general_with
pair_again p t g rest fits e h = rw (no_bracket 91 t (mark 58 ∷ general g rest) fits, e, h) refl

empty_again : (p : Reads General) (rest : List Tok) → general_with p (general empty rest) ≡ Some (empty, rest)
unfolding general_with
empty_again p rest = refl

filled_again : (p : Reads General) (g : General) (gs : Generals) (rest : List Tok) → general_fits g ≡ true → listing_with p 93 (general g (generals gs (mark 93 ∷ rest))) ≡ Some (listed_as g gs rest) → general_with p (general (filled g gs) rest) ≡ Some (filled g gs, rest)
unfolding general_with
filled_again p g gs rest fits e = rw (no_close g (generals gs (mark 93 ∷ rest)) fits, e) refl

goes_all : (gs : Generals) (rest : List Tok) → Goes rest → Goes (generals gs rest)
goes_all ended rest f = f
goes_all (also g gs) rest f = after_comma (general g (generals gs rest))

abbrev pub AllGeneralsAgain : Reads General → List General → Type 0
AllGeneralsAgain p gs = AllAgain 44 general general_fits Goes after_comma (λ r. refl) p gs

pub listing_at : (p : Reads General) (c : ℕ) (g : General) (gs : Generals) (rest : List Tok) → begins_with c (mark c ∷ rest) ≡ true → begins_with 44 (mark c ∷ rest) ≡ false → Goes (mark c ∷ rest)
    → ((r : List Tok) → Goes r → p (general g r) ≡ Some (g, r)) → AllGeneralsAgain p (listed_generals gs) → listing_with p c (general g (generals gs (mark c ∷ rest))) ≡ Some (listed_as g gs rest)
listing_at p c g gs rest shut other goes first all =
    let us = generals gs (mark c ∷ rest) in
    let many = many_again 44 general general_fits Goes after_comma (λ r. refl) p (length us) (listed_generals gs) (mark c ∷ rest) goes other (omega (arith, generals_many gs (mark c ∷ rest))) all in
    listing_again p c g gs rest shut (first us (goes_all gs (mark c ∷ rest) goes))
    (subst (λ (vs : List Tok). many_at 44 p (length us) vs ≡ Some (listed_generals gs, mark c ∷ rest)) (generals_spelled gs (mark c ∷ rest)) many)

mutual
  unfolding general_at

  pub general_again : (g : General) (m : ℕ) (rest : List Tok) → Goes rest → general_fits g ≡ true → general_depth g ≤ m → general_at m (general g rest) ≡ Some (g, rest)
  general_again (thing (token t)) zero rest f fits le = thing_alone (λ us. None) (token t) rest fits f.colon (token_again (λ us. None) t rest fits f.opens)
  general_again (thing (call h g gs)) zero rest f fits le = absurd (omega arith)
  general_again (thing t) (suc m) rest f fits le = thing_alone (general_at m) t rest fits f.colon (thing_again t m rest f.opens fits le)
  general_again (pair t g) zero rest f fits le = absurd (omega arith)
  general_again (pair t g) (suc m) rest f fits le =
      let b = both_true (thing_fits t) (general_fits g) fits in
      pair_again (general_at m) t g rest b.0 (thing_again t m (mark 58 ∷ general g rest) refl b.0 (omega arith)) (general_again g m rest f b.1 (omega arith))
  general_again empty zero rest f fits le = empty_again (λ us. None) rest
  general_again empty (suc m) rest f fits le = empty_again (general_at m) rest
  general_again (filled g gs) zero rest f fits le = absurd (omega arith)
  general_again (filled g gs) (suc m) rest f fits le =
      let b = both_true (general_fits g) (generals_fit gs) fits in
      filled_again (general_at m) g gs rest b.0 (listing_at (general_at m) 93 g gs rest refl refl (record { opens = refl; colon = refl }) (λ r goes. general_again g m r goes b.0 (omega arith)) (generals_again gs m b.1 (omega arith)))

  thing_again : (t : Thing) (m : ℕ) (rest : List Tok) → begins_with 40 rest ≡ false → thing_fits t ≡ true → thing_depth t ≤ suc m → thing_with (general_at m) (thing_text t rest) ≡ Some (t, rest)
  thing_again (token t) m rest opens fits le = token_again (general_at m) t rest fits opens
  thing_again (call h g gs) m rest opens fits le =
      let b = both_true (is_head h.kind) (general_fits g && generals_fit gs) fits in
      let b' = both_true (general_fits g) (generals_fit gs) b.1 in
      call_again (general_at m) h g gs rest b.0 (listing_at (general_at m) 41 g gs rest refl refl (record { opens = refl; colon = refl }) (λ r goes. general_again g m r goes b'.0 (omega arith)) (generals_again gs m b'.1 (omega arith)))

  pub generals_again : (gs : Generals) (m : ℕ) → generals_fit gs ≡ true → generals_depth gs ≤ m → AllGeneralsAgain (general_at m) (listed_generals gs)
  generals_again ended m fits le = tt
  generals_again (also g gs) m fits le =
      let b = both_true (general_fits g) (generals_fit gs) fits in
      (λ r goes. general_again g m r goes b.0 (omega arith), generals_again gs m b.1 (omega arith))
