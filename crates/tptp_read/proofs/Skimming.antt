-- Annotations are read token by token.
use Rattle.std.proofs.Common.{◌≡◌, ℕ, zero, suc, ◌+◌, ◌≤◌, ◌<◌, Bool, true, false, cond, List, [], ◌∷◌, length, Option, Some, None, refl, sym, ap, ◌∙◌, arith}
use Rattle.std.specs.Prelude.{◌&&◌}
use Rattle.tptp_read.specs.Stream.{Tok}
use Rattle.tptp_read.specs.Lexemes.{is_head, is_plain}
use Rattle.tptp_read.specs.Grammar.{General, thing, pair, empty, filled, Thing, token, call, Generals}
use Rattle.tptp_read.specs.Parse.{◌>>=◌, Reads, begins_with, behind, many_at}
use Rattle.tptp_read.specs.ParseGeneral.{generals_of, listing_with, thing_with, general_with, general_at}
use Rattle.tptp_read.specs.ParseForm.{expect, note_at}
use Rattle.tptp_read.specs.Skim.{rest_of, after_general, after_thing, after_listing, after_others, after_bracket, after_note}
use Rattle.tptp_read.specs.Grammar.{general, thing_text, generals}
use Rattle.tptp_read.specs.Lexemes.{mark}
use Rattle.tptp_read.specs.Grammar.{Note, unnoted, source, with_empty, with_list}
use Rattle.tptp_read.proofs.FormLaws.{expect_is}
use Rattle.tptp_read.proofs.GeneralLaws.{general_len, generals_len, IsGeneralReader, general_spelled, thing_spelled}

-- a general term takes a token
mutual
  general_some : (g : General) (rest : List Tok) → length rest + 1 ≤ length (general g rest)
  general_some (thing t) rest = thing_some t rest
  general_some (pair t g) rest = omega (arith, thing_some t (mark 58 ∷ general g rest), general_some g rest)
  general_some empty rest = omega arith
  general_some (filled g gs) rest = omega (arith, general_len g (generals gs (mark 93 ∷ rest)), generals_len gs (mark 93 ∷ rest))

  thing_some : (t : Thing) (rest : List Tok) → length rest + 1 ≤ length (thing_text t rest)
  thing_some (token t) rest = omega arith
  thing_some (call f g gs) rest = omega (arith, general_len g (generals gs (mark 41 ∷ rest)), generals_len gs (mark 41 ∷ rest))

shrinks : (p : Reads General) → IsGeneralReader p → (us : List Tok) (z : General × List Tok) → p us ≡ Some z → length z.1 < length us
shrinks p exact us z e = let s = exact us z e in omega (arith, general_some z.0 z.1, ap length s.0)

thing_shrinks : (p : Reads General) → IsGeneralReader p → (us : List Tok) (z : Thing × List Tok) → thing_with p us ≡ Some z → length z.1 < length us
thing_shrinks p exact us z e = let s = thing_spelled p exact us z e in omega (arith, thing_some z.0 z.1, ap length s.0)

-- two ways to read that agree on what is shorter
abbrev Agree : ℕ → Reads General → Reads General → Type 0
Agree n p q = (us : List Tok) → length us < n → p us ≡ q us

abbrev Shrinks : Reads General → Type 0
Shrinks p = IsGeneralReader p

behind_len : (ts : List Tok) → length (behind ts) ≤ length ts
behind_len [] = omega arith
behind_len (t ∷ ts) = omega arith

behind_less : (b : ℕ) (ts : List Tok) → begins_with b ts ≡ true → length (behind ts) < length ts
behind_less b [] e = absurd cc
behind_less b (t ∷ ts) e = omega arith

abbrev Many : Type 0
Many = List General × List Tok

abbrev go : Reads General → ℕ → General × List Tok → Option Many
go p n x = ◌>>=◌ {B = Many} (many_at 44 p n x.1) (λ xs. Some (x.0 ∷ xs.0, xs.1))

on_some : {A B : Type 0} (o : Option A) (f g : A → Option B) → ((x : A) → o ≡ Some x → f x ≡ g x) → (o >>= f) ≡ (o >>= g)
on_some None f g h = refl
on_some (Some x) f g h = h x refl

pick : {A : Type 0} (b : Bool) (x y z : A) → (b ≡ true → x ≡ y) → cond b x z ≡ cond b y z
pick true x y z h = h refl
pick false x y z h = refl

-- enough fuel, and a way that agrees on what is shorter, give the same
many_same : (p q : Reads General) → Shrinks p → (k n m : ℕ) (ts : List Tok) → Agree k p q → length ts ≤ k → length ts ≤ n → length ts ≤ m → many_at 44 p n ts ≡ many_at 44 q m ts
unfolding many_at
many_same p q s k zero zero ts agree lk ln lm = refl
many_same p q s k zero (suc m) [] agree lk ln lm = refl
many_same p q s k zero (suc m) (t ∷ ts) agree lk ln lm = absurd (omega arith)
many_same p q s k (suc n) zero [] agree lk ln lm = refl
many_same p q s k (suc n) zero (t ∷ ts) agree lk ln lm = absurd (omega arith)
many_same p q s k (suc n) (suc m) [] agree lk ln lm = refl
many_same p q s k (suc n) (suc m) (t ∷ ts) agree lk ln lm =
    pick (begins_with 44 (t ∷ ts)) (◌>>=◌ {B = Many} (p ts) (go p n)) (◌>>=◌ {B = Many} (q ts) (go q m)) (Some ([], t ∷ ts)) (λ e.
    ap (λ (r : Option (General × List Tok)). ◌>>=◌ {B = Many} r (go p n)) (agree ts (omega arith))
    ∙ on_some (q ts) (go p n) (go q m) (λ x h.
    let less = shrinks p s ts x (agree ts (omega arith) ∙ h) in
    ap (λ (r : Option Many). ◌>>=◌ {B = Many} r (λ xs. Some (x.0 ∷ xs.0, xs.1))) (many_same p q s k n m x.1 agree (omega (arith, less)) (omega (arith, less)) (omega (arith, less)))))

abbrev Listing : Type 0
Listing = (General × Generals) × List Tok

abbrev close_with : ℕ → General → Many → Option Listing
close_with c g gs = cond (begins_with c gs.1) (Some ((g, generals_of gs.0), behind gs.1)) None

abbrev others_with : Reads General → ℕ → General × List Tok → Option Listing
others_with p c g = ◌>>=◌ {B = Listing} (many_at 44 p (length g.1) g.1) (close_with c g.0)

listing_same : (p q : Reads General) → Shrinks p → (k c : ℕ) (ts : List Tok) → Agree k p q → length ts < k → listing_with p c ts ≡ listing_with q c ts
unfolding listing_with
listing_same p q s k c ts agree lt =
    ap (λ (r : Option (General × List Tok)). ◌>>=◌ {B = Listing} r (others_with p c)) (agree ts lt)
    ∙ on_some (q ts) (others_with p c) (others_with q c) (λ x h.
    let less = shrinks p s ts x (agree ts lt ∙ h) in
    ap (λ (r : Option Many). ◌>>=◌ {B = Listing} r (close_with c x.0)) (many_same p q s k (length x.1) (length x.1) x.1 agree (omega (arith, less)) (omega arith) (omega arith)))

thing_same : (p q : Reads General) → Shrinks p → (k : ℕ) (ts : List Tok) → Agree k p q → length ts ≤ k → thing_with p ts ≡ thing_with q ts
unfolding thing_with
thing_same p q s k [] agree le = refl
thing_same p q s k (t ∷ ts) agree le =
    pick (is_head t.kind && begins_with 40 ts) (listing_with p 41 (behind ts) >>= λ l. Some (call t l.0.0 l.0.1, l.1)) (listing_with q 41 (behind ts) >>= λ l. Some (call t l.0.0 l.0.1, l.1)) _ (λ e.
    ap (λ (r : Option Listing). ◌>>=◌ {B = Thing × List Tok} r (λ l. Some (call t l.0.0 l.0.1, l.1))) (listing_same p q s k 41 (behind ts) agree (omega (arith, behind_len ts))))

abbrev Read : Type 0
Read = General × List Tok

abbrev pair_with : Reads General → Thing × List Tok → Option Read
pair_with p t = cond (begins_with 58 t.1) (◌>>=◌ {B = Read} (p (behind t.1)) (λ g. Some (pair t.0 g.0, g.1))) (Some (thing t.0, t.1))

general_same : (p q : Reads General) → IsGeneralReader p → (k : ℕ) (ts : List Tok) → Agree k p q → length ts ≤ k → general_with p ts ≡ general_with q ts
unfolding general_with
general_same p q s k ts agree le =
    both_same (begins_with 91 ts) (cond (begins_with 93 (behind ts)) (Some (empty, behind (behind ts))) (listing_with p 93 (behind ts) >>= λ l. Some (filled l.0.0 l.0.1, l.1)))
    (cond (begins_with 93 (behind ts)) (Some (empty, behind (behind ts))) (listing_with q 93 (behind ts) >>= λ l. Some (filled l.0.0 l.0.1, l.1)))
    (◌>>=◌ {B = Read} (thing_with p ts) (pair_with p)) (◌>>=◌ {B = Read} (thing_with q ts) (pair_with q))
    (λ e. ap (λ (r : Option Listing). cond (begins_with 93 (behind ts)) (Some (empty, behind (behind ts))) (◌>>=◌ {B = Read} r (λ l. Some (filled l.0.0 l.0.1, l.1)))) (listing_same p q s k 93 (behind ts) agree (omega (arith, behind_less 91 ts e))))
    (ap (λ (r : Option (Thing × List Tok)). ◌>>=◌ {B = Read} r (pair_with p)) (thing_same p q s k ts agree le)
    ∙ on_some (thing_with q ts) (pair_with p) (pair_with q) (λ x h.
    let less = thing_shrinks p s ts x (thing_same p q s k ts agree le ∙ h) in
    pick (begins_with 58 x.1) (◌>>=◌ {B = Read} (p (behind x.1)) (λ g. Some (pair x.0 g.0, g.1))) (◌>>=◌ {B = Read} (q (behind x.1)) (λ g. Some (pair x.0 g.0, g.1))) (Some (thing x.0, x.1)) (λ e.
    ap (λ (r : Option Read). ◌>>=◌ {B = Read} r (λ g. Some (pair x.0 g.0, g.1))) (agree (behind x.1) (omega (arith, less, behind_len x.1))))))
  where
    both_same : {A : Type 0} (b : Bool) (x y z w : A) → (b ≡ true → x ≡ y) → z ≡ w → cond b x z ≡ cond b y w
    both_same true x y z w h k = h refl
    both_same false x y z w h k = k

nothing_read : (n m : ℕ) → general_at n [] ≡ general_at m []
unfolding general_at general_with thing_with
nothing_read zero zero = refl
nothing_read zero (suc m) = refl
nothing_read (suc n) zero = refl
nothing_read (suc n) (suc m) = refl

at_suc : (n : ℕ) (ts : List Tok) → general_at (suc n) ts ≡ general_with (general_at n) ts
unfolding general_at
at_suc n ts = refl

general_fuel : (n m : ℕ) (ts : List Tok) → length ts ≤ n → length ts ≤ m → general_at n ts ≡ general_at m ts
general_fuel n m [] ln lm = nothing_read n m
general_fuel zero m (t ∷ ts) ln lm = absurd (omega arith)
general_fuel (suc n) zero (t ∷ ts) ln lm = absurd (omega arith)
general_fuel (suc n) (suc m) (t ∷ ts) ln lm =
    at_suc n (t ∷ ts) ∙ (general_same (general_at n) (general_at m) (general_spelled n) (suc (length ts)) (t ∷ ts) (λ us lt. general_fuel n m us (omega arith) (omega arith)) (omega arith) ∙ sym (at_suc m (t ∷ ts)))

fuel_agrees : (k n m : ℕ) → k ≤ suc n → k ≤ suc m → Agree k (general_at n) (general_at m)
fuel_agrees k n m ln lm us lt = general_fuel n m us (omega arith) (omega arith)

-- ---- where the tokens go on

rest_cond : {A : Type 0} (b : Bool) (x y : Option (A × List Tok)) → rest_of (cond b x y) ≡ cond b (rest_of x) (rest_of y)
rest_cond true x y = refl
rest_cond false x y = refl

rest_made : {A B : Type 0} (r : Option (A × List Tok)) (f : A → B) → rest_of (◌>>=◌ {B = B × List Tok} r (λ l. Some (f l.0, l.1))) ≡ rest_of r
rest_made None f = refl
rest_made (Some x) f = refl

-- the rest of a step is the step on the rest
rest_bind : {A B : Type 0} (r : Option (A × List Tok)) (f : A × List Tok → Option (B × List Tok)) (g : List Tok → Option (List Tok)) → ((x : A × List Tok) → r ≡ Some x → rest_of (f x) ≡ g x.1) → rest_of (◌>>=◌ {B = B × List Tok} r f) ≡ ◌>>=◌ {B = List Tok} (rest_of r) g
rest_bind None f g h = refl
rest_bind (Some x) f g h = h x refl

pub bracket_eq : (ts : List Tok) → after_bracket ts ≡ cond (begins_with 93 ts) (Some (behind ts)) (after_listing 93 ts)
unfolding after_bracket
bracket_eq ts = refl

abbrev pub colon_step : List Tok → Option (List Tok)
colon_step us = cond (begins_with 58 us) (after_general (behind us)) (Some us)

goes_on : (us vs : List Tok) → length vs ≤ length us → rest_of (general_at (length us) vs) ≡ after_general vs
unfolding after_general
goes_on us vs le = ap rest_of (general_fuel (length us) (length vs) vs le (omega arith))

general_step : (t : Tok) (us : List Tok) → rest_of (general_with (general_at (length us)) (t ∷ us)) ≡ cond (begins_with 91 (t ∷ us)) (after_bracket us) (◌>>=◌ {B = List Tok} (after_thing (t ∷ us)) colon_step)
unfolding general_with after_bracket after_listing after_thing
general_step t us =
    let p = general_at (length us) in
    rest_cond (begins_with 91 (t ∷ us)) (cond (begins_with 93 us) (Some (empty, behind us)) (◌>>=◌ {B = Read} (listing_with p 93 us) (λ l. Some (filled l.0.0 l.0.1, l.1)))) (◌>>=◌ {B = Read} (thing_with p (t ∷ us)) (pair_with p))
    ∙ ap (λ (r : Option (List Tok)). cond (begins_with 91 (t ∷ us)) r (rest_of (◌>>=◌ {B = Read} (thing_with p (t ∷ us)) (pair_with p))))
    (rest_cond (begins_with 93 us) (Some (empty, behind us)) (◌>>=◌ {B = Read} (listing_with p 93 us) (λ l. Some (filled l.0.0 l.0.1, l.1)))
    ∙ ap (λ (r : Option (List Tok)). cond (begins_with 93 us) (Some (behind us)) r) (rest_made (listing_with p 93 us) (λ (y : General × Generals). filled y.0 y.1)))
    ∙ ap (λ (r : Option (List Tok)). cond (begins_with 91 (t ∷ us)) (cond (begins_with 93 us) (Some (behind us)) (rest_of (listing_with p 93 us))) r)
    (rest_bind (thing_with p (t ∷ us)) (pair_with p) colon_step (λ x h. colon_is x (thing_shrinks p (general_spelled (length us)) (t ∷ us) x h))
    ∙ ap (λ (r : Option (Thing × List Tok)). ◌>>=◌ {B = List Tok} (rest_of r) colon_step) (thing_same p (general_at (suc (length us))) (general_spelled (length us)) (suc (length us)) (t ∷ us) (fuel_agrees (suc (length us)) (length us) (suc (length us)) (omega arith) (omega arith)) (omega arith)))
  where
    colon_is : (x : Thing × List Tok) → length x.1 < suc (length us) → rest_of (pair_with (general_at (length us)) x) ≡ colon_step x.1
    colon_is x lt =
        rest_cond (begins_with 58 x.1) (◌>>=◌ {B = Read} (general_at (length us) (behind x.1)) (λ g. Some (pair x.0 g.0, g.1))) (Some (thing x.0, x.1))
        ∙ ap (λ (r : Option (List Tok)). cond (begins_with 58 x.1) r (Some x.1)) (rest_made (general_at (length us) (behind x.1)) (λ (y : General). pair x.0 y) ∙ goes_on us (behind x.1) (omega (arith, lt, behind_len x.1)))

nothing_thing : after_thing [] ≡ None
unfolding after_thing thing_with
nothing_thing = refl

nothing_general : after_general [] ≡ None
unfolding after_general general_at general_with thing_with
nothing_general = refl

general_unfold : (t : Tok) (us : List Tok) → after_general (t ∷ us) ≡ rest_of (general_with (general_at (length us)) (t ∷ us))
unfolding after_general general_at
general_unfold t us = refl

pub general_eq : (ts : List Tok) → after_general ts ≡ cond (begins_with 91 ts) (after_bracket (behind ts)) (◌>>=◌ {B = List Tok} (after_thing ts) colon_step)
general_eq [] = nothing_general ∙ ap (λ (r : Option (List Tok)). ◌>>=◌ {B = List Tok} r colon_step) (sym nothing_thing)
general_eq (t ∷ us) = general_unfold t us ∙ general_step t us

pub thing_eq : (t : Tok) (ts : List Tok) → after_thing (t ∷ ts) ≡ cond (is_head t.kind && begins_with 40 ts) (after_listing 41 (behind ts)) (cond (is_plain t.kind) (Some ts) None)
unfolding after_thing thing_with after_listing
thing_eq t ts =
    let p = general_at (suc (length ts)) in
    rest_cond (is_head t.kind && begins_with 40 ts) (◌>>=◌ {B = Thing × List Tok} (listing_with p 41 (behind ts)) (λ l. Some (call t l.0.0 l.0.1, l.1))) (cond (is_plain t.kind) (Some (token t, ts)) None)
    ∙ ap (λ (r : Option (List Tok)). cond (is_head t.kind && begins_with 40 ts) r (rest_of (cond (is_plain t.kind) (Some (token t, ts)) None)))
    (rest_made (listing_with p 41 (behind ts)) (λ (y : General × Generals). call t y.0 y.1)
    ∙ ap (λ (r : Option Listing). rest_of r) (listing_same p (general_at (length (behind ts))) (general_spelled (suc (length ts))) (suc (length (behind ts))) 41 (behind ts) (fuel_agrees (suc (length (behind ts))) (suc (length ts)) (length (behind ts)) (omega (arith, behind_len ts)) (omega arith)) (omega arith)))
    ∙ ap (λ (r : Option (List Tok)). cond (is_head t.kind && begins_with 40 ts) (rest_of (listing_with (general_at (length (behind ts))) 41 (behind ts))) r) (rest_cond (is_plain t.kind) (Some (token t, ts)) None)

pub no_thing : after_thing [] ≡ None
no_thing = nothing_thing

abbrev pub close_step : ℕ → List Tok → Option (List Tok)
close_step c vs = cond (begins_with c vs) (Some (behind vs)) None

pub listing_eq : (c : ℕ) (ts : List Tok) → after_listing c ts ≡ ◌>>=◌ {B = List Tok} (after_general ts) (λ us. ◌>>=◌ {B = List Tok} (after_others us) (close_step c))
unfolding after_listing listing_with after_general after_others
listing_eq c ts =
    let p = general_at (length ts) in
    rest_bind (p ts) (others_with p c) (λ us. ◌>>=◌ {B = List Tok} (rest_of (many_at 44 (general_at (length us)) (length us) us)) (close_step c)) (λ x h.
    let less = shrinks p (general_spelled (length ts)) ts x h in
    rest_bind (many_at 44 p (length x.1) x.1) (close_with c x.0) (close_step c) (λ gs k. rest_cond (begins_with c gs.1) (Some ((x.0, generals_of gs.0), behind gs.1)) None)
    ∙ ap (λ (r : Option Many). ◌>>=◌ {B = List Tok} (rest_of r) (close_step c)) (many_same p (general_at (length x.1)) (general_spelled (length ts)) (length x.1) (length x.1) (length x.1) x.1 (fuel_agrees (length x.1) (length ts) (length x.1) (omega (arith, less)) (omega arith)) (omega arith) (omega arith) (omega arith)))

pub others_eq : (ts : List Tok) → after_others ts ≡ cond (begins_with 44 ts) (◌>>=◌ {B = List Tok} (after_general (behind ts)) after_others) (Some ts)
unfolding after_others many_at after_general
others_eq [] = refl
others_eq (t ∷ us) =
    let k = length us in
    let p = general_at (suc k) in
    rest_cond (begins_with 44 (t ∷ us)) (◌>>=◌ {B = Many} (p us) (go p k)) (Some ([], t ∷ us))
    ∙ ap (λ (r : Option (List Tok)). cond (begins_with 44 (t ∷ us)) r (Some (t ∷ us)))
    (ap (λ (r : Option Read). rest_of (◌>>=◌ {B = Many} r (go p k))) (general_fuel (suc k) k us (omega arith) (omega arith))
    ∙ rest_bind (general_at k us) (go p k) (λ vs. rest_of (many_at 44 (general_at (length vs)) (length vs) vs)) (λ x h.
    let less = shrinks (general_at k) (general_spelled k) us x h in
    rest_made (many_at 44 p k x.1) (λ (xs : List General). x.0 ∷ xs)
    ∙ ap (λ (r : Option Many). rest_of r) (many_same p (general_at (length x.1)) (general_spelled (suc k)) (length x.1) k (length x.1) x.1 (fuel_agrees (length x.1) (suc k) (length x.1) (omega (arith, less)) (omega arith)) (omega arith) (omega (arith, less)) (omega arith))))

-- ---- the steps, as the code takes them

pub general_bracket : (ts : List Tok) → begins_with 91 ts ≡ true → after_general ts ≡ after_bracket (behind ts)
general_bracket ts e = general_eq ts ∙ rw e refl

pub general_none : (ts : List Tok) → begins_with 91 ts ≡ false → after_thing ts ≡ None → after_general ts ≡ None
general_none ts e h = general_eq ts ∙ rw (e, h) refl

pub general_one : (ts us : List Tok) → begins_with 91 ts ≡ false → after_thing ts ≡ Some us → begins_with 58 us ≡ false → after_general ts ≡ Some us
general_one ts us e h f = general_eq ts ∙ rw (e, h, f) refl

pub general_more : (ts us : List Tok) → begins_with 91 ts ≡ false → after_thing ts ≡ Some us → begins_with 58 us ≡ true → after_general ts ≡ after_general (behind us)
general_more ts us e h f = general_eq ts ∙ rw (e, h, f) refl

pub bracket_empty : (ts : List Tok) → begins_with 93 ts ≡ true → after_bracket ts ≡ Some (behind ts)
bracket_empty ts e = bracket_eq ts ∙ rw e refl

pub bracket_filled : (ts : List Tok) → begins_with 93 ts ≡ false → after_bracket ts ≡ after_listing 93 ts
bracket_filled ts e = bracket_eq ts ∙ rw e refl

pub listing_none : (c : ℕ) (ts : List Tok) → after_general ts ≡ None → after_listing c ts ≡ None
listing_none c ts h = listing_eq c ts ∙ rw h refl

pub listing_some : (c : ℕ) (ts us : List Tok) → after_general ts ≡ Some us → ◌>>=◌ {B = List Tok} (after_others us) (close_step c) ≡ after_listing c ts
listing_some c ts us h = sym (listing_eq c ts ∙ rw h refl)

pub others_more : (us vs : List Tok) → begins_with 44 us ≡ true → after_general (behind us) ≡ Some vs → after_others us ≡ after_others vs
others_more us vs e h = others_eq us ∙ rw (e, h) refl

pub others_none : (us : List Tok) → begins_with 44 us ≡ true → after_general (behind us) ≡ None → after_others us ≡ None
others_none us e h = others_eq us ∙ rw (e, h) refl

pub others_done : (us : List Tok) → begins_with 44 us ≡ false → after_others us ≡ Some us
others_done us e = others_eq us ∙ rw e refl

pub listing_shut : (c : ℕ) (us : List Tok) (total : Option (List Tok)) → begins_with 44 us ≡ false → begins_with c us ≡ true → ◌>>=◌ {B = List Tok} (after_others us) (close_step c) ≡ total → Some (behind us) ≡ total
listing_shut c us total e f h = sym (rw (others_done us e, f) refl) ∙ h

pub listing_open : (c : ℕ) (us : List Tok) (total : Option (List Tok)) → begins_with 44 us ≡ false → begins_with c us ≡ false → ◌>>=◌ {B = List Tok} (after_others us) (close_step c) ≡ total → None ≡ total
listing_open c us total e f h = sym (rw (others_done us e, f) refl) ∙ h

pub listing_on : (c : ℕ) (us vs : List Tok) (total : Option (List Tok)) → begins_with 44 us ≡ true → after_general (behind us) ≡ Some vs → ◌>>=◌ {B = List Tok} (after_others us) (close_step c) ≡ total → ◌>>=◌ {B = List Tok} (after_others vs) (close_step c) ≡ total
listing_on c us vs total e f h = ap (λ (r : Option (List Tok)). ◌>>=◌ {B = List Tok} r (close_step c)) (sym (others_more us vs e f)) ∙ h

pub listing_off : (c : ℕ) (us : List Tok) (total : Option (List Tok)) → begins_with 44 us ≡ true → after_general (behind us) ≡ None → ◌>>=◌ {B = List Tok} (after_others us) (close_step c) ≡ total → None ≡ total
listing_off c us total e f h = ap (λ (r : Option (List Tok)). ◌>>=◌ {B = List Tok} r (close_step c)) (sym (others_none us e f)) ∙ h

pub thing_calls : (t : Tok) (ts : List Tok) → is_head t.kind ≡ true → begins_with 40 ts ≡ true → after_thing (t ∷ ts) ≡ after_listing 41 (behind ts)
thing_calls t ts h e = thing_eq t ts ∙ rw (h, e) refl

pub thing_token : (t : Tok) (ts : List Tok) → (is_head t.kind && begins_with 40 ts) ≡ false → is_plain t.kind ≡ true → after_thing (t ∷ ts) ≡ Some ts
thing_token t ts h e = thing_eq t ts ∙ rw (h, e) refl

pub thing_other : (t : Tok) (ts : List Tok) → (is_head t.kind && begins_with 40 ts) ≡ false → is_plain t.kind ≡ false → after_thing (t ∷ ts) ≡ None
thing_other t ts h e = thing_eq t ts ∙ rw (h, e) refl

-- ---- annotations

abbrev pub note_step : List Tok → Option (List Tok)
note_step us = cond (begins_with 44 us) (◌>>=◌ {B = List Tok} (expect 91 (behind us)) after_bracket) (Some us)

abbrev Noted : Type 0
Noted = Note × List Tok

abbrev list_step : ℕ → General → List Tok → Option Noted
list_step d g us = cond (begins_with 93 us) (Some (with_empty g, behind us)) (◌>>=◌ {B = Noted} (listing_with (general_at d) 93 us) (λ l. Some (with_list g l.0.0 l.0.1, l.1)))

abbrev noted : ℕ → General × List Tok → Option Noted
noted d g = cond (begins_with 44 g.1) (◌>>=◌ {B = Noted} (expect 91 (behind g.1)) (list_step d g.0)) (Some (source g.0, g.1))

rest_after : {B : Type 0} (r : Option (List Tok)) (f : List Tok → Option (B × List Tok)) (g : List Tok → Option (List Tok)) → ((x : List Tok) → r ≡ Some x → rest_of (f x) ≡ g x) → rest_of (◌>>=◌ {B = B × List Tok} r f) ≡ ◌>>=◌ {B = List Tok} r g
rest_after None f g h = refl
rest_after (Some x) f g h = h x refl

expect_len : (b : ℕ) (ts us : List Tok) → expect b ts ≡ Some us → length us ≤ length ts
expect_len b ts us e = omega (arith, ap length (expect_is b ts us e))

list_is : (d : ℕ) (g : General) (us : List Tok) → length us ≤ d → rest_of (list_step d g us) ≡ after_bracket us
unfolding after_bracket after_listing
list_is d g us le =
    rest_cond (begins_with 93 us) (Some (with_empty g, behind us)) (◌>>=◌ {B = Noted} (listing_with (general_at d) 93 us) (λ l. Some (with_list g l.0.0 l.0.1, l.1)))
    ∙ ap (λ (r : Option (List Tok)). cond (begins_with 93 us) (Some (behind us)) r)
    (rest_made (listing_with (general_at d) 93 us) (λ (y : General × Generals). with_list g y.0 y.1)
    ∙ ap (λ (r : Option Listing). rest_of r) (listing_same (general_at d) (general_at (length us)) (general_spelled d) (suc (length us)) 93 us (fuel_agrees (suc (length us)) d (length us) (omega arith) (omega arith)) (omega arith)))

noted_is : (d : ℕ) (g : General) (us : List Tok) → length us ≤ d → rest_of (noted d (g, us)) ≡ note_step us
noted_is d g us le =
    rest_cond (begins_with 44 us) (◌>>=◌ {B = Noted} (expect 91 (behind us)) (list_step d g)) (Some (source g, us))
    ∙ ap (λ (r : Option (List Tok)). cond (begins_with 44 us) r (Some us))
    (rest_after (expect 91 (behind us)) (list_step d g) after_bracket (λ x h. list_is d g x (omega (arith, expect_len 91 (behind us) x h, behind_len us))))

note_eq : (d : ℕ) (ts : List Tok) → length ts ≤ d → after_note d ts ≡ cond (begins_with 44 ts) (◌>>=◌ {B = List Tok} (after_general (behind ts)) note_step) (Some ts)
unfolding after_note note_at after_general
note_eq d ts le =
    rest_cond (begins_with 44 ts) (◌>>=◌ {B = Noted} (general_at d (behind ts)) (noted d)) (Some (unnoted, ts))
    ∙ ap (λ (r : Option (List Tok)). cond (begins_with 44 ts) r (Some ts))
    (rest_bind (general_at d (behind ts)) (noted d) note_step (λ x h. noted_is d x.0 x.1 (omega (arith, shrinks (general_at d) (general_spelled d) (behind ts) x h, behind_len ts)))
    ∙ ap (λ (r : Option Read). ◌>>=◌ {B = List Tok} (rest_of r) note_step) (general_fuel d (length (behind ts)) (behind ts) (omega (arith, behind_len ts)) (omega arith)))

pub note_absent : (d : ℕ) (ts : List Tok) → length ts ≤ d → begins_with 44 ts ≡ false → after_note d ts ≡ Some ts
note_absent d ts le e = note_eq d ts le ∙ rw e refl

pub note_none : (d : ℕ) (ts : List Tok) → length ts ≤ d → begins_with 44 ts ≡ true → after_general (behind ts) ≡ None → after_note d ts ≡ None
note_none d ts le e h = note_eq d ts le ∙ rw (e, h) refl

pub note_source : (d : ℕ) (ts us : List Tok) → length ts ≤ d → begins_with 44 ts ≡ true → after_general (behind ts) ≡ Some us → begins_with 44 us ≡ false → after_note d ts ≡ Some us
note_source d ts us le e h f = note_eq d ts le ∙ rw (e, h, f) refl

pub note_shut : (d : ℕ) (ts us : List Tok) → length ts ≤ d → begins_with 44 ts ≡ true → after_general (behind ts) ≡ Some us → begins_with 44 us ≡ true → begins_with 91 (behind us) ≡ false → after_note d ts ≡ None
unfolding expect
note_shut d ts us le e h f k = note_eq d ts le ∙ rw (e, h, f, k) refl

pub note_list : (d : ℕ) (ts us : List Tok) → length ts ≤ d → begins_with 44 ts ≡ true → after_general (behind ts) ≡ Some us → begins_with 44 us ≡ true → begins_with 91 (behind us) ≡ true → after_note d ts ≡ after_bracket (behind (behind us))
unfolding expect
note_list d ts us le e h f k = note_eq d ts le ∙ rw (e, h, f, k) refl
