-- Includes are read token by token.
use Rattle.std.proofs.Common.{◌≡◌, ℕ, zero, suc, ◌≤◌, Bool, true, false, cond, List, [], ◌∷◌, ◌++◌, length, Option, Some, None, Ok, Result, refl, sym, ap, subst, ◌∙◌, append_assoc, inl, inr, arith}
use Rattle.std.specs.Prelude.{◌&&◌, map}
use Rattle.std.specs.Option.{option_map}
use Rattle.std.proofs.lemmas.List.{append-nil}
use Rattle.tptp_read.specs.Stream.{Tok}
use Rattle.tptp_read.specs.declared.statement.Statement.{Statement}
use Rattle.tptp_read.specs.declared.statement.Statement.TheVariants.{Include}
use Rattle.tptp_read.specs.declared.stop.Stop.{Stop}
use Rattle.tptp_read.specs.declared.stop.Stop.TheVariants as stops
use Rattle.tptp_read.specs.Grammar.{whole, selected, is_name, Form}
use Rattle.tptp_read.specs.Meaning.{judged, name_of, Fault}
use Rattle.tptp_read.specs.Parse.{◌>>=◌, begins_with, behind, many_at}
use Rattle.tptp_read.specs.ParseForm.{one_of, expect, is_tail, is_quoted, include_at}
use Rattle.tptp_read.specs.LexemeView.{Fails}
use Rattle.tptp_read.specs.Selected.{in_names, starts}
use Rattle.tptp_read.proofs.ParseLaws.{some_is}
use Rattle.inst_logic.proofs.Booleans.{first_false}

-- ---- names

abbrev Names : Type 0
Names = List Tok × List Tok

names_from : (n : ℕ) (us : List Tok) → begins_with 44 us ≡ true → many_at 44 (one_of is_name) (suc n) us ≡ ◌>>=◌ {B = Names} (one_of is_name (behind us)) (λ x. ◌>>=◌ {B = Names} (many_at 44 (one_of is_name) n x.1) (λ xs. Some (x.0 ∷ xs.0, xs.1)))
unfolding many_at
names_from n us e = rw e refl

one_is : (t : Tok) (us : List Tok) → is_name t ≡ true → one_of is_name (t ∷ us) ≡ Some (t, us)
unfolding one_of
one_is t us e = rw e refl

one_none : (us : List Tok) → starts is_name us ≡ false → one_of is_name us ≡ None
unfolding one_of
one_none [] e = refl
one_none (t ∷ us) e = rw e refl

abbrev name_or : Bool → Tok → List Tok → Option (Tok × List Tok)
name_or b u us = cond b (Some (u, us)) None

fuel_step : (b : Bool) (u : Tok) (us : List Tok) (n m : ℕ) → many_at 44 (one_of is_name) n us ≡ many_at 44 (one_of is_name) m us
    → ◌>>=◌ {B = Names} (name_or b u us) (λ x. ◌>>=◌ {B = Names} (many_at 44 (one_of is_name) n x.1) (λ xs. Some (x.0 ∷ xs.0, xs.1))) ≡ ◌>>=◌ {B = Names} (name_or b u us) (λ x. ◌>>=◌ {B = Names} (many_at 44 (one_of is_name) m x.1) (λ xs. Some (x.0 ∷ xs.0, xs.1)))
fuel_step true u us n m same = rw same refl
fuel_step false u us n m same = refl

-- fuel beyond the length changes nothing
names_fuel : (n m : ℕ) (us : List Tok) → length us ≤ n → length us ≤ m → many_at 44 (one_of is_name) n us ≡ many_at 44 (one_of is_name) m us
unfolding many_at one_of
names_fuel zero zero us ln lm = refl
names_fuel zero (suc m) [] ln lm = refl
names_fuel zero (suc m) (t ∷ us) ln lm = absurd (omega arith)
names_fuel (suc n) zero [] ln lm = refl
names_fuel (suc n) zero (t ∷ us) ln lm = absurd (omega arith)
names_fuel (suc n) (suc m) [] ln lm = refl
names_fuel (suc n) (suc m) (t ∷ []) ln lm = refl
names_fuel (suc n) (suc m) (t ∷ u ∷ us) ln lm = ap (λ (r : Option Names). cond (begins_with 44 (t ∷ u ∷ us)) r (Some ([], t ∷ u ∷ us))) (fuel_step (is_name u) u us n m (names_fuel n m us (omega arith) (omega arith)))

regroup : (front : List (List ℕ)) (n : Tok) (r : Option Names) → in_names front (◌>>=◌ {B = Names} r (λ xs. Some (n ∷ xs.0, xs.1))) ≡ in_names (front ++ name_of n ∷ []) r
regroup front n None = refl
regroup front n (Some z) = ap (λ (l : List (List ℕ)). Some (l, z.1)) (sym (append_assoc front (name_of n ∷ []) (map name_of z.0)))

abbrev read_names : List Tok → Option Names
read_names us = many_at 44 (one_of is_name) (length us) us

abbrev pub IsNames : List (List ℕ) → List Tok → Option (List (List ℕ) × List Tok) → Type 0
IsNames front us total = in_names front (read_names us) ≡ total

one_more : (n : Tok) (us vs : List Tok) → begins_with 44 us ≡ true → behind us ≡ n ∷ vs → is_name n ≡ true → read_names us ≡ ◌>>=◌ {B = Names} (read_names vs) (λ xs. Some (n ∷ xs.0, xs.1))
one_more n [] vs e b k = absurd cc
one_more n (t ∷ us) vs e b k =
    let le : length vs ≤ length us = omega (arith, ap length b) in
    names_from (length us) (t ∷ us) e
    ∙ ap (λ (r : Option (Tok × List Tok)). ◌>>=◌ {B = Names} r (λ x. ◌>>=◌ {B = Names} (many_at 44 (one_of is_name) (length us) x.1) (λ xs. Some (x.0 ∷ xs.0, xs.1)))) (ap (one_of is_name) b ∙ one_is n vs k)
    ∙ ap (λ (r : Option Names). ◌>>=◌ {B = Names} r (λ xs. Some (n ∷ xs.0, xs.1))) (names_fuel (length us) (length vs) vs le (omega arith))

pub names_on : (front : List (List ℕ)) (n : Tok) (us vs : List Tok) (total : Option (List (List ℕ) × List Tok)) → begins_with 44 us ≡ true → behind us ≡ n ∷ vs → is_name n ≡ true → IsNames front us total → IsNames (front ++ name_of n ∷ []) vs total
names_on front n us vs total e b k h = sym (regroup front n (read_names vs)) ∙ sym (ap (in_names front) (one_more n us vs e b k)) ∙ h

off_at : (t : Tok) (us : List Tok) → begins_with 44 (t ∷ us) ≡ true → starts is_name us ≡ false → read_names (t ∷ us) ≡ None
off_at t us e k = names_from (length us) (t ∷ us) e ∙ rw (one_none us k) refl

pub names_off : (front : List (List ℕ)) (us : List Tok) (total : Option (List (List ℕ) × List Tok)) → begins_with 44 us ≡ true → starts is_name (behind us) ≡ false → IsNames front us total → total ≡ None
names_off front [] total e k h = absurd cc
names_off front (t ∷ us) total e k h = sym h ∙ ap (in_names front) (off_at t us e k)

done_at : (n : ℕ) (us : List Tok) → begins_with 44 us ≡ false → many_at 44 (one_of is_name) n us ≡ Some ([], us)
unfolding many_at
done_at zero us e = refl
done_at (suc n) us e = rw e refl

pub names_done : (front : List (List ℕ)) (us : List Tok) (total : Option (List (List ℕ) × List Tok)) → begins_with 44 us ≡ false → IsNames front us total → total ≡ Some (front, us)
names_done front us total e h = sym h ∙ ap (in_names front) (done_at (length us) us e) ∙ ap (λ (l : List (List ℕ)). Some (l, us)) (append-nil front)

-- ---- includes

abbrev names_then : Tok → Tok → Names → Option Form
names_then f n ns = ◌>>=◌ {B = Form} (expect 93 ns.1) (λ e. cond (is_tail e) (Some (selected f n ns.0)) None)

no_open : (ts : List Tok) → begins_with 40 ts ≡ false → include_at ts ≡ None
unfolding include_at expect
no_open ts e = rw e refl

no_quoted : (ts us : List Tok) → begins_with 40 ts ≡ true → behind ts ≡ us → starts is_quoted us ≡ false → include_at ts ≡ None
unfolding include_at expect one_of
no_quoted ts [] e b k = rw (e, b) refl
no_quoted ts (t ∷ us) e b k = rw (e, b, k) refl

pub no_file : (ts us : List Tok) → behind ts ≡ us → (begins_with 40 ts && starts is_quoted us) ≡ false → include_at ts ≡ None
no_file ts us b e = elim (first_false (begins_with 40 ts) (starts is_quoted us) e) [ inl k ↦ no_open ts k | inr k ↦ no_quoted ts us k.0 b k.1 ]

-- the file is there
abbrev pub IsFile : List Tok → Tok → List Tok → Type 0
IsFile ts f us = (begins_with 40 ts ≡ true) × (behind ts ≡ f ∷ us) × (is_quoted f ≡ true)

pub whole_is : (ts : List Tok) (f : Tok) (us : List Tok) → IsFile ts f us → is_tail us ≡ true → include_at ts ≡ Some (whole f)
unfolding include_at expect one_of
whole_is ts f us h e = rw (h.0, h.1, h.2, e) refl

no_comma : (ts : List Tok) (f : Tok) (us : List Tok) → IsFile ts f us → is_tail us ≡ false → begins_with 44 us ≡ false → include_at ts ≡ None
unfolding include_at expect one_of
no_comma ts f us h e k = rw (h.0, h.1, h.2, e, k) refl

no_bracket : (ts : List Tok) (f : Tok) (us : List Tok) → IsFile ts f us → is_tail us ≡ false → begins_with 44 us ≡ true → begins_with 91 (behind us) ≡ false → include_at ts ≡ None
unfolding include_at expect one_of
no_bracket ts f us h e k l = rw (h.0, h.1, h.2, e, k, l) refl

no_first : (ts : List Tok) (f : Tok) (us vs : List Tok) → IsFile ts f us → is_tail us ≡ false → begins_with 44 us ≡ true → begins_with 91 (behind us) ≡ true → behind (behind us) ≡ vs → starts is_name vs ≡ false → include_at ts ≡ None
unfolding include_at expect one_of
no_first ts f us [] h e k l b m = rw (h.0, h.1, h.2, e, k, l, b) refl
no_first ts f us (t ∷ vs) h e k l b m = rw (h.0, h.1, h.2, e, k, l, b, m) refl

pub no_names : (ts : List Tok) (f : Tok) (us vs : List Tok) → IsFile ts f us → is_tail us ≡ false → behind (behind us) ≡ vs → (begins_with 44 us && (begins_with 91 (behind us) && starts is_name vs)) ≡ false → include_at ts ≡ None
no_names ts f us vs h e b k = elim (first_false (begins_with 44 us) (begins_with 91 (behind us) && starts is_name vs) k) [
  | inl l ↦ no_comma ts f us h e l
  | inr l ↦ elim (first_false (begins_with 91 (behind us)) (starts is_name vs) l.1) [
    | inl m ↦ no_bracket ts f us h e l.0 m
    | inr m ↦ no_first ts f us vs h e l.0 m.0 b m.1
  ]
]

-- names are there
abbrev pub AreNames : List Tok → Tok → List Tok → Type 0
AreNames us n vs = (is_tail us ≡ false) × (begins_with 44 us ≡ true) × (begins_with 91 (behind us) ≡ true) × (behind (behind us) ≡ n ∷ vs) × (is_name n ≡ true)

at_names : (ts : List Tok) (f : Tok) (us : List Tok) (n : Tok) (vs : List Tok) → IsFile ts f us → AreNames us n vs → include_at ts ≡ ◌>>=◌ {B = Form} (read_names vs) (names_then f n)
unfolding include_at expect one_of
at_names ts f us n vs h k = rw (h.0, h.1, h.2, k.0, k.1, k.2, k.3, k.4) refl

names_split : (front : List (List ℕ)) (r : Option Names) (l : List (List ℕ)) (ws : List Tok) → in_names front r ≡ Some (l, ws) → (ns : List Tok) × (r ≡ Some (ns, ws)) × (front ++ map name_of ns ≡ l)
names_split front None l ws e = absurd cc
names_split front (Some z) l ws e = let p = some_is (front ++ map name_of z.0, z.1) (l, ws) e in (z.0, ap (λ (q : List (List ℕ) × List Tok). Some (z.0, q.1)) p, ap (λ (q : List (List ℕ) × List Tok). q.0) p)

shut_names : (f n : Tok) (ns ws : List Tok) → (begins_with 93 ws && is_tail (behind ws)) ≡ true → names_then f n (ns, ws) ≡ Some (selected f n ns)
unfolding expect
shut_names f n ns ws e = shut (begins_with 93 ws) (is_tail (behind ws)) refl refl e where
  shut : (a b : Bool) → begins_with 93 ws ≡ a → is_tail (behind ws) ≡ b → (a && b) ≡ true → names_then f n (ns, ws) ≡ Some (selected f n ns)
  shut true true p q e = rw (p, q) refl
  shut true false p q e = absurd cc
  shut false b p q e = absurd cc

open_names : (f n : Tok) (ns ws : List Tok) → (begins_with 93 ws && is_tail (behind ws)) ≡ false → names_then f n (ns, ws) ≡ None
unfolding expect
open_names f n ns ws e = shut (begins_with 93 ws) (is_tail (behind ws)) refl refl e where
  shut : (a b : Bool) → begins_with 93 ws ≡ a → is_tail (behind ws) ≡ b → (a && b) ≡ false → names_then f n (ns, ws) ≡ None
  shut true true p q e = absurd cc
  shut true false p q e = rw (p, q) refl
  shut false b p q e = rw p refl

abbrev value : List Tok → Option (Result Statement Fault)
value ts = option_map judged (include_at ts)

pub selected_is : (ts : List Tok) (f : Tok) (us : List Tok) (n : Tok) (vs ws : List Tok) (l : List (List ℕ)) → IsFile ts f us → AreNames us n vs → in_names (name_of n ∷ []) (read_names vs) ≡ Some (l, ws) → (begins_with 93 ws && is_tail (behind ws)) ≡ true → value ts ≡ Some (Ok (Include (name_of f) (Some l)))
selected_is ts f us n vs ws l h k names e =
    let z = names_split (name_of n ∷ []) (read_names vs) l ws names in
    let whole = at_names ts f us n vs h k ∙ ap (λ (r : Option Names). ◌>>=◌ {B = Form} r (names_then f n)) z.1 ∙ shut_names f n z.0 ws e in
    ap (option_map judged) whole ∙ ap (λ (m : List (List ℕ)). Some (Ok (Include (name_of f) (Some m)))) z.2

pub not_shut : (ts : List Tok) (f : Tok) (us : List Tok) (n : Tok) (vs ws : List Tok) (l : List (List ℕ)) → IsFile ts f us → AreNames us n vs → in_names (name_of n ∷ []) (read_names vs) ≡ Some (l, ws) → (begins_with 93 ws && is_tail (behind ws)) ≡ false → include_at ts ≡ None
not_shut ts f us n vs ws l h k names e =
    let z = names_split (name_of n ∷ []) (read_names vs) l ws names in
    at_names ts f us n vs h k ∙ ap (λ (r : Option Names). ◌>>=◌ {B = Form} r (names_then f n)) z.1 ∙ open_names f n z.0 ws e

names_fail : (front : List (List ℕ)) (r : Option Names) → in_names front r ≡ None → r ≡ None
names_fail front None e = refl
names_fail front (Some z) e = absurd cc

pub names_bad : (e : Stop) (ts : List Tok) (f : Tok) (us : List Tok) (n : Tok) (vs : List Tok) → IsFile ts f us → AreNames us n vs → Fails e (in_names (name_of n ∷ []) (read_names vs)) → Fails e (value ts)
names_bad stops.Memory ts f us n vs h k bad = tt
names_bad stops.Wrong ts f us n vs h k bad = ap (option_map judged) (at_names ts f us n vs h k ∙ ap (λ (r : Option Names). ◌>>=◌ {B = Form} r (names_then f n)) (names_fail (name_of n ∷ []) (read_names vs) bad))

pub names_failed : (e : Stop) (front : List (List ℕ)) (us : List Tok) (total : Option (List (List ℕ) × List Tok)) → e ≡ stops.Memory → Fails e total
names_failed e front us total is = subst (λ (x : Stop). Fails x total) (sym is) tt
