-- The tokens up to the first full stop, one after the other.
use Rattle.std.proofs.Common.{◌≡◌, ℕ, ◌+◌, ◌-◌, max, Bool, true, false, cond, List, [], ◌∷◌, ◌++◌, Some, None, refl, sym, ap, subst, ◌∙◌, arith}
use Rattle.std.specs.Prelude.{not, ◌&&◌, IsTrue}
use Rattle.tptp_read.specs.Stream.{Tok, IsNext, IsEnd, IsDone}
use Rattle.tptp_read.specs.Lexemes.{Begins, mark, lower, is_mark_token, is_lower_kind}
use Rattle.tptp_read.specs.Rules.{is_language, IsOtherLanguage, IsNoOtherLanguage, stops_last, IsFront, HasNoFront, opens, closes, nesting_from}
use Rattle.tptp_read.specs.Fronts.{are_other, other_word}
use Rattle.tptp_read.proofs.ParseLaws.{both_true, some_is, mark_is}
use Rattle.tptp_read.proofs.Law.{word_is}
use Rattle.tptp_read.proofs.Nexts.{next, next_is, end_none, done_none, end_done}
use Rattle.std.proofs.lemmas.Option.{none-some}
use Rattle.inst_logic.proofs.Booleans.{true_is}
use Rattle.tptp_read.proofs.AllTokens.{same_next}

-- no full stop among the tokens
abbrev pub has_no_stop : List Tok → Bool
has_no_stop [] = true
has_no_stop (t ∷ ts) = not (is_mark_token 46 t) && has_no_stop ts

-- the first two tokens are not those of another language
abbrev pub is_other : List Tok → Bool
is_other (t ∷ u ∷ ts) = are_other t u
is_other _ = false

pub begins_more : (ts : List Tok) (text mid after : List ℕ) (t : Tok) → Begins text ts mid → IsNext mid t after → Begins text (ts ++ t ∷ []) after
begins_more [] text mid after t b e = (after, subst (λ (m : List ℕ). IsNext m t after) (sym b) e, refl)
begins_more (u ∷ ts) text mid after t b e = (b.0, b.1, begins_more ts b.0 mid after t b.2 e)

pub no_stop_more : (ts : List Tok) (t : Tok) → has_no_stop ts ≡ true → is_mark_token 46 t ≡ false → has_no_stop (ts ++ t ∷ []) ≡ true
no_stop_more [] t h e = rw e refl
no_stop_more (u ∷ ts) t h e = let b = both_true (not (is_mark_token 46 u)) (has_no_stop ts) h in rw (b.0) (no_stop_more ts t b.1 e)

pub stop_ends : (ts : List Tok) (t : Tok) → has_no_stop ts ≡ true → is_mark_token 46 t ≡ true → stops_last (ts ++ t ∷ []) ≡ true
stop_ends [] t h e = e
stop_ends (u ∷ []) t h e = let b = both_true (not (is_mark_token 46 u)) true h in rw (b.0) e
stop_ends (u ∷ v ∷ ts) t h e = let b = both_true (not (is_mark_token 46 u)) (has_no_stop (v ∷ ts)) h in rw (b.0) (stop_ends (v ∷ ts) t b.1 e)

abbrev Found : Type 0
Found = Tok × List ℕ

not_both : (b : Bool) → b ≡ true → not b ≡ true → ⊥
not_both true e h = cc
not_both false e h = cc

nothing_stops : (found : List Tok) (text mid : List ℕ) → Begins text found mid → has_no_stop found ≡ true → next mid ≡ None → (ts : List Tok) (rest : List ℕ) → Begins text ts rest → stops_last ts ≡ true → ⊥
nothing_stops found text mid b h e [] rest front s = cc
nothing_stops [] text mid b h e (t ∷ ts) rest front s = none-some (t, front.0) (sym e ∙ ap next (sym b) ∙ next_is text t front.0 front.1)
nothing_stops (u ∷ found) text mid b h e (t ∷ []) rest front s =
    let same = same_next text u t b.0 front.0 b.1 front.1 in
    let split = both_true (not (is_mark_token 46 u)) (has_no_stop found) h in
    not_both (is_mark_token 46 u) (ap (is_mark_token 46) same.0 ∙ s) split.0
nothing_stops (u ∷ found) text mid b h e (t ∷ v ∷ ts) rest front s =
    let same = same_next text u t b.0 front.0 b.1 front.1 in
    let split = both_true (not (is_mark_token 46 u)) (has_no_stop found) h in
    let split' = both_true (not (is_mark_token 46 t)) (stops_last (v ∷ ts)) s in
    nothing_stops found b.0 mid b.2 split.1 e (v ∷ ts) rest (subst (λ (x : List ℕ). Begins x (v ∷ ts) rest) (sym same.1) front.2) split'.1

-- ---- other languages

other_false : (b : Bool) (w : List ℕ) → cond b (Some w) None ≡ None → b ≡ false
other_false true w e = absurd cc
other_false false w e = refl

pub other_more : (ts : List Tok) (t : Tok) → is_other ts ≡ false → other_word (ts ++ t ∷ []) ≡ None → is_other (ts ++ t ∷ []) ≡ false
other_more [] t h e = refl
other_more (a ∷ []) t h e = other_false (are_other a t) a.text e
other_more (a ∷ b ∷ ts) t h e = h

no_open : (t : Tok) → is_mark_token 46 t ≡ true → is_mark_token 40 t ≡ false
no_open t e = ap (is_mark_token 40) (mark_is 46 t e)

other_stop : (ts : List Tok) (t : Tok) → is_other ts ≡ false → is_mark_token 46 t ≡ true → is_other (ts ++ t ∷ []) ≡ false
other_stop [] t h e = refl
other_stop (a ∷ []) t h e = let no = no_open t e in rw no refl
other_stop (a ∷ b ∷ ts) t h e = h

are_two : (w : List ℕ) (t u : Tok) → IsTrue (is_language w) → t ≡ lower w → u ≡ mark 40 → are_other t u ≡ true
are_two w t u h p q = rw (p, q) h

true_false : (b : Bool) → b ≡ true → b ≡ false → ⊥
true_false b p q = cc

no_two : (text rest : List ℕ) (t u : Tok) (ts : List Tok) → Begins text (t ∷ u ∷ ts) rest → are_other t u ≡ false → IsNoOtherLanguage text
no_two text rest t u ts b none w h =
    let first = same_next text t (lower w) b.0 h.behind b.1 h.word in
    let second = same_next b.0 u (mark 40) b.2.0 h.rest b.2.1 (subst (λ (x : List ℕ). IsNext x (mark 40) h.rest) (sym first.1) h.parenthesis) in
    true_false (are_other t u) (are_two w t u h.is_name first.0 second.0) none

stop_lower : (w : List ℕ) (t : Tok) → t ≡ lower w → is_mark_token 46 t ≡ true → ⊥
stop_lower w t e h = let bad : is_mark_token 46 (lower w) ≡ true = sym (ap (is_mark_token 46) e) ∙ h in cc

whole_no_language : (ts : List Tok) (text rest : List ℕ) → Begins text ts rest → is_other ts ≡ false → stops_last ts ≡ true → IsNoOtherLanguage text
whole_no_language [] text rest b o s w h = cc
whole_no_language (t ∷ []) text rest b o s w h = stop_lower w t (same_next text t (lower w) b.0 h.behind b.1 h.word).0 s
whole_no_language (t ∷ u ∷ ts) text rest b o s w h = no_two text rest t u ts b o w h

end_no_language : (ts : List Tok) (text rest : List ℕ) → Begins text ts rest → is_other ts ≡ false → next rest ≡ None → IsNoOtherLanguage text
end_no_language [] text rest b o e w h = none-some (lower w, h.behind) (sym e ∙ ap next (sym b) ∙ next_is text (lower w) h.behind h.word)
end_no_language (t ∷ []) text rest b o e w h =
    let first = same_next text t (lower w) b.0 h.behind b.1 h.word in
    none-some (mark 40, h.rest) (sym e ∙ ap next (sym b.2 ∙ first.1) ∙ next_is h.behind (mark 40) h.rest h.parenthesis)
end_no_language (t ∷ u ∷ ts) text rest b o e w h = no_two text rest t u ts b o w h

chosen_true : (b : Bool) (v w : List ℕ) → cond b (Some v) None ≡ Some w → (b ≡ true) × (v ≡ w)
chosen_true true v w e = (refl, some_is v w e)
chosen_true false v w e = absurd cc

pub is_other_language : (ts : List Tok) (text rest w : List ℕ) → Begins text ts rest → other_word ts ≡ Some w → IsOtherLanguage text w
is_other_language [] text rest w b e = absurd cc
is_other_language (t ∷ []) text rest w b e = absurd cc
is_other_language (t ∷ u ∷ v ∷ ts) text rest w b e = absurd cc
is_other_language (t ∷ u ∷ []) text rest w b e =
    let c = chosen_true (are_other t u) t.text w e in
    let d = both_true (is_mark_token 40 u) (is_lower_kind t.kind && is_language t.text) c.0 in
    let l = both_true (is_lower_kind t.kind) (is_language t.text) d.1 in
    let first = word_is t w l.0 c.1 in
    record {
      is_name = subst (λ (x : List ℕ). IsTrue (is_language x)) c.1 l.1;
      behind = b.0;
      rest = b.2.0;
      word = subst (λ (x : Tok). IsNext text x b.0) first b.1;
      parenthesis = subst (λ (x : Tok). IsNext b.0 x b.2.0) (mark_is 40 u d.0) b.2.1;
    }

-- ---- what is found

some_more : (ts : List Tok) (t : Tok) (text rest : List ℕ) → Begins text (ts ++ t ∷ []) rest → IsDone text → ⊥
some_more [] t text rest b d = none-some (t, b.0) (sym (done_none text d) ∙ next_is text t b.0 b.1)
some_more (u ∷ ts) t text rest b d = none-some (u, b.0) (sym (done_none text d) ∙ next_is text u b.0 b.1)

-- the tokens so far
pub record SoFar (text : List ℕ) (ts : List Tok) (rest : List ℕ) : Type 0 where
  pub begins : Begins text ts rest
  pub no_stop : has_no_stop ts ≡ true
  pub no_other : is_other ts ≡ false

pub none_so_far : (text : List ℕ) → SoFar text [] text
none_so_far text = record { begins = refl; no_stop = refl; no_other = refl }

pub one_more : (text rest after : List ℕ) (ts : List Tok) (t : Tok) → SoFar text ts rest → IsNext rest t after → is_mark_token 46 t ≡ false → other_word (ts ++ t ∷ []) ≡ None → SoFar text (ts ++ t ∷ []) after
one_more text rest after ts t s h e o = record { begins = begins_more ts text rest after t s.begins h; no_stop = no_stop_more ts t s.no_stop e; no_other = other_more ts t s.no_other o }

pub record IsWhole (text : List ℕ) (ts : List Tok) (rest : List ℕ) : Type 0 where
  pub some : ¬ IsDone text
  pub language : IsNoOtherLanguage text
  pub front : IsFront text ts rest

pub whole : (text rest after : List ℕ) (ts : List Tok) (t : Tok) → SoFar text ts rest → IsNext rest t after → is_mark_token 46 t ≡ true → IsWhole text (ts ++ t ∷ []) after
whole text rest after ts t s h e =
    let begins = begins_more ts text rest after t s.begins h in
    let stops = stop_ends ts t s.no_stop e in
    record {
      some = some_more ts t text after begins;
      language = whole_no_language (ts ++ t ∷ []) text after begins (other_stop ts t s.no_other e) stops;
      front = record { begins = begins; stops = true_is (stops_last (ts ++ t ∷ [])) stops };
    }

pub other : (text rest after w : List ℕ) (ts : List Tok) (t : Tok) → SoFar text ts rest → IsNext rest t after → other_word (ts ++ t ∷ []) ≡ Some w → (¬ IsDone text) × IsOtherLanguage text w
other text rest after w ts t s h e =
    let begins = begins_more ts text rest after t s.begins h in
    (some_more ts t text after begins, is_other_language (ts ++ t ∷ []) text after w begins e)

pub done : (text rest : List ℕ) (ts : List Tok) → SoFar text ts rest → ts ≡ [] → IsEnd rest [] → IsDone text
done text rest ts s e h =
    let same : text ≡ rest = subst (λ (us : List Tok). Begins text us rest) e s.begins in
    subst (λ (x : List ℕ). IsDone x) (sym same) h.skipped

not_done : (ts : List Tok) (text rest last : List ℕ) → Begins text ts rest → IsEnd rest last → (ts ≡ [] → last ≡ [] → ⊥) → IsDone text → ⊥
not_done [] text rest last b h k d = k refl (end_done rest last h (subst (λ (x : List ℕ). IsDone x) b d))
not_done (t ∷ ts) text rest last b h k d = none-some (t, b.0) (sym (done_none text d) ∙ next_is text t b.0 b.1)

pub unfinished : (text rest last : List ℕ) (ts : List Tok) → SoFar text ts rest → IsEnd rest last → (ts ≡ [] → last ≡ [] → ⊥) → (¬ IsDone text) × IsNoOtherLanguage text × HasNoFront text
unfinished text rest last ts s h k =
    let none = end_none rest last h in
    (not_done ts text rest last s.begins h k, end_no_language ts text rest s.begins s.no_other none, λ us after f. nothing_stops ts text rest s.begins s.no_stop none us after f.begins f.stops)

-- ---- nesting

abbrev pub bump : Bool → ℕ → ℕ
bump b n = cond b (n + 1) n

abbrev pub count_of : (Tok → Bool) → ℕ → List Tok → ℕ
count_of p n [] = n
count_of p n (t ∷ ts) = count_of p (bump (p t) n) ts

pub count_more : (p : Tok → Bool) (n : ℕ) (ts : List Tok) (t : Tok) → count_of p n (ts ++ t ∷ []) ≡ bump (p t) (count_of p n ts)
count_more p n [] t = refl
count_more p n (u ∷ ts) t = count_more p (bump (p u) n) ts t

max_three : (a b d : ℕ) → max a (max b d) ≡ max (max a b) d
max_three a b d = omega arith

pub nesting_more : (o c : ℕ) (ts : List Tok) (t : Tok) → nesting_from o c (ts ++ t ∷ []) ≡ max (nesting_from o c ts) (bump (opens t) (count_of opens o ts) - count_of closes c ts)
nesting_more o c [] t = omega arith
nesting_more o c (u ∷ ts) t =
    let now = bump (opens u) o in
    let h = nesting_more now (bump (closes u) c) ts t in
    ap (λ (n : ℕ). max (now - c) n) h ∙ max_three (now - c) (nesting_from now (bump (closes u) c) ts) (bump (opens t) (count_of opens now ts) - count_of closes (bump (closes u) c) ts)
