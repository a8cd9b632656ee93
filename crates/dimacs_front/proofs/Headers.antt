-- The header that tokens spell is the one that is read from them, and what refuses them is their refusal.
use Rattle.std.proofs.Common.{◌≡◌, ℕ, ◌≤◌, ◌==◌, ◌&&◌, arith, Bool, true, false, List, [], ◌∷◌, drop, Option, None, Some, Result, Ok, Err, nat_lt, nat_eq, codes, if◌then◌else◌, refl, ap, sym, subst, inl, inr, ◌∙◌}
use Rattle.std.proofs.lemmas.Bool.{cases_Bool, eqb-true, eq-eqb, ltb-true, lt-ltb}
use Rattle.inst_logic.proofs.Booleans.{both_true}
use Rattle.dimacs_front.specs.Lines.{Placed, placed}
use Rattle.dimacs_front.specs.Numbers.{number}
use Rattle.dimacs_front.specs.Form.{same_bytes, words_on, vars_in, count_in, counted, heading, header_on, header}
use Rattle.dimacs_front.specs.Header.{count_first}
use Rattle.dimacs_front.specs.Dimacs.{Spells, HasHeader}
use Rattle.dimacs_front.specs.Refusals.{HasVariables, BeginsWithNumber, IsHeaderRefusal, no_header, no_variables, too_many_variables, no_count}
use Rattle.dimacs_front.specs.declared.error.DimacsError.{DimacsError}
use Rattle.dimacs_front.specs.declared.error.DimacsError.TheVariants.{Syntax, Limit}
use Rattle.dimacs_front.specs.declared.header.Header.{Header}
use Rattle.dimacs_front.proofs.Spelling.{not_lt, spelled_number, number_spells}

pub same_error : {A : Type 0} (x y : DimacsError) → ◌≡◌ {A = Result A DimacsError} (Err x) (Err y) → x ≡ y
same_error x y e = cc

pub same_is : (a b : List ℕ) → same_bytes a b ≡ true → a ≡ b
same_is [] [] e = refl
same_is [] (y ∷ ys) e = absurd (let f : false ≡ true = e in cc)
same_is (x ∷ xs) [] e = absurd (let f : false ≡ true = e in cc)
same_is (x ∷ xs) (y ∷ ys) e =
    let p = both_true (nat_eq x y) (same_bytes xs ys) e in
    ap (λ n. n ∷ xs) (eqb-true x y p.0) ∙ ap (λ t. y ∷ t) (same_is xs ys p.1)

pub not_above : (limit n : ℕ) → n ≤ limit → nat_lt limit n ≡ false
not_above limit n h = elim (cases_Bool (nat_lt limit n)) [ inl e ↦ let l = ltb-true limit n e in absurd (omega arith) | inr e ↦ e ]

-- the tokens of a header, and what follows them
headed : ℕ → List ℕ → List ℕ → List Placed → List Placed
headed line v c rest = placed line (codes "p") ∷ placed line (codes "cnf") ∷ placed line v ∷ placed line c ∷ rest

headed_words : (line : ℕ) (v c : List ℕ) (rest : List Placed) → words_on line (headed line v c rest) ≡ codes "p" ∷ codes "cnf" ∷ v ∷ c ∷ words_on line rest
unfolding headed
headed_words line v c rest = let q = eq-eqb line line refl in rw q refl

headed_read : (end : ℕ) (h : Header) (v c : List ℕ) (rest : List Placed) → Spells h.vars v → h.vars ≤ 1000000 → Spells h.count c → header end (headed h.line v c rest) ≡ Ok h
unfolding headed
headed_read end h v c rest s limit u =
    ap (header_on h.line) (headed_words h.line v c rest)
    ∙ ap (λ o. heading h.line o (number c)) (spelled_number h.vars v s)
    ∙ ap (heading h.line (Some h.vars)) (spelled_number h.count c u)
    ∙ (let n = not_above 1000000 h.vars limit in rw n refl)

pub header_read : (end : ℕ) (ts : List Placed) (h : Header) (rest : List Placed) → HasHeader ts h rest → header end ts ≡ Ok h
unfolding headed
header_read end ts h rest d = ap (header end) d.all ∙ headed_read end h d.vars_word d.count_word rest d.vars d.limit d.count

pub behind_header : (ts : List Placed) (h : Header) (rest : List Placed) → HasHeader ts h rest → drop 4 ts ≡ rest
behind_header ts h rest d = ap (drop 4) d.all

-- the next word of the line is that of the next token
record Next (line : ℕ) (ts : List Placed) (w : List ℕ) (ws : List (List ℕ)) : Type 0 where
  rest : List Placed
  all : ts ≡ placed line w ∷ rest
  words : words_on line rest ≡ ws

next_of : (line : ℕ) (ts : List Placed) (w : List ℕ) (ws : List (List ℕ)) → words_on line ts ≡ w ∷ ws → Next line ts w ws
next_of line [] w ws e = absurd (let f : [] ≡ w ∷ ws = e in cc)
next_of line (t ∷ ts) w ws e = elim (cases_Bool (t.line == line)) [
  | inl q ↦
      let f : t.text ∷ words_on line ts ≡ w ∷ ws = rw q at e in
      let same : t.text ≡ w = cc in
      let others : words_on line ts ≡ ws = cc in
      record { rest = ts; all = ap (λ n. placed n t.text ∷ ts) (eqb-true t.line line q) ∙ ap (λ x. placed line x ∷ ts) same; words = others }
  | inr q ↦ absurd (let f : [] ≡ w ∷ ws = rw q at e in cc)
]

-- what a header says of the words of its line
record Heads (line : ℕ) (ws : List (List ℕ)) (h : Header) : Type 0 where
  vars_word : List ℕ
  count_word : List ℕ
  more : List (List ℕ)
  all : ws ≡ codes "p" ∷ codes "cnf" ∷ vars_word ∷ count_word ∷ more
  vars : Spells h.vars vars_word
  limit : h.vars ≤ 1000000
  count : Spells h.count count_word
  line_is : h.line ≡ line

heading_inverse : (line : ℕ) (v c : Option ℕ) (h : Header) → heading line v c ≡ Ok h → (v ≡ Some h.vars) × (c ≡ Some h.count) × (h.vars ≤ 1000000) × (h.line ≡ line)
heading_inverse line None c h e = absurd (let f : Err (Syntax line) ≡ Ok h = e in cc)
heading_inverse line (Some v) c h e = elim (cases_Bool (nat_lt 1000000 v)) [
  | inl q ↦ absurd (let f : Err Limit ≡ Ok h = rw q at e in cc)
  | inr q ↦ by c (rw q at e) (not_lt 1000000 v q)
]
  where
    by : (o : Option ℕ) → counted line v o ≡ Ok h → v ≤ 1000000 → (Some v ≡ Some h.vars) × (o ≡ Some h.count) × (h.vars ≤ 1000000) × (h.line ≡ line)
    by None f l = absurd (let g : Err (Syntax line) ≡ Ok h = f in cc)
    by (Some n) f l =
        let r : record { line = line; vars = v; count = n } ≡ h = (let g : Ok (record { line = line; vars = v; count = n }) ≡ Ok h = f in cc) in
        (ap (λ (x : Header). Some x.vars) r, ap (λ (x : Header). Some x.count) r, subst (λ (x : Header). x.vars ≤ 1000000) r l, sym (ap (λ (x : Header). x.line) r))

vars_inverse : (p cnf v : List ℕ) (n : ℕ) → (if same_bytes p (codes "p") && same_bytes cnf (codes "cnf") then number v else None) ≡ Some n → (p ≡ codes "p") × (cnf ≡ codes "cnf") × (number v ≡ Some n)
vars_inverse p cnf v n e = by (same_bytes p (codes "p") && same_bytes cnf (codes "cnf")) refl e
  where
    by : (b : Bool) → (same_bytes p (codes "p") && same_bytes cnf (codes "cnf")) ≡ b → (if b then number v else None) ≡ Some n → (p ≡ codes "p") × (cnf ≡ codes "cnf") × (number v ≡ Some n)
    by true t f = let q = both_true (same_bytes p (codes "p")) (same_bytes cnf (codes "cnf")) t in (same_is p (codes "p") q.0, same_is cnf (codes "cnf") q.1, f)
    by false t f = absurd (let g : None ≡ Some n = f in cc)

heads : (line : ℕ) (ws : List (List ℕ)) (h : Header) → header_on line ws ≡ Ok h → Heads line ws h
heads line [] h e = absurd (let q = heading_inverse line None None h e in let f = q.0 in cc)
heads line (p ∷ []) h e = absurd (let q = heading_inverse line None None h e in let f = q.0 in cc)
heads line (p ∷ cnf ∷ []) h e = absurd (let q = heading_inverse line None None h e in let f = q.0 in cc)
heads line (p ∷ cnf ∷ v ∷ []) h e = absurd (let q = heading_inverse line (vars_in (p ∷ cnf ∷ v ∷ [])) None h e in let f = q.1 in cc)
heads line (p ∷ cnf ∷ v ∷ c ∷ ws) h e =
    let q = heading_inverse line (vars_in (p ∷ cnf ∷ v ∷ c ∷ ws)) (number c) h e in
    let u = vars_inverse p cnf v h.vars q.0 in
    record {
      vars_word = v;
      count_word = c;
      more = ws;
      all = ap (λ x. x ∷ cnf ∷ v ∷ c ∷ ws) u.0 ∙ ap (λ x. codes "p" ∷ x ∷ v ∷ c ∷ ws) u.1;
      vars = number_spells h.vars v u.2;
      limit = q.2;
      count = number_spells h.count c q.1;
      line_is = q.3;
    }

header_is : (line : ℕ) (ts : List Placed) (h : Header) → Heads line (words_on line ts) h → (rest : List Placed) × HasHeader ts h rest
header_is line ts h d =
    let one = next_of line ts (codes "p") (codes "cnf" ∷ d.vars_word ∷ d.count_word ∷ d.more) d.all in
    let two = next_of line one.rest (codes "cnf") (d.vars_word ∷ d.count_word ∷ d.more) one.words in
    let three = next_of line two.rest d.vars_word (d.count_word ∷ d.more) two.words in
    let four = next_of line three.rest d.count_word d.more three.words in
    let all : ts ≡ placed line (codes "p") ∷ placed line (codes "cnf") ∷ placed line d.vars_word ∷ placed line d.count_word ∷ four.rest =
    one.all ∙ ap (λ us. placed line (codes "p") ∷ us) two.all ∙ ap (λ us. placed line (codes "p") ∷ placed line (codes "cnf") ∷ us) three.all
    ∙ ap (λ us. placed line (codes "p") ∷ placed line (codes "cnf") ∷ placed line d.vars_word ∷ us) four.all in (
      four.rest,
      record {
        vars_word = d.vars_word;
        count_word = d.count_word;
        all = subst (λ n. ts ≡ placed n (codes "p") ∷ placed n (codes "cnf") ∷ placed n d.vars_word ∷ placed n d.count_word ∷ four.rest) (sym d.line_is) all;
        vars = d.vars;
        limit = d.limit;
        count = d.count;
      },
    )

pub header_found : (end : ℕ) (ts : List Placed) (h : Header) → header end ts ≡ Ok h → (rest : List Placed) × HasHeader ts h rest
header_found end [] h e = absurd (let f : Err (Syntax end) ≡ Ok h = e in cc)
header_found end (t ∷ ts) h e = header_is t.line (t ∷ ts) h (heads t.line (words_on t.line (t ∷ ts)) h e)

-- the words that begin with `p cnf V` are those that V is read from

variables_found : (ws : List (List ℕ)) (vars : ℕ) → vars_in ws ≡ Some vars → (more : List (List ℕ)) × HasVariables ws vars more
variables_found [] vars e = absurd (let f : None ≡ Some vars = e in cc)
variables_found (p ∷ []) vars e = absurd (let f : None ≡ Some vars = e in cc)
variables_found (p ∷ cnf ∷ []) vars e = absurd (let f : None ≡ Some vars = e in cc)
variables_found (p ∷ cnf ∷ w ∷ ws) vars e =
    let u = vars_inverse p cnf w vars e in
    (ws, record { word = w; all = ap (λ x. x ∷ cnf ∷ w ∷ ws) u.0 ∙ ap (λ x. codes "p" ∷ x ∷ w ∷ ws) u.1; spelled = number_spells vars w u.2 })

variables_read : (ws : List (List ℕ)) (vars : ℕ) (more : List (List ℕ)) → HasVariables ws vars more → vars_in ws ≡ Some vars
variables_read ws vars more d = ap vars_in d.all ∙ spelled_number vars d.word d.spelled

variables_missed : (ws : List (List ℕ)) → ((vars : ℕ) (more : List (List ℕ)) → ¬ HasVariables ws vars more) → vars_in ws ≡ None
variables_missed ws n = go (vars_in ws) refl
  where
    go : (o : Option ℕ) → vars_in ws ≡ o → vars_in ws ≡ None
    go None e = e
    go (Some vars) e = absurd (let f = variables_found ws vars e in n vars f.0 f.1)

count_read : (ws : List (List ℕ)) (vars : ℕ) (more : List (List ℕ)) → HasVariables ws vars more → count_in ws ≡ count_first more
count_read ws vars more d = ap count_in d.all ∙ by more
  where
    by : (us : List (List ℕ)) → count_in (codes "p" ∷ codes "cnf" ∷ d.word ∷ us) ≡ count_first us
    by [] = refl
    by (u ∷ us) = refl

count_missed : (ws : List (List ℕ)) → ¬ BeginsWithNumber ws → count_first ws ≡ None
count_missed [] n = refl
count_missed (w ∷ ws) n = go (number w) refl
  where
    go : (o : Option ℕ) → number w ≡ o → number w ≡ None
    go None e = e
    go (Some k) e = absurd (n (k, number_spells k w e))

missed_count : (ws : List (List ℕ)) → count_first ws ≡ None → ¬ BeginsWithNumber ws
missed_count [] e b = b
missed_count (w ∷ ws) e (n, s) = let f : None ≡ Some n = sym e ∙ spelled_number n w s in cc

-- refusals

header_by : (end : ℕ) (ts : List Placed) (t : Placed) (us : List Placed) → ts ≡ t ∷ us → header end ts ≡ header_on t.line (words_on t.line ts)
header_by end ts t us q = ap (header end) q ∙ ap (λ vs. header_on t.line (words_on t.line vs)) (sym q)

pub header_refused : (end : ℕ) (ts : List Placed) (e : DimacsError) → IsHeaderRefusal end ts e → header end ts ≡ Err e
header_refused end ts e (no_header q r) = ap (header end) q ∙ ap Err (sym r)
header_refused end ts e (no_variables t us q n r) =
    let ws = words_on t.line ts in
    header_by end ts t us q ∙ ap (λ o. heading t.line o (count_in ws)) (variables_missed ws n) ∙ ap Err (sym r)
header_refused end ts e (too_many_variables t us q vars more d above r) =
    let ws = words_on t.line ts in
    header_by end ts t us q ∙ ap (λ o. heading t.line o (count_in ws)) (variables_read ws vars more d) ∙ (let b = lt-ltb 1000000 vars above in rw b (ap Err (sym r)))
header_refused end ts e (no_count t us q vars more d limit n r) =
    let ws = words_on t.line ts in
    header_by end ts t us q ∙ ap (λ o. heading t.line o (count_in ws)) (variables_read ws vars more d) ∙ ap (heading t.line (Some vars)) (count_read ws vars more d ∙ count_missed more n)
    ∙ (let b = not_above 1000000 vars limit in rw b (ap Err (sym r)))

pub header_refusal : (end : ℕ) (ts : List Placed) (e : DimacsError) → header end ts ≡ Err e → IsHeaderRefusal end ts e
header_refusal end [] e f = no_header refl (sym (same_error (Syntax end) e f))
header_refusal end (t ∷ us) e f = go (vars_in ws) refl f
  where
    ws : List (List ℕ)
    ws = words_on t.line (t ∷ us)

    within : (vars : ℕ) (more : List (List ℕ)) → HasVariables ws vars more → vars ≤ 1000000 → (o : Option ℕ) → count_first more ≡ o → counted t.line vars o ≡ Err e → IsHeaderRefusal end (t ∷ us) e
    within vars more d limit None k g = no_count t us refl vars more d limit (missed_count more k) (sym (same_error (Syntax t.line) e g))
    within vars more d limit (Some c) k g = absurd (let j : Ok (record { line = t.line; vars = vars; count = c }) ≡ Err e = g in cc)

    go : (o : Option ℕ) → vars_in ws ≡ o → heading t.line o (count_in ws) ≡ Err e → IsHeaderRefusal end (t ∷ us) e
    go None k g = no_variables t us refl (λ vars more d. let j : None ≡ Some vars = sym k ∙ variables_read ws vars more d in cc) (sym (same_error (Syntax t.line) e g))
    go (Some vars) k g =
        let found = variables_found ws vars k in
        elim (cases_Bool (nat_lt 1000000 vars)) [
          | inl b ↦ too_many_variables t us refl vars found.0 found.1 (ltb-true 1000000 vars b) (sym (same_error Limit e (rw b at g)))
          | inr b ↦ within vars found.0 found.1 (not_lt 1000000 vars b) (count_first found.0) refl (sym (ap (counted t.line vars) (count_read ws vars found.0 found.1)) ∙ (rw b at g))
        ]
