-- What is read of the tokens behind the header: the quantifiers that they spell, or their refusal.
use Rattle.std.proofs.Common.{◌≡◌, ◌≢◌, ℕ, zero, suc, ◌+◌, ◌==◌, Bool, true, false, cond, List, [], ◌∷◌, ◌++◌, Option, None, Some, Result, Ok, Err, nat_lt, refl, ap, sym, subst, inl, inr, ◌∙◌, arith}
use Rattle.std.specs.Prelude.{codes}
use Rattle.std.proofs.lemmas.Bool.{cases_Bool, eqb-true, eqb-false, eq-eqb, ltb-true, lt-ltb}
use Rattle.inst_logic.specs.declared.signed.Signed.{Signed}
use Rattle.inst_logic.proofs.Membership.{◌∈◌, contains_in, in_contains, any_true, any_from, none_passes, in_map, from_map}
use Rattle.qbf_logic.specs.declared.quant.Quant.{Quant}
use Rattle.qbf_logic.specs.Formulas.{IsQuantified}
use Rattle.qbf_logic.proofs.Valued.{variables_of}
use Rattle.dimacs_front.specs.Lines.{Placed}
use Rattle.dimacs_front.specs.Numbers.{number, mark_of}
use Rattle.dimacs_front.specs.Form.{same_bytes}
use Rattle.dimacs_front.specs.Dimacs.{Spells, SpellsClauses}
use Rattle.dimacs_front.specs.Quantified.{Stage, behind_line, on_line, letter_of, first_on, is_quantified, with_number, after, Quantified, quantified}
use Rattle.dimacs_front.specs.Qdimacs.{letter, SpellsQuantifiers, nothing, and_letter, and_variable, and_end, BeginsClauses, HasPrefix}
use Rattle.dimacs_front.specs.FormulaRefusals.{GoesOnWithNumber, IsPrefixRefusal, behind_end, no_number, above_variables, second_quantifier}
use Rattle.dimacs_front.specs.declared.error.DimacsError.{DimacsError}
use Rattle.dimacs_front.specs.declared.error.DimacsError.TheVariants.{Syntax}
use Rattle.dimacs_front.specs.declared.header.Header.{Header}
use Rattle.dimacs_front.proofs.Spelling.{not_lt, spelled_number, number_spells, spelled_literal, one_digit}
use Rattle.dimacs_front.proofs.SpelledClauses.{differ}
use Rattle.dimacs_front.proofs.Headers.{same_is, not_above}

-- quantified variables

not_quantified : (prefix : List Quant) (n : ℕ) → ¬ IsQuantified prefix n → is_quantified prefix n ≡ false
not_quantified prefix n k =
    none_passes (λ q. q.var == n) prefix (λ q i. differ q.var n (λ e. k (in_contains n (variables_of prefix) (subst (λ m. m ∈ variables_of prefix) e (in_map (λ (r : Quant). r.var) q prefix i)))))

quantified_before : (prefix : List Quant) (n : ℕ) → IsQuantified prefix n → is_quantified prefix n ≡ true
quantified_before prefix n c =
    let (q, i, e) = from_map (λ (r : Quant). r.var) n prefix (contains_in n (variables_of prefix) c) in
    any_from (λ q. q.var == n) prefix q i (eq-eqb q.var n e)

before_quantified : (prefix : List Quant) (n : ℕ) → is_quantified prefix n ≡ true → IsQuantified prefix n
before_quantified prefix n t =
    let (q, i, e) = any_true (λ q. q.var == n) prefix t in
    in_contains n (variables_of prefix) (subst (λ m. m ∈ variables_of prefix) (eqb-true q.var n e) (in_map (λ (r : Quant). r.var) q prefix i))

quantified_not : (prefix : List Quant) (n : ℕ) → is_quantified prefix n ≡ false → ¬ IsQuantified prefix n
quantified_not prefix n e c = let f : true ≡ false = sym (quantified_before prefix n c) ∙ e in cc

-- letters

letter_found : (all : Bool) (w : List ℕ) → w ≡ letter all → letter_of w ≡ Some all
letter_found true w e = ap letter_of e
letter_found false w e = ap letter_of e

found_letter : (all : Bool) (w : List ℕ) → letter_of w ≡ Some all → w ≡ letter all
found_letter all w e = elim (cases_Bool (same_bytes w (codes "a"))) [
  | inl t ↦ let f : Some true ≡ Some all = rw t at e in let b : true ≡ all = cc in same_is w (codes "a") t ∙ ap letter b
  | inr t ↦ second (rw t at e)
]
  where
    second : cond (same_bytes w (codes "e")) (Some false) None ≡ Some all → w ≡ letter all
    second f = elim (cases_Bool (same_bytes w (codes "e"))) [
      | inl t ↦ let g : Some false ≡ Some all = rw t at f in let b : false ≡ all = cc in same_is w (codes "e") t ∙ ap letter b
      | inr t ↦ absurd (let g : None ≡ Some all = rw t at f in cc)
    ]

no_letter : (w : List ℕ) → ((all : Bool) → w ≢ letter all) → letter_of w ≡ None
no_letter w h = go (letter_of w) refl
  where
    go : (o : Option Bool) → letter_of w ≡ o → letter_of w ≡ None
    go None e = e
    go (Some all) e = absurd (h all (found_letter all w e))

marked_no_letter : (all : Bool) → mark_of (letter all) ≡ None
marked_no_letter true = refl
marked_no_letter false = refl

-- the first token of clauses is no letter
clauses_begin : (vars : ℕ) (t : Placed) (ts : List Placed) (cs : List (List (Signed ℕ))) → SpellsClauses vars (t ∷ ts) cs → (all : Bool) → t.text ≢ letter all
clauses_begin vars t ts [] s all w = let e : (t ∷ ts) ≡ [] = s in cc
clauses_begin vars t ts ([] ∷ cs) (rest, (e, f), more) all w = let g = sym (ap letter_of e) ∙ letter_found all t.text w in let h : None ≡ Some all = g in cc
clauses_begin vars t ts ((l ∷ c) ∷ cs) (rest, (s, b, m), more) all w = let f = sym (spelled_literal l t.text s) ∙ ap mark_of w ∙ marked_no_letter all in cc

pub clauses_go_on : (line : ℕ) (vars : ℕ) (ts : List Placed) (cs : List (List (Signed ℕ))) → ((t : Placed) (us : List Placed) → ts ≡ t ∷ us → t.line ≢ line) → SpellsClauses vars ts cs → BeginsClauses line ts
clauses_go_on line vars [] cs n s = tt
clauses_go_on line vars (t ∷ ts) cs n s = (n t ts refl, clauses_begin vars t ts cs s)

-- from what is spelled to what is read

spelled_quantified : (h : Header) (body : List Placed) (stage : Stage) (prefix : List Quant) (rest : List Placed) → SpellsQuantifiers h body stage prefix rest
    → quantified h.vars (behind_line h.line) [] body ≡ quantified h.vars stage prefix rest
spelled_quantified h body _ _ _ nothing = refl
spelled_quantified h body _ _ _ (and_letter line prefix t rest s n all w) =
    let other = differ t.line line n in
    let found = letter_found all t.text w in
    spelled_quantified h body (behind_line line) prefix (t ∷ rest) s ∙ (rw (other, found) refl)
spelled_quantified h body _ _ _ (and_variable line all prefix t rest s same n spelled below fresh) =
    let here = eq-eqb t.line line same in
    let read : number t.text ≡ Some (suc n) = spelled_number (n + 1) t.text spelled ∙ ap Some (omega arith) in
    let small = lt-ltb n h.vars below in
    let new = not_quantified prefix n fresh in
    spelled_quantified h body (on_line all line) prefix (t ∷ rest) s ∙ (rw (here, read, small, new) refl)
spelled_quantified h body _ _ _ (and_end line all prefix t rest s same zero_text) =
    let here = eq-eqb t.line line same in
    let read : number t.text ≡ Some 0 = ap number zero_text in
    spelled_quantified h body (on_line all line) prefix (t ∷ rest) s ∙ (rw (here, read) refl)

pub prefix_read : (h : Header) (body : List Placed) (prefix : List Quant) (rest : List Placed) → HasPrefix h body prefix rest → quantified h.vars (behind_line h.line) [] body ≡ Ok (record { prefix = prefix; rest = rest })
prefix_read h body prefix rest p = spelled_quantified h body (behind_line p.last_line) prefix rest p.quantifiers ∙ ended rest p.ends
  where
    ended : (ts : List Placed) → BeginsClauses p.last_line ts → quantified h.vars (behind_line p.last_line) prefix ts ≡ Ok (record { prefix = prefix; rest = ts })
    ended [] b = refl
    ended (t ∷ ts) (n, k) = let other = differ t.line p.last_line n in let none = no_letter t.text k in rw (other, none) refl

no_number_read : (vars line : ℕ) (all : Bool) (prefix : List Quant) (ts : List Placed) → ¬ GoesOnWithNumber line ts → quantified vars (on_line all line) prefix ts ≡ Err (Syntax line)
no_number_read vars line all prefix [] n = refl
no_number_read vars line all prefix (t ∷ ts) n = elim (cases_Bool (t.line == line)) [
  | inl b ↦ let none : number t.text ≡ None = go b (number t.text) refl in rw (b, none) refl
  | inr b ↦ rw b refl
]
  where
    go : (t.line == line) ≡ true → (o : Option ℕ) → number t.text ≡ o → number t.text ≡ None
    go b None e = e
    go b (Some k) e = absurd (n (eqb-true t.line line b, k, number_spells k t.text e))

pub prefix_refused : (h : Header) (body : List Placed) (e : DimacsError) → IsPrefixRefusal h body e → quantified h.vars (behind_line h.line) [] body ≡ Err e
prefix_refused h body e (behind_end line prefix t rest s same r) =
    let here = eq-eqb t.line line same in
    spelled_quantified h body (behind_line line) prefix (t ∷ rest) s ∙ (rw here (ap Err (sym r)))
prefix_refused h body e (no_number line all prefix rest s n r) =
    spelled_quantified h body (on_line all line) prefix rest s ∙ no_number_read h.vars line all prefix rest n ∙ ap Err (sym r)
prefix_refused h body e (above_variables line all prefix t rest s same n spelled above r) =
    let here = eq-eqb t.line line same in
    let read : number t.text ≡ Some (suc n) = spelled_number (n + 1) t.text spelled ∙ ap Some (omega arith) in
    let large = not_above n h.vars above in
    spelled_quantified h body (on_line all line) prefix (t ∷ rest) s ∙ (rw (here, read, large) (ap Err (sym r)))
prefix_refused h body e (second_quantifier line all prefix t rest s same n spelled below again r) =
    let here = eq-eqb t.line line same in
    let read : number t.text ≡ Some (suc n) = spelled_number (n + 1) t.text spelled ∙ ap Some (omega arith) in
    let small = lt-ltb n h.vars below in
    let old = quantified_before prefix n again in
    spelled_quantified h body (on_line all line) prefix (t ∷ rest) s ∙ (rw (here, read, small, old) (ap Err (sym r)))

-- from what is read to what is spelled

abbrev pub PrefixOutcome : Header → List Placed → Result Quantified DimacsError → Type 0
PrefixOutcome h body (Ok q) = HasPrefix h body q.prefix q.rest
PrefixOutcome h body (Err e) = IsPrefixRefusal h body e

quantified_outcome : (h : Header) (body : List Placed) (stage : Stage) (prefix : List Quant) (ts : List Placed) → SpellsQuantifiers h body stage prefix ts → PrefixOutcome h body (quantified h.vars stage prefix ts)
quantified_outcome h body (behind_line line) prefix [] s = record { last_line = line; quantifiers = s; ends = tt }
quantified_outcome h body (on_line all line) prefix [] s = no_number line all prefix [] s (λ b. b) refl
quantified_outcome h body (behind_line line) prefix (t ∷ ts) s = elim (cases_Bool (t.line == line)) [
  | inl q ↦ rw q (behind_end line prefix t ts s (eqb-true t.line line q) refl)
  | inr q ↦ rw q (by (letter_of t.text) refl (eqb-false t.line line q) (λ all r. quantified_outcome h body (on_line all t.line) prefix ts r))
]
  where
    by : (o : Option Bool) → letter_of t.text ≡ o → t.line ≢ line → ((all : Bool) → SpellsQuantifiers h body (on_line all t.line) prefix ts → PrefixOutcome h body (quantified h.vars (on_line all t.line) prefix ts))
        → PrefixOutcome h body (after (first_on t.line prefix o) prefix (t ∷ ts) (λ next longer. quantified h.vars next longer ts))
    by None k n later = record { last_line = line; quantifiers = s; ends = (n, λ all w. let f : Some all ≡ None = sym (letter_found all t.text w) ∙ k in cc) }
    by (Some all) k n later = later all (and_letter line prefix t ts s n all (found_letter all t.text k))
quantified_outcome h body (on_line all line) prefix (t ∷ ts) s = elim (cases_Bool (t.line == line)) [
  | inl q ↦ rw q (by (number t.text) refl (eqb-true t.line line q) (λ stage longer r. quantified_outcome h body stage longer ts r))
  | inr q ↦ rw q (no_number line all prefix (t ∷ ts) s (λ b. eqb-false t.line line q b.0) refl)
]
  where
    by : (o : Option ℕ) → number t.text ≡ o → t.line ≡ line → ((stage : Stage) (longer : List Quant) → SpellsQuantifiers h body stage longer ts → PrefixOutcome h body (quantified h.vars stage longer ts))
        → PrefixOutcome h body (after (with_number h.vars all line prefix o) prefix (t ∷ ts) (λ next longer. quantified h.vars next longer ts))
    by None k same later = no_number line all prefix (t ∷ ts) s (λ b. let f : None ≡ Some b.1 = sym k ∙ spelled_number b.1 t.text b.2 in cc) refl
    by (Some zero) k same later = later (behind_line line) prefix (and_end line all prefix t ts s same (one_digit t.text (number_spells 0 t.text k)))
    by (Some (suc n)) k same later =
        let spelled : Spells (n + 1) t.text = number_spells (n + 1) t.text (k ∙ ap Some (omega arith)) in
        elim (cases_Bool (nat_lt n h.vars)) [
          | inl b ↦ elim (cases_Bool (is_quantified prefix n)) [
            | inl u ↦ rw (b, u) (second_quantifier line all prefix t ts s same n spelled (ltb-true n h.vars b) (before_quantified prefix n u) refl)
            | inr u ↦ rw (b, u) (later (on_line all line) (prefix ++ record { all = all; var = n } ∷ []) (and_variable line all prefix t ts s same n spelled (ltb-true n h.vars b) (quantified_not prefix n u)))
          ]
          | inr b ↦ rw b (above_variables line all prefix t ts s same n spelled (not_lt n h.vars b) refl)
        ]

pub prefix_outcome : (h : Header) (body : List Placed) → PrefixOutcome h body (quantified h.vars (behind_line h.line) [] body)
prefix_outcome h body = quantified_outcome h body (behind_line h.line) [] body nothing
