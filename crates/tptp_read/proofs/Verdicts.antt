-- What a statement's first word decides.
use Rattle.std.proofs.Common.{◌≡◌, ℕ, ◌≤◌, ◌<◌, true, false, List, [], ◌∷◌, length, Option, Some, None, Result, Ok, Err, refl, sym, ap, ◌∙◌, inl, inr, arith}
use Rattle.std.specs.Prelude.{codes}
use Rattle.std.specs.Option.{option_map}
use Rattle.std.specs.Str.{bytes_eq}
use Rattle.tptp_read.specs.Stream.{Tok, IsDone}
use Rattle.tptp_read.specs.declared.statement.Statement.{Statement}
use Rattle.tptp_read.specs.declared.stop.Stop.{Stop}
use Rattle.tptp_read.specs.declared.stop.Stop.TheVariants as stops
use Rattle.tptp_read.specs.declared.refusal.Refusal.{Refusal}
use Rattle.tptp_read.specs.declared.refusal.Refusal.TheVariants as refusals
use Rattle.tptp_read.specs.Lexemes.{is_lower_kind}
use Rattle.tptp_read.specs.Grammar.{Form, IsForm}
use Rattle.tptp_read.specs.Meaning.{Fault, syntax_fault, judged}
use Rattle.tptp_read.specs.Parse.{behind}
use Rattle.tptp_read.specs.ParseForm.{one_of, cnf_at, include_at, form_at}
use Rattle.tptp_read.specs.Rules.{IsNoOtherLanguage, IsFront, nesting, IsRead, IsOffence, no_form, refused}
use Rattle.tptp_read.specs.LexemeView.{Fails}
use Rattle.tptp_read.specs.Selected.{starts}
use Rattle.tptp_read.specs.Words.{is_word}
use Rattle.tptp_read.specs.Verdicts.{judged_form, verdict, refusal_of, IsOf}
use Rattle.tptp_read.proofs.ParseLaws.{both_true}
use Rattle.tptp_read.proofs.FormLaws.{form_spelled, form_read}
use Rattle.inst_logic.proofs.Booleans.{first_false}
use Rattle.std.proofs.lemmas.Option.{none-some}

pub cnf_told : (ts : List Tok) → starts (is_word (codes "cnf")) ts ≡ true → verdict ts ≡ judged_form (cnf_at (length ts) (behind ts))
unfolding verdict form_at one_of
cnf_told [] e = absurd cc
cnf_told (t ∷ us) e = let b = both_true (is_lower_kind t.kind) (bytes_eq t.text (codes "cnf")) e in rw (b.0, b.1) refl

pub include_told : (ts : List Tok) → starts (is_word (codes "cnf")) ts ≡ false → starts (is_word (codes "include")) ts ≡ true → verdict ts ≡ judged_form (include_at (behind ts))
unfolding verdict form_at one_of
include_told [] n e = absurd cc
include_told (t ∷ us) n e =
    let b = both_true (is_lower_kind t.kind) (bytes_eq t.text (codes "include")) e in
    let no : bytes_eq t.text (codes "cnf") ≡ false = sym (rw (b.0) refl) ∙ n in
    rw (b.0, no, b.1) refl

not_lower : (t : Tok) (us : List Tok) → is_lower_kind t.kind ≡ false → verdict (t ∷ us) ≡ Err syntax_fault
unfolding verdict form_at one_of
not_lower t us e = rw e refl

no_words : (t : Tok) (us : List Tok) → is_lower_kind t.kind ≡ true → bytes_eq t.text (codes "cnf") ≡ false → bytes_eq t.text (codes "include") ≡ false → verdict (t ∷ us) ≡ Err syntax_fault
unfolding verdict form_at one_of
no_words t us l c i = rw (l, c, i) refl

pub none_told : (ts : List Tok) → starts (is_word (codes "cnf")) ts ≡ false → starts (is_word (codes "include")) ts ≡ false → verdict ts ≡ Err syntax_fault
unfolding verdict form_at one_of
none_told [] n m = refl
none_told (t ∷ us) n m = elim (first_false (is_lower_kind t.kind) (bytes_eq t.text (codes "cnf")) n) [
  | inl e ↦ not_lower t us e
  | inr e ↦ elim (first_false (is_lower_kind t.kind) (bytes_eq t.text (codes "include")) m) [
    | inl f ↦ not_lower t us f
    | inr f ↦ no_words t us e.0 e.1 f.1
  ]
]

-- what an include gives is its verdict
pub include_done : (f : Option Form) (s : Statement) → option_map judged f ≡ Some (Ok s) → judged_form f ≡ Ok s
include_done None s e = absurd cc
include_done (Some f) s e = cc

pub include_failed : (f : Option Form) (e : Stop) → Fails e (option_map judged f) → IsOf (λ d. judged_form f ≡ Err d) (refusal_of e)
include_failed f stops.Memory h = tt
include_failed None stops.Wrong h = refl
include_failed (Some f) stops.Wrong h = absurd cc

-- ---- a statement in its text

form_or : (ts : List Tok) (f : Option Form) → form_at ts ≡ f → (v : Result Statement Fault) → judged_form f ≡ v → verdict ts ≡ v
unfolding verdict
form_or ts f e v h = ap judged_form e ∙ h

unfold_verdict : (ts : List Tok) → verdict ts ≡ judged_form (form_at ts)
unfolding verdict
unfold_verdict ts = refl

err_ok : (e : Fault) (s : Statement) → Err e ≡ Ok s → ⊥
err_ok e s h = cc

same_fault : (d e : Fault) → (let x : Result Statement Fault = Err d in x) ≡ Err e → d ≡ e
same_fault d e h = cc

by_form : (ts : List Tok) (s : Statement) (f : Option Form) → form_at ts ≡ f → judged_form f ≡ Ok s → (g : Form) × IsForm ts g × (judged g ≡ Ok s)
by_form ts s None e h = absurd (err_ok syntax_fault s h)
by_form ts s (Some g) e h = (g, form_spelled ts g e, h)

pub reads : (text : List ℕ) (ts : List Tok) (rest : List ℕ) (s : Statement) → IsNoOtherLanguage text → IsFront text ts rest → nesting ts ≤ 256 → verdict ts ≡ Ok s → IsRead text s rest
reads text ts rest s lang front flat v =
    let g = by_form ts s (form_at ts) refl (sym (unfold_verdict ts) ∙ v) in
    record { language = lang; tokens = ts; front = front; flat = omega (arith, flat); form = g.0; is_form = g.1; value = g.2 }

fault_by_form : (text : List ℕ) (ts : List Tok) (rest : List ℕ) (e : Fault) → IsNoOtherLanguage text → IsFront text ts rest → nesting ts < 257 → (f : Option Form) → form_at ts ≡ f → judged_form f ≡ Err e → IsOffence text e
fault_by_form text ts rest e lang front flat None is v = no_form lang ts rest front flat (λ f is_form. none-some f (sym is ∙ form_read ts f is_form)) (sym (same_fault syntax_fault e v))
fault_by_form text ts rest e lang front flat (Some f) is v = refused lang ts rest front flat f (form_spelled ts f is) v

pub faults : (text : List ℕ) (ts : List Tok) (rest : List ℕ) (e : Fault) → IsNoOtherLanguage text → IsFront text ts rest → nesting ts ≤ 256 → verdict ts ≡ Err e → IsOffence text e
faults text ts rest e lang front flat v = fault_by_form text ts rest e lang front (omega (arith, flat)) (form_at ts) refl (sym (unfold_verdict ts) ∙ v)

map_of : (P Q : Fault → Type 0) (r : Refusal) → ((e : Fault) → P e → Q e) → IsOf P r → IsOf Q r
map_of P Q refusals.Memory f h = tt
map_of P Q refusals.Syntax f h = f syntax_fault h
map_of P Q (refusals.Language w) f h = f _ h
map_of P Q (refusals.Feature w) f h = f _ h
map_of P Q (refusals.Role w) f h = f _ h
map_of P Q (refusals.Limit which) f h = f _ h

pub refusal_faults : (text : List ℕ) (ts : List Tok) (rest : List ℕ) (r : Refusal) → ¬ IsDone text → IsNoOtherLanguage text → IsFront text ts rest → nesting ts ≤ 256 → IsOf (λ e. verdict ts ≡ Err e) r → IsOf (λ e. (¬ IsDone text) × IsOffence text e) r
refusal_faults text ts rest r some lang front flat h =
    map_of (λ e. verdict ts ≡ Err e) (λ e. (¬ IsDone text) × IsOffence text e) r (λ e v. (some, faults text ts rest e lang front flat v)) h
