-- One literal after another.
use Rattle.std.proofs.Common.{◌≡◌, ℕ, ◌+◌, ◌-◌, ◌≤◌, take, drop, drop-drop, take-append-drop, Bool, true, false, List, [], ◌∷◌, ◌++◌, Option, Some, None, Result, Err, refl, sym, ap, subst, ◌∙◌, arith, codes}
use Rattle.std.specs.Prelude.{◌||◌}
use Rattle.std.specs.Str.{bytes_eq}
use Rattle.std.proofs.lemmas.Slice.Eq.{bytes_eq-Decides}
use Rattle.std.proofs.lemmas.List.{append-nil, map-append}
use Rattle.tptp_read.specs.declared.kind.TokenKind.{TokenKind}
use Rattle.tptp_read.specs.declared.kind.TokenKind.TheVariants.{LowerWord, Variable, DollarWord, QuotedWord, DistinctObject, Integer, Rational, Real, Punctuation}
use Rattle.tptp_read.specs.Stream.{Tok}
use Rattle.tptp_read.specs.declared.stop.Stop.{Stop}
use Rattle.tptp_read.specs.declared.stop.Stop.TheVariants as stops
use Rattle.tptp_read.specs.Lexemes.{is_head, is_variable_kind, is_dollar_kind}
use Rattle.tptp_read.specs.Grammar.{Written, single, applied, term_fits, is_atom, Simple}
use Rattle.tptp_read.specs.Meaning.{Wrote, predicate, equal, from_simple, tree_of, predicate_of, literal_of, is_truth, first_feature, tokens_of}
use Rattle.tptp_read.specs.ParseClause.{simple_at}
use Rattle.tptp_read.specs.declared.lexeme.Lexeme.{Lexeme}
use Rattle.tptp_read.specs.LexemeView.{tok, toks, Fails, Gives}
use Rattle.tptp_read.specs.Shapes.{seen, LiteralShape, shape_of}
use Rattle.tptp_read.specs.Plain.{all_tokens, wrote_fits}
use Rattle.tptp_read.specs.Gathered.{Gathered, gather, put, or_else, atom_literals}
use Rattle.tptp_read.proofs.ParseLaws.{both_true}
use Rattle.tptp_read.proofs.ItemLaws.{simple_spelled}
use Rattle.tptp_read.proofs.PlainTokens.{simple_wrote, literal_feature}
use Rattle.inst_logic.proofs.Outcomes.{same_pair}

pub or_false : (b : Bool) → b ≡ (b || false)
or_false true = refl
or_false false = refl

pub or_none : (o : Option (List ℕ)) → o ≡ or_else o None
or_none (Some x) = refl
or_none None = refl

head_no_variable : (k : TokenKind) → is_head k ≡ true → is_variable_kind k ≡ false
head_no_variable LowerWord e = refl
head_no_variable DollarWord e = refl
head_no_variable QuotedWord e = refl
head_no_variable Punctuation e = absurd cc
head_no_variable Variable e = absurd cc
head_no_variable DistinctObject e = absurd cc
head_no_variable Integer e = absurd cc
head_no_variable Rational e = absurd cc
head_no_variable Real e = absurd cc

atom_is : (vs : List (List ℕ)) (sign : Bool) (t : Written) → is_atom t ≡ true → atom_literals sign (tree_of vs t) ≡ record { positive = sign; atom = predicate_of vs t } ∷ []
atom_is vs sign (single t) e = rw (head_no_variable t.kind e) refl
atom_is vs sign (applied f t ts) e = refl

true_not_false : (t : Written) → is_truth (codes "$true") t ≡ true → is_truth (codes "$false") t ≡ false
true_not_false (single t) e =
    let both = both_true (is_dollar_kind t.kind) (bytes_eq t.text (codes "$true")) e in
    let text : t.text ≡ codes "$true" = (bytes_eq-Decides t.text (codes "$true")).0 both.1 in
    rw (both.0, text) refl
true_not_false (applied f t ts) e = absurd cc

-- the atom of a predicate, by what it may be
put_by : (vs : List (List ℕ)) (g : Gathered) (sign : Bool) (t : Written) (yes nay : Bool) → is_truth (codes "$true") t ≡ yes → is_truth (codes "$false") t ≡ nay → (yes ≡ true → nay ≡ false) → is_atom t ≡ true
    → put g (shape_of vs (predicate sign t)) (first_feature (tokens_of t)) ≡ gather vs g (predicate sign t)
put_by vs g true t true nay y n never at = rw (y) (λ i. record { clause = sym (append-nil g.clause) i; always = g.always || true; feature = or_none g.feature i })
put_by vs g false t true nay y n never at = let f = n ∙ never refl in rw (y, f) (λ i. record { clause = sym (append-nil g.clause) i; always = g.always || false; feature = or_none g.feature i })
put_by vs g true t false true y n never at = rw (y, n) (λ i. record { clause = sym (append-nil g.clause) i; always = g.always || false; feature = or_none g.feature i })
put_by vs g false t false true y n never at = rw (y, n) (λ i. record { clause = sym (append-nil g.clause) i; always = g.always || true; feature = or_none g.feature i })
put_by vs g true t false false y n never at = rw (y, n) (λ i. record { clause = g.clause ++ atom_is vs true t at i; always = or_false g.always i; feature = or_else g.feature (first_feature (tokens_of t)) })
put_by vs g false t false false y n never at = rw (y, n) (λ i. record { clause = g.clause ++ atom_is vs false t at i; always = or_false g.always i; feature = or_else g.feature (first_feature (tokens_of t)) })

pub put_gather : (vs : List (List ℕ)) (g : Gathered) (w : Wrote) → wrote_fits w ≡ true → put g (shape_of vs w) (first_feature (all_tokens w)) ≡ gather vs g w
put_gather vs g (predicate sign t) fits =
    put_by vs g sign t (is_truth (codes "$true") t) (is_truth (codes "$false") t) refl refl (true_not_false t) (both_true (is_atom t) (term_fits t) fits).0
put_gather vs g (equal sign t u) fits = λ i. record { clause = g.clause ++ literal_of vs (equal sign t u); always = or_false g.always i; feature = or_else g.feature (first_feature (tokens_of t ++ tokens_of u)) }

-- ---- views of what is read

abbrev some : {A : Type 0} → A → Option A
some x = Some x

pub seen_some : {A V : Type 0} (f : A → V) (r : Option (A × List Tok)) (v : V) (us : List Tok) → seen f r ≡ Some (v, us) → (a : A) × (r ≡ Some (a, us)) × (f a ≡ v)
seen_some f (Some z) v us e = let p = same_pair (f z.0, z.1) (v, us) e in (z.0, ap (λ (y : List Tok). Some (z.0, y)) p.1, p.0)
seen_some f None v us e = absurd cc

pub seen_fails : {A V : Type 0} (e : Stop) (f : A → V) (r : Option (A × List Tok)) → Fails e (seen f r) → Fails e r
seen_fails stops.Memory f r h = tt
seen_fails stops.Wrong f (Some z) h = absurd cc
seen_fails stops.Wrong f None h = refl

pub fails_seen : {A V : Type 0} (e : Stop) (f : A → V) (r : Option (A × List Tok)) → Fails e r → Fails e (seen f r)
fails_seen stops.Memory f r h = tt
fails_seen stops.Wrong f r h = ap (λ x. seen f x) h

-- a literal is put in as it is gathered
pub literal_read : (vs : List (List ℕ)) (g : Gathered) (d : ℕ) (ts us front : List Tok) (sh : LiteralShape) → ts ≡ front ++ us → seen (λ s. shape_of vs (from_simple s)) (simple_at d ts) ≡ Some (sh, us)
    → seen (λ s. gather vs g (from_simple s)) (simple_at d ts) ≡ Some (put g sh (first_feature front), us)
literal_read vs g d ts us front sh cut e =
    let a = seen_some (λ (s : Simple). shape_of vs (from_simple s)) (simple_at d ts) sh us e in
    let spelled = simple_spelled d ts (a.0, us) a.1 in
    let feature = literal_feature a.0 front us (sym cut ∙ spelled.0) spelled.1 in
    let one = put_gather vs g (from_simple a.0) (sym (simple_wrote a.0) ∙ spelled.1) in
    let put_is : gather vs g (from_simple a.0) ≡ put g sh (first_feature front) = sym one ∙ (λ i. put g (a.2 i) (sym feature i)) in
    ap (λ r. seen (λ (s : Simple). gather vs g (from_simple s)) r) a.1 ∙ ap (λ (x : Gathered). Some (x, us)) put_is

pub literal_fails : (vs : List (List ℕ)) (g : Gathered) (e : Stop) (r : Option (Simple × List Tok)) → Fails e (seen (λ s. shape_of vs (from_simple s)) r) → Fails e (seen (λ s. gather vs g (from_simple s)) r)
literal_fails vs g e r h = fails_seen e (λ (s : Simple). gather vs g (from_simple s)) r (seen_fails e (λ (s : Simple). shape_of vs (from_simple s)) r h)

-- the tokens from one place on are those up to another and those from there on
pub slice_split : (ls : List Lexeme) (a b : ℕ) → a ≤ b → toks (drop a ls) ≡ toks (take (b - a) (drop a ls)) ++ toks (drop b ls)
slice_split ls a b le =
    let there : a + (b - a) ≡ b = omega arith in
    ap toks (sym (take-append-drop (b - a) (drop a ls))) ∙ map-append tok (take (b - a) (drop a ls)) (drop (b - a) (drop a ls))
    ∙ ap (λ x. toks (take (b - a) (drop a ls)) ++ toks x) (drop-drop (b - a) a ls ∙ ap (λ i. drop i ls) there)

-- ---- what a function gives

pub gives_as : {X Y : Type 0} (view : X → Y) (result : Result X Stop) (r s : Option Y) → r ≡ s → Gives view result r → Gives view result s
gives_as view result r s e h = subst (λ (o : Option _). Gives view result o) e h

pub gives_err : {X Y : Type 0} (view : X → Y) (result : Result X Stop) (e : Stop) (r : Option Y) → result ≡ Err e → Fails e r → Gives view result r
gives_err view result e r same h = subst (λ (x : Result _ Stop). Gives view x r) (sym same) h
