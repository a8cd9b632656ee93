-- Sets of names: what they hold after one more, and the place of a name.
use Rattle.std.proofs.Common.{◌≡◌, ◌<◌, ◌+◌, take, get_or, ℕ, List, [], ◌∷◌, ◌++◌, refl, ap, sym, ◌∙◌, Bool, true, false, cond, length, nat_lt, not, position, None, Some, arith}
use Rattle.std.specs.Borrow.{Bor}
use Rattle.std.specs.List.{position_or_len}
use Rattle.std.specs.Str.{bytes_eq}
use Rattle.std.proofs.lemmas.Cmp.{nat_list_eq_equiv}
use Rattle.std.proofs.lemmas.List.Sums.{prefix_len-le-length}
use Rattle.std.proofs.lemmas.Bool.Decides.{nat_tests}
use Rattle.indexmap.specs.IndexSet.{insert_key}
use Rattle.inst_logic.specs.Lists.{distinct, with_item}
use Rattle.inst_logic.proofs.Sets.{with_key}
use Rattle.std.specs.Cmp.Lexicographic.{bytes_decides}
use Rattle.std.proofs.lemmas.List.{map-append, append-nil, take_more}
use Rattle.inst_logic.proofs.Distinct.{distinct_more}
use Rattle.tptp_read.specs.Stream.{Tok}
use Rattle.tptp_read.specs.declared.lexeme.Lexeme.{Lexeme}
use Rattle.tptp_read.specs.Lexemes.{is_variable_kind}
use Rattle.tptp_read.specs.Meaning.{variable_names}
use Rattle.tptp_read.specs.LexemeView.{tok, toks, texts}

pub with_name : (ks : List (Bor (List ℕ))) (k : Bor (List ℕ)) → texts (insert_key (λ a b. bytes_eq a.now b.now) ks k) ≡ with_item bytes_eq (texts ks) k.now
with_name ks k = with_key bytes_eq nat_list_eq_equiv.symm (λ (x : Bor (List ℕ)). x.now) ks k

-- the place by the one test is that by the other
position_texts : (n : List ℕ) (ks : List (Bor (List ℕ))) → position_or_len (λ (k : Bor (List ℕ)). bytes_eq n k.now) ks ≡ position_or_len (λ v. bytes_eq v n) (texts ks)
position_texts n [] = refl
position_texts n (k ∷ ks) = rw (nat_list_eq_equiv.symm n k.now, position_texts n ks) refl

pub place_found : (n : List ℕ) (ks : List (Bor (List ℕ))) (i : ℕ) → position (λ (k : Bor (List ℕ)). bytes_eq n k.now) ks ≡ Some i → i ≡ position_or_len (λ v. bytes_eq v n) (texts ks)
place_found n ks i h = by (nat_lt (position_or_len (λ (k : Bor (List ℕ)). bytes_eq n k.now) ks) (length ks)) refl h ∙ position_texts n ks
  where
    by : (b : Bool) → nat_lt (position_or_len (λ (k : Bor (List ℕ)). bytes_eq n k.now) ks) (length ks) ≡ b → cond b (Some (position_or_len (λ (k : Bor (List ℕ)). bytes_eq n k.now) ks)) None ≡ Some i → i ≡ position_or_len (λ (k : Bor (List ℕ)). bytes_eq n k.now) ks
    by true e g = cc
    by false e g = absurd cc

pub place_absent : (n : List ℕ) (ks : List (Bor (List ℕ))) → position (λ (k : Bor (List ℕ)). bytes_eq n k.now) ks ≡ None → length ks ≡ position_or_len (λ v. bytes_eq v n) (texts ks)
place_absent n ks h = by (nat_lt (position_or_len (λ (k : Bor (List ℕ)). bytes_eq n k.now) ks) (length ks)) refl h ∙ position_texts n ks
  where
    by : (b : Bool) → nat_lt (position_or_len (λ (k : Bor (List ℕ)). bytes_eq n k.now) ks) (length ks) ≡ b → cond b (Some (position_or_len (λ (k : Bor (List ℕ)). bytes_eq n k.now) ks)) None ≡ None → length ks ≡ position_or_len (λ (k : Bor (List ℕ)). bytes_eq n k.now) ks
    by true e g = absurd cc
    by false e g = let most = prefix_len-le-length (λ (k : Bor (List ℕ)). not (bytes_eq n k.now)) ks in grind (arith, nat_tests)

-- ---- the names of variables, one token after another

names_step : (x : Tok) (xs ys all : List (List ℕ)) (b : Bool) → all ≡ xs ++ ys → cond b (x.text ∷ all) all ≡ cond b (x.text ∷ xs) xs ++ ys
names_step x xs ys all true e = ap (λ l. x.text ∷ l) e
names_step x xs ys all false e = e

pub names_append : (xs ys : List Tok) → variable_names (xs ++ ys) ≡ variable_names xs ++ variable_names ys
names_append [] ys = refl
names_append (x ∷ xs) ys = names_step x (variable_names xs) (variable_names ys) (variable_names (xs ++ ys)) (is_variable_kind x.kind) (names_append xs ys)

pub toks_take : (ls : List Lexeme) (i : ℕ) (d : Lexeme) → i < length ls → toks (take (i + 1) ls) ≡ toks (take i ls) ++ tok (get_or ls i d) ∷ []
toks_take ls i d lt = ap toks (take_more ls i d lt) ∙ map-append tok (take i ls) (get_or ls i d ∷ [])

pub one_more_variable : (ls : List Lexeme) (i : ℕ) (d : Lexeme) → i < length ls → is_variable_kind (get_or ls i d).kind ≡ true
    → with_item bytes_eq (distinct bytes_eq (variable_names (toks (take i ls)))) (get_or ls i d).text.now ≡ distinct bytes_eq (variable_names (toks (take (i + 1) ls)))
one_more_variable ls i d lt e =
    let one : variable_names (tok (get_or ls i d) ∷ []) ≡ (get_or ls i d).text.now ∷ [] = rw e refl in
    sym (ap (distinct bytes_eq) (ap variable_names (toks_take ls i d lt) ∙ names_append (toks (take i ls)) (tok (get_or ls i d) ∷ []) ∙ ap (λ l. variable_names (toks (take i ls)) ++ l) one)
    ∙ distinct_more bytes_eq bytes_decides (variable_names (toks (take i ls))) (get_or ls i d).text.now)

pub no_more_variable : (ls : List Lexeme) (i : ℕ) (d : Lexeme) → i < length ls → is_variable_kind (get_or ls i d).kind ≡ false
    → distinct bytes_eq (variable_names (toks (take i ls))) ≡ distinct bytes_eq (variable_names (toks (take (i + 1) ls)))
no_more_variable ls i d lt e =
    let one : variable_names (tok (get_or ls i d) ∷ []) ≡ [] = rw e refl in
    sym (ap (distinct bytes_eq) (ap variable_names (toks_take ls i d lt) ∙ names_append (toks (take i ls)) (tok (get_or ls i d) ∷ []) ∙ ap (λ l. variable_names (toks (take i ls)) ++ l) one ∙ append-nil (variable_names (toks (take i ls)))))
