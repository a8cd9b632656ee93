-- The statements of a readable text, and an atom that was read, are well formed and have names that can be read again.
use Rattle.std.proofs.Common.{◌≡◌, ℕ, Bool, true, false, cond, List, [], ◌∷◌, ◌++◌, Option, Some, None, Result, Ok, Err, refl, sym, ap, subst, ◌∙◌}
use Rattle.std.specs.Prelude.{◌&&◌, IsTrue, IfOk, All, nat_le, length, map, codes}
use Rattle.std.specs.List.{list_all, list_any, flat_map}
use Rattle.std.specs.Option.{option_map_or}
use Rattle.std.specs.Str.{bytes_eq}
use Rattle.std.proofs.lemmas.List.{append-nil}
use Rattle.std.proofs.lemmas.List.Elements.{All-nil, All-cons}
use Rattle.std.proofs.lemmas.List.Folds.{list_all-append}
use Rattle.inst_logic.specs.declared.signed.Signed.{Signed}
use Rattle.inst_logic.specs.Lists.{distinct}
use Rattle.inst_logic.specs.Tree.{Tree}
use Rattle.inst_logic.specs.WellFormed.{IsAtom, atom_is_formed}
use Rattle.tptp_read.specs.declared.kind.TokenKind.{TokenKind}
use Rattle.tptp_read.specs.declared.kind.TokenKind.TheVariants.{LowerWord, Variable, DollarWord, QuotedWord, DistinctObject, Integer, Rational, Real, Punctuation}
use Rattle.tptp_read.specs.Stream.{Tok}
use Rattle.tptp_read.specs.declared.statement.Role.{Role}
use Rattle.tptp_read.specs.declared.statement.Statement.{Statement}
use Rattle.tptp_read.specs.declared.statement.Statement.TheVariants.{Cnf, Include}
use Rattle.tptp_read.specs.declared.statement.Which.TheVariants.{Arity, Variables}
use Rattle.tptp_read.specs.Lexemes.{mark, lower, is_punctuation, is_quoted_kind, is_lower_kind, is_name_kind}
use Rattle.tptp_read.specs.Grammar.{Item, simple, nested, Items, last, or, item, items, item_fits, items_fit, note, note_fits, Form, cnf, whole, selected, form, names, is_name, form_fits}
use Rattle.tptp_read.specs.Meaning.{Fault, feature, limit, role_fault, Wrote, from_simple, from_item, from_items, used_tokens, first_feature, variable_names, wrote_wide, literal_of, is_always, name_of, role_of, read_cnf, judged}
use Rattle.tptp_read.specs.Plain.{plain, all_tokens, wrote_fits}
use Rattle.tptp_read.specs.Names.{HasReadableNames, tree_is_readable}
use Rattle.tptp_read.specs.Text.{Readable, IsFormedStatement}
use Rattle.tptp_read.specs.Atoms.{ReadsAtom}
use Rattle.tptp_read.proofs.ParseLaws.{both_true, and_both}
use Rattle.tptp_read.proofs.PlainTokens.{plain_simple, simple_wrote, feature_plain, all_of, all_append, plain_item, plain_items}
use Rattle.tptp_read.proofs.Spelling.{is_good, begins_good}
use Rattle.tptp_read.proofs.FormedLaws.{literal_formed, literals_formed}
use Rattle.tptp_read.proofs.NameLaws.{good_name, goods_apart, literal_readable, literals_readable, all_used}

kept : (b : Bool) (t : Tok) (ts all : List Tok) → is_good t ≡ true → list_all is_good ts ≡ true → list_all is_good (cond b ts (t ∷ ts)) ≡ true
kept true t ts all g h = h
kept false t ts all g h = and_both (is_good t) (list_all is_good ts) g h

plain_good : (ts : List Tok) → list_all is_good ts ≡ true → list_all is_good (plain ts) ≡ true
plain_good [] h = refl
plain_good (t ∷ ts) h =
    let b = both_true (is_good t) (list_all is_good ts) h in
    kept (is_punctuation t.kind) t (plain ts) ts b.0 (plain_good ts b.1)

both_wrote : (ws vs : List Wrote) → list_all wrote_fits ws ≡ true → list_all wrote_fits vs ≡ true → list_all wrote_fits (ws ++ vs) ≡ true
both_wrote ws vs h k = list_all-append wrote_fits ws vs ∙ and_both (list_all wrote_fits ws) (list_all wrote_fits vs) h k

mutual
  item_wrote : (i : Item) → item_fits i ≡ true → list_all wrote_fits (from_item i) ≡ true
  item_wrote (simple s) fits = and_both (wrote_fits (from_simple s)) true (sym (simple_wrote s) ∙ fits) refl
  item_wrote (nested i is) fits =
      let f = both_true (item_fits i) (items_fit is) fits in
      both_wrote (from_item i) (from_items is) (item_wrote i f.0) (items_wrote is f.1)

  items_wrote : (is : Items) → items_fit is ≡ true → list_all wrote_fits (from_items is) ≡ true
  items_wrote last fits = refl
  items_wrote (or i is) fits =
      let f = both_true (item_fits i) (items_fit is) fits in
      both_wrote (from_item i) (from_items is) (item_wrote i f.0) (items_wrote is f.1)

-- the tokens of a disjunction are good where those of its text are
disjunction_good : (i : Item) (is : Items) (rest : List Tok) → item_fits i ≡ true → items_fit is ≡ true → list_all is_good (item i (items is rest)) ≡ true → list_all is_good (all_of (from_item i ++ from_items is)) ≡ true
disjunction_good i is rest fits fits' h =
    let spelled = plain_item i (items is rest) fits ∙ ap (λ l. all_of (from_item i) ++ l) (plain_items is rest fits') in
    let first = goods_apart (all_of (from_item i)) (all_of (from_items is) ++ plain rest) (sym (ap (list_all is_good) spelled) ∙ plain_good (item i (items is rest)) h) in
    let others = goods_apart (all_of (from_items is)) (plain rest) first.1 in
    ap (list_all is_good) (all_append (from_item i) (from_items is)) ∙ list_all-append is_good (all_of (from_item i)) (all_of (from_items is)) ∙ and_both (list_all is_good (all_of (from_item i))) (list_all is_good (all_of (from_items is))) first.0 others.0

-- ---- what was judged

same_ok : (x s : Statement) → ◌≡◌ {A = Result Statement Fault} (Ok x) (Ok s) → x ≡ s
same_ok x s e = cc

err_ok : {A : Type 0} (e : Fault) (s : Statement) → Err e ≡ Ok s → A
err_ok e s h = absurd cc

parts : (o : Option (List ℕ)) (b c : Bool) (x s : Statement) → option_map_or (λ w. Err (feature w)) o (cond b (Err (limit Arity)) (cond c (Err (limit Variables)) (Ok x))) ≡ Ok s → (o ≡ None) × (x ≡ s)
parts (Some w) b c x s e = err_ok (feature w) s e
parts None true c x s e = err_ok (limit Arity) s e
parts None false true x s e = err_ok (limit Variables) s e
parts None false false x s e = (refl, same_ok x s e)

some_role : (k : Role → Result Statement Fault) (o : Option Role) (e : Fault) (s : Statement) → option_map_or k o (Err e) ≡ Ok s → (r : Role) × (k r ≡ Ok s)
some_role k None e s h = err_ok e s h
some_role k (Some r) e s h = (r, h)

abbrev IsGood : Statement → Type 0
IsGood s = IsFormedStatement s × HasReadableNames s

cnf_good : (name : Tok) (word : List ℕ) (r : Role) (ws : List Wrote) (s : Statement) → is_good name ≡ true → is_name_kind name.kind ≡ true → list_all wrote_fits ws ≡ true → list_all is_good (all_of ws) ≡ true → read_cnf name word r ws ≡ Ok s → IsGood s
cnf_good name word r ws s good is_name fits goods e =
    let used = flat_map used_tokens ws in
    let vs = distinct bytes_eq (variable_names used) in
    let clause = flat_map (literal_of vs) ws in
    let p = parts (first_feature used) (list_any wrote_wide ws) (nat_le 10001 (length vs)) (Cnf (name_of name) r (list_any is_always ws) clause) s e in
    subst IsGood p.1 (literals_formed vs ws, (good_name name good is_name, literals_readable vs ws fits goods p.0))

quoted_name : (k : TokenKind) → is_quoted_kind k ≡ true → is_name_kind k ≡ true
quoted_name QuotedWord e = refl
quoted_name LowerWord e = refl
quoted_name Integer e = refl
quoted_name Punctuation e = absurd cc
quoted_name DollarWord e = absurd cc
quoted_name Variable e = absurd cc
quoted_name DistinctObject e = absurd cc
quoted_name Rational e = absurd cc
quoted_name Real e = absurd cc

include_good : (file : Tok) (chosen : Option (List (List ℕ))) (s : Statement) → is_good file ≡ true → is_quoted_kind file.kind ≡ true → ◌≡◌ {A = Result Statement Fault} (Ok (Include (name_of file) chosen)) (Ok s) → IsGood s
include_good file chosen s good quoted e = subst IsGood (same_ok (Include (name_of file) chosen) s e) (tt, good_name file good (quoted_name file.kind quoted))

behind : (t : Tok) (ts : List Tok) → list_all is_good (t ∷ ts) ≡ true → list_all is_good ts ≡ true
behind t ts h = (both_true (is_good t) (list_all is_good ts) h).1

-- the token behind a word and a parenthesis, and those behind it
third_good : (word : List ℕ) (t : Tok) (ts : List Tok) → list_all is_good (lower word ∷ mark 40 ∷ t ∷ ts) ≡ true → (is_good t ≡ true) × (list_all is_good ts ≡ true)
third_good word t ts h = both_true (is_good t) (list_all is_good ts) (behind (mark 40) (t ∷ ts) (behind (lower word) (mark 40 ∷ t ∷ ts) h))

form_good : (f : Form) (s : Statement) → IsTrue (form_fits f) → list_all is_good (form f) ≡ true → judged f ≡ Ok s → IsGood s
form_good (cnf name role i is n) s fits h e =
    let f1 = both_true (is_name name) (is_lower_kind role.kind && (item_fits i && (items_fit is && note_fits n))) fits in
    let f2 = both_true (is_lower_kind role.kind) (item_fits i && (items_fit is && note_fits n)) f1.1 in
    let f3 = both_true (item_fits i) (items_fit is && note_fits n) f2.1 in
    let f4 = both_true (items_fit is) (note_fits n) f3.1 in
    let after = note n (mark 41 ∷ mark 46 ∷ []) in
    let clause = item i (items is after) in
    let third = third_good (codes "cnf") name (mark 44 ∷ role ∷ mark 44 ∷ clause) h in
    let h4 = behind (mark 44) clause (behind role (mark 44 ∷ clause) (behind (mark 44) (role ∷ mark 44 ∷ clause) third.1)) in
    let r = some_role (λ r. read_cnf name role.text r (from_item i ++ from_items is)) (role_of role.text) (role_fault role.text) s e in
    cnf_good name role.text r.0 (from_item i ++ from_items is) s third.0 f1.0 (both_wrote (from_item i) (from_items is) (item_wrote i f3.0) (items_wrote is f4.0)) (disjunction_good i is after f3.0 f4.0 h4) r.1
form_good (whole file) s fits h e = include_good file None s (third_good (codes "include") file (mark 41 ∷ mark 46 ∷ []) h).0 fits e
form_good (selected file n ns) s fits h e =
    include_good file (Some (name_of n ∷ map name_of ns)) s (third_good (codes "include") file (mark 44 ∷ mark 91 ∷ n ∷ names ns (mark 93 ∷ mark 41 ∷ mark 46 ∷ [])) h).0 (both_true (is_quoted_kind file.kind) (is_name n && list_all is_name ns) fits).0 e

pub readable_good : (ss : List Statement) (text : List ℕ) → Readable text ss → All IsFormedStatement ss × All HasReadableNames ss
readable_good [] text r = (All-nil IsFormedStatement, All-nil HasReadableNames)
readable_good (s ∷ ss) text r =
    let read = r.1 in
    let goods = begins_good read.tokens text r.0 read.front.begins in
    let good = form_good read.form s read.is_form.fits (ap (list_all is_good) read.is_form.spelled ∙ goods) read.value in
    let more = readable_good ss r.0 r.2 in
    (All-cons IsFormedStatement s ss good.0 more.0, All-cons HasReadableNames s ss good.1 more.1)

-- ---- atoms

only_one : (p : Signed Tree → Bool) (ls : List (Signed Tree)) (l : Signed Tree) → ls ≡ l ∷ [] → list_all p ls ≡ true → p l ≡ true
only_one p ls l e h = (both_true (p l) true (sym (ap (list_all p) e) ∙ h)).0

pub atom_formed : (text : List ℕ) (l : Signed Tree) → ReadsAtom text l → IsAtom l.atom
atom_formed text l r = only_one (λ (x : Signed Tree). atom_is_formed x.atom) (literal_of [] (from_simple r.form)) l r.value (literal_formed [] (from_simple r.form))

pub atom_readable : (text : List ℕ) (l : Signed Tree) → ReadsAtom text l → IsTrue (tree_is_readable l.atom)
atom_readable text l r =
    let w = from_simple r.form in
    let fits = r.is_form.fits in
    let spelled : plain r.tokens ≡ all_tokens w = sym (ap plain r.is_form.spelled) ∙ plain_simple r.form [] fits ∙ append-nil (all_tokens w) in
    let goods = sym (ap (list_all is_good) spelled) ∙ plain_good r.tokens (begins_good r.tokens text r.are_tokens.rest r.are_tokens.begins) in
    let supported = sym (ap first_feature spelled) ∙ feature_plain r.tokens ∙ r.no_feature in
    only_one (λ (x : Signed Tree). tree_is_readable x.atom) (literal_of [] w) l r.value (literal_readable [] w (sym (simple_wrote r.form) ∙ fits) goods (all_used w supported))

pub if_ok : {A E : Type 0} (P Q : A → Type 0) (r : Result A E) → ((a : A) → P a → Q a) → IfOk r P → IfOk r Q
if_ok P Q (Ok a) f h = f a h
if_ok P Q (Err e) f h = tt
