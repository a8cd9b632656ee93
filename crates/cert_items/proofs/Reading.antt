-- How what has been read grows by a step.
use Rattle.std.proofs.Common.{◌≡◌, ◌≢◌, ℕ, zero, suc, ◌+◌, ◌<◌, ◌≤◌, Bool, true, false, List, [], ◌∷◌, ◌++◌, length, map, take, drop, refl, sym, ap, ◌∙◌, subst, arith, append_assoc, length-append}
use Rattle.std.specs.Prelude.{◌&&◌, nat_eq, Option, Some, None, IfSome, IfNone}
use Rattle.std.specs.List.{list_all}
use Rattle.std.proofs.lemmas.List.Elements.{All-take}
use Rattle.std.proofs.lemmas.List.{append-nil, length-map}
use Rattle.std.proofs.lemmas.List.Folds.{list_all-append}
use Rattle.std.proofs.Math.Seq.{take-append_seam, drop-append_seam}
use Rattle.inst_logic.specs.declared.symbol.Sym.{Sym}
use Rattle.inst_logic.specs.declared.symbol.Kind.TheVariants.{Function}
use Rattle.inst_logic.specs.Tree.{Tree, var, app, Trees, none, more, of_list}
use Rattle.inst_logic.specs.WellFormed.{count_of}
use Rattle.inst_logic.specs.Printing.{name_text, is_readable_name}
use Rattle.term_bank.specs.Forest.{Forest, tree_at, IsAt, AreIds, Extends}
use Rattle.term_bank.proofs.Growth.{map_pushed}
use Rattle.cert_items.specs.declared.terms.Open.{Open}
use Rattle.cert_format.specs.Runs.{begins, Ends}
use Rattle.cert_format.specs.Names.{IsNameText}
use Rattle.cert_format.specs.Spelling as spelling
use Rattle.cert_format.specs.Spelling.{term, arguments, following, is_printable, are_printable, goes_on, Follows, IsClose}
use Rattle.cert_items.specs.Reading.{IsApplied, Part, before, opened, parts_done, AreOpen, AreNames, ArePrintable, IsDue, IsRead, listed, AreTerms, NoTerms, NoTerm, IsStuck, StateBy}
use Rattle.std.proofs.lemmas.Bool.{and_parts, and_from}
use Rattle.cert_format.proofs.Spelling.{parts, one_term, following_follows, following_ends, follows_any, arguments_end, no_variable, parenthesis}
use Rattle.cert_format.proofs.Names.{names_once}
use Rattle.std.proofs.lemmas.Bool.Decides.{nat_tests}
use Rattle.inst_logic.proofs.Numbers.{equal_numbers}
use Rattle.term_bank.proofs.Growth.{ids_pushed}

-- ---- one more term

all_pushed : (ts : List Tree) (t : Tree) → ArePrintable ts → is_printable t ≡ true → ArePrintable (ts ++ t ∷ [])
all_pushed ts t h p = list_all-append is_printable ts (t ∷ []) ∙ and_from (list_all is_printable ts) (is_printable t && true) h (and_from (is_printable t) true p refl)

-- the term that was due is done
pub done_term : (f g : Forest) (bytes : List ℕ) (opens : List Open) (ids : List ℕ) (id : ℕ) (t : Tree) (text rest : List ℕ) → IsDue f bytes opens ids text → text ≡ term t rest → Follows t rest → is_printable t ≡ true
    → Extends f g → IsAt g id t → IsRead g bytes opens (ids ++ id ∷ []) rest
done_term f g bytes opens ids id t text rest d is follows printable grows at = record {
  parts = d.parts;
  done = d.done;
  last = t;
  text = d.text ∙ ap (opened d.parts d.done) is;
  follows = follows;
  open_parts = d.open_parts;
  names = d.names;
  within = ids_pushed f g ids id grows d.within at.0;
  trees = map_pushed f g ids id t grows d.within at.1 ∙ ap (λ (ts : List Tree). ts ++ t ∷ []) d.trees ∙ append_assoc (parts_done d.parts) d.done (t ∷ []);
  printable = subst ArePrintable (append_assoc (parts_done d.parts) d.done (t ∷ [])) (all_pushed (parts_done d.parts ++ d.done) t d.printable printable);
}

-- ---- an application that is opened

opened_push : (ps : List Part) (done : List Tree) (name rest : List ℕ) → opened (ps ++ record { done = done; name = name } ∷ []) [] rest ≡ opened ps done (name ++ 40 ∷ rest)
opened_push [] done name rest = refl
opened_push (p ∷ ps) done name rest = ap (λ (xs : List ℕ). before p.done (p.name ++ 40 ∷ xs)) (opened_push ps done name rest)

parts_push : (ps : List Part) (done : List Tree) (name : List ℕ) → parts_done (ps ++ record { done = done; name = name } ∷ []) ++ [] ≡ parts_done ps ++ done
parts_push [] done name = append-nil (done ++ []) ∙ append-nil done
parts_push (p ∷ ps) done name =
    append_assoc p.done (parts_done (ps ++ record { done = done; name = name } ∷ [])) []
    ∙ ap (λ (ts : List Tree). p.done ++ ts) (parts_push ps done name) ∙ sym (append_assoc p.done (parts_done ps) done)

names_push : (ps : List Part) (done : List Tree) (name : List ℕ) → AreNames ps → IsNameText name → AreNames (ps ++ record { done = done; name = name } ∷ [])
names_push [] done name h n = (n, tt)
names_push (p ∷ ps) done name h n = (h.0, names_push ps done name h.1 n)

open_push : (n : ℕ) (os : List Open) (ps : List Part) (o : Open) (done : List Tree) (name : List ℕ) → AreOpen n os ps → o.name.now ≡ name → o.start ≡ n + length (parts_done ps ++ done) → AreOpen n (os ++ o ∷ []) (ps ++ record { done = done; name = name } ∷ [])
open_push n [] [] o done name h e s = (e, s, tt)
open_push n [] (p ∷ ps) o done name h e s = absurd h
open_push n (q ∷ os) [] o done name h e s = absurd h
open_push n (q ∷ os) (p ∷ ps) o done name h e s =
    let l = length-append p.done (parts_done ps ++ done) in
    let a = ap length (append_assoc p.done (parts_done ps) done) in
    (h.0, h.1, open_push (n + length p.done) os ps o done name h.2 e (omega arith))

pub open_application : (f : Forest) (bytes : List ℕ) (opens : List Open) (ids : List ℕ) (o : Open) (text name rest : List ℕ) → IsDue f bytes opens ids text → text ≡ name ++ 40 ∷ rest → IsNameText name → o.name.now ≡ name → o.start ≡ length ids
    → IsDue f bytes (opens ++ o ∷ []) ids rest
open_application f bytes opens ids o text name rest d is named e s = record {
  parts = d.parts ++ record { done = d.done; name = name } ∷ [];
  done = [];
  text = d.text ∙ ap (opened d.parts d.done) is ∙ sym (opened_push d.parts d.done name rest);
  open_parts = open_push 0 opens d.parts o d.done name d.open_parts e (let l = ap length d.trees in let k = length-map ids (tree_at f) in omega arith);
  names = names_push d.parts d.done name d.names named;
  within = d.within;
  trees = d.trees ∙ sym (parts_push d.parts d.done name);
  printable = subst ArePrintable (sym (parts_push d.parts d.done name)) d.printable;
}

-- ---- a comma

before_push : (ts : List Tree) (t : Tree) (rest : List ℕ) → before (ts ++ t ∷ []) rest ≡ before ts (term t (44 ∷ rest))
before_push [] t rest = refl
before_push (u ∷ ts) t rest = ap (λ (xs : List ℕ). term u (44 ∷ xs)) (before_push ts t rest)

opened_done : (ps : List Part) (done : List Tree) (t : Tree) (rest : List ℕ) → opened ps done (term t (44 ∷ rest)) ≡ opened ps (done ++ t ∷ []) rest
opened_done [] done t rest = sym (before_push done t rest)
opened_done (p ∷ ps) done t rest = ap (λ (xs : List ℕ). before p.done (p.name ++ 40 ∷ xs)) (opened_done ps done t rest)

pub comma : (f : Forest) (bytes : List ℕ) (opens : List Open) (ids : List ℕ) (text rest : List ℕ) → IsRead f bytes opens ids text → text ≡ 44 ∷ rest → IsDue f bytes opens ids rest
comma f bytes opens ids text rest r is = record {
  parts = r.parts;
  done = r.done ++ r.last ∷ [];
  text = r.text ∙ ap (λ (xs : List ℕ). opened r.parts r.done (term r.last xs)) is ∙ opened_done r.parts r.done r.last rest;
  open_parts = r.open_parts;
  names = r.names;
  within = r.within;
  trees = r.trees;
  printable = r.printable;
}

-- ---- a constant

pub constant_printable : (name : List ℕ) → is_readable_name name ≡ true → is_printable (app (record { kind = Function; name = name; arity = 0 }) none) ≡ true
constant_printable name r = rw r refl

pub done_constant : (f g : Forest) (bytes : List ℕ) (opens : List Open) (ids : List ℕ) (id : ℕ) (text rest : List ℕ) → IsDue f bytes opens ids (text ++ rest) → Ends goes_on rest
    → Extends f g → IsApplied g id Function text [] → IsRead g bytes opens (ids ++ id ∷ []) rest
done_constant f g bytes opens ids id text rest d ends grows a =
    done_term f g bytes opens ids id (app (record { kind = Function; name = a.name; arity = 0 }) none) (text ++ rest) rest d (ap (λ (xs : List ℕ). xs ++ rest) a.spelled) ends (constant_printable a.name a.readable) grows a.at

-- ---- what the parts can stand for

-- the mark that closes the innermost arguments
abbrev pub closer : List Part → ℕ → ℕ
closer [] close = close
closer (p ∷ ps) close = 41

pub closer_close : (ps : List Part) (c : ℕ) → IsClose c → IsClose (closer ps c)
closer_close [] c h = h
closer_close (p ∷ ps) c h = (refl, refl)

closer_parenthesis : (ps : List Part) → closer ps 41 ≡ 41
closer_parenthesis [] = refl
closer_parenthesis (p ∷ ps) = refl

-- a term and what follows it of the arguments
pub record IsHead (rest : List ℕ) (close : ℕ) : Type 0 where
  pub term : Tree
  pub others : Trees
  pub after : List ℕ
  pub is : rest ≡ spelling.term term (following close others after)
  pub term_is : is_printable term ≡ true
  pub others_are : are_printable others ≡ true

pub record IsSplit (bytes : List ℕ) (close : ℕ) (after : List ℕ) : Type 0 where
  pub term : Tree
  pub others : Trees
  pub is : bytes ≡ spelling.term term (following close others after)
  pub term_is : is_printable term ≡ true
  pub others_are : are_printable others ≡ true

-- behind terms that are done
peel : (ds : List Tree) (x : List ℕ) (c : ℕ) (after : List ℕ) → IsClose c → ArePrintable ds → IsSplit (before ds x) c after → IsSplit x c after
peel [] x c after close good h = h
peel (d ∷ ds) x c after close good h =
    let g = and_parts (is_printable d) (list_all is_printable ds) good in
    let k = one_term d h.term (44 ∷ before ds x) (following c h.others after) g.0 h.term_is (follows_any d (44 ∷ before ds x) refl) (following_follows h.term c h.others after close) h.is in
    by h.others h.others_are k.1 (peel ds x c after close g.1)
  where
    by : (us : Trees) → are_printable us ≡ true → 44 ∷ before ds x ≡ following c us after → (IsSplit (before ds x) c after → IsSplit x c after) → IsSplit x c after
    by none p e more_ = absurd (let q : 44 ≡ c = cc in let r = close.1 in grind (arith, nat_tests))
    by (more u us) p e more_ =
        let q : before ds x ≡ spelling.term u (following c us after) = cc in
        let r = and_parts (is_printable u) (are_printable us) p in
        more_ (record { term = u; others = us; is = q; term_is = r.0; others_are = r.1 })

pub printable_front : (ds es : List Tree) → ArePrintable (ds ++ es) → ArePrintable ds × ArePrintable es
printable_front ds es h = and_parts (list_all is_printable ds) (list_all is_printable es) (sym (list_all-append is_printable ds es) ∙ h)

-- the arguments of an application whose name is at the front
enter : (name rest : List ℕ) (c : ℕ) (after : List ℕ) → IsClose c → IsNameText name → IsSplit (name ++ 40 ∷ rest) c after → (x : List ℕ) × IsSplit rest 41 x
enter name rest c after close named h = by h.term h.term_is h.is
  where
    by : (t : Tree) → is_printable t ≡ true → name ++ 40 ∷ rest ≡ spelling.term t (following c h.others after) → (x : List ℕ) × IsSplit rest 41 x
    by (var n) p e = absurd (no_variable n (following c h.others after) named.0 (40 ∷ rest) (sym e ∙ ap (λ (xs : List ℕ). xs ++ 40 ∷ rest) named.2))
    by (app s us) p e =
        let a = parts s us p in
        let k = names_once named.0 s.name (40 ∷ rest) (arguments us (following c h.others after)) named.1 a.name refl (arguments_end s us (following c h.others after) (following_follows (app s us) c h.others after close)) (sym (ap (λ (xs : List ℕ). xs ++ 40 ∷ rest) named.2) ∙ e) in
        inner us a.args k.1
      where
        inner : (vs : Trees) → are_printable vs ≡ true → 40 ∷ rest ≡ arguments vs (following c h.others after) → (x : List ℕ) × IsSplit rest 41 x
        inner none q f = absurd (let z : begins goes_on (following c h.others after) ≡ true = ap (begins goes_on) (sym f) in let y = following_ends c h.others after close in cc)
        inner (more v vs) q f =
            let g = and_parts (is_printable v) (are_printable vs) q in
            (following c h.others after, record { term = v; others = vs; is = cc; term_is = g.0; others_are = g.1 })

-- behind the parts and terms comes a term
pub due_head : (ps : List Part) (done : List Tree) (rest : List ℕ) (c : ℕ) (after : List ℕ) → IsClose c → AreNames ps → ArePrintable (parts_done ps ++ done) → IsSplit (opened ps done rest) c after → IsHead rest (closer ps c)
due_head [] done rest c after close names good h =
    let k = peel done rest c after close good h in
    record { term = k.term; others = k.others; after = after; is = k.is; term_is = k.term_is; others_are = k.others_are }
due_head (p ∷ ps) done rest c after close names good h =
    let g = printable_front p.done (parts_done ps ++ done) (subst ArePrintable (append_assoc p.done (parts_done ps) done) good) in
    let k = peel p.done (p.name ++ 40 ∷ opened ps done rest) c after close g.0 h in
    let e = enter p.name (opened ps done rest) c after close names.0 k in
    let r = due_head ps done rest 41 e.0 parenthesis names.1 g.1 e.1 in
    let same = closer_parenthesis ps in
    subst (IsHead rest) same r

-- ---- no terms

split_of : (bytes : List ℕ) (c : ℕ) (t : Tree) (ts : List Tree) (after : List ℕ) → ArePrintable (t ∷ ts) → bytes ≡ listed c (t ∷ ts) after → IsSplit bytes c after
split_of bytes c t ts after good is =
    let g = and_parts (is_printable t) (list_all is_printable ts) good in
    record { term = t; others = of_list ts; is = is; term_is = g.0; others_are = all_printable ts ∙ g.1 }
  where
    all_printable : (us : List Tree) → are_printable (of_list us) ≡ list_all is_printable us
    all_printable [] = refl
    all_printable (u ∷ us) = ap (λ (b : Bool). is_printable u && b) (all_printable us)

-- where a term is due and there is none
pub no_term : (f : Forest) (bytes : List ℕ) (opens : List Open) (ids : List ℕ) (rest : List ℕ) (c : ℕ) → IsClose c → IsDue f bytes opens ids rest → NoTerm rest → NoTerms bytes c
no_term f bytes opens ids rest c close d bad t ts after good is =
    let k = due_head d.parts d.done rest c after close d.names d.printable (subst (λ (xs : List ℕ). IsSplit xs c after) d.text (split_of bytes c t ts after good is)) in
    bad k.term (following (closer d.parts c) k.others k.after) k.term_is (following_follows k.term (closer d.parts c) k.others k.after (closer_close d.parts c close)) k.is

-- what follows a term
goes : (c : ℕ) (us : Trees) (x : List ℕ) → ((y : List ℕ) → following c us x ≢ 44 ∷ y) → ((y : List ℕ) → following c us x ≢ c ∷ y) → ⊥
goes c none x comma_ close_ = close_ x refl
goes c (more u us) x comma_ close_ = comma_ (spelling.term u (following c us x)) refl

read_front : (ps : List Part) (done : List Tree) (last : Tree) → ArePrintable (parts_done ps ++ (done ++ last ∷ [])) → ArePrintable (parts_done ps ++ done) × (is_printable last ≡ true)
read_front ps done last h =
    let g = printable_front (parts_done ps ++ done) (last ∷ []) (subst ArePrintable (sym (append_assoc (parts_done ps) done (last ∷ []))) h) in
    (g.0, (and_parts (is_printable last) true g.1).0)

not_closed : (os : List Open) (ps : List Part) (c : ℕ) (rest : List ℕ) → AreOpen 0 os ps → (os ≢ [] → (x : List ℕ) → rest ≢ 41 ∷ x) → (os ≡ [] → (x : List ℕ) → rest ≢ c ∷ x) → (y : List ℕ) → rest ≢ closer ps c ∷ y
not_closed [] [] c rest o inner end y z = end refl y z
not_closed [] (p ∷ ps) c rest o inner end y z = absurd o
not_closed (q ∷ os) [] c rest o inner end y z = absurd o
not_closed (q ∷ os) (p ∷ ps) c rest o inner end y z = inner (λ e. cc) y z

pub no_more : (f : Forest) (bytes : List ℕ) (opens : List Open) (ids : List ℕ) (rest : List ℕ) (c : ℕ) → IsClose c → IsRead f bytes opens ids rest → IsStuck opens rest → (opens ≡ [] → (x : List ℕ) → rest ≢ c ∷ x) → NoTerms bytes c
no_more f bytes opens ids rest c close r stuck end t ts after good is =
    let g = read_front r.parts r.done r.last r.printable in
    let k = due_head r.parts r.done (spelling.term r.last rest) c after close r.names g.0 (subst (λ (xs : List ℕ). IsSplit xs c after) r.text (split_of bytes c t ts after good is)) in
    let e = one_term r.last k.term rest (following (closer r.parts c) k.others k.after) g.1 k.term_is r.follows (following_follows k.term (closer r.parts c) k.others k.after (closer_close r.parts c close)) k.is in
    goes (closer r.parts c) k.others k.after
    (λ y z. stuck.0 y (e.1 ∙ z))
    (λ y z. not_closed opens r.parts c rest r.open_parts stuck.1 end y (e.1 ∙ z))

-- ---- the end of arguments

opened_inner : (ps : List Part) (p : Part) (done : List Tree) (x : List ℕ) → opened (ps ++ p ∷ []) done x ≡ opened ps p.done (p.name ++ 40 ∷ before done x)
opened_inner [] p done x = refl
opened_inner (q ∷ ps) p done x = ap (λ (xs : List ℕ). before q.done (q.name ++ 40 ∷ xs)) (opened_inner ps p done x)

following_list : (c : ℕ) (ds : List Tree) (t : Tree) (rest : List ℕ) → following c (of_list (ds ++ t ∷ [])) rest ≡ 44 ∷ before ds (spelling.term t (c ∷ rest))
following_list c [] t rest = refl
following_list c (d ∷ ds) t rest = ap (λ (xs : List ℕ). 44 ∷ spelling.term d xs) (following_list c ds t rest)

arguments_list : (ds : List Tree) (t : Tree) (rest : List ℕ) → arguments (of_list (ds ++ t ∷ [])) rest ≡ 40 ∷ before ds (spelling.term t (41 ∷ rest))
arguments_list [] t rest = refl
arguments_list (d ∷ ds) t rest = ap (λ (xs : List ℕ). 40 ∷ spelling.term d xs) (following_list 41 ds t rest)

pub listed_list : (c : ℕ) (ds : List Tree) (t : Tree) (rest : List ℕ) → listed c (ds ++ t ∷ []) rest ≡ before ds (spelling.term t (c ∷ rest))
listed_list c [] t rest = refl
listed_list c (d ∷ ds) t rest = ap (λ (xs : List ℕ). spelling.term d xs) (following_list c ds t rest)

-- the innermost part
pub record IsPopped (n : ℕ) (os : List Open) (o : Open) (ps : List Part) : Type 0 where
  pub outer : List Part
  pub part : Part
  pub is : ps ≡ outer ++ part ∷ []
  pub open_parts : AreOpen n os outer
  pub name : o.name.now ≡ part.name
  pub start : o.start ≡ n + length (parts_done outer ++ part.done)

pop : (n : ℕ) (os : List Open) (o : Open) (ps : List Part) → AreOpen n (os ++ o ∷ []) ps → IsPopped n os o ps
pop n [] o [] h = absurd h
pop n [] o (p ∷ []) h = record { outer = []; part = p; is = refl; open_parts = tt; name = h.0; start = h.1 }
pop n [] o (p ∷ q ∷ ps) h = absurd h.2
pop n (q ∷ os) o [] h = absurd h
pop n (q ∷ os) o (p ∷ ps) h =
    let k = pop (n + length p.done) os o ps h.2 in
    record {
      outer = p ∷ k.outer;
      part = k.part;
      is = ap (λ (xs : List Part). p ∷ xs) k.is;
      open_parts = (h.0, h.1, k.open_parts);
      name = k.name;
      start = let a = length-append p.done (parts_done k.outer ++ k.part.done) in let b = ap length (append_assoc p.done (parts_done k.outer) k.part.done) in let s = k.start in omega arith;
    }

pub count_list : (ts : List Tree) → count_of (of_list ts) ≡ length ts
count_list [] = refl
count_list (t ∷ ts) = let k = count_list ts in omega arith

pub printable_list : (ts : List Tree) → are_printable (of_list ts) ≡ list_all is_printable ts
printable_list [] = refl
printable_list (t ∷ ts) = ap (λ (b : Bool). is_printable t && b) (printable_list ts)

pub applied_printable : (name : List ℕ) (ts : List Tree) → is_readable_name name ≡ true → ArePrintable ts → is_printable (app (record { kind = Function; name = name; arity = length ts }) (of_list ts)) ≡ true
applied_printable name ts r h =
    and_from (is_readable_name name) (nat_eq (count_of (of_list ts)) (length ts) && are_printable (of_list ts)) r
    (and_from (nat_eq (count_of (of_list ts)) (length ts)) (are_printable (of_list ts)) (equal_numbers (count_of (of_list ts)) (length ts) (count_list ts)) (printable_list ts ∙ h))

applied_follows : (s : Sym) (ds : List Tree) (t : Tree) (rest : List ℕ) → Follows (app s (of_list (ds ++ t ∷ []))) rest
applied_follows s [] t rest = tt
applied_follows s (d ∷ ds) t rest = tt

parts_inner : (ps : List Part) (p : Part) (xs : List Tree) → parts_done (ps ++ p ∷ []) ++ xs ≡ (parts_done ps ++ p.done) ++ xs
parts_inner [] p xs = ap (λ (ts : List Tree). ts ++ xs) (append-nil p.done)
parts_inner (q ∷ ps) p xs =
    append_assoc q.done (parts_done (ps ++ p ∷ [])) xs ∙ ap (λ (ts : List Tree). q.done ++ ts) (parts_inner ps p xs)
    ∙ sym (ap (λ (ts : List Tree). ts ++ xs) (append_assoc q.done (parts_done ps) p.done) ∙ append_assoc q.done (parts_done ps ++ p.done) xs)

names_inner : (ps : List Part) (p : Part) → AreNames (ps ++ p ∷ []) → AreNames ps × IsNameText p.name
names_inner [] p h = (tt, h.0)
names_inner (q ∷ ps) p h = let k = names_inner ps p h.1 in ((h.0, k.0), k.1)

-- what the closing of the innermost application leaves, before it is made
pub record IsClosing (f : Forest) (bytes : List ℕ) (os : List Open) (o : Open) (ids : List ℕ) (rest : List ℕ) : Type 0 where
  pub outer : List Part
  pub front : List Tree
  pub done : List Tree
  pub last : Tree
  pub name : IsNameText o.name.now
  pub open_parts : AreOpen 0 os outer
  pub names : AreNames outer
  pub start : o.start ≡ length (parts_done outer ++ front)
  pub trees : map (tree_at f) ids ≡ (parts_done outer ++ front) ++ (done ++ last ∷ [])
  pub printable : ArePrintable ((parts_done outer ++ front) ++ (done ++ last ∷ []))
  pub text : bytes ≡ opened outer front (o.name.now ++ 40 ∷ before done (spelling.term last (41 ∷ rest)))

pub closing : (f : Forest) (bytes : List ℕ) (os : List Open) (o : Open) (ids : List ℕ) (text rest : List ℕ) → IsRead f bytes (os ++ o ∷ []) ids text → text ≡ 41 ∷ rest → IsClosing f bytes os o ids rest
closing f bytes os o ids text rest r is =
    let k = pop 0 os o r.parts r.open_parts in
    let n = names_inner k.outer k.part (subst AreNames k.is r.names) in
    let e : parts_done r.parts ++ (r.done ++ r.last ∷ []) ≡ (parts_done k.outer ++ k.part.done) ++ (r.done ++ r.last ∷ []) = ap (λ (ps : List Part). parts_done ps ++ (r.done ++ r.last ∷ [])) k.is ∙ parts_inner k.outer k.part (r.done ++ r.last ∷ []) in
    record {
      outer = k.outer;
      front = k.part.done;
      done = r.done;
      last = r.last;
      name = subst IsNameText (sym k.name) n.1;
      open_parts = k.open_parts;
      names = n.0;
      start = let s = k.start in omega arith;
      trees = r.trees ∙ e;
      printable = subst ArePrintable e r.printable;
      text = r.text ∙ ap (λ (xs : List ℕ). opened r.parts r.done (spelling.term r.last xs)) is ∙ ap (λ (ps : List Part). opened ps r.done (spelling.term r.last (41 ∷ rest))) k.is
          ∙ opened_inner k.outer k.part r.done (spelling.term r.last (41 ∷ rest)) ∙ ap (λ (xs : List ℕ). opened k.outer k.part.done (xs ++ 40 ∷ before r.done (spelling.term r.last (41 ∷ rest)))) (sym k.name);
    }

map_take : (f : Forest) (ids : List ℕ) (n : ℕ) → map (tree_at f) (take n ids) ≡ take n (map (tree_at f) ids)
map_take f [] zero = refl
map_take f [] (suc n) = refl
map_take f (i ∷ ids) zero = refl
map_take f (i ∷ ids) (suc n) = ap (λ (ts : List Tree). tree_at f i ∷ ts) (map_take f ids n)

map_drop : (f : Forest) (ids : List ℕ) (n : ℕ) → map (tree_at f) (drop n ids) ≡ drop n (map (tree_at f) ids)
map_drop f [] zero = refl
map_drop f [] (suc n) = refl
map_drop f (i ∷ ids) zero = refl
map_drop f (i ∷ ids) (suc n) = map_drop f ids n

-- the arguments are the ids behind the start
pub closing_args : (f : Forest) (bytes : List ℕ) (os : List Open) (o : Open) (ids : List ℕ) (rest : List ℕ) (k : IsClosing f bytes os o ids rest) → map (tree_at f) (drop o.start ids) ≡ k.done ++ k.last ∷ []
closing_args f bytes os o ids rest k = map_drop f ids o.start ∙ ap (drop o.start) k.trees ∙ ap (λ (n : ℕ). drop n ((parts_done k.outer ++ k.front) ++ (k.done ++ k.last ∷ []))) k.start ∙ drop-append_seam (parts_done k.outer ++ k.front) (k.done ++ k.last ∷ [])

closing_front : (f : Forest) (bytes : List ℕ) (os : List Open) (o : Open) (ids : List ℕ) (rest : List ℕ) (k : IsClosing f bytes os o ids rest) → map (tree_at f) (take o.start ids) ≡ parts_done k.outer ++ k.front
closing_front f bytes os o ids rest k = map_take f ids o.start ∙ ap (take o.start) k.trees ∙ ap (λ (n : ℕ). take n ((parts_done k.outer ++ k.front) ++ (k.done ++ k.last ∷ []))) k.start ∙ take-append_seam (parts_done k.outer ++ k.front) (k.done ++ k.last ∷ [])

pub closing_start : (f : Forest) (bytes : List ℕ) (os : List Open) (o : Open) (ids : List ℕ) (rest : List ℕ) → IsClosing f bytes os o ids rest → o.start ≤ length ids
closing_start f bytes os o ids rest k =
    let a = ap length k.trees in let b = length-map ids (tree_at f) in let c = length-append (parts_done k.outer ++ k.front) (k.done ++ k.last ∷ []) in let s = k.start in omega arith

pub within_front : (f : Forest) (ids : List ℕ) (n : ℕ) → AreIds f ids → AreIds f (take n ids)
within_front f ids n h = All-take (λ i. i < length f.trees) n ids h

-- the application is made
pub closed : (f g : Forest) (bytes : List ℕ) (os : List Open) (o : Open) (ids : List ℕ) (id : ℕ) (rest : List ℕ) → IsClosing f bytes os o ids rest → AreIds f (take o.start ids) → Extends f g
    → IsApplied g id Function o.name.now (map (tree_at f) (drop o.start ids)) → IsRead g bytes os (take o.start ids ++ id ∷ []) rest
closed f g bytes os o ids id rest k within grows a =
    let args = closing_args f bytes os o ids rest k in
    let front = closing_front f bytes os o ids rest k in
    let t = app (record { kind = Function; name = a.name; arity = length (k.done ++ k.last ∷ []) }) (of_list (k.done ++ k.last ∷ [])) in
    let at : tree_at g id ≡ t = a.at.1 ∙ ap (λ (ts : List Tree). app (record { kind = Function; name = a.name; arity = length ts }) (of_list ts)) args in
    let good = printable_front (parts_done k.outer ++ k.front) (k.done ++ k.last ∷ []) k.printable in
    let p = applied_printable a.name (k.done ++ k.last ∷ []) a.readable good.1 in
    let group = append_assoc (parts_done k.outer) k.front (t ∷ []) in
    record {
      parts = k.outer;
      done = k.front;
      last = t;
      text = k.text ∙ ap (opened k.outer k.front) (ap (λ (xs : List ℕ). xs ++ 40 ∷ before k.done (spelling.term k.last (41 ∷ rest))) a.spelled ∙ ap (λ (xs : List ℕ). name_text a.name ++ xs) (sym (arguments_list k.done k.last rest)));
      follows = applied_follows (record { kind = Function; name = a.name; arity = length (k.done ++ k.last ∷ []) }) k.done k.last rest;
      open_parts = k.open_parts;
      names = k.names;
      within = ids_pushed f g (take o.start ids) id grows within a.at.0;
      trees = map_pushed f g (take o.start ids) id t grows within at ∙ ap (λ (ts : List Tree). ts ++ t ∷ []) front ∙ group;
      printable = subst ArePrintable group (all_pushed (parts_done k.outer ++ k.front) t good.0 p);
    }

-- ---- the end

no_parts : (ps : List Part) → AreOpen 0 [] ps → ps ≡ []
no_parts [] h = refl
no_parts (p ∷ ps) h = absurd h

pub ended : (f : Forest) (bytes : List ℕ) (ids : List ℕ) (text rest : List ℕ) (c : ℕ) → IsRead f bytes [] ids text → text ≡ c ∷ rest → AreTerms f bytes c ids rest
ended f bytes ids text rest c r is =
    let e = no_parts r.parts r.open_parts in
    let trees : map (tree_at f) ids ≡ r.done ++ r.last ∷ [] = r.trees ∙ ap (λ (ps : List Part). parts_done ps ++ (r.done ++ r.last ∷ [])) e in (
      λ z. (let a = ap length trees in let b = length-map ids (tree_at f) in let c = length-append r.done (r.last ∷ []) in let d = ap length z in omega arith),
      r.within,
      subst ArePrintable (sym r.trees) r.printable,
      r.text ∙ ap (λ (xs : List ℕ). opened r.parts r.done (spelling.term r.last xs)) is ∙ ap (λ (ps : List Part). opened ps r.done (spelling.term r.last (c ∷ rest))) e ∙ sym (listed_list c r.done r.last rest) ∙ ap (λ (ts : List Tree). listed c ts rest) (sym trees),
    )

-- nothing has been read
pub start : (f : Forest) (bytes : List ℕ) → IsDue f bytes [] [] bytes
start f bytes = record {
  parts = [];
  done = [];
  text = refl;
  open_parts = tt;
  names = tt;
  within = λ k d h. absurd (omega arith);
  trees = refl;
  printable = refl;
}

-- ---- by whether a term is due

pub is_due : (b : Bool) (f : Forest) (bytes : List ℕ) (opens : List Open) (ids rest : List ℕ) → b ≡ true → StateBy b f bytes opens ids rest → IsDue f bytes opens ids rest
is_due true f bytes opens ids rest e h = h
is_due false f bytes opens ids rest e h = absurd cc

pub is_read : (b : Bool) (f : Forest) (bytes : List ℕ) (opens : List Open) (ids rest : List ℕ) → b ≡ false → StateBy b f bytes opens ids rest → IsRead f bytes opens ids rest
is_read true f bytes opens ids rest e h = absurd cc
is_read false f bytes opens ids rest e h = h

pub none_weaker : {A : Type 0} (r : Option A) (P Q : Type 0) → (P → Q) → IfNone r P → IfNone r Q
none_weaker None P Q f h = f h
none_weaker (Some x) P Q f h = tt

pub some_weaker : {A : Type 0} (r : Option A) (P Q : A → Type 0) → ((x : A) → P x → Q x) → IfSome r P → IfSome r Q
some_weaker None P Q f h = tt
some_weaker (Some x) P Q f h = f x h

pub not_at : (c : ℕ) (rest : List ℕ) → begins (nat_eq c) rest ≡ false → (x : List ℕ) → rest ≢ c ∷ x
not_at c rest h x e = let k : begins (nat_eq c) (c ∷ x) ≡ false = subst (λ (xs : List ℕ). begins (nat_eq c) xs ≡ false) e h in let m = equal_numbers c c refl in cc

-- what is shown where nothing is found
pub none_if : {A : Type 0} (r : Option A) (P : Type 0) → P → IfNone r P
none_if None P p = p
none_if (Some x) P p = tt

pub is_none : {A : Type 0} (r : Option A) (P : Type 0) → r ≡ None → IfNone r P → P
is_none {A} r P e h = subst (λ (x : Option A). IfNone x P) e h

pub is_some : {A : Type 0} (r : Option A) (x : A) (P : A → Type 0) → r ≡ Some x → IfSome r P → P x
is_some {A} r x P e h = subst (λ (y : Option A). IfSome y P) e h
