-- What loading says of the whole.
use Rattle.std.proofs.Common.{◌≡◌, ℕ, ◌≤◌, List, [], ◌∷◌, refl, ap, sym, subst, Bool, true, false, cond, map, Option, Some, None, arith}
use Rattle.std.specs.Prelude.{All, IsTrue, not}
use Rattle.std.specs.List.{list_all}
use Rattle.std.proofs.lemmas.List.Elements.{All-nil, All-cons, All-head, All-tail}
use Rattle.inst_logic.specs.declared.clause.Problem.{Problem}
use Rattle.inst_logic.specs.Tree.{Tree, var, app, Trees, none, more}
use Rattle.inst_logic.specs.Equal.{literal_eq}
use Rattle.inst_logic.specs.EqualLaws.{and_left, and_right, and_both}
use Rattle.inst_logic.specs.Substitution.{subst as put, substs, subst_literal}
use Rattle.inst_logic.specs.Clauses.{TreeClause, canonical_form, IsCanonical, numbered, order_of}
use Rattle.inst_logic.specs.Printing.{is_readable_name}
use Rattle.inst_logic.specs.WellFormed.{clause_is_formed}
use Rattle.inst_logic.proofs.Formed.{canonical_is_formed, list_all_distinct}
use Rattle.inst_calculus.proofs.CanonicalForms.{canonical_of_canonical}
use Rattle.outside_io.specs.Files.{bytes_named}
use Rattle.outside_io.specs.declared.library.NamedFile.{NamedFile}
use Rattle.tptp_read.specs.Names.{tree_is_readable, trees_are_readable, clause_is_readable, kind_is_readable}
use Rattle.tptp_load.specs.Includes.{Stated}
use Rattle.tptp_load.specs.Loading.{Loaded, gives, refuses, Loading, StartGives, last_level, too_long}
use Rattle.tptp_load.specs.Problems.{giving, problem_of, Loads, Told, IsLoadCause, IsGoodProblem}
use Rattle.tptp_load.specs.Reading.{IsHeld, IsUnread}
use Rattle.tptp_load.specs.Parts.{IsGoodStated, Adds, IsPartCause}
use Rattle.tptp_load.proofs.Parts.{loading_of}
use Rattle.tptp_load.specs.declared.error.LoadError.{LoadError}
use Rattle.tptp_load.specs.declared.error.LoadError.TheVariants.{Text, Absent, NotSelected, IncludeDepth, TooLong, ReadFault, Memory}

-- ---- the first file

start_says : (told : List NamedFile) (root : Option (List ℕ)) (name bytes : List ℕ) (o : Loaded) → bytes_named told name ≡ Some bytes → Loading told root last_level 0 name bytes o → StartGives told root name (bytes_named told name) o
start_says told root name bytes o e h = subst (λ f. StartGives told root name f o) (sym e) h

pub unread_cause : (files : Option (List NamedFile)) (before now : ℕ) (name : List ℕ) (root : Option (List ℕ)) (e : LoadError) → IsUnread files before now name 0 e → IsLoadCause files before now name root e
unread_cause files before now name root (Text f t) h = absurd h
unread_cause files before now name root (Absent w) h = absurd h
unread_cause files before now name root (NotSelected f w) h = absurd h
unread_cause files before now name root (IncludeDepth f) h = absurd h
unread_cause None before now name root TooLong h = tt
unread_cause (Some told) before now name root TooLong h = start_says told root name h.0 (refuses TooLong) h.1 (loading_of told root last_level 0 name h.0 (refuses TooLong) (too_long h.2 refl))
unread_cause files before now name root ReadFault h = h
unread_cause files before now name root Memory h = tt

pub absent_cause : (files : Option (List NamedFile)) (before now : ℕ) (name : List ℕ) (root : Option (List ℕ)) (w : List ℕ) → w ≡ name → IsHeld files name 0 None → IsLoadCause files before now name root (Absent w)
absent_cause None before now name root w e h = tt
absent_cause (Some told) before now name root w e h = subst (λ f. StartGives told root name f (refuses (Absent w))) (sym h) (ap (λ (x : List ℕ). refuses (Absent x)) e)

held_is : (told : List NamedFile) (name bytes : List ℕ) → IsHeld (Some told) name 0 (Some bytes) → bytes_named told name ≡ Some bytes
held_is told name bytes h = h.1

pub part_cause : (files : Option (List NamedFile)) (start before now : ℕ) (name bytes : List ℕ) (root : Option (List ℕ)) (e : LoadError) → start ≤ before → IsHeld files name 0 (Some bytes)
    → IsPartCause files (λ told. Loading told root last_level 0 name bytes) before now e → IsLoadCause files start now name root e
part_cause None start before now name bytes root (Text f t) le k h = (h.0, tt)
part_cause None start before now name bytes root (Absent w) le k h = tt
part_cause None start before now name bytes root (NotSelected f w) le k h = tt
part_cause None start before now name bytes root (IncludeDepth f) le k h = tt
part_cause None start before now name bytes root TooLong le k h = tt
part_cause (Some told) start before now name bytes root (Text f t) le k h = (h.0, start_says told root name bytes (refuses (Text f t)) k.1 h.1)
part_cause (Some told) start before now name bytes root (Absent w) le k h = start_says told root name bytes (refuses (Absent w)) k.1 h
part_cause (Some told) start before now name bytes root (NotSelected f w) le k h = start_says told root name bytes (refuses (NotSelected f w)) k.1 h
part_cause (Some told) start before now name bytes root (IncludeDepth f) le k h = start_says told root name bytes (refuses (IncludeDepth f)) k.1 h
part_cause (Some told) start before now name bytes root TooLong le k h = start_says told root name bytes (refuses TooLong) k.1 h
part_cause files start before now name bytes root ReadFault le k h = omega (arith, h, le)
part_cause files start before now name bytes root Memory le k h = tt

pub part_loads : (files : Option (List NamedFile)) (name bytes : List ℕ) (root : Option (List ℕ)) (stated : List Stated) (used : ℕ) (p : Problem) → IsHeld files name 0 (Some bytes)
    → Adds files (λ told. Loading told root last_level 0 name bytes) [] stated used → p ≡ problem_of stated → Told files (λ told. Loads told name root p)
part_loads None name bytes root stated used p k h e = tt
part_loads (Some told) name bytes root stated used p k h e =
    (stated, used, start_says told root name bytes (gives stated used) k.1 (subst (λ (l : List Stated). Loading told root last_level 0 name bytes (gives l used)) (sym h.1) h.2), e)

-- ---- names of a canonical form

module _ (s : ℕ → Tree) (readable : (n : ℕ) → tree_is_readable (s n) ≡ true) where
  mutual
    tree_stays : (t : Tree) → tree_is_readable t ≡ true → tree_is_readable (put s t) ≡ true
    tree_stays (var n) h = readable n
    tree_stays (app f ts) h = and_both (kind_is_readable f.kind f.name) _ (and_left (kind_is_readable f.kind f.name) _ h) (trees_stay ts (and_right (kind_is_readable f.kind f.name) _ h))

    trees_stay : (ts : Trees) → trees_are_readable ts ≡ true → trees_are_readable (substs s ts) ≡ true
    trees_stay none h = refl
    trees_stay (more t ts) h = and_both (tree_is_readable (put s t)) _ (tree_stays t (and_left (tree_is_readable t) _ h)) (trees_stay ts (and_right (tree_is_readable t) _ h))

  literals_stay : (c : TreeClause) → list_all (λ l. tree_is_readable l.atom) c ≡ true → list_all (λ l. tree_is_readable l.atom) (map (subst_literal s) c) ≡ true
  literals_stay [] h = refl
  literals_stay (l ∷ ls) h = and_both (tree_is_readable (put s l.atom)) _ (tree_stays l.atom (and_left (tree_is_readable l.atom) _ h)) (literals_stay ls (and_right (tree_is_readable l.atom) _ h))

canonical_is_readable : (c : TreeClause) → IsTrue (clause_is_readable c) → IsTrue (clause_is_readable (canonical_form c))
canonical_is_readable c h = list_all_distinct (λ l. tree_is_readable l.atom) literal_eq (map (subst_literal (numbered (order_of c))) c) (literals_stay (numbered (order_of c)) (λ n. refl) c h)

-- ---- good problems

abbrev problem_from : List Stated → Problem
problem_from kept = record { clauses = map (λ s. canonical_form s.clause) kept; names = map (λ s. s.name) kept }

one_more_good : (b : Bool) (s : Stated) (kept : List Stated) → IsGoodStated s → IsGoodProblem (problem_from kept) → IsGoodProblem (problem_from (cond b (s ∷ kept) kept))
one_more_good false s kept g h = h
one_more_good true s kept g h = record {
  formed = and_both (clause_is_formed (canonical_form s.clause)) _ (canonical_is_formed s.clause g.formed) h.formed;
  canonical = All-cons IsCanonical (canonical_form s.clause) (map (λ s. canonical_form s.clause) kept) (canonical_of_canonical s.clause) h.canonical;
  named = omega (arith, h.named);
  symbols = and_both (clause_is_readable (canonical_form s.clause)) _ (canonical_is_readable s.clause g.symbols) h.symbols;
  names = and_both (is_readable_name s.name) _ g.name h.names;
}

pub good_problem : (stated : List Stated) → All IsGoodStated stated → IsGoodProblem (problem_of stated)
good_problem [] h = record { formed = refl; canonical = All-nil IsCanonical; named = refl; symbols = refl; names = refl }
good_problem (s ∷ ss) h = one_more_good (not s.always) s (giving ss) (All-head IsGoodStated s ss h) (good_problem ss (All-tail IsGoodStated s ss h))
