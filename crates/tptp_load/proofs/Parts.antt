-- How the parts of loading go together.
use Rattle.std.proofs.Common.{◌≡◌, ℕ, zero, suc, ◌+◌, ◌-◌, ◌≤◌, List, [], ◌∷◌, ◌++◌, refl, ap, sym, subst, ◌∙◌, Option, Some, None, length, arith, append_assoc, ◌≢◌}
use Rattle.std.specs.Prelude.{All, Result, Ok, Err, OnOk, IfErr}
use Rattle.std.proofs.lemmas.List.Elements.{All-append, All-filter, All-nil, All-cons}
use Rattle.outside_io.specs.declared.library.NamedFile.{NamedFile}
use Rattle.tptp_read.specs.Text.{IsCause, Readable}
use Rattle.tptp_read.specs.declared.statement.Statement.{Statement}
use Rattle.tptp_read.specs.declared.statement.Statement.TheVariants.{Cnf, Include}
use Rattle.tptp_read.specs.declared.text.ReadError.{ReadError}
use Rattle.tptp_read.specs.declared.text.ReadError.TheVariants as text
use Rattle.tptp_load.specs.Includes.{Stated, tries, first_found, first_missing, listed, is_listed}
use Rattle.tptp_load.specs.Loading.{Loaded, gives, refuses, limit, after, selected, selected_or, Includer, Loader, Includes, FoundGives, Loading, FileGives, too_long, misread, read, StatementsGive, HasFault}
use Rattle.tptp_load.specs.Problems.{Told}
use Rattle.tptp_load.specs.Finding.{IsFirst, IsNotFound}
use Rattle.tptp_load.specs.Selecting.{IsUnselected}
use Rattle.tptp_load.specs.Parts.{IsGoodStated, IsGathered, Saying, Adds, IsPartCause, Including, StatementGives, IsMisread}
use Rattle.tptp_load.specs.declared.error.LoadError.{LoadError}
use Rattle.tptp_load.specs.declared.error.LoadError.TheVariants.{Text, Absent, NotSelected, IncludeDepth, TooLong, ReadFault, Memory}

pub fault_stays : (bytes : List ℕ) (e : ReadError) → IsCause bytes e → e ≢ text.Memory → HasFault bytes e
fault_stays bytes (text.Syntax k) h n = h
fault_stays bytes (text.Language k w) h n = h
fault_stays bytes (text.Feature k w) h n = h
fault_stays bytes (text.Role k w) h n = h
fault_stays bytes (text.Limit k w) h n = h
fault_stays bytes text.Memory h n = absurd (n refl)

own_fault : (bytes : List ℕ) (e : ReadError) → HasFault bytes e → e ≢ text.Memory
own_fault bytes e h is = subst (HasFault bytes) is h

-- what is refused for one saying is refused for another
pub cause_through : (files : Option (List NamedFile)) (P Q : Saying) (start before now : ℕ) (e : LoadError) → start ≤ before
    → ((told : List NamedFile) (o : LoadError) → files ≡ Some told → P told (refuses o) → Q told (refuses o)) → IsPartCause files P before now e → IsPartCause files Q start now e
cause_through None P Q start before now (Text f t) le go h = (h.0, tt)
cause_through None P Q start before now (Absent w) le go h = tt
cause_through None P Q start before now (NotSelected f w) le go h = tt
cause_through None P Q start before now (IncludeDepth f) le go h = tt
cause_through None P Q start before now TooLong le go h = tt
cause_through (Some told) P Q start before now (Text f t) le go h = (h.0, go told (Text f t) refl h.1)
cause_through (Some told) P Q start before now (Absent w) le go h = go told (Absent w) refl h
cause_through (Some told) P Q start before now (NotSelected f w) le go h = go told (NotSelected f w) refl h
cause_through (Some told) P Q start before now (IncludeDepth f) le go h = go told (IncludeDepth f) refl h
cause_through (Some told) P Q start before now TooLong le go h = go told TooLong refl h
cause_through files P Q start before now ReadFault le go h = omega (arith, h, le)
cause_through files P Q start before now Memory le go h = tt

-- what a part adds
pub adds_through : (files : Option (List NamedFile)) (P Q : Saying) (first before now : List Stated) (used used' : ℕ) (front : List Stated) → before ≡ first ++ front
    → ((told : List NamedFile) (more : List Stated) → files ≡ Some told → P told (gives more used) → Q told (gives (front ++ more) used')) → Adds files P before now used → Adds files Q first now used'
adds_through None P Q first before now used used' front e go h = tt
adds_through (Some told) P Q first before now used used' front e go h = (front ++ h.0, h.1 ∙ ap (λ b. b ++ h.0) e ∙ append_assoc first front h.0, go told h.0 refl h.2)

pub loading_of : (told : List NamedFile) (root : Option (List ℕ)) (levels used : ℕ) (name bytes : List ℕ) (o : Loaded) → FileGives (Including told root levels) used name bytes o → Loading told root levels used name bytes o
loading_of told root zero used name bytes o h = h
loading_of told root (suc levels) used name bytes o h = h

-- ---- a file

pub file_text_cause : (files : Option (List NamedFile)) (root : Option (List ℕ)) (levels used : ℕ) (name bytes : List ℕ) (before now : ℕ) (e : LoadError) → used + length bytes ≤ limit
    → IsMisread name bytes e → IsPartCause files (λ told. Loading told root levels used name bytes) before now e
file_text_cause None root levels used name bytes before now (Text f t) le h = (own_fault bytes t h.1, tt)
file_text_cause (Some told) root levels used name bytes before now (Text f t) le h =
    (own_fault bytes t h.1, loading_of told root levels used name bytes (refuses (Text f t)) (misread le t h.1 (ap (λ (x : List ℕ). refuses (Text x t)) h.0)))
file_text_cause files root levels used name bytes before now (Absent w) le h = absurd h
file_text_cause files root levels used name bytes before now (NotSelected f w) le h = absurd h
file_text_cause files root levels used name bytes before now (IncludeDepth f) le h = absurd h
file_text_cause files root levels used name bytes before now TooLong le h = absurd h
file_text_cause files root levels used name bytes before now ReadFault le h = absurd h
file_text_cause files root levels used name bytes before now Memory le h = tt

pub file_says : (told : List NamedFile) (root : Option (List ℕ)) (levels used : ℕ) (name bytes : List ℕ) (ss : List Statement) (o : Loaded) → used + length bytes ≤ limit → Readable bytes ss
    → StatementsGive (Including told root levels) name (used + length bytes) ss o → Loading told root levels used name bytes o
file_says told root levels used name bytes ss o le r h = loading_of told root levels used name bytes o (read le ss r h)

pub file_cause : (files : Option (List NamedFile)) (root : Option (List ℕ)) (levels used : ℕ) (name bytes : List ℕ) (ss : List Statement) (before now : ℕ) (k : ℕ) (e : LoadError) → k ≡ length bytes → used + length bytes ≤ limit
    → Readable bytes ss → IsPartCause files (λ told. StatementsGive (Including told root levels) name (used + k) ss) before now e → IsPartCause files (λ told. Loading told root levels used name bytes) before now e
file_cause files root levels used name bytes ss before now k e same le r h =
    cause_through files (λ told. StatementsGive (Including told root levels) name (used + k) ss) (λ told. Loading told root levels used name bytes) before before now e (omega arith)
    (λ told o i j. file_says told root levels used name bytes ss (refuses o) le r (subst (λ n. StatementsGive (Including told root levels) name (used + n) ss (refuses o)) same j)) h

pub file_adds : (files : Option (List NamedFile)) (root : Option (List ℕ)) (levels used : ℕ) (name bytes : List ℕ) (ss : List Statement) (before now : List Stated) (used' k : ℕ) → k ≡ length bytes → used + length bytes ≤ limit
    → Readable bytes ss → Adds files (λ told. StatementsGive (Including told root levels) name (used + k) ss) before now used' → Adds files (λ told. Loading told root levels used name bytes) before now used'
file_adds None root levels used name bytes ss before now used' k same le r h = tt
file_adds (Some told) root levels used name bytes ss before now used' k same le r h =
    (h.0, h.1, file_says told root levels used name bytes ss (gives h.0 used') le r (subst (λ n. StatementsGive (Including told root levels) name (used + n) ss (gives h.0 used')) same h.2))

-- ---- an include

abbrev pub Included : Option (List ℕ) → ℕ → ℕ → List ℕ → List ℕ → Option (List (List ℕ)) → Saying
Included root levels used from file selection told = Includes told root (Loading told root levels) used from file selection

found_says : (told : List NamedFile) (root : Option (List ℕ)) (levels used : ℕ) (from file : List ℕ) (found : List ℕ × List ℕ) (o : Loaded) → first_found told (tries root from file) ≡ Some found
    → Loading told root levels used found.0 found.1 o → Included root levels used from file None told o
found_says told root levels used from file found o e h =
    subst (λ f. FoundGives (Loading told root levels) used file None f o) (sym e) (o, h, refl)

pub included_lost : (files : Option (List NamedFile)) (root : Option (List ℕ)) (levels used : ℕ) (from file : List ℕ) (before now : ℕ) (e : LoadError)
    → IsNotFound files before now (tries root from file) file used e → IsPartCause files (Included root levels used from file None) before now e
included_lost files root levels used from file before now (Text f t) h = absurd h
included_lost None root levels used from file before now (Absent w) h = tt
included_lost (Some told) root levels used from file before now (Absent w) h =
    subst (λ f. FoundGives (Loading told root levels) used file None f (refuses (Absent w))) (sym h.1) (ap (λ (x : List ℕ). refuses (Absent x)) h.0)
included_lost files root levels used from file before now (NotSelected f w) h = absurd h
included_lost files root levels used from file before now (IncludeDepth f) h = absurd h
included_lost None root levels used from file before now TooLong h = tt
included_lost (Some told) root levels used from file before now TooLong h =
    found_says told root levels used from file h.0 (refuses TooLong) h.1 (loading_of told root levels used h.0.0 h.0.1 (refuses TooLong) (too_long h.2 refl))
included_lost files root levels used from file before now ReadFault h = h
included_lost files root levels used from file before now Memory h = tt

first_is : (files : Option (List NamedFile)) (names : List (List ℕ)) (used : ℕ) (found : List ℕ × List ℕ) (told : List NamedFile) → IsFirst files names used (Some found) → files ≡ Some told → first_found told names ≡ Some found
first_is None names used found told h e = absurd (cc)
first_is (Some t) names used found told h e = let same : t ≡ told = cc in subst (λ x. first_found x names ≡ Some found) same h.1

pub first_fits : (files : Option (List NamedFile)) (names : List (List ℕ)) (used : ℕ) (found : List ℕ × List ℕ) → IsFirst files names used (Some found) → used + length found.1 ≤ limit
first_fits None names used found h = h
first_fits (Some t) names used found h = h.0

pub included_cause : (files : Option (List NamedFile)) (root : Option (List ℕ)) (levels used : ℕ) (from file name bytes : List ℕ) (start before now : ℕ) (e : LoadError) → start ≤ before
    → IsFirst files (tries root from file) used (Some (name, bytes)) → IsPartCause files (λ told. Loading told root levels used name bytes) before now e → IsPartCause files (Included root levels used from file None) start now e
included_cause files root levels used from file name bytes start before now e le f h =
    cause_through files (λ told. Loading told root levels used name bytes) (Included root levels used from file None) start before now e le
    (λ told o i. found_says told root levels used from file (name, bytes) (refuses o) (first_is files (tries root from file) used (name, bytes) told f i)) h

pub included_adds : (files : Option (List NamedFile)) (root : Option (List ℕ)) (levels used : ℕ) (from file name bytes : List ℕ) (before now : List Stated) (used' : ℕ)
    → IsFirst files (tries root from file) used (Some (name, bytes)) → Adds files (λ told. Loading told root levels used name bytes) before now used' → Adds files (Included root levels used from file None) before now used'
included_adds None root levels used from file name bytes before now used' f h = tt
included_adds (Some told) root levels used from file name bytes before now used' f h = (h.0, h.1, found_says told root levels used from file (name, bytes) (gives h.0 used') f.1 h.2)

-- ---- a selection

with_selection : (load : Loader) (used : ℕ) (file : List ℕ) (names : List (List ℕ)) (f : Option (List ℕ × List ℕ)) (o : Loaded) → FoundGives load used file None f o → FoundGives load used file (Some names) f (selected file (Some names) o)
with_selection load used file names None o h = ap (selected file (Some names)) h
with_selection load used file names (Some found) o h = (h.0, h.1, ap (selected file (Some names)) h.2)

pub selected_cause : (files : Option (List NamedFile)) (root : Option (List ℕ)) (levels used : ℕ) (from file : List ℕ) (names : List (List ℕ)) (before now : ℕ) (e : LoadError)
    → IsPartCause files (Included root levels used from file None) before now e → IsPartCause files (Included root levels used from file (Some names)) before now e
selected_cause files root levels used from file names before now e h =
    cause_through files (Included root levels used from file None) (Included root levels used from file (Some names)) before before now e (omega arith)
    (λ told o i. with_selection (Loading told root levels) used file names (first_found told (tries root from file)) (refuses o)) h

selected_is : (told : List NamedFile) (root : Option (List ℕ)) (levels used : ℕ) (from file : List ℕ) (names : List (List ℕ)) (part : List Stated) (used' : ℕ) (missing : Option (List ℕ)) → first_missing part names ≡ missing
    → Included root levels used from file None told (gives part used') → Included root levels used from file (Some names) told (selected_or missing file names part used')
selected_is told root levels used from file names part used' missing e h =
    subst (λ m. Included root levels used from file (Some names) told (selected_or m file names part used')) e
    (with_selection (Loading told root levels) used file names (first_found told (tries root from file)) (gives part used') h)

pub selected_lost : (files : Option (List NamedFile)) (root : Option (List ℕ)) (levels used : ℕ) (from file : List ℕ) (names : List (List ℕ)) (part : List Stated) (used' before now : ℕ) (e : LoadError)
    → Adds files (Included root levels used from file None) [] part used' → IsUnselected part file names e → IsPartCause files (Included root levels used from file (Some names)) before now e
selected_lost files root levels used from file names part used' before now (Text f t) a h = absurd h
selected_lost files root levels used from file names part used' before now (Absent w) a h = absurd h
selected_lost None root levels used from file names part used' before now (NotSelected f w) a h = tt
selected_lost (Some told) root levels used from file names part used' before now (NotSelected f w) a h =
    subst (λ (x : List ℕ). Included root levels used from file (Some names) told (refuses (NotSelected x w))) (sym h.0)
    (selected_is told root levels used from file names part used' (Some w) h.1 (subst (λ p. Included root levels used from file None told (gives p used')) (sym a.1) a.2))
selected_lost files root levels used from file names part used' before now (IncludeDepth f) a h = absurd h
selected_lost files root levels used from file names part used' before now TooLong a h = absurd h
selected_lost files root levels used from file names part used' before now ReadFault a h = absurd h
selected_lost files root levels used from file names part used' before now Memory a h = tt

pub selected_adds : (files : Option (List NamedFile)) (root : Option (List ℕ)) (levels used : ℕ) (from file : List ℕ) (names : List (List ℕ)) (part before now : List Stated) (used' : ℕ)
    → Adds files (Included root levels used from file None) [] part used' → first_missing part names ≡ None → now ≡ before ++ listed names part → Adds files (Included root levels used from file (Some names)) before now used'
selected_adds None root levels used from file names part before now used' a m e = tt
selected_adds (Some told) root levels used from file names part before now used' a m e =
    (listed names part, e, selected_is told root levels used from file names part used' None m (subst (λ p. Included root levels used from file None told (gives p used')) (sym a.1) a.2))

-- ---- a statement

including_level : (root : Option (List ℕ)) (levels : ℕ) (P : (List NamedFile → Includer) → Type 0) → levels ≢ 0 → P (λ told. Includes told root (Loading told root (levels - 1))) → P (λ told. Including told root levels)
including_level root zero P n h = absurd (n refl)
including_level root (suc m) P n h = let e : suc m - 1 ≡ m = omega arith in subst (λ k. P (λ told. Includes told root (Loading told root k))) e h

pub statement_cause : (files : Option (List NamedFile)) (root : Option (List ℕ)) (levels used : ℕ) (from file : List ℕ) (selection : Option (List (List ℕ))) (before now : ℕ) (e : LoadError) → levels ≢ 0
    → IsPartCause files (Included root (levels - 1) used from file selection) before now e → IsPartCause files (λ told. StatementGives (Including told root levels) from used (Include file selection)) before now e
statement_cause files root levels used from file selection before now e n h = including_level root levels (λ inc. IsPartCause files (λ told. inc told used from file selection) before now e) n h

pub statement_adds : (files : Option (List NamedFile)) (root : Option (List ℕ)) (levels used : ℕ) (from file : List ℕ) (selection : Option (List (List ℕ))) (before now : List Stated) (used' : ℕ) → levels ≢ 0
    → Adds files (Included root (levels - 1) used from file selection) before now used' → Adds files (λ told. StatementGives (Including told root levels) from used (Include file selection)) before now used'
statement_adds files root levels used from file selection before now used' n h = including_level root levels (λ inc. Adds files (λ told. inc told used from file selection) before now used') n h

pub depth_cause : (files : Option (List NamedFile)) (root : Option (List ℕ)) (levels used : ℕ) (from file : List ℕ) (selection : Option (List (List ℕ))) (before now : ℕ) → levels ≡ 0
    → IsPartCause files (λ told. StatementGives (Including told root levels) from used (Include file selection)) before now (IncludeDepth file)
depth_cause None root levels used from file selection before now e = tt
depth_cause (Some told) root levels used from file selection before now e = subst (λ k. Including told root k used from file selection (refuses (IncludeDepth file))) (sym e) refl

-- ---- statements in order

-- what was added so far, of the statements of a list that are not the rest
abbrev pub Went : Option (List NamedFile) → (List NamedFile → Includer) → List ℕ → ℕ → List Statement → List Stated → List Stated → ℕ → List Statement → Type 0
Went files inc from start all before now used rest =
    Told files (λ told. (more : List Stated) × (now ≡ before ++ more) × ((o : Loaded) → StatementsGive (inc told) from used rest o → StatementsGive (inc told) from start all (after more o)))

after_nothing : (o : Loaded) → after [] o ≡ o
after_nothing (gives s u) = refl
after_nothing (refuses e) = refl

after_both : (a b : List Stated) (o : Loaded) → after (a ++ b) o ≡ after a (after b o)
after_both a b (gives s u) = ap (λ l. gives l u) (append_assoc a b s)
after_both a b (refuses e) = refl

nothing_more : (xs : List Stated) → xs ≡ xs ++ []
nothing_more [] = refl
nothing_more (x ∷ xs) = ap (λ l. x ∷ l) (nothing_more xs)

pub went_first : (files : Option (List NamedFile)) (inc : List NamedFile → Includer) (from : List ℕ) (used : ℕ) (all : List Statement) (before : List Stated) → Went files inc from used all before before used all
went_first None inc from used all before = tt
went_first (Some told) inc from used all before = ([], nothing_more before, λ o h. subst (StatementsGive (inc told) from used all) (sym (after_nothing o)) h)

then_statement : (inc : Includer) (from : List ℕ) (used used' : ℕ) (s : Statement) (rest : List Statement) (more : List Stated) (o : Loaded) → StatementGives inc from used s (gives more used')
    → StatementsGive inc from used' rest o → StatementsGive inc from used (s ∷ rest) (after more o)
then_statement inc from used used' (Cnf name role always clause) rest more o g h =
    let m : more ≡ (record { name = name; always = always; clause = clause }) ∷ [] = cc in let u : used' ≡ used = cc in
    (o, subst (λ k. StatementsGive inc from k rest o) u h, ap (λ b. after b o) m)
then_statement inc from used used' (Include file selection) rest more o g h = (gives more used', g, (o, h, refl))

refused_statement : (inc : Includer) (from : List ℕ) (used : ℕ) (s : Statement) (rest : List Statement) (e : LoadError) → StatementGives inc from used s (refuses e) → StatementsGive inc from used (s ∷ rest) (refuses e)
refused_statement inc from used (Cnf name role always clause) rest e g = absurd (cc)
refused_statement inc from used (Include file selection) rest e g = (refuses e, g, refl)

pub went_more : (files : Option (List NamedFile)) (inc : List NamedFile → Includer) (from : List ℕ) (start : ℕ) (all : List Statement) (before now : List Stated) (used : ℕ) (s : Statement) (rest : List Statement) (next : List Stated) (used' : ℕ)
    → Went files inc from start all before now used (s ∷ rest) → Adds files (λ told. StatementGives (inc told) from used s) now next used' → Went files inc from start all before next used' rest
went_more None inc from start all before now used s rest next used' w a = tt
went_more (Some told) inc from start all before now used s rest next used' w a = (
  w.0 ++ a.0,
  a.1 ∙ ap (λ b. b ++ a.0) w.1 ∙ append_assoc before w.0 a.0,
  λ o h. subst (StatementsGive (inc told) from start all) (sym (after_both w.0 a.0 o)) (w.2 (after a.0 o) (then_statement (inc told) from used used' s rest a.0 o a.2 h)),
)

pub went_done : (files : Option (List NamedFile)) (inc : List NamedFile → Includer) (from : List ℕ) (start : ℕ) (all : List Statement) (before now : List Stated) (used : ℕ)
    → Went files inc from start all before now used [] → Adds files (λ told. StatementsGive (inc told) from start all) before now used
went_done None inc from start all before now used w = tt
went_done (Some told) inc from start all before now used w = (w.0, w.1, subst (λ l. StatementsGive (inc told) from start all (gives l used)) (sym (nothing_more w.0)) (w.2 (gives [] used) refl))

pub went_cause : (files : Option (List NamedFile)) (inc : List NamedFile → Includer) (from : List ℕ) (start : ℕ) (all : List Statement) (before now : List Stated) (used : ℕ) (s : Statement) (rest : List Statement) (first mid last : ℕ) (e : LoadError) → first ≤ mid
    → Went files inc from start all before now used (s ∷ rest) → IsPartCause files (λ told. StatementGives (inc told) from used s) mid last e → IsPartCause files (λ told. StatementsGive (inc told) from start all) first last e
went_cause None inc from start all before now used s rest first mid last e le w h = cause_through None (λ told. StatementGives (inc told) from used s) (λ told. StatementsGive (inc told) from start all) first mid last e le (λ told o i. absurd (cc)) h
went_cause (Some told) inc from start all before now used s rest first mid last e le w h =
    cause_through (Some told) (λ told. StatementGives (inc told) from used s) (λ told. StatementsGive (inc told) from start all) first mid last e le
    (λ t o i g. let same : told ≡ t = cc in
    subst (λ x. StatementsGive (inc x) from start all (refuses o)) same (w.2 (refuses o) (refused_statement (inc told) from used s rest o (subst (λ x. StatementGives (inc x) from used s (refuses o)) (sym same) g)))) h

-- ---- what was gathered

pub good_clause : (stated : List Stated) (used : ℕ) (s : Stated) → IsGathered stated used → IsGoodStated s → IsGathered (stated ++ s ∷ []) used
good_clause stated used s g h = record { good = All-append IsGoodStated stated (s ∷ []) g.good (All-cons IsGoodStated s [] h (All-nil IsGoodStated)); within = g.within }

pub good_selected : (before part now : List Stated) (names : List (List ℕ)) (used used' : ℕ) → IsGathered before used → IsGathered part used' → now ≡ before ++ listed names part → IsGathered now used'
good_selected before part now names used used' g h e =
    record { good = subst (All IsGoodStated) (sym e) (All-append IsGoodStated before (listed names part) g.good (All-filter (is_listed names) IsGoodStated part h.good)); within = h.within }

-- ---- the same of what a call answered

pub file_adds_at : (r : Result (Unit {0}) LoadError) (files : Option (List NamedFile)) (root : Option (List ℕ)) (levels used : ℕ) (name bytes : List ℕ) (ss : List Statement) (before now : List Stated) (used' k : ℕ) → k ≡ length bytes → used + length bytes ≤ limit
    → Readable bytes ss → OnOk r (Adds files (λ told. StatementsGive (Including told root levels) name (used + k) ss) before now used') → OnOk r (Adds files (λ told. Loading told root levels used name bytes) before now used')
file_adds_at (Ok x) files root levels used name bytes ss before now used' k same le r h = file_adds files root levels used name bytes ss before now used' k same le r h
file_adds_at (Err e) files root levels used name bytes ss before now used' k same le r h = tt

pub file_cause_at : (r : Result (Unit {0}) LoadError) (files : Option (List NamedFile)) (root : Option (List ℕ)) (levels used : ℕ) (name bytes : List ℕ) (ss : List Statement) (before now : ℕ) (k : ℕ) → k ≡ length bytes → used + length bytes ≤ limit
    → Readable bytes ss → IfErr r (IsPartCause files (λ told. StatementsGive (Including told root levels) name (used + k) ss) before now) → IfErr r (IsPartCause files (λ told. Loading told root levels used name bytes) before now)
file_cause_at (Ok x) files root levels used name bytes ss before now k same le r h = tt
file_cause_at (Err e) files root levels used name bytes ss before now k same le r h = file_cause files root levels used name bytes ss before now k e same le r h

pub good_selected_at : (r : Result (Unit {0}) LoadError) (before part now : List Stated) (names : List (List ℕ)) (used used' : ℕ) → IsGathered before used → IsGathered part used' → OnOk r (now ≡ before ++ listed names part) → OnOk r (IsGathered now used')
good_selected_at (Ok x) before part now names used used' g h e = good_selected before part now names used used' g h e
good_selected_at (Err e) before part now names used used' g h i = tt
