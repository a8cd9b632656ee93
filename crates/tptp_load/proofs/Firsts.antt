-- The first of several names that a file has.
use Rattle.std.proofs.Common.{◌≡◌, ℕ, zero, suc, ◌<◌, ◌≤◌, List, [], ◌∷◌, refl, ap, sym, ◌∙◌, Option, Some, None, arith}
use Rattle.std.specs.Prelude.{IsTrue, true}
use Rattle.std.specs.List.{list_all}
use Rattle.std.specs.Str.{IsUtf8, IsAscii}
use Rattle.std.proofs.Common.{true≢false}
use Rattle.std.proofs.lemmas.Str.{IsUtf8-from_ascii}
use Rattle.std.proofs.lemmas.Bool.Decides.{nat_tests}
use Rattle.inst_logic.specs.Printing.{is_between, is_readable_name}
use Rattle.inst_logic.specs.EqualLaws.{and_left, and_right}
use Rattle.outside_io.specs.Files.{bytes_named}
use Rattle.outside_io.specs.declared.library.NamedFile.{NamedFile}
use Rattle.tptp_load.specs.Includes.{first_found, or_found}
use Rattle.tptp_load.specs.Reading.{IsHeld, IsUnread}
use Rattle.tptp_load.specs.Finding.{IsFirst, IsNotRead, IsNotFound}
use Rattle.tptp_load.specs.declared.error.LoadError.{LoadError}
use Rattle.tptp_load.specs.declared.error.LoadError.TheVariants.{Text, Absent, NotSelected, IncludeDepth, TooLong, ReadFault, Memory}

-- ---- names of ASCII

all_ascii : (bs : List ℕ) → list_all (is_between 32 126) bs ≡ true → IsAscii bs
all_ascii [] h i = omega arith
all_ascii (b ∷ bs) h zero = let low : is_between 32 126 b ≡ true = and_left (is_between 32 126 b) (list_all (is_between 32 126) bs) h in below b low
  where
    below : (b : ℕ) → is_between 32 126 b ≡ true → b < 128
    below b e = grind (arith, nat_tests)
all_ascii (b ∷ bs) h (suc i) = all_ascii bs (and_right (is_between 32 126 b) (list_all (is_between 32 126) bs) h) i

pub readable_is_text : (name : List ℕ) → IsTrue (is_readable_name name) → IsUtf8 name
readable_is_text [] h = absurd (true≢false (sym h))
readable_is_text (b ∷ bs) h = IsUtf8-from_ascii (b ∷ bs) (all_ascii (b ∷ bs) h)

-- ---- one name

pub held_first : (files : Option (List NamedFile)) (name bytes : List ℕ) (used : ℕ) → IsHeld files name used (Some bytes) → IsFirst files (name ∷ []) used (Some (name, bytes))
held_first None name bytes used h = h
held_first (Some files) name bytes used h = (h.0, ap (λ o. or_found name o None) h.1)

pub none_first : (files : Option (List NamedFile)) (name : List ℕ) (used : ℕ) → IsHeld files name used None → IsFirst files (name ∷ []) used None
none_first None name used h = tt
none_first (Some files) name used h = ap (λ o. or_found name o None) h

pub unread_first : (files : Option (List NamedFile)) (before now : ℕ) (name : List ℕ) (used : ℕ) (e : LoadError) → IsUnread files before now name used e → IsNotRead files before now (name ∷ []) used e
unread_first files before now name used (Text f t) h = h
unread_first files before now name used (Absent w) h = h
unread_first files before now name used (NotSelected f w) h = h
unread_first files before now name used (IncludeDepth f) h = h
unread_first None before now name used TooLong h = tt
unread_first (Some files) before now name used TooLong h = ((name, h.0), ap (λ o. or_found name o None) h.1, h.2)
unread_first files before now name used ReadFault h = h
unread_first files before now name used Memory h = tt

-- ---- one name before others

absent_of : (name : List ℕ) (o : Option (List ℕ)) → or_found name o None ≡ None → o ≡ None
absent_of name None h = refl
absent_of name (Some bytes) h = absurd (cc)

present_of : (name : List ℕ) (o : Option (List ℕ)) (later : Option (List ℕ × List ℕ)) (found : List ℕ × List ℕ) → or_found name o None ≡ Some found → or_found name o later ≡ Some found
present_of name None later found h = absurd (cc)
present_of name (Some bytes) later found h = h

pub here_first : (files : Option (List NamedFile)) (name : List ℕ) (names : List (List ℕ)) (used : ℕ) (found : List ℕ × List ℕ) → IsFirst files (name ∷ []) used (Some found) → IsFirst files (name ∷ names) used (Some found)
here_first None name names used found h = h
here_first (Some files) name names used found h = (h.0, present_of name (bytes_named files name) (first_found files names) found h.1)

pub later_first : (files : Option (List NamedFile)) (name : List ℕ) (names : List (List ℕ)) (used : ℕ) (o : Option (List ℕ × List ℕ)) → IsFirst files (name ∷ []) used None → IsFirst files names used o → IsFirst files (name ∷ names) used o
later_first None name names used None h g = tt
later_first None name names used (Some found) h g = g
later_first (Some files) name names used None h g = ap (λ o. or_found name o (first_found files names)) (absent_of name (bytes_named files name) h) ∙ g
later_first (Some files) name names used (Some found) h g = (g.0, ap (λ o. or_found name o (first_found files names)) (absent_of name (bytes_named files name) h) ∙ g.1)

pub here_not_read : (files : Option (List NamedFile)) (before now : ℕ) (name : List ℕ) (names : List (List ℕ)) (used : ℕ) (e : LoadError) → IsNotRead files before now (name ∷ []) used e → IsNotRead files before now (name ∷ names) used e
here_not_read files before now name names used (Text f t) h = h
here_not_read files before now name names used (Absent w) h = h
here_not_read files before now name names used (NotSelected f w) h = h
here_not_read files before now name names used (IncludeDepth f) h = h
here_not_read None before now name names used TooLong h = tt
here_not_read (Some files) before now name names used TooLong h = (h.0, present_of name (bytes_named files name) (first_found files names) h.0 h.1, h.2)
here_not_read files before now name names used ReadFault h = h
here_not_read files before now name names used Memory h = tt

pub later_not_read : (files : Option (List NamedFile)) (start before now : ℕ) (name : List ℕ) (names : List (List ℕ)) (used : ℕ) (e : LoadError) → start ≤ before → IsFirst files (name ∷ []) used None → IsNotRead files before now names used e → IsNotRead files start now (name ∷ names) used e
later_not_read files start before now name names used (Text f t) le g h = h
later_not_read files start before now name names used (Absent w) le g h = h
later_not_read files start before now name names used (NotSelected f w) le g h = h
later_not_read files start before now name names used (IncludeDepth f) le g h = h
later_not_read None start before now name names used TooLong le g h = tt
later_not_read (Some files) start before now name names used TooLong le g h = (h.0, ap (λ o. or_found name o (first_found files names)) (absent_of name (bytes_named files name) g) ∙ h.1, h.2)
later_not_read files start before now name names used ReadFault le g h = omega (arith, h, le)
later_not_read files start before now name names used Memory le g h = tt

-- ---- the file of an include

pub found_or_absent : (files : Option (List NamedFile)) (before now : ℕ) (names : List (List ℕ)) (wanted : List ℕ) (used : ℕ) (e : LoadError) → IsNotRead files before now names used e → IsNotFound files before now names wanted used e
found_or_absent files before now names wanted used (Text f t) h = h
found_or_absent files before now names wanted used (Absent w) h = absurd h
found_or_absent files before now names wanted used (NotSelected f w) h = h
found_or_absent files before now names wanted used (IncludeDepth f) h = h
found_or_absent None before now names wanted used TooLong h = tt
found_or_absent (Some files) before now names wanted used TooLong h = h
found_or_absent files before now names wanted used ReadFault h = h
found_or_absent files before now names wanted used Memory h = tt

pub none_is_absent : (files : Option (List NamedFile)) (before now : ℕ) (names : List (List ℕ)) (wanted w : List ℕ) (used : ℕ) → IsFirst files names used None → w ≡ wanted → IsNotFound files before now names wanted used (Absent w)
none_is_absent None before now names wanted w used h e = e
none_is_absent (Some files) before now names wanted w used h e = (e, h)
