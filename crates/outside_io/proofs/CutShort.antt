-- A text that is written piece by piece.
use Rattle.std.proofs.Common.{◌≡◌, ℕ, ◌+◌, ◌<◌, ◌≤◌, List, [], ◌∷◌, ◌++◌, length, get_or, take, drop, refl, ap, sym, subst, ◌∙◌, Option, Err, IsTrue}
use Rattle.std.specs.Io.KnownBytes.{Appends}
use Rattle.std.proofs.lemmas.List.{take_more, take-append-drop, append-nil}
use Rattle.std.proofs.lemmas.List.Concat.{flat_map-append}
use Rattle.outside_io.specs.Pieces.{bytes_of, text_of}
use Rattle.outside_io.specs.Seen.{Seen, Writes}
use Rattle.outside_io.specs.Taken.{AppendsProperPrefix}
use Rattle.outside_io.specs.declared.library.Trouble.{Trouble}
use Rattle.outside_io.specs.declared.library.Trouble.TheVariants.{Failed, Memory}
use Rattle.outside_io.specs.declared.pieces.Piece.{Piece}
use Rattle.outside_io.proofs.Writing.{prefix_after, prefix_longer, cut_off}

texts_split : (ps : List Piece) (i : ℕ) (d : Piece) → i < length ps → text_of ps ≡ (text_of (take i ps) ++ bytes_of (get_or ps i d)) ++ text_of (drop (i + 1) ps)
texts_split ps i d h =
    sym (ap text_of (take-append-drop (i + 1) ps)) ∙ flat_map-append bytes_of (take (i + 1) ps) (drop (i + 1) ps)
    ∙ ap (λ l. l ++ text_of (drop (i + 1) ps)) (ap text_of (take_more ps i d h) ∙ flat_map-append bytes_of (take i ps) (get_or ps i d ∷ []) ∙ ap (λ l. text_of (take i ps) ++ l) (append-nil (bytes_of (get_or ps i d))))

cut_short : (a b c : Option (List ℕ)) (ps : List Piece) (i : ℕ) (d : Piece) → i < length ps → Appends a b (text_of (take i ps)) → AppendsProperPrefix b c (bytes_of (get_or ps i d))
    → AppendsProperPrefix a c (text_of ps)
cut_short a b c ps i d h before more =
    rw (texts_split ps i d h) (prefix_longer a c (text_of (take i ps) ++ bytes_of (get_or ps i d)) (text_of (drop (i + 1) ps)) (prefix_after a b c (text_of (take i ps)) (bytes_of (get_or ps i d)) before more))

-- the pieces before were written, and one was not
pub left_off : {A B : Type 0} (old mid new : Seen) (ps : List Piece) (i : ℕ) (d : Piece) (e : Trouble) → i < length ps → Appends old.taken mid.taken (text_of (take i ps))
    → old.faults ≤ mid.faults → mid.may_want ≡ old.may_want → Writes {A = A} mid new (bytes_of (get_or ps i d)) (Err e) → Writes {A = B} old new (text_of ps) (Err e)
left_off old mid new ps i d Failed h before later kept w =
    cut_off old mid new (text_of ps) Failed (cut_short old.taken mid.taken new.taken ps i d h before w.taken.0) later kept w.later w.may_want (λ _. w.taken.1) (λ x. absurd (cc))
left_off old mid new ps i d Memory h before later kept w =
    cut_off old mid new (text_of ps) Memory (cut_short old.taken mid.taken new.taken ps i d h before w.taken.0) later kept w.later w.may_want (λ x. absurd (cc)) (λ _. w.taken.1)
