-- What a loop of writes leaves.
use Rattle.std.proofs.Common.{◌≡◌, ◌≢◌, [], ℕ, ◌≤◌, IsTrue, Err, subst, ◌+◌, ◌-◌, ◌<◌, List, length, take, drop, Option, arith, sym, take-append-drop, ap, length-drop, ◌∷◌, ◌++◌, ◌∙◌, append_assoc, refl}
use Rattle.std.proofs.lemmas.Grind.{common_steps}
use Rattle.std.proofs.Math.Seq.{take-add}
use Rattle.std.proofs.KnownBytes.{Appends-trans, Appends-kept}
use Rattle.std.specs.Io.KnownBytes.{Appends, Keeps}
use Rattle.outside_io.specs.Causes.{Rose}
use Rattle.outside_io.specs.Seen.{Seen, Writes}
use Rattle.outside_io.specs.Taken.{AppendsProperPrefix}
use Rattle.outside_io.specs.declared.library.Trouble.{Trouble}
use Rattle.outside_io.specs.declared.library.Trouble.TheVariants.{Failed, Memory}

-- what lies behind i, up to the end
rest_of : (piece : List ℕ) (i : ℕ) → take (length piece - i) (drop i piece) ≡ drop i piece
rest_of piece i = grind (arith, common_steps)

pub taken_more : (a b c : Option (List ℕ)) (piece : List ℕ) (i n : ℕ) → Appends a b (take i piece)
    → Appends b c (take n (take (length piece - i) (drop i piece))) → Appends a c (take (i + n) piece)
taken_more a b c piece i n before more = rw (take-add i n piece) (Appends-trans a b c _ _ before (rw (rest_of piece i) at more))

more_left : (x y : List ℕ) → x ≢ [] → x ++ y ≢ []
more_left [] y h e = h refl
more_left (n ∷ x) y h e = absurd (cc)

-- before the end there is more
some_left : (piece : List ℕ) (i : ℕ) → i < length piece → drop i piece ≢ []
some_left piece i h e = absurd (let l = length-drop i piece in let n : length (drop i piece) ≡ 0 = ap length e in omega arith)

-- what was taken before a write that took nothing
pub taken_front : (a b c : Option (List ℕ)) (piece : List ℕ) (i : ℕ) → i < length piece → Appends a b (take i piece) → Keeps b c
    → AppendsProperPrefix a c piece
taken_front a b c piece i h before same =
    (take i piece, drop i piece, sym (take-append-drop i piece), some_left piece i h, Appends-kept a b c (take i piece) before same)

-- a piece, and then a proper prefix of the next
pub prefix_after : (a b c : Option (List ℕ)) (x y : List ℕ) → Appends a b x → AppendsProperPrefix b c y → AppendsProperPrefix a c (x ++ y)
prefix_after a b c x y first second =
    (x ++ second.0, second.1, ap (λ l. x ++ l) second.2 ∙ sym (append_assoc x second.0 second.1), second.3, Appends-trans a b c x second.0 first second.4)

-- a proper prefix is one of what is longer
pub prefix_longer : (a b : Option (List ℕ)) (x y : List ℕ) → AppendsProperPrefix a b x → AppendsProperPrefix a b (x ++ y)
prefix_longer a b x y h =
    (h.0, h.1 ++ y, ap (λ l. l ++ y) h.2 ∙ append_assoc h.0 h.1 y, more_left h.1 y h.3, h.4)

-- ---- what is left after an error

-- the faults of a call after some others are faults of all
rose_after : (a b c : ℕ) → a ≤ b → Rose b c → Rose a c
rose_after a b c h r = omega arith

-- a call that answers an error, after others that kept to the law, of which a proper prefix of the text was taken
pub cut_off : {A : Type 0} (old mid new : Seen) (text : List ℕ) (e : Trouble) → AppendsProperPrefix old.taken new.taken text
    → old.faults ≤ mid.faults → mid.may_want ≡ old.may_want → mid.faults ≤ new.faults → new.may_want ≡ mid.may_want
    → (e ≡ Failed → Rose mid.faults new.faults) → (e ≡ Memory → IsTrue mid.may_want) → Writes {A = A} old new text (Err e)
cut_off old mid new text Failed cut later kept more same fault want =
    record { taken = (cut, rose_after old.faults mid.faults new.faults later (fault refl)); later = omega arith; may_want = same ∙ kept }
cut_off old mid new text Memory cut later kept more same fault want =
    record { taken = (cut, subst IsTrue kept (want refl)); later = omega arith; may_want = same ∙ kept }
