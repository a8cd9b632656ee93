-- What is added to a log or to the entries comes last.
use Rattle.std.proofs.Common.{◌≡◌, ℕ, ◌+◌, ◌≤◌, ◌-◌, List, [], ◌∷◌, ◌++◌, length, take, drop, slice_range, refl, sym, ap, ap₂, ◌∙◌, subst as transport, arith, length-append}
use Rattle.std.proofs.Math.Seq.{drop-append_seam}
use Rattle.std.proofs.lemmas.List.{take-append-le, take_all, drop-append-le, drop_all, length-drop, map-append, append-nil, append_assoc}
use Rattle.inst_logic.specs.declared.signed.Signed.{Signed}
use Rattle.inst_calculus.proofs.Distinct.{length_map}
use Rattle.cert_values.specs.declared.member.Origin.{Origin}
use Rattle.cert_values.specs.declared.member.Origin.TheVariants.{Input}
use Rattle.instgen_run.specs.declared.event.Event.{Event}
use Rattle.instgen_run.specs.declared.event.Event.TheVariants.{Solved}
use Rattle.instgen_run.specs.declared.event_log.Mark.{Mark}
use Rattle.instgen_run.specs.Clauses.{Item}
use Rattle.instgen_run.specs.Logs.{Log, with_solve}
use Rattle.instgen_run.specs.Marks.{inferred, told_by, events_from, events_of, origins_of, AreInOrder, IsLogOf}

-- a part of a list is the same in a longer one
range_kept : {X : Type 0} (xs ys : List X) (begin end : ℕ) → begin ≤ end → end ≤ length xs → slice_range (xs ++ ys) begin end ≡ slice_range xs begin end
range_kept xs ys begin end l m =
    let within : begin ≤ length xs = omega arith in
    ap (λ zs. take (end - begin) zs) (drop-append-le begin xs ys within)
    ∙ take-append-le (end - begin) (drop begin xs) ys (let h = length-drop begin xs in omega arith)

pub range_to_end : {X : Type 0} (xs : List X) (begin : ℕ) → begin ≤ length xs → slice_range xs begin (length xs) ≡ drop begin xs
range_to_end xs begin l = take_all (length xs - begin) (drop begin xs) (let h = length-drop begin xs in omega arith)

-- One more entry

later_order : (n k l flipped done : ℕ) (ms : List Mark) → k ≤ l → AreInOrder n k flipped done ms → AreInOrder n l flipped done ms
later_order n k l flipped done [] p (e, h) = (e, omega arith)
later_order n k l flipped done (x ∷ ms) p (a, b, c, d, rest) = (a, b, c, omega arith, later_order n k l x.flipped x.entries ms p rest)

told_last : (os more : List Origin) → inferred (os ++ more) ≡ inferred os ++ inferred more
told_last [] more = refl
told_last (x ∷ xs) more = ap (λ (es : List Event). told_by x ++ es) (told_last xs more) ∙ sym (append_assoc (told_by x) (inferred xs) (inferred more))

pub told_one : (os : List Origin) (o : Origin) → inferred (os ++ o ∷ []) ≡ inferred os ++ told_by o
told_one os o = told_last os (o ∷ []) ∙ ap (λ (es : List Event). inferred os ++ es) (append-nil (told_by o))

entry_last : (flips : List ℕ) (os : List Origin) (o : Origin) (n flipped done : ℕ) (ms : List Mark) → AreInOrder n (length os) flipped done ms → events_from flips (os ++ o ∷ []) flipped done ms ≡ events_from flips os flipped done ms ++ told_by o
entry_last flips os o n flipped done [] (e, h) = ap inferred (drop-append-le done os (o ∷ []) h) ∙ told_one (drop done os) o
entry_last flips os o n flipped done (m ∷ ms) (a, b, c, d, rest) =
    ap₂ (λ (xs : List Origin) (es : List Event). inferred xs ++ Solved (slice_range flips flipped m.flipped) ∷ es) (range_kept os (o ∷ []) done m.entries c d) (entry_last flips os o n m.flipped m.entries ms rest)
    ∙ sym (append_assoc (inferred (slice_range os done m.entries)) (Solved (slice_range flips flipped m.flipped) ∷ events_from flips os m.flipped m.entries ms) (told_by o))

origins_pushed : (es : List Item) (e : Item) → origins_of (es ++ e ∷ []) ≡ origins_of es ++ e.1 ∷ []
origins_pushed es e = map-append (λ (x : Item). x.1) es (e ∷ [])

pub entry_logged : (l : Log) (es : List Item) (e : Item) → IsLogOf l es → events_of l (es ++ e ∷ []) ≡ events_of l es ++ told_by e.1
entry_logged l es e h = ap (λ (os : List Origin). events_from l.flips os 0 0 l.solves) (origins_pushed es e) ∙ entry_last l.flips (origins_of es) e.1 (length l.flips) 0 0 l.solves h

pub order_after_entry : (l : Log) (es : List Item) (e : Item) → IsLogOf l es → IsLogOf l (es ++ e ∷ [])
order_after_entry l es e h =
    later_order (length l.flips) (length (origins_of es)) (length (origins_of (es ++ e ∷ []))) 0 0 l.solves (let k = ap length (origins_pushed es e) ∙ length-append (origins_of es) (e.1 ∷ []) in omega arith) h

-- an input tells nothing
pub input_told : (es : List Item) (d : List (Signed ℕ)) (k : ℕ) → inferred (origins_of (es ++ (d, Input k) ∷ [])) ≡ inferred (origins_of es)
input_told es d k = ap inferred (origins_pushed es (d, Input k)) ∙ told_one (origins_of es) (Input k) ∙ append-nil (inferred (origins_of es))

-- One more solve

order_with_last : (n more k flipped done : ℕ) (m : Mark) (ms : List Mark) → AreInOrder n k flipped done ms → m.flipped ≡ n + more → m.entries ≡ k → AreInOrder (n + more) k flipped done (ms ++ m ∷ [])
order_with_last n more k flipped done m [] (e, h) p q = (omega (arith, p), omega (arith, p), omega (arith, q), omega (arith, q), (p, omega (arith, q)))
order_with_last n more k flipped done m (x ∷ ms) (a, b, c, d, rest) p q = (a, omega arith, c, d, order_with_last n more k x.flipped x.entries m ms rest p q)

-- the part that was added
last_range : (flips added : List ℕ) (begin end : ℕ) → begin ≡ length flips → end ≡ length flips + length added → slice_range (flips ++ added) begin end ≡ added
last_range flips added begin end b e =
    ap₂ (λ i j. slice_range (flips ++ added) i j) b (e ∙ sym (length-append flips added))
    ∙ range_to_end (flips ++ added) (length flips) (let l = length-append flips added in omega arith) ∙ drop-append_seam flips added

solve_last : (flips added : List ℕ) (os : List Origin) (flipped done : ℕ) (m : Mark) (ms : List Mark) → AreInOrder (length flips) (length os) flipped done ms → m.flipped ≡ length flips + length added → m.entries ≡ length os
    → events_from (flips ++ added) os flipped done (ms ++ m ∷ []) ≡ events_from flips os flipped done ms ++ Solved added ∷ []
solve_last flips added os flipped done m [] (b, h) e q =
    ap₂ (λ (xs : List Origin) (es : List Event). inferred xs ++ es)
    (ap (slice_range os done) q ∙ range_to_end os done h)
    (ap₂ (λ (fs : List ℕ) (ys : List Origin). Solved fs ∷ inferred ys) (last_range flips added flipped m.flipped b e) (drop_all m.entries os (omega (arith, q))))
solve_last flips added os flipped done m (x ∷ ms) (a, b, c, d, rest) e q =
    ap₂ (λ (xs : List ℕ) (es : List Event). inferred (slice_range os done x.entries) ++ Solved xs ∷ es) (range_kept flips added flipped x.flipped a b) (solve_last flips added os x.flipped x.entries m ms rest e q)
    ∙ sym (append_assoc (inferred (slice_range os done x.entries)) (Solved (slice_range flips flipped x.flipped) ∷ events_from flips os x.flipped x.entries ms) (Solved added ∷ []))

pub origins_count : (es : List Item) → length (origins_of es) ≡ length es
origins_count es = length_map (λ (x : Item). x.1) es

pub solve_logged : (l : Log) (es : List Item) (flips : List ℕ) → IsLogOf l es → events_of (with_solve l flips (length es)) es ≡ events_of l es ++ Solved flips ∷ []
solve_logged l es flips h = solve_last l.flips flips (origins_of es) 0 0 (record { flipped = length l.flips + length flips; entries = length es }) l.solves h refl (sym (origins_count es))

pub order_after_solve : (l : Log) (es : List Item) (flips : List ℕ) → IsLogOf l es → IsLogOf (with_solve l flips (length es)) es
order_after_solve l es flips h =
    transport (λ i. AreInOrder i (length (origins_of es)) 0 0 (l.solves ++ record { flipped = length l.flips + length flips; entries = length es } ∷ [])) (sym (length-append l.flips flips))
    (order_with_last (length l.flips) (length flips) (length (origins_of es)) 0 0 (record { flipped = length l.flips + length flips; entries = length es }) l.solves h refl (sym (origins_count es)))

-- what is pushed, as one log
pub log_pushed : (l : Log) (flips all : List ℕ) (flipped entries count : ℕ) (solves : List Mark) → all ≡ l.flips ++ flips → solves ≡ l.solves ++ record { flipped = flipped; entries = entries } ∷ []
    → flipped ≡ length l.flips + length flips → entries ≡ count → record { flips = all; solves = solves } ≡ with_solve l flips count
log_pushed l flips all flipped entries count solves e q p n =
    let last : solves ≡ l.solves ++ record { flipped = length l.flips + length flips; entries = count } ∷ [] = q ∙ ap₂ (λ i j. l.solves ++ record { flipped = i; entries = j } ∷ []) p n in
    λ i. record { flips = e i; solves = last i }
