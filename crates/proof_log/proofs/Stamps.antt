-- stamps as marks
use Rattle.std.proofs.Common.{◌≡◌, ℕ, ◌<◌, ◌≤◌, Bool, true, false, List, [], ◌∷◌, length, map, replicate, set, refl, sym, ap, ◌∙◌, subst, arith, eq-eqb}
use Rattle.std.specs.Prelude.{All, ◌==◌}
use Rattle.std.proofs.lemmas.List.{map-set, length-replicate}
use Rattle.std.proofs.lemmas.List.Elements.{All-head, All-tail, All-same, All-replicate}
use Rattle.std.proofs.lemmas.Bool.Decides.{nat_tests}
use Rattle.inst_logic.specs.declared.signed.Signed.{Signed}
use Rattle.proof_log.specs.Marks.{Marked, with_mark}

below_differs : (s q : ℕ) → s < q → (s == q) ≡ false
below_differs s q h = grind (arith, nat_tests)

-- no stamp is the new one
pub none_stamped : (xs : List ℕ) (p q n : ℕ) → All (λ s. s ≤ p) xs → p < q → n ≡ length xs → map (λ s. s == q) xs ≡ replicate n false
none_stamped [] p q n a h e = subst (λ k. [] ≡ replicate k false) (sym e) refl
none_stamped (x ∷ xs) p q n a h e =
    let here : (x == q) ≡ false = below_differs x q (omega (arith, All-head (λ s. s ≤ p) x xs a)) in
    let rest : map (λ s. s == q) xs ≡ replicate (length xs) false = none_stamped xs p q (length xs) (All-tail (λ s. s ≤ p) x xs a) h refl in
    subst (λ k. map (λ s. s == q) (x ∷ xs) ≡ replicate k false) (sym e) (ap (λ b. b ∷ map (λ s. s == q) xs) here ∙ ap (λ l. false ∷ l) rest)

-- the same where all stamps are 0
pub none_stamped_filled : (ys : List ℕ) (m q n : ℕ) → ys ≡ replicate m 0 → m ≡ n → 0 < q → map (λ s. s == q) ys ≡ replicate n false
none_stamped_filled ys m q n e f h =
    none_stamped ys 0 q n (All-same (λ s. s ≤ 0) ys (replicate m 0) e (All-replicate (λ s. s ≤ 0) m 0 (omega arith))) h (sym f ∙ sym (length-replicate m 0) ∙ ap length (sym e))

pub insert_positive : (pos neg : List ℕ) (present : ℕ) (l : Signed ℕ) → l.positive ≡ true
    → ◌≡◌ {A = Marked} (record { positive = map (λ s. s == present) (set pos l.atom present); negative = map (λ s. s == present) neg }) (with_mark (record { positive = map (λ s. s == present) pos; negative = map (λ s. s == present) neg }) l)
insert_positive pos neg present l e =
    let m : List Bool = map (λ s. s == present) neg in
    let k : map (λ s. s == present) (set pos l.atom present) ≡ set (map (λ s. s == present) pos) l.atom true = map-set (λ s. s == present) pos l.atom present ∙ ap (set (map (λ s. s == present) pos) l.atom) (eq-eqb present present refl) in
    rw e (ap (λ p. record { positive = p; negative = m }) k)

pub insert_negative : (pos neg : List ℕ) (present : ℕ) (l : Signed ℕ) → l.positive ≡ false
    → ◌≡◌ {A = Marked} (record { positive = map (λ s. s == present) pos; negative = map (λ s. s == present) (set neg l.atom present) }) (with_mark (record { positive = map (λ s. s == present) pos; negative = map (λ s. s == present) neg }) l)
insert_negative pos neg present l e =
    let m : List Bool = map (λ s. s == present) pos in
    let k : map (λ s. s == present) (set neg l.atom present) ≡ set (map (λ s. s == present) neg) l.atom true = map-set (λ s. s == present) neg l.atom present ∙ ap (set (map (λ s. s == present) neg) l.atom) (eq-eqb present present refl) in
    rw e (ap (λ n. record { positive = m; negative = n }) k)
