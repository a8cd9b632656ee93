-- Numbers are read one by one.
use Rattle.std.proofs.Common.{◌≡◌, ◌≢◌, ℕ, ◌^◌, ◌<◌, Bool, true, false, List, [], ◌∷◌, ◌++◌, refl, sym, ap, ◌∙◌}
use Rattle.std.specs.Prelude.{nat_eq, decimal}
use Rattle.std.specs.List.{list_all}
use Rattle.std.specs.Char.{is_ascii_digit}
use Rattle.std.proofs.lemmas.Bool.{and_parts, and_from}
use Rattle.std.proofs.lemmas.List.Folds.{list_all-append}
use Rattle.cert_format.specs.Runs.{begins, Ends}
use Rattle.cert_format.specs.LineMachine.{is_number}
use Rattle.cert_format.specs.LineTexts.{more_numbers, numbers}
use Rattle.cert_format.proofs.Digits.{numbers_once}
use Rattle.cert_format.proofs.LineNotes.{behind_front, below, more_numbers_end}
use Rattle.cert_items.specs.NumberTexts.{number_end, before_numbers, read_numbers, HasNumbers, NoNumberHead, NoSomeNumbers, NoNumbers}

-- ---- one number

more_ended : (mark ns rest : List ℕ) → (e : Bool) × (x : List ℕ) × (more_numbers mark ns rest ≡ number_end e x)
more_ended mark [] rest = (true, rest, refl)
more_ended mark (n ∷ ns) rest = (false, mark ++ (decimal n ++ more_numbers mark ns rest), refl)

pub no_mark : (mark bytes : List ℕ) → ((x : List ℕ) → bytes ≢ mark ++ x) → NoNumberHead mark bytes
no_mark mark bytes bad n ns after h g e = bad (decimal n ++ more_numbers mark ns after) e

pub no_number : (mark bytes after : List ℕ) → bytes ≡ mark ++ after → ((n : ℕ) (rest : List ℕ) → n < 2 ^ 64 → Ends is_ascii_digit rest → after ≢ decimal n ++ rest) → NoNumberHead mark bytes
no_number mark bytes after is bad n ns x h g e = bad n (more_numbers mark ns x) (below n h) (more_numbers_end mark ns x) (behind_front mark _ _ (sym is ∙ e))

pub no_end : (mark bytes digits after : List ℕ) (m : ℕ) → bytes ≡ mark ++ digits → digits ≡ decimal m ++ after → m < 2 ^ 64 → Ends is_ascii_digit after → ((e : Bool) (x : List ℕ) → after ≢ number_end e x) → NoNumberHead mark bytes
no_end mark bytes digits after m is at fits ends bad n ns y h g e =
    let k = numbers_once m n after (more_numbers mark ns y) fits (below n h) ends (more_numbers_end mark ns y) (sym at ∙ behind_front mark _ _ (sym is ∙ e)) in
    let z = more_ended mark ns y in
    bad z.0 z.1 (k.1 ∙ z.2)

-- ---- the numbers so far

before_push : (mark ns : List ℕ) (n : ℕ) (rest : List ℕ) → before_numbers mark (ns ++ n ∷ []) rest ≡ before_numbers mark ns (mark ++ (decimal n ++ 44 ∷ rest))
before_push mark [] n rest = refl
before_push mark (m ∷ ns) n rest = ap (λ (xs : List ℕ). mark ++ (decimal m ++ 44 ∷ xs)) (before_push mark ns n rest)

more_last : (mark ns : List ℕ) (n : ℕ) (rest : List ℕ) → more_numbers mark (ns ++ n ∷ []) rest ≡ 44 ∷ before_numbers mark ns (mark ++ (decimal n ++ 93 ∷ rest))
more_last mark [] n rest = refl
more_last mark (m ∷ ns) n rest = ap (λ (xs : List ℕ). 44 ∷ (mark ++ (decimal m ++ xs))) (more_last mark ns n rest)

numbers_last : (mark ns : List ℕ) (n : ℕ) (rest : List ℕ) → numbers mark (ns ++ n ∷ []) rest ≡ before_numbers mark ns (mark ++ (decimal n ++ 93 ∷ rest))
numbers_last mark [] n rest = refl
numbers_last mark (m ∷ ns) n rest = ap (λ (xs : List ℕ). mark ++ (decimal m ++ xs)) (more_last mark ns n rest)

read_push : (e : Bool) (mark ns : List ℕ) (n : ℕ) (rest : List ℕ) → read_numbers e mark (ns ++ n ∷ []) rest ≡ before_numbers mark ns (mark ++ (decimal n ++ number_end e rest))
read_push true mark ns n rest = numbers_last mark ns n rest
read_push false mark ns n rest = before_push mark ns n rest

pub read_number : (mark list : List ℕ) (n : ℕ) (bytes rest : List ℕ) (e : Bool) (after : List ℕ) → HasNumbers mark list false bytes rest → rest ≡ mark ++ (decimal n ++ number_end e after) → is_number n ≡ true → HasNumbers mark (list ++ n ∷ []) e bytes after
read_number mark list n bytes rest e after r is p = record {
  is = r.is ∙ ap (before_numbers mark list) is ∙ sym (read_push e mark list n after);
  fit = list_all-append is_number list (n ∷ []) ∙ and_from (list_all is_number list) _ r.fit (and_from (is_number n) true p refl);
}

-- behind the numbers that have been read begins one more
head_by : (mark done rest : List ℕ) → list_all is_number done ≡ true → NoNumberHead mark rest → (n : ℕ) (ns after : List ℕ) → is_number n ≡ true → list_all is_number ns ≡ true → before_numbers mark done rest ≢ mark ++ (decimal n ++ more_numbers mark ns after)
head_by mark [] rest g bad n ns after p q e = bad n ns after p q e
head_by mark (d ∷ done) rest g bad n ns after p q e =
    let a = and_parts (is_number d) (list_all is_number done) g in
    let k = numbers_once d n (44 ∷ before_numbers mark done rest) (more_numbers mark ns after) (below d a.0) (below n p) refl (more_numbers_end mark ns after) (behind_front mark _ _ e) in
    by ns q k.1 (head_by mark done rest a.1 bad)
  where
    by : (ks : List ℕ) → list_all is_number ks ≡ true → 44 ∷ before_numbers mark done rest ≡ more_numbers mark ks after → ((i : ℕ) (is x : List ℕ) → is_number i ≡ true → list_all is_number is ≡ true → before_numbers mark done rest ≢ mark ++ (decimal i ++ more_numbers mark is x)) → ⊥
    by [] r f next = let z = ap (begins (λ (z : ℕ). nat_eq z 44)) f in cc
    by (i ∷ ks) r f next = let b = and_parts (is_number i) (list_all is_number ks) r in next i ks after b.0 b.1 (behind_front (44 ∷ []) _ _ f)

pub no_numbers : (mark list bytes rest : List ℕ) → HasNumbers mark list false bytes rest → NoNumberHead mark rest → NoSomeNumbers mark bytes
no_numbers mark list bytes rest r bad n ns after p e = let a = and_parts (is_number n) (list_all is_number ns) p in head_by mark list rest r.fit bad n ns after a.0 a.1 (sym r.is ∙ e)

pub not_closed : (mark bytes : List ℕ) → ((x : List ℕ) → bytes ≢ 93 ∷ x) → NoSomeNumbers mark bytes → NoNumbers mark bytes
not_closed mark bytes bad none [] rest h e = bad rest e
not_closed mark bytes bad none (n ∷ ns) rest h e = none n ns rest h e
