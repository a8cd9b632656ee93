-- Pieces of a text, put one behind the other.
use Rattle.std.proofs.Common.{◌≡◌, ℕ, zero, suc, ◌+◌, ◌-◌, ◌<◌, ◌≤◌, min, List, [], ◌∷◌, ◌++◌, inl, inr, refl, sym, ap, ◌∙◌, append_assoc, append-nil, length, drop, get_or, take, map, codes, decimal, arith}
use Rattle.std.proofs.Math.Seq.{drop-cons}
use Rattle.std.proofs.lemmas.Bool.{cases_lt}
use Rattle.std.proofs.lemmas.List.{drop_all, map-id}
use Rattle.std.proofs.lemmas.List.Elements.{All-weaker}
use Rattle.std.specs.Prelude.{All, ◌⊎◌}
use Rattle.term_bank.specs.Forest.{Forest, AreIds}
use Rattle.cert_values.specs.Wholes.{IsWholeTerm}
use Rattle.tptp_write.proofs.Walks.{split_first}
use Rattle.inst_logic.specs.Printing.{joined}
use Rattle.cert_format.specs.Lines.{listed, text_line}
use Rattle.cert_format.specs.Text.{paired_lines}

-- a text with one more piece
pub more : (t0 t1 t2 x y : List ℕ) → t1 ≡ t0 ++ x → t2 ≡ t1 ++ y → t2 ≡ t0 ++ (x ++ y)
more t0 t1 t2 x y e f = f ∙ ap (λ t. t ++ y) e ∙ append_assoc t0 x y

-- a text with two more, which were put there at once
pub more_twice : (t0 t1 t2 x y z : List ℕ) → t1 ≡ t0 ++ x → t2 ≡ t1 ++ (y ++ z) → t2 ≡ t0 ++ ((x ++ y) ++ z)
more_twice t0 t1 t2 x y z e f = more t0 t1 t2 x (y ++ z) e f ∙ ap (λ t. t0 ++ t) (sym (append_assoc x y z))

-- a text with three more at once
pub more_thrice : (t0 t1 t2 x y z w : List ℕ) → t1 ≡ t0 ++ x → t2 ≡ t1 ++ (y ++ z ++ w) → t2 ≡ t0 ++ (x ++ y ++ z ++ w)
more_thrice t0 t1 t2 x y z w e f =
    more t0 t1 t2 x (y ++ z ++ w) e f ∙ ap (λ t. t0 ++ t) (sym (append_assoc x (y ++ z) w) ∙ ap (λ t. t ++ w) (sym (append_assoc x y z)))

-- four pieces, one after the other
pub four_more : (t0 t1 t2 t3 t4 a b x y : List ℕ) → t1 ≡ t0 ++ a → t2 ≡ t1 ++ b → t3 ≡ t2 ++ x → t4 ≡ t3 ++ y → t4 ≡ t0 ++ (a ++ b ++ x ++ y)
four_more t0 t1 t2 t3 t4 a b x y e f g h = more t0 t3 t4 (a ++ b ++ x) y (more t0 t2 t3 (a ++ b) x (more t0 t1 t2 a b e f) g) h

-- ids of terms are ids, also as they are read
pub term_ids : (f : Forest) (ids read : List ℕ) → read ≡ ids → All (IsWholeTerm f) ids → AreIds f read
term_ids f ids read same h = rw same (All-weaker (IsWholeTerm f) (λ id. id < length f.trees) (λ id t. t.within) ids h)

-- the line of a clause: what stands before its note, the note, and the end
pub line_written : (t0 t1 t2 t3 front note : List ℕ) → t1 ≡ t0 ++ front → t2 ≡ t1 ++ note → t3 ≡ t2 ++ codes ").\n" → t3 ≡ t0 ++ text_line (front ++ note ++ codes ").")
line_written t0 t1 t2 t3 front note e f g = more_twice t0 t2 t3 (front ++ note) (codes ").") (10 ∷ []) (more t0 t1 t2 front note e f) g

-- the first piece, and what follows it
pub joined_first : (separator piece : List ℕ) (pieces : List (List ℕ)) → joined separator (piece ∷ pieces) ≡ piece ++ joined separator ([] ∷ pieces)
joined_first separator piece [] = sym (append-nil piece)
joined_first separator piece (p ∷ ps) = append_assoc piece separator (joined separator (p ∷ ps))

-- numbers behind a mark, by the first of them
pub marked_written : (mark old mid new ns : List ℕ) → 0 < length ns → mid ≡ old ++ (mark ++ decimal (get_or ns 0 0))
    → new ≡ mid ++ joined (codes ",") ([] ∷ map (λ p. mark ++ p) (map decimal (take (length ns - 1) (drop 1 ns)))) → new ≡ old ++ joined (codes ",") (map (λ p. mark ++ p) (map decimal ns))
marked_written mark old mid new [] lt e h = absurd (omega arith)
marked_written mark old mid new (n ∷ ns) lt e h =
    let rest = map (λ p. mark ++ p) (map decimal (take (length (n ∷ ns) - 1) (drop 1 (n ∷ ns)))) in
    let split : n ∷ ns ≡ n ∷ take (length (n ∷ ns) - 1) (drop 1 (n ∷ ns)) = split_first (n ∷ ns) n lt refl in
    more old mid new (mark ++ decimal n) (joined (codes ",") ([] ∷ rest)) e h
    ∙ ap (λ t. old ++ t) (sym (joined_first (codes ",") (mark ++ decimal n) rest))
    ∙ ap (λ (xs : List ℕ). old ++ joined (codes ",") (map (λ p. mark ++ p) (map decimal xs))) (sym split)

-- pieces in brackets without a mark
pub plain_listed : (pieces : List (List ℕ)) → listed [] pieces ≡ codes "[" ++ joined (codes ",") pieces ++ codes "]"
plain_listed pieces = ap (λ ps. codes "[" ++ joined (codes ",") ps ++ codes "]") (map-id pieces)

no_pairs : {A B : Type 0} (line : ℕ → A → B → List ℕ) (n : ℕ) (xs : List A) → paired_lines line n xs [] ≡ []
no_pairs line n [] = refl
no_pairs line n (x ∷ xs) = refl

-- no lines are left where one of the lists has come to its end
pub paired_end : {A B C : Type 0} (line : ℕ → B → C → List ℕ) (f : A → B) (n i : ℕ) (xs : List A) (ys : List C) → min (length xs) (length ys) ≤ i → paired_lines line n (map f (drop i xs)) (drop i ys) ≡ []
paired_end line f n zero [] ys h = refl
paired_end line f n zero (x ∷ xs) [] h = refl
paired_end line f n zero (x ∷ xs) (y ∷ ys) h = absurd (omega arith)
paired_end line f n (suc i) [] ys h = refl
paired_end line f n (suc i) (x ∷ xs) [] h = no_pairs line n (map f (drop i xs))
paired_end line f n (suc i) (x ∷ xs) (y ∷ ys) h = paired_end line f n i xs ys (omega arith)

-- lines of pairs whose items are read from two lists, the second from a place on
module _ {A B C D : Type 0} (line : ℕ → C → D → List ℕ) (f : A → C) (g : B → D) where
  paired_step : (n i j : ℕ) (xs : List A) (ys : List B) (x : A) (y : B) → i < length xs → x ≡ get_or xs i x → j < length ys → y ≡ get_or ys j y
      → paired_lines line n (map f (drop i xs)) (map g (drop j ys)) ≡ line n (f x) (g y) ++ paired_lines line (n + 1) (map f (drop (suc i) xs)) (map g (drop (suc j) ys))
  paired_step n i j xs ys x y low is low_too is_too =
      let p : drop i xs ≡ x ∷ drop (suc i) xs = drop-cons xs i x low ∙ ap (λ z. z ∷ drop (suc i) xs) (sym is) in
      let q : drop j ys ≡ y ∷ drop (suc j) ys = drop-cons ys j y low_too ∙ ap (λ z. z ∷ drop (suc j) ys) (sym is_too) in
      λ k. paired_lines line n (map f (p k)) (map g (q k))

  -- one more line, where those that are left make a text whole
  pub paired_more : (old new whole : List ℕ) (n i j : ℕ) (xs : List A) (ys : List B) (x : A) (y : B) (m k l : ℕ) → i < length xs → x ≡ get_or xs i x → j < length ys → y ≡ get_or ys j y
      → new ≡ old ++ line n (f x) (g y) → old ++ paired_lines line n (map f (drop i xs)) (map g (drop j ys)) ≡ whole → m ≡ n + 1 → k ≡ suc i → l ≡ suc j
      → new ++ paired_lines line m (map f (drop k xs)) (map g (drop l ys)) ≡ whole
  paired_more old new whole n i j xs ys x y m k l low is low_too is_too wrote left em ek el =
      (λ h. wrote h ++ paired_lines line (em h) (map f (drop (ek h) xs)) (map g (drop (el h) ys)))
      ∙ append_assoc old (line n (f x) (g y)) (paired_lines line (n + 1) (map f (drop (suc i) xs)) (map g (drop (suc j) ys)))
      ∙ ap (λ t. old ++ t) (sym (paired_step n i j xs ys x y low is low_too is_too))
      ∙ left

  -- none is left where one of the lists has come to its end
  pub paired_over : (n i b : ℕ) (xs : List A) (ys : List B) → min (length xs) (length ys - b) ≤ i → paired_lines line n (map f (drop i xs)) (map g (drop (b + i) ys)) ≡ []
  paired_over n i b xs ys h = by (cases_lt i (length xs))
    where
      by : (i < length xs) ⊎ (length xs ≤ i) → paired_lines line n (map f (drop i xs)) (map g (drop (b + i) ys)) ≡ []
      by (inl low) = ap (λ zs. paired_lines line n (map f (drop i xs)) (map g zs)) (drop_all (b + i) ys (omega arith)) ∙ no_pairs line n (map f (drop i xs))
      by (inr past) = ap (λ zs. paired_lines line n (map f zs) (map g (drop (b + i) ys))) (drop_all i xs past)

  -- the lines of one list and then another
  paired_joined : (n : ℕ) (xs zs : List A) (ys : List B) → paired_lines line n (map f xs ++ map f zs) (map g ys) ≡ paired_lines line n (map f xs) (map g ys) ++ paired_lines line (length xs + n) (map f zs) (map g (drop (length xs) ys))
  paired_joined n [] zs ys = let same : n ≡ 0 + n = omega arith in ap (λ m. paired_lines line m (map f zs) (map g ys)) same
  paired_joined n (x ∷ xs) zs [] = sym (no_pairs line (length (x ∷ xs) + n) (map f zs))
  paired_joined n (x ∷ xs) zs (y ∷ ys) =
      let same : length xs + (n + 1) ≡ length (x ∷ xs) + n = omega arith in
      ap (λ t. line n (f x) (g y) ++ t) (paired_joined (n + 1) xs zs ys ∙ ap (λ m. paired_lines line (n + 1) (map f xs) (map g ys) ++ paired_lines line m (map f zs) (map g (drop (length xs) ys))) same)
      ∙ sym (append_assoc (line n (f x) (g y)) (paired_lines line (n + 1) (map f xs) (map g ys)) (paired_lines line (length (x ∷ xs) + n) (map f zs) (map g (drop (length xs) ys))))

  pub paired_twice : (t0 t1 t2 : List ℕ) (k : ℕ) (xs zs : List A) (ys : List B) → k ≡ length xs → t1 ≡ t0 ++ paired_lines line 1 (map f xs) (map g ys)
      → t2 ≡ t1 ++ paired_lines line (k + 1) (map f zs) (map g (drop k ys)) → t2 ≡ t0 ++ paired_lines line 1 (map f xs ++ map f zs) (map g ys)
  paired_twice t0 t1 t2 k xs zs ys same e h =
      more t0 t1 t2 (paired_lines line 1 (map f xs) (map g ys)) (paired_lines line (length xs + 1) (map f zs) (map g (drop (length xs) ys))) e
      (h ∙ ap (λ n. t1 ++ paired_lines line (n + 1) (map f zs) (map g (drop n ys))) same)
      ∙ ap (λ t. t0 ++ t) (sym (paired_joined 1 xs zs ys))
