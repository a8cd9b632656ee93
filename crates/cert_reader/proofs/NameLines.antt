-- Names up to the end of a line, and small steps of readers.
use Rattle.std.proofs.Common.{◌≡◌, ℕ, ◌<◌, ◌≤◌, zero, suc, Bool, true, false, List, ◌∷◌, ◌++◌, length, take, drop, Option, Some, None, IfNone, refl, sym, ap, ◌∙◌, arith}
use Rattle.std.specs.Prelude.{nat_lt, nat_le, ◌==◌}
use Rattle.std.specs.List.{list_all}
use Rattle.std.proofs.lemmas.Bool.{and_parts, and_from}
use Rattle.std.proofs.lemmas.List.{take-append-drop}
use Rattle.cert_format.specs.LineTexts.{is_name_byte, is_text_name}
use Rattle.cert_format.specs.Runs.{run, Ends}
use Rattle.cert_format.proofs.Runs.{run_all, run_ends, one_split}
use Rattle.inst_logic.proofs.Numbers.{number_is, is_less, at_most, less_yes, less_equal}

pub none_then : {A P Q : Type 0} (r : Option A) → (P → Q) → IfNone r P → IfNone r Q
none_then None f h = f h
none_then (Some x) f h = tt

pub by_bool : (P : Bool → Type 0) → P true → P false → (b : Bool) → P b
by_bool P t f true = t
by_bool P t f false = f

-- the bytes that may stand in a name, and what follows them
pub record IsNameSplit (bytes name rest : List ℕ) : Type 0 where
  pub is : bytes ≡ name ++ rest
  pub clean : list_all is_name_byte name ≡ true
  pub ends : Ends is_name_byte rest

pub name_split : (bytes name rest : List ℕ) (len : ℕ) → len ≡ run is_name_byte bytes → name ≡ take len bytes → rest ≡ drop len bytes → IsNameSplit bytes name rest
name_split bytes name rest len e front back = record {
  is = sym (take-append-drop len bytes) ∙ sym (λ i. front i ++ back i);
  clean = rw (front, e) (run_all is_name_byte bytes);
  ends = rw (back, e) (run_ends is_name_byte bytes);
}

record FitsName (n : List ℕ) : Type 0 where
  pub some : 0 < length n
  pub short : length n ≤ 4096
  pub clean : list_all is_name_byte n ≡ true

fits_name : (n : List ℕ) → is_text_name n ≡ true → FitsName n
fits_name n h =
    let a = and_parts (nat_lt 0 (length n)) _ h in
    let b = and_parts (nat_le (length n) 4096) (list_all is_name_byte n) a.1 in
    record { some = is_less 0 (length n) a.0; short = at_most (length n) 4096 b.0; clean = b.1 }

-- a name up to a line feed is what was split off
pub name_once : (bytes name after n rest : List ℕ) → IsNameSplit bytes name after → is_text_name n ≡ true → bytes ≡ n ++ 10 ∷ rest → (n ≡ name) × (10 ∷ rest ≡ after)
name_once bytes name after n rest s h e = one_split is_name_byte n name (10 ∷ rest) after (fits_name n h).clean s.clean refl s.ends (sym e ∙ s.is)

pub empty_length : (n : ℕ) (b : Bool) → b ≡ (n == 0) → b ≡ true → n ≡ 0
empty_length n b e h = number_is n 0 (sym e ∙ h)

some_length : (n : ℕ) (b : Bool) → b ≡ (n == 0) → b ≡ false → 0 < n
some_length zero b e h = absurd cc
some_length (suc n) b e h = omega arith

pub wrong_length : (bytes name after n rest : List ℕ) → IsNameSplit bytes name after → is_text_name n ≡ true → bytes ≡ n ++ 10 ∷ rest → (0 < length name) × (length name ≤ 4096)
wrong_length bytes name after n rest s h e =
    let f = fits_name n h in
    let same = ap length (name_once bytes name after n rest s h e).0 in
    (omega (arith, f.some, same), omega (arith, f.short, same))

pub right_name : (bytes name after : List ℕ) (b : Bool) → IsNameSplit bytes name after → b ≡ (length name == 0) → b ≡ false → length name ≤ 4096 → is_text_name name ≡ true
right_name bytes name after b s e f short =
    and_from (nat_lt 0 (length name)) _ (less_yes 0 (length name) (some_length (length name) b e f)) (and_from (nat_le (length name) 4096) (list_all is_name_byte name) (less_equal (length name) 4096 short) s.clean)
