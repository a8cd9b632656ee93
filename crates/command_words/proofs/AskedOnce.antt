-- Words ask at most one thing.
use Rattle.std.proofs.Common.{◌≡◌, ◌∙◌, ℕ, ◌≤◌, List, Option, Some, None, false, sym, ap, arith, rules, codes, refl}
use Rattle.std.proofs.Math.Dec.{eqb}
use Rattle.std.proofs.lemmas.Option.{same_Some}
use Rattle.inst_logic.specs.Tree.{Tree}
use Rattle.inst_logic.specs.declared.signed.Signed.{Signed}
use Rattle.cert_format.specs.Printable.{IsTextName}
use Rattle.command_words.specs.Asked.{Asked, IsAsked, IsWithin, SaysAtom, SaysBudget, SaysNumber, name_of, prove, sat, check, rewrite, ask, stress, qbf, fmodel, core, word_of}
use Rattle.command_words.proofs.AtomTexts.{same_reading}
use Rattle.command_words.proofs.FirstWords.{differ, second}

same_budget : (given : Option (List ℕ)) (m n : ℕ) → SaysBudget given m → SaysBudget given n → m ≡ n
same_budget None m n e f = e ∙ sym f
same_budget (Some text) m n e f = sym e.0.value ∙ f.0.value

small_budget : (given : Option (List ℕ)) (n : ℕ) → SaysBudget given n → n ≤ 1000000000000
small_budget None n e = omega arith
small_budget (Some text) n e = e.1

same_atom : (given : Option (List ℕ)) (a b : Signed Tree) → SaysAtom given a → SaysAtom given b → a ≡ b
same_atom None a b h k = absurd h
same_atom (Some text) a b h k = same_reading text a b h k

same_number : (least greatest most : ℕ) (given : Option (List ℕ)) (m n : ℕ) → SaysNumber least greatest most given m → SaysNumber least greatest most given n → m ≡ n
same_number least greatest most None m n h k = absurd h
same_number least greatest most (Some text) m n h k = sym h.0.value ∙ k.0.value

within_bounds : (least greatest most : ℕ) (given : Option (List ℕ)) (n : ℕ) → SaysNumber least greatest most given n → (least ≤ n) × (n ≤ greatest)
within_bounds least greatest most None n h = absurd h
within_bounds least greatest most (Some text) n h = (h.1, h.2)

same_prove : (f g : List ℕ) (r s : Option (List ℕ)) (m n : ℕ) → f ≡ g → r ≡ s → m ≡ n → prove f r m ≡ prove g s n
same_prove f g r s m n a b c = cc

same_check : (c d : List ℕ) (p q r s : Option (List ℕ)) → c ≡ d → p ≡ q → r ≡ s → check c p r ≡ check d q s
same_check c d p q r s e f g = cc

same_rewrite : (c d : List ℕ) (p q r s : Option (List ℕ)) → c ≡ d → p ≡ q → r ≡ s → rewrite c p r ≡ rewrite d q s
same_rewrite c d p q r s e f g = cc

same_ask : (c d : List ℕ) (a b : Signed Tree) → c ≡ d → a ≡ b → ask c a ≡ ask d b
same_ask c d a b e f = cc

same_fmodel : (m n : ℕ) (f g : List ℕ) (r s : Option (List ℕ)) → m ≡ n → f ≡ g → r ≡ s → fmodel m f r ≡ fmodel n g s
same_fmodel m n f g r s a b c = cc

same_core : (f g : List ℕ) (r s : Option (List ℕ)) → f ≡ g → r ≡ s → core f r ≡ core g s
same_core f g r s a b = cc

same_words : (words : List (List ℕ)) (a b : Asked) → IsAsked words a → IsAsked words b → word_of a ≡ word_of b
same_words words a b h k = same_Some (word_of a) (word_of b) (sym h.command ∙ k.command)

other_word : (words : List (List ℕ)) (a b : Asked) → IsAsked words a → IsAsked words b → eqb (second (word_of a)) (second (word_of b)) ≡ false → a ≡ b
other_word words a b h k apart = absurd (differ (word_of a) (word_of b) apart (same_words words a b h k))

pub once : (words : List (List ℕ)) (a b : Asked) → IsAsked words a → IsAsked words b → a ≡ b
once words (prove f r m) (prove g s n) h k = same_prove f g r s m n
    (same_Some f g (sym h.says.0.0 ∙ k.says.0.0)) (sym h.says.1.0 ∙ k.says.1.0) (same_budget _ m n h.says.2 k.says.2)
once words (sat f) (sat g) h k = ap sat (same_Some f g (sym h.says.0 ∙ k.says.0))
once words (check c p r) (check d q s) h k = same_check c d p q r s
    (same_Some c d (sym h.says.0.0 ∙ k.says.0.0)) (sym h.says.1.0 ∙ k.says.1.0) (sym h.says.2.0 ∙ k.says.2.0)
once words (check c p r) (rewrite d q s) h k = absurd (h.says.3 k.says.3)
once words (rewrite c p r) (check d q s) h k = absurd (k.says.3 h.says.3)
once words (rewrite c p r) (rewrite d q s) h k = same_rewrite c d p q r s
    (same_Some c d (sym h.says.0.0 ∙ k.says.0.0)) (sym h.says.1.0 ∙ k.says.1.0) (sym h.says.2.0 ∙ k.says.2.0)
once words (ask c a) (ask d b) h k = same_ask c d a b (same_Some c d (sym h.says.0.0 ∙ k.says.0.0)) (same_atom _ a b h.says.1 k.says.1)
once words (stress m) (stress n) h k = ap stress (same_number 2 100000 6 _ m n h.says k.says)
once words (qbf f) (qbf g) h k = ap qbf (same_Some f g (sym h.says.0 ∙ k.says.0))
once words (fmodel m f r) (fmodel n g s) h k = same_fmodel m n f g r s
    (same_number 1 64 2 _ m n h.says.0 k.says.0) (same_Some f g (sym h.says.1.0 ∙ k.says.1.0)) (sym h.says.2.0 ∙ k.says.2.0)
once words (core f r) (core g s) h k = same_core f g r s (same_Some f g (sym h.says.0.0 ∙ k.says.0.0)) (sym h.says.1.0 ∙ k.says.1.0)
once words a b h k = other_word words a b h k refl

stress_name : IsTextName (codes "stress")
stress_name = search rules

pub named : (words : List (List ℕ)) (a : Asked) → IsAsked words a → IsTextName (name_of a)
named words (prove f r m) h = h.says.0.1
named words (sat f) h = h.says.1
named words (check c p r) h = h.says.0.1
named words (rewrite c p r) h = h.says.0.1
named words (ask c a) h = h.says.0.1
named words (stress m) h = stress_name
named words (qbf f) h = h.says.1
named words (fmodel m f r) h = h.says.1.1
named words (core f r) h = h.says.0.1

pub within : (words : List (List ℕ)) (a : Asked) → IsAsked words a → IsWithin a
within words (prove f r m) h = small_budget _ m h.says.2
within words (stress m) h = within_bounds 2 100000 6 _ m h.says
within words (fmodel m f r) h = within_bounds 1 64 2 _ m h.says.0
within words a h = tt
