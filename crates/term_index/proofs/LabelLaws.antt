-- The label at the root of a tree.
use Rattle.std.proofs.Common.{◌≡◌, ℕ, List, ◌<◌, ◌≤◌, ◌^◌, ◌⊎◌, inl, inr, subst, length, Some, None, refl, sym, ◌∙◌, ap, arith}
use Rattle.std.specs.Prelude.{option_map}
use Rattle.inst_logic.specs.Tree.{Tree, var, app, Trees, none, more, to_list}
use Rattle.inst_logic.specs.WellFormed.{count_of}
use Rattle.term_bank.specs.Forest.{Forest, number_of, symbol_at, symbol_of, arguments_of}
use Rattle.term_index.specs.Numbered.{IsKnown}
use Rattle.term_index.specs.declared.label.Label.{Label}
use Rattle.term_index.specs.declared.label.Label.TheVariants.{Symbol}
use Rattle.term_index.specs.declared.node.Edge.{Edge}
use Rattle.term_index.specs.Paths.{IsShort, AreShort, IsChild}
use Rattle.term_index.specs.Labels.{label_of}

length_to_list : (ts : Trees) → length (to_list ts) ≡ count_of ts
length_to_list none = refl
length_to_list (more t ts) = omega (arith, length_to_list ts)

-- the label of an application, by what the bank tells
pub label_is : (f : Forest) (t : Tree) (n k : ℕ) → Some n ≡ option_map (number_of f.symbols) (symbol_of t) → k ≡ length (arguments_of t) → Symbol n k ≡ label_of f t
label_is f (var v) n k e h = cc
label_is f (app s ts) n k e h =
    let x : n ≡ number_of f.symbols s = cc in
    let y : k ≡ count_of ts = h ∙ length_to_list ts in
    λ i. Symbol (x i) (y i)

pub known_of : (f : Forest) (t : Tree) (n : ℕ) → Some n ≡ option_map (number_of f.symbols) (symbol_of t) → n < length f.symbols → Some (symbol_at f.symbols n) ≡ symbol_of t → IsKnown f t
known_of f t n e w s m h = let k : m ≡ n = cc in (subst (λ x. x < length f.symbols) (sym k) w, ap (λ x. Some (symbol_at f.symbols x)) k ∙ s)

pub known_variable : (f : Forest) (t : Tree) → None ≡ option_map (number_of f.symbols) (symbol_of t) → IsKnown f t
known_variable f t e m h = absurd (cc)

-- the label has no room, by the number of the symbol or by that of the arguments
pub too_long : (f : Forest) (t : Tree) (n : ℕ) → Some n ≡ option_map (number_of f.symbols) (symbol_of t) → (2 ^ 32 ≤ n) ⊎ (2 ^ 32 ≤ length (arguments_of t)) → ¬ (IsShort (label_of f t))
too_long f t n e large h =
    let fits : IsShort (Symbol n (length (arguments_of t))) = subst IsShort (sym (label_is f t n (length (arguments_of t)) e refl)) h in
    elim large [ inl x ↦ omega (arith, x, fits.0) | inr x ↦ omega (arith, x, fits.1) ]

-- such a label is on no edge
pub no_child : (es : List Edge) (n : ℕ) (l : Label) → AreShort es → ¬ (IsShort l) → (c : ℕ) → ¬ (IsChild es n l c)
no_child es n l short long c h = long (subst (λ (x : Edge). IsShort x.label) h.is (short h.edge h.within))
