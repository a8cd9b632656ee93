-- Partners by the heads of selected literals, and chains through them.
use Rattle.std.proofs.Common.{◌≡◌, inl, inr, ℕ, suc, ◌<◌, ◌≤◌, List, [], ◌∷◌, ◌++◌, ◌+◌, length, get_or, set, refl, ap, sym, ◌∙◌, subst, arith, below_more, get_or-set_other, get_or-set_same, true, false, not, Bool, Option, None, Some, cond}
use Rattle.std.specs.Prelude.{option_map, unwrap_or}
use Rattle.std.proofs.lemmas.Bool.{cases_lt}
use Rattle.std.proofs.lemmas.List.{length-set}
use Rattle.std.proofs.Math.ListN.{get_or-append, get_or-eq_default}
use Rattle.std.specs.List.{position_or_len}
use Rattle.std.proofs.Math.Seq.{get_or-append_seam}
use Rattle.std.proofs.lemmas.Option.{same_Some}
use Rattle.inst_logic.specs.declared.symbol.Sym.{Sym}
use Rattle.inst_logic.specs.Tree.{Tree, var, app}
use Rattle.inst_logic.specs.Substitution.{subst as apply, Substitution}
use Rattle.inst_logic.specs.Unifiers.{Sided, IsUnifier}
use Rattle.inst_logic.specs.WellFormed.{IsAtom}
use Rattle.inst_logic.specs.Equal.{sym_eq}
use Rattle.term_bank.specs.Forest.{Forest, Extends, KeepsPlaces, no_symbol, number_of, symbol_at, symbol_of, tree_at}
use Rattle.cert_values.specs.declared.certificate.Saturation.{Saturation}
use Rattle.cert_values.specs.Values.{saturation_of}
use Rattle.clause_form.specs.Literals.{id_eq}
use Rattle.indexmap.specs.IndexMap.{IndexMap, get}
use Rattle.std.specs.Map.{lookup}
use Rattle.clause_form.proofs.Assembly.{id_eq_decides}
use Rattle.inst_logic.specs.Signed.{complement}
use Rattle.cert_index.specs.Partners.{Head, head_at, IsHeadOf, AreApart, IsNext, AreChained}
use Rattle.cert_index.specs.Meetings.{IsApart}
use Rattle.cert_index.proofs.ApartLaws.{same_sign, no_unifier}

-- an atom has a symbol
pub atom_symbol : (t : Tree) → IsAtom t → ¬ (symbol_of t ≡ None)
atom_symbol (var v) h e = absurd (cc)
atom_symbol (app f ts) h e = absurd (cc)

-- and an instance has the same
pub symbol_under : (s : Substitution) (t : Tree) (f : Sym) → symbol_of t ≡ Some f → symbol_of (apply s t) ≡ Some f
symbol_under s (var v) f e = absurd (cc)
symbol_under s (app g ts) f e = e

pub number_there : (n : ℕ) (g : Sym → ℕ) (o : Option Sym) → Some n ≡ option_map g o → (f : Sym) × (o ≡ Some f) × (n ≡ g f)
number_there n g None e = absurd (cc)
number_there n g (Some f) e = (f, refl, same_Some n (g f) e)

-- and not that of a function
no_function : (t : Tree) → IsAtom t → symbol_of t ≡ Some no_symbol → ⊥
no_function (var v) h e = absurd (cc)
no_function (app f ts) h e =
    let k : IsAtom (app no_symbol ts) = subst (λ (x : Sym). IsAtom (app x ts)) (same_Some f no_symbol e) h in
    let t : false ≡ true = k in absurd (cc)

-- so its number is one of the bank's
pub number_known : (f : Forest) (t : Tree) (n : ℕ) → IsAtom t → Some (symbol_at f.symbols n) ≡ symbol_of t → n < length f.symbols
number_known f t n h e = elim (cases_lt n (length f.symbols)) [ inl less ↦ less | inr past ↦ absurd (no_function t h (sym e ∙ ap Some (get_or-eq_default f.symbols no_symbol past))) ]

-- a first place stays as the list grows
pub first_stays : {A : Type 0} (d : A) (p : A → Bool) (xs ys : List A) → KeepsPlaces d xs ys → position_or_len p xs < length xs → position_or_len p ys ≡ position_or_len p xs
first_stays d p [] ys k less = absurd (omega arith)
first_stays d p (x ∷ xs) [] k less = absurd (let l = k.0 in omega arith)
first_stays {A} d p (x ∷ xs) (y ∷ ys) k less =
    let same : y ≡ x = k.1 0 (omega arith) in
    let rest : KeepsPlaces d xs ys = (let l = k.0 in omega arith, λ i w. k.1 (suc i) (omega arith)) in
    ap (λ z. cond (not (p z)) (1 + position_or_len p ys) 0) same ∙ by (not (p x)) (first_stays d p xs ys rest) less
  where
    by : (b : Bool) → (position_or_len p xs < length xs → position_or_len p ys ≡ position_or_len p xs) → cond b (1 + position_or_len p xs) 0 < length (x ∷ xs) → cond b (1 + position_or_len p ys) 0 ≡ cond b (1 + position_or_len p xs) 0
    by true rest less = ap (λ n. 1 + n) (rest (omega arith))
    by false rest less = refl

pub number_stays : (f g : Forest) → Extends f g → (s : Sym) → number_of f.symbols s < length f.symbols → number_of g.symbols s ≡ number_of f.symbols s
number_stays f g grown s low = first_stays no_symbol (λ r. sym_eq s r) f.symbols g.symbols grown.symbols low

signs : (p q : Bool) → ¬ (p ≡ q) → q ≡ not p
signs true true h = absurd (h refl)
signs true false h = refl
signs false true h = refl
signs false false h = absurd (h refl)

sign_cases : (p q : Bool) (P : Type 0) → (p ≡ q → P) → (¬ (p ≡ q) → P) → P
sign_cases true true P same other = same refl
sign_cases true false P same other = other (λ e. absurd (cc))
sign_cases false true P same other = other (λ e. absurd (cc))
sign_cases false false P same other = same refl

module _ (c : Saturation) (i j : ℕ) (less : i < j) (h k : Head) (left : IsHeadOf c i h) (right : IsHeadOf c j k) where
  numbers_differ : ¬ (k ≡ complement h) → ¬ (left.literal.positive ≡ right.literal.positive) → ¬ (h.atom ≡ k.atom)
  numbers_differ other apart same =
      let s : k.positive ≡ not h.positive = signs h.positive k.positive (λ e. apart (sym left.head.sign ∙ e ∙ right.head.sign)) in
      other (λ z. record { positive = s z; atom = sym same z })

  none_unifies : ¬ (h.atom ≡ k.atom) → (u : Sided) → ¬ IsUnifier u (tree_at c.base.bank left.literal.atom) (tree_at c.base.bank right.literal.atom)
  none_unifies differ u e =
      let (f, p, m) = number_there h.atom (number_of c.base.bank.symbols) (symbol_of (tree_at c.base.bank left.literal.atom)) left.head.number in
      let (g, q, n) = number_there k.atom (number_of c.base.bank.symbols) (symbol_of (tree_at c.base.bank right.literal.atom)) right.head.number in
      let same : Some f ≡ Some g = sym (symbol_under u.left (tree_at c.base.bank left.literal.atom) f p) ∙ ap symbol_of e ∙ symbol_under u.right (tree_at c.base.bank right.literal.atom) g q in
      differ (m ∙ ap (number_of c.base.bank.symbols) (same_Some f g same) ∙ sym n)

  pub apart_by_heads : ¬ (k ≡ complement h) → IsApart (saturation_of c) (suc i) (suc j)
  apart_by_heads other =
      sign_cases left.literal.positive right.literal.positive (IsApart (saturation_of c) (suc i) (suc j))
      (same_sign c i j less left.literal right.literal left.is right.is)
      (λ apart. no_unifier c i j less left.literal right.literal left.is right.is (none_unifies (numbers_differ other apart)))

pub all_apart : (c : Saturation) (hs : List Head) → ((k : ℕ) → k < length hs → IsHeadOf c k (head_at hs k)) → AreApart (saturation_of c) hs
all_apart c hs each i j less within = apart_by_heads c i j less (head_at hs i) (head_at hs j) (each i (omega arith)) (each j within)

-- places of heads
module _ (hs : List Head) where
  pub next_none : (h : Head) → IsNext hs h (length hs) (length hs)
  next_none h = record { from_there = omega arith; within = omega arith; at = λ l. absurd (omega arith); before = λ k p q. absurd (omega arith) }

  next_here : (h : Head) (i : ℕ) → i < length hs → head_at hs i ≡ h → IsNext hs h i i
  next_here h i within e = record { from_there = omega arith; within = omega arith; at = λ l. e; before = λ k p q. absurd (omega arith) }

  next_before : (h : Head) (i p : ℕ) → ¬ (head_at hs i ≡ h) → IsNext hs h (suc i) p → IsNext hs h i p
  next_before h i p other n =
      let from = n.from_there in
      record { from_there = omega arith; within = n.within; at = n.at; before = λ k q r. elim (cases_lt i k) [ inl less ↦ n.before k (omega arith) r | inr more ↦ (let e : i ≡ k = omega arith in subst (λ m. ¬ (head_at hs m ≡ h)) e other) ] }

  -- the map after place i
  pub more_first : (i : ℕ) → i < length hs → (f g : Head → Option ℕ) → ((h : Head) → g h ≡ cond (id_eq (head_at hs i) h) (Some i) (f h))
      → ((h : Head) → IsNext hs h (suc i) (unwrap_or (f h) (length hs))) → (h : Head) → IsNext hs h i (unwrap_or (g h) (length hs))
  more_first i within f g new old h = subst (λ (o : Option ℕ). IsNext hs h i (unwrap_or o (length hs))) (sym (new h)) (by (id_eq (head_at hs i) h) refl)
    where
      by : (b : Bool) → id_eq (head_at hs i) h ≡ b → IsNext hs h i (unwrap_or (cond b (Some i) (f h)) (length hs))
      by true e = next_here h i within ((id_eq_decides (head_at hs i) h).0 e)
      by false e = next_before h i (unwrap_or (f h) (length hs)) (λ same. let t : false ≡ true = sym e ∙ (id_eq_decides (head_at hs i) h).1 same in cc) (old h)

  -- the chains after place j, which follows it
  pub more_chained : (same : List ℕ) (i j a : ℕ) → i ≡ suc j → i ≤ length hs → AreChained hs same i → IsNext hs (head_at hs j) (suc j) a → AreChained hs (set same j a) j
  more_chained same i j a e within old n = record {
    same_length = length-set same j a ∙ old.same_length;
    to_same = λ k from less. elim (cases_lt j k) [
      | inl later ↦ subst (IsNext hs (head_at hs k) (suc k)) (sym (get_or-set_other same j k a 0 (omega arith))) (old.to_same k (omega arith) less)
      | inr here ↦ let same_place : j ≡ k = omega arith in
          subst (λ q. IsNext hs (head_at hs q) (suc q) (get_or (set same j a) q 0)) same_place
          (subst (IsNext hs (head_at hs j) (suc j)) (sym (get_or-set_same same j a 0 (let l = old.same_length in omega arith))) n)
    ];
  }

  pub none_chained : (same : List ℕ) → length same ≡ length hs → AreChained hs same (length hs)
  none_chained same e = record { same_length = e; to_same = λ k from less. absurd (omega arith) }

-- the map at the start
pub empty_first : (hs : List Head) (n : ℕ) → n ≡ length hs → {S : Type 0} (m : IndexMap Head ℕ S) → m.entries ≡ [] → (h : Head) → IsNext hs h n (unwrap_or (get id_eq m h) (length hs))
empty_first hs n e m empty h =
    let none : get id_eq m h ≡ None = ap (lookup (id_eq h)) empty in
    subst (λ (o : Option ℕ). IsNext hs h n (unwrap_or o (length hs))) (sym none) (subst (λ k. IsNext hs h k (length hs)) (sym e) (next_none hs h))

pub one_more_head : (c : Saturation) (hs : List Head) (i : ℕ) (h : Head) → length hs ≡ i → ((k : ℕ) → k < i → IsHeadOf c k (head_at hs k)) → IsHeadOf c i h → (k : ℕ) → k < i + 1 → IsHeadOf c k (head_at (hs ++ h ∷ []) k)
one_more_head c hs i h len each last =
    below_more (λ k. IsHeadOf c k (head_at (hs ++ h ∷ []) k)) i
    (λ k less. subst (IsHeadOf c k) (sym (get_or-append hs (h ∷ []) _ k (omega arith))) (each k less))
    (subst (λ n. IsHeadOf c n (head_at (hs ++ h ∷ []) n)) len (subst (IsHeadOf c (length hs)) (sym (get_or-append_seam hs h [] _)) (subst (λ n. IsHeadOf c n h) (sym len) last)))
