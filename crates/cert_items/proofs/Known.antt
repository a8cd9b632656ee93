-- What is remembered of names stays true as the bank grows, and is found by a name's text.
use Rattle.std.proofs.Common.{◌≡◌, ℕ, length, List, [], ◌∷◌, ◌++◌, refl, sym, subst, Bool, true, false, cond, Option, Some, IfSome, nat_eq}
use Rattle.std.specs.Global.{Vec}
use Rattle.std.specs.Cmp.Lexicographic.{pointwise}
use Rattle.std.proofs.lemmas.Bool.Decides.{Decides-eqb}
use Rattle.std.proofs.lemmas.Slice.Eq.{slice_eq-Decides}
use Rattle.std.proofs.lemmas.List.Elements.{All-head, All-tail, All-push, All-weaker}
use Rattle.inst_logic.specs.declared.symbol.Kind.{Kind}
use Rattle.inst_logic.specs.Tree.{Tree, app, of_list}
use Rattle.term_bank.specs.Forest.{Forest, IsAt, Extends}
use Rattle.term_bank.proofs.Growth.{at_extends}
use Rattle.cert_items.specs.declared.text_bank.NamedSymbol.{NamedSymbol}
use Rattle.cert_items.specs.Known.{IsKnown, AreKnown, remembered}
use Rattle.cert_items.specs.Reading.{IsApplied}

found_in : (f : Forest) (text : List ℕ) (es : List (Vec ℕ × NamedSymbol)) → AreKnown f es → IfSome (remembered text es) (IsKnown f text)
found_in f text [] h = tt
found_in f text (e ∷ es) h = by (pointwise nat_eq text e.0.items) refl (found_in f text es (All-tail (λ (x : Vec ℕ × NamedSymbol). IsKnown f x.0.items x.1) e es h))
  where
    by : (b : Bool) → pointwise nat_eq text e.0.items ≡ b → IfSome (remembered text es) (IsKnown f text) → IfSome (cond b (Some e.1) (remembered text es)) (IsKnown f text)
    by true p rest =
        let same : text ≡ e.0.items = (slice_eq-Decides {E = nat_eq} Decides-eqb text e.0.items (pointwise nat_eq text e.0.items) refl).0 p in
        subst (λ (t : List ℕ). IsKnown f t e.1) (sym same) (All-head (λ (x : Vec ℕ × NamedSymbol). IsKnown f x.0.items x.1) e es h)
    by false p rest = rest

pub found : (f : Forest) (text : List ℕ) (es : List (Vec ℕ × NamedSymbol)) (k : NamedSymbol) → AreKnown f es → Some k ≡ remembered text es → IsKnown f text k
found f text es k h e = subst (λ (r : Option NamedSymbol). IfSome r (IsKnown f text)) (sym e) (found_in f text es h)

-- one more name
pub one_more_known : (f : Forest) (es fs : List (Vec ℕ × NamedSymbol)) (text : List ℕ) (key : Vec ℕ) (k : NamedSymbol) → fs ≡ es ++ (key, k) ∷ [] → key.items ≡ text → IsKnown f text k → AreKnown f es → AreKnown f fs
one_more_known f es fs text key k more same h all =
    subst (AreKnown f) (sym more) (All-push (λ (x : Vec ℕ × NamedSymbol). IsKnown f x.0.items x.1) es (key, k) all (subst (λ (t : List ℕ). IsKnown f t k) (sym same) h))

known_later : (f g : Forest) (text : List ℕ) (k : NamedSymbol) → Extends f g → IsKnown f text k → IsKnown g text k
known_later f g text k e h = record {
  name = h.name;
  spelled = h.spelled;
  readable = h.readable;
  args = h.args;
  count = h.count;
  at = at_extends f g k.id (app (record { kind = k.kind; name = h.name; arity = k.arity }) (of_list h.args)) e h.at;
}

pub all_known_later : (f g : Forest) (es : List (Vec ℕ × NamedSymbol)) → Extends f g → AreKnown f es → AreKnown g es
all_known_later f g es e h = All-weaker (λ (x : Vec ℕ × NamedSymbol). IsKnown f x.0.items x.1) (λ (x : Vec ℕ × NamedSymbol). IsKnown g x.0.items x.1) (λ x k. known_later f g x.0.items x.1 e k) es h

-- an application that was read, with the number of its arguments
pub applied_known : (f : Forest) (id : ℕ) (kind : Kind) (text : List ℕ) (args : List Tree) (n : ℕ) → length args ≡ n → IsApplied f id kind text args → IsKnown f text (record { kind = kind; arity = n; id = id })
applied_known f id kind text args n count h = record {
  name = h.name;
  spelled = h.spelled;
  readable = h.readable;
  args = args;
  count = count;
  at = subst (λ (m : ℕ). IsAt f id (app (record { kind = kind; name = h.name; arity = m }) (of_list args))) count h.at;
}
