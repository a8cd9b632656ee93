-- The tokens of a whole text, one after the other.
use Rattle.std.proofs.Common.{◌≡◌, ℕ, ◌≤◌, List, [], ◌∷◌, length, drop, Option, Some, None, refl, sym, ap, subst, ◌∙◌, arith}
use Rattle.std.proofs.Math.ListN.{drop_of_length-le}
use Rattle.tptp_read.specs.Stream.{Tok, IsNext, IsEnd, IsDone}
use Rattle.tptp_read.specs.Lexemes.{Begins}
use Rattle.tptp_read.specs.Atoms.{AreTokens}
use Rattle.tptp_read.proofs.ParseLaws.{some_is}
use Rattle.tptp_read.proofs.Nexts.{next, next_is, end_none, done_none, end_done}

none_some : {A B : Type 0} (x : A) (r : Option A) → r ≡ None → r ≡ Some x → B
none_some x r p q = absurd cc

abbrev Found : Type 0
Found = Tok × List ℕ

pub same_next : (text : List ℕ) (t u : Tok) (after behind : List ℕ) → IsNext text t after → IsNext text u behind → (t ≡ u) × (after ≡ behind)
same_next text t u after behind h k =
    let same = some_is (t, after) (u, behind) (sym (next_is text t after h) ∙ next_is text u behind k) in
    (ap (λ (z : Found). z.0) same, ap (λ (z : Found). z.1) same)

-- two readings of a text to where no token begins end at one place, with the same tokens
pub same_tokens : (found ts : List Tok) (text mid rest : List ℕ) → Begins text found mid → next mid ≡ None → Begins text ts rest → next rest ≡ None → (found ≡ ts) × (mid ≡ rest)
same_tokens [] [] text mid rest b e b' e' = (refl, sym b ∙ b')
same_tokens [] (t ∷ ts) text mid rest b e b' e' = none_some (t, b'.0) (next text) (ap next b ∙ e) (next_is text t b'.0 b'.1)
same_tokens (t ∷ found) [] text mid rest b e b' e' = none_some (t, b.0) (next text) (ap next b' ∙ e') (next_is text t b.0 b.1)
same_tokens (t ∷ found) (u ∷ ts) text mid rest b e b' e' =
    let same = same_next text t u b.0 b'.0 b.1 b'.1 in
    let more = same_tokens found ts b.0 mid rest b.2 e (subst (λ (x : List ℕ). Begins x ts rest) (sym same.1) b'.2) e' in
    ((λ i. same.0 i ∷ more.0 i), more.1)

pub are_all : (text mid last : List ℕ) (found : List Tok) → Begins text found mid → IsEnd mid last → last ≡ [] → AreTokens text found
are_all text mid last found b e nil = record { rest = mid; begins = b; done = (subst (λ (x : List ℕ). IsEnd mid x) nil e).skipped }

pub none_are : (text mid last : List ℕ) (found : List Tok) → Begins text found mid → IsEnd mid last → (last ≡ [] → ⊥) → (ts : List Tok) → ¬ AreTokens text ts
none_are text mid last found b e some ts a =
    let same = same_tokens found ts text mid a.rest b (end_none mid last e) a.begins (done_none a.rest a.done) in
    some (end_done mid last e (subst (λ (x : List ℕ). IsDone x) (sym same.1) a.done))

pub nothing_behind : (text : List ℕ) (i : ℕ) → i ≡ length text → drop i text ≡ []
nothing_behind text i e = let le : length text ≤ i = omega arith in drop_of_length-le text le
