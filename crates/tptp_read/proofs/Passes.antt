-- Statements one after the other.
use Rattle.std.proofs.Common.{◌≡◌, ℕ, suc, ◌+◌, List, [], ◌∷◌, ◌++◌, length, refl, sym, subst, ◌∙◌, add-one}
use Rattle.tptp_read.specs.Stream.{IsDone}
use Rattle.tptp_read.specs.declared.statement.Statement.{Statement}
use Rattle.tptp_read.specs.declared.refusal.Refusal.{Refusal}
use Rattle.tptp_read.specs.declared.refusal.Refusal.TheVariants as refusals
use Rattle.tptp_read.specs.declared.text.ReadError.{ReadError}
use Rattle.tptp_read.specs.declared.text.ReadError.TheVariants as errors
use Rattle.tptp_read.specs.Meaning.{Fault, syntax_fault, language, feature, role_fault, limit}
use Rattle.tptp_read.specs.Rules.{IsRead, IsOffence}
use Rattle.tptp_read.specs.Text.{Readable, Offends, IsCause}
use Rattle.tptp_read.specs.Verdicts.{IsOf, IsFault, IsSaid}

-- these statements are read, and this is left
abbrev pub Passed : List ℕ → List Statement → List ℕ → Type 0
Passed text [] rest = text ≡ rest
Passed text (s ∷ ss) rest = (mid : List ℕ) × IsRead text s mid × Passed mid ss rest

pub passed_more : (text mid rest : List ℕ) (ss : List Statement) (s : Statement) → Passed text ss mid → IsRead mid s rest → Passed text (ss ++ s ∷ []) rest
passed_more text mid rest [] s p r = (rest, subst (λ (x : List ℕ). IsRead x s rest) (sym p) r, refl)
passed_more text mid rest (u ∷ ss) s p r = (p.0, p.1, passed_more p.0 mid rest ss s p.2 r)

pub passed_readable : (text rest : List ℕ) (ss : List Statement) → Passed text ss rest → IsDone rest → Readable text ss
passed_readable text rest [] p d = subst (λ (x : List ℕ). IsDone x) (sym p) d
passed_readable text rest (s ∷ ss) p d = (p.0, p.1, passed_readable p.0 rest ss p.2 d)

offends_after : (text rest : List ℕ) (ss : List Statement) (e : Fault) → Passed text ss rest → ¬ IsDone rest → IsOffence rest e → Offends text (suc (length ss)) e
offends_after text rest [] e p d o = subst (λ (x : List ℕ). (IsDone x → ⊥) × IsOffence x e) (sym p) (d, o)
offends_after text rest (s ∷ ss) e p d o = (s, p.0, p.1, offends_after p.0 rest ss e p.2 d o)

pub offends : (text rest : List ℕ) (ss : List Statement) (k : ℕ) (e : Fault) → k ≡ length ss + 1 → Passed text ss rest → ¬ IsDone rest → IsOffence rest e → Offends text k e
offends text rest ss k e is p d o = subst (λ (n : ℕ). Offends text n e) (sym (is ∙ add-one (length ss))) (offends_after text rest ss e p d o)

found : (P : Fault → Type 0) (e : Fault) (r : Refusal) → IsFault e r → IsOf P r → P e
found P e refusals.Memory f h = absurd f
found P e refusals.Syntax f h = subst P (sym f) h
found P e (refusals.Language w) f h = subst P (sym f) h
found P e (refusals.Feature w) f h = subst P (sym f) h
found P e (refusals.Role w) f h = subst P (sym f) h
found P e (refusals.Limit which) f h = subst P (sym f) h

pub cause : (text rest : List ℕ) (ss : List Statement) (n : ℕ) (r : Refusal) (e : ReadError) → n ≡ length ss + 1 → Passed text ss rest → IsOf (λ d. (¬ IsDone rest) × IsOffence rest d) r → IsSaid r n e → IsCause text e
cause text rest ss n r (errors.Syntax k) is p o s = let h = found (λ d. (¬ IsDone rest) × IsOffence rest d) syntax_fault r s.1 o in offends text rest ss k syntax_fault (s.0 ∙ is) p h.0 h.1
cause text rest ss n r (errors.Language k w) is p o s = let h = found (λ d. (¬ IsDone rest) × IsOffence rest d) (language w) r s.1 o in offends text rest ss k (language w) (s.0 ∙ is) p h.0 h.1
cause text rest ss n r (errors.Feature k w) is p o s = let h = found (λ d. (¬ IsDone rest) × IsOffence rest d) (feature w) r s.1 o in offends text rest ss k (feature w) (s.0 ∙ is) p h.0 h.1
cause text rest ss n r (errors.Role k w) is p o s = let h = found (λ d. (¬ IsDone rest) × IsOffence rest d) (role_fault w) r s.1 o in offends text rest ss k (role_fault w) (s.0 ∙ is) p h.0 h.1
cause text rest ss n r (errors.Limit k which) is p o s = let h = found (λ d. (¬ IsDone rest) × IsOffence rest d) (limit which) r s.1 o in offends text rest ss k (limit which) (s.0 ∙ is) p h.0 h.1
cause text rest ss n r errors.Memory is p o s = tt
