-- What the first tokens of a term say of it.
use Rattle.std.proofs.Common.{◌≡◌, ℕ, zero, suc, ◌-◌, Bool, true, false, cond, List, ◌∷◌, length, Option, Some, None, refl, sym, ap, subst, ◌∙◌, inl, inr, arith}
use Rattle.std.specs.Prelude.{◌&&◌}
use Rattle.tptp_read.specs.Stream.{Tok}
use Rattle.tptp_read.specs.Lexemes.{is_head, is_plain}
use Rattle.tptp_read.specs.Grammar.{Written, single, applied, term, term_fits, terms_fit, is_atom}
use Rattle.tptp_read.specs.Parse.{◌>>=◌, Reads, begins_with, behind, many_at, writtens, applied_at, term_at}
use Rattle.tptp_read.specs.Shapes.{truth_of}
use Rattle.tptp_read.proofs.ParseLaws.{both_true, bind_some, chosen, some_is, term_spelled}
use Rattle.tptp_read.proofs.Reading.{term_deep, term_calls, term_single, term_nothing}

head_is : (w : Written) (t : Tok) (ts rest : List Tok) → t ∷ ts ≡ term w rest → term_fits w ≡ true → is_head t.kind ≡ is_atom w
head_is (single u) t ts rest e fits = let same : t ≡ u = cc in ap (λ (x : Tok). is_head x.kind) same
head_is (applied f u us) t ts rest e fits =
    let same : t ≡ f = cc in
    ap (λ (x : Tok). is_head x.kind) same ∙ (both_true (is_head f.kind) (term_fits u && terms_fit us) fits).0

pub atom_of : (d : ℕ) (t : Tok) (rest : List Tok) (z : Written × List Tok) → term_at d (t ∷ rest) ≡ Some z → is_head t.kind ≡ is_atom z.0
atom_of d t rest z e = let s = term_spelled d (t ∷ rest) z e in head_is z.0 t rest z.1 s.0 s.1

abbrev no_truth : Option Bool
no_truth = None

applied_is_none : (p : Reads Written) (f : Tok) (ts : List Tok) (z : Written × List Tok) → applied_at p f ts ≡ Some z → no_truth ≡ truth_of z.0
unfolding applied_at
applied_is_none p f ts z e =
    let a = bind_some (p ts) (λ t. many_at 44 p (length t.1) t.1 >>= λ vs. cond (begins_with 41 vs.1) (Some (applied f t.0 (writtens vs.0), behind vs.1)) None) z e in
    let b = bind_some (many_at 44 p (length a.0.1) a.0.1) (λ vs. cond (begins_with 41 vs.1) (Some (applied f a.0.0 (writtens vs.0), behind vs.1)) None) z a.2 in
    elim (chosen (begins_with 41 b.0.1) (Some (applied f a.0.0 (writtens b.0.0), behind b.0.1)) None (Some z) b.2) [
      | inl w ↦ subst (λ (y : Written × List Tok). no_truth ≡ truth_of y.0) (some_is (applied f a.0.0 (writtens b.0.0), behind b.0.1) z w.1) refl
      | inr w ↦ absurd cc
    ]

pub truth_applied : (d : ℕ) (t : Tok) (rest : List Tok) (z : Written × List Tok) → is_head t.kind ≡ true → begins_with 40 rest ≡ true → term_at d (t ∷ rest) ≡ Some z → no_truth ≡ truth_of z.0
truth_applied zero t rest z head opened e = let none = term_deep zero t rest refl head opened in absurd cc
truth_applied (suc d) t rest z head opened e = applied_is_none (term_at (suc d - 1)) t (behind rest) z (sym (term_calls (suc d) t rest (λ h. absurd (omega arith)) head opened) ∙ e)

pub truth_alone : (d : ℕ) (t : Tok) (rest : List Tok) (z : Written × List Tok) → (is_head t.kind && begins_with 40 rest) ≡ false → term_at d (t ∷ rest) ≡ Some z → truth_of (single t) ≡ truth_of z.0
truth_alone d t rest z other e = by (is_plain t.kind) refl
  where
    by : (b : Bool) → is_plain t.kind ≡ b → truth_of (single t) ≡ truth_of z.0
    by true h = ap (λ (y : Written × List Tok). truth_of y.0) (some_is (single t, rest) z (sym (term_single d t rest other h) ∙ e))
    by false h = let none = term_nothing d t rest other h in absurd cc
