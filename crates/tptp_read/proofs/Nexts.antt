-- The first token of a text, as a function.
use Rattle.std.proofs.Common.{◌≡◌, ℕ, List, [], ◌∷◌, length, Option, Some, None, MatchOption, refl, sym, subst, ◌∙◌, inl, inr}
use Rattle.std.specs.Prelude.{◌⊎◌}
use Rattle.tptp_read.specs.Stream.{Tok, IsNext, IsEnd, IsDone, HasNoToken}
use Rattle.tptp_read.proofs.Longest.{longest_found}
use Rattle.tptp_read.proofs.Skipping.{done_ends}
use Rattle.tptp_read.proofs.Decided.{decided, token_no_piece, end_is_gap, done_is_end, same_ends}
pub use Rattle.tptp_read.proofs.Decided.{next_shorter}

pub next : List ℕ → Option (Tok × List ℕ)
next text = (decided text).found

pub next_is : (text : List ℕ) (t : Tok) (after : List ℕ) → IsNext text t after → next text ≡ Some (t, after)
unfolding next
next_is text t after h = (decided text).only t after h

found_next : (text : List ℕ) (z : Tok × List ℕ) (o : Option (Tok × List ℕ)) → o ≡ Some z → MatchOption o ((rest : List ℕ) × IsEnd text rest) (λ y. IsNext text y.0 y.1) → IsNext text z.0 z.1
found_next text z o e h = subst (λ (p : Option (Tok × List ℕ)). MatchOption p ((rest : List ℕ) × IsEnd text rest) (λ y. IsNext text y.0 y.1)) e h

found_none : (text : List ℕ) (o : Option (Tok × List ℕ)) → o ≡ None → MatchOption o ((rest : List ℕ) × IsEnd text rest) (λ y. IsNext text y.0 y.1) → (rest : List ℕ) × IsEnd text rest
found_none text o e h = subst (λ (p : Option (Tok × List ℕ)). MatchOption p ((rest : List ℕ) × IsEnd text rest) (λ y. IsNext text y.0 y.1)) e h

pub is_next : (text : List ℕ) (z : Tok × List ℕ) → next text ≡ Some z → IsNext text z.0 z.1
unfolding next
is_next text z e = found_next text z (decided text).found e (decided text).is

pub ends : (text : List ℕ) → next text ≡ None → (rest : List ℕ) × IsEnd text rest
unfolding next
ends text e = found_none text (decided text).found e (decided text).is

-- where a text ends no token begins
pub end_no_next : (text rest : List ℕ) → IsEnd text rest → (t : Tok) (after : List ℕ) → IsNext text t after → ⊥
end_no_next text rest e t after h =
    let found = longest_found h.rest t.kind (length t.text) h.longest in
    let at : h.rest ≡ rest = sym (done_ends text h.rest h.skipped (token_no_piece h.rest (t.kind, length t.text) found)) ∙ end_is_gap text rest e in
    subst HasNoToken (sym at) e.no_token t.kind (length t.text) h.longest.within h.longest.spelled

pub end_none : (text rest : List ℕ) → IsEnd text rest → next text ≡ None
end_none text rest e = known (next text) refl where
  known : (o : Option (Tok × List ℕ)) → next text ≡ o → next text ≡ None
  known None h = h
  known (Some z) h = absurd (end_no_next text rest e z.0 z.1 (is_next text z h))

pub done_none : (text : List ℕ) → IsDone text → next text ≡ None
done_none text h = end_none text [] (done_is_end text h)

pub end_done : (text rest : List ℕ) → IsEnd text rest → IsDone text → rest ≡ []
end_done text rest e h = same_ends text rest [] e (done_is_end text h)

-- nothing is left, or something
nil_or : (rest : List ℕ) → (rest ≡ []) ⊎ (rest ≡ [] → ⊥)
nil_or [] = inl refl
nil_or (b ∷ bs) = inr (λ e. cc)

end_or : (text : List ℕ) → (z : (rest : List ℕ) × IsEnd text rest) → IsDone text ⊎ (IsDone text → ⊥)
end_or text z = choose (nil_or z.0) where
  choose : (z.0 ≡ []) ⊎ (z.0 ≡ [] → ⊥) → IsDone text ⊎ (IsDone text → ⊥)
  choose (inl e) = inl (subst (λ (r : List ℕ). IsEnd text r) e z.1).skipped
  choose (inr ne) = inr (λ d. ne (end_done text z.0 z.1 d))

some_none : (z : Tok × List ℕ) (o : Option (Tok × List ℕ)) → o ≡ Some z → o ≡ None → ⊥
some_none z o e h = cc

pub done_or : (text : List ℕ) → IsDone text ⊎ (IsDone text → ⊥)
done_or text = known (next text) refl where
  known : (o : Option (Tok × List ℕ)) → next text ≡ o → IsDone text ⊎ (IsDone text → ⊥)
  known None h = end_or text (ends text h)
  known (Some z) h = inr (λ d. some_none z (next text) h (done_none text d))
