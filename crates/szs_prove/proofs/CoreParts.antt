-- The parts of the text of a core.
use Rattle.std.proofs.Common.{◌≡◌, ℕ, ◌+◌, ◌<◌, inl, inr, List, [], ◌∷◌, ◌++◌, refl, sym, ap, ◌∙◌, subst as transport, length, take, get_or, map, append_assoc, add-one, arith}
use Rattle.std.specs.Prelude.{decimal, remove}
use Rattle.std.specs.List.{concat}
use Rattle.std.proofs.lemmas.List.{append-nil, map-append, take_more}
use Rattle.std.proofs.lemmas.List.Folds.{concat-append}
use Rattle.inst_logic.specs.declared.clause.Problem.{Problem}
use Rattle.inst_logic.specs.Codes as byte
use Rattle.cert_format.specs.Certificate.{Certificate, first_refutation, refutation, saturation, covered, line_clauses}
use Rattle.cert_format.specs.Text.{written_text}
use Rattle.core_min.specs.Cores.{HasRefutation, HasSelection, IsCore}
use Rattle.szs_prove.specs.Decisions.{IsShownBy}
use Rattle.szs_prove.specs.Proving.{HasCertificate}
use Rattle.szs_prove.specs.SubProblems.{problem_at}
use Rattle.szs_prove.specs.CoreTexts.{IsContinued, AreRestTexts, IsCoreText, IsNoCoreText, IsRefutationText, IsSaturationText, core_line, no_core_line, place_words}
use Rattle.core_min.proofs.SubLists.{not_both}

pub place_words_so_far : (places before after first : List ℕ) (i d place : ℕ) → i < length places → place ≡ get_or places i d → before ≡ first ++ place_words (take i places) → after ≡ before ++ byte.space ∷ decimal place
    → after ≡ first ++ place_words (take (i + 1) places)
place_words_so_far places before after first i d place within e so_far added =
    let word : ℕ → List ℕ = λ n. byte.space ∷ decimal n in
    let more : place_words (take (i + 1) places) ≡ place_words (take i places) ++ word place =
    ap place_words (take_more places i d within) ∙ ap concat (map-append word (take i places) (get_or places i d ∷ [])) ∙ concat-append (map word (take i places)) (word (get_or places i d) ∷ [])
    ∙ ap (λ xs. place_words (take i places) ++ xs) (append-nil (word (get_or places i d)) ∙ ap word (sym e)) in
    added ∙ ap (λ xs. xs ++ word place) so_far ∙ append_assoc first (place_words (take i places)) (word place) ∙ ap (λ xs. first ++ xs) (sym more)

module _ (q : Problem) (file text : List ℕ) where
  -- a certificate of what is satisfiable is a saturation
  pub saturation_text : HasSelection q.clauses → HasCertificate q file text → IsSaturationText q file text
  saturation_text satisfiable h = go h.certificate h.shown h.is
    where
      go : (c : Certificate) → IsShownBy q c → text ≡ written_text file c → IsSaturationText q file text
      go (first_refutation r) s e = absurd (not_both q.clauses satisfiable (record { grounds = r.grounds; instances = s.certifies.shows.instances; refuted = s.certifies.shows.refuted }))
      go (refutation r) s e = absurd (not_both q.clauses satisfiable (record { grounds = line_clauses r.grounds; instances = s.certifies.shows.instances; refuted = s.certifies.shows.refuted }))
      go (saturation c) s e = elim s.certifies.printable.known [
        | inl k ↦ absurd (omega (arith, k.0))
        | inr k ↦ absurd (omega (arith, k))
      ]
      go (covered c) s e = record { certificate = c; shown = s; is = e }

  -- a certificate of what is refuted is a refutation
  pub refutation_text : HasRefutation q.clauses → HasCertificate q file text → IsRefutationText q file text
  refutation_text refuted h = go h.certificate h.shown h.is
    where
      go : (c : Certificate) → IsShownBy q c → text ≡ written_text file c → IsRefutationText q file text
      go (first_refutation r) s e = absurd (omega (arith, s.certifies.printable.known.0))
      go (refutation r) s e = record { certificate = r; shown = s; is = e }
      go (saturation c) s e = elim s.certifies.printable.known [
        | inl k ↦ absurd (omega (arith, k.0))
        | inr k ↦ absurd (omega (arith, k))
      ]
      go (covered c) s e = absurd (not_both q.clauses (record { members = _; makes = s.certifies.shows }) refuted)

-- one more saturation behind the others
pub rests_so_far : (p : Problem) (file places first before after : List ℕ) (i : ℕ) → IsContinued first before (AreRestTexts p file places i) → IsContinued before after (IsSaturationText (problem_at p (remove places i)) file)
    → IsContinued first after (AreRestTexts p file places (i + 1))
rests_so_far p file places first before after i (parts, are, so_far) (part, is, added) =
    (parts ++ part, transport (λ n. AreRestTexts p file places n (parts ++ part)) (sym (add-one i)) (parts, part, are, is, refl), added ∙ ap (λ xs. xs ++ part) so_far ∙ append_assoc first parts part)

pub core_text : (p : Problem) (file places line behind text : List ℕ) → IsCore p.clauses places → line ≡ core_line file places → IsContinued line behind (IsRefutationText (problem_at p places) file)
    → IsContinued behind text (AreRestTexts p file places (length places)) → IsCoreText p file text
core_text p file places line behind text core is (found, refuted, first) (rests, needed, second) = record {
  places = places;
  core = core;
  refutation_text = found;
  rest_texts = rests;
  refuted = refuted;
  needed = needed;
  is = second ∙ ap (λ xs. xs ++ rests) (first ∙ ap (λ xs. xs ++ found) is) ∙ append_assoc (core_line file places) found rests;
}

pub no_core_text : (p : Problem) (file line found text : List ℕ) → HasSelection p.clauses → line ≡ no_core_line file → HasCertificate p file found → text ≡ line ++ found → IsNoCoreText p file text
no_core_text p file line found text satisfiable is shown e = record {
  satisfiable = satisfiable;
  not_refuted = not_both p.clauses satisfiable;
  saturation_text = found;
  saturated = saturation_text p file found satisfiable shown;
  is = e ∙ ap (λ xs. xs ++ found) is;
}
