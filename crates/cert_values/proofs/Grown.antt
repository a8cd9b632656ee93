-- What a certificate has of a bank is the same in a bank that has grown. Crates above cite these.
use Rattle.std.proofs.Common.{◌≡◌, ℕ, List, [], ◌∷◌, map, refl, sym, ap, ap₂, subst as transport, arith}
use Rattle.std.specs.Prelude.{All}
use Rattle.std.proofs.lemmas.List.Elements.{All-head, All-tail, All-weaker}
use Rattle.inst_logic.specs.declared.signed.Signed.{Signed}
use Rattle.term_bank.specs.Forest.{Forest, Extends, clause_at, tree_at}
use Rattle.term_bank.proofs.Clauses.{clause_of_extends, atoms_extend, clause_extends}
use Rattle.cert_values.specs.declared.certificate.GroundStep.{GroundStep}
use Rattle.cert_values.specs.declared.certificate.GroundLine.{GroundLine}
use Rattle.cert_values.specs.declared.certificate.By.{By}
use Rattle.cert_values.specs.declared.certificate.By.TheVariants.{Tautology, Variant, Part}
use Rattle.cert_values.specs.declared.certificate.Cover.{Cover}
use Rattle.cert_values.specs.declared.member.Member.{Member}
use Rattle.inst_logic.specs.Tree.{Tree}
use Rattle.inst_logic.specs.WellFormed.{IsTerm}
use Rattle.cert_format.specs.Certificate.{by_part}
use Rattle.cert_values.specs.Values.{origin_of, hint_of, entry_of, step_of, line_of, by_of, side_of, cover_of}
use Rattle.cert_values.specs.Wholes.{IsWholeClause, IsWholeTerm, IsWholeLine, IsWholeBy, IsWholeCover}

module _ (f g : Forest) (grown : Extends f g) where
  pub clause_grown : (c : List (Signed ℕ)) → IsWholeClause f c → IsWholeClause g c
  clause_grown c h = record { ids = clause_of_extends f g grown c h.ids; atoms = atoms_extend f g grown c h.ids h.atoms }

  pub clauses_grown : (cs : List (List (Signed ℕ))) → All (IsWholeClause f) cs → All (IsWholeClause g) cs
  clauses_grown cs h = All-weaker (IsWholeClause f) (IsWholeClause g) clause_grown cs h

  pub members_grown : (ms : List Member) → All (λ m. IsWholeClause f m.clause) ms → All (λ m. IsWholeClause g m.clause) ms
  members_grown ms h = All-weaker (λ (m : Member). IsWholeClause f m.clause) (λ (m : Member). IsWholeClause g m.clause) (λ m w. clause_grown m.clause w) ms h

  pub steps_grown : (ss : List GroundStep) → All (λ s. IsWholeClause f s.clause) ss → All (λ s. IsWholeClause g s.clause) ss
  steps_grown ss h = All-weaker (λ (s : GroundStep). IsWholeClause f s.clause) (λ (s : GroundStep). IsWholeClause g s.clause) (λ s w. clause_grown s.clause w) ss h

  -- and so are the trees
  pub clauses_same : (cs : List (List (Signed ℕ))) → All (IsWholeClause f) cs → map (clause_at g) cs ≡ map (clause_at f) cs
  clauses_same [] h = refl
  clauses_same (c ∷ cs) h = ap₂ (λ x xs. x ∷ xs) (clause_extends f g grown c (All-head (IsWholeClause f) c cs h).ids) (clauses_same cs (All-tail (IsWholeClause f) c cs h))

  pub members_same : (ms : List Member) → All (λ m. IsWholeClause f m.clause) ms → map (entry_of g) ms ≡ map (entry_of f) ms
  members_same [] h = refl
  members_same (m ∷ ms) h = ap₂ (λ x xs. x ∷ xs) one (members_same ms (All-tail (λ x. IsWholeClause f x.clause) m ms h))
    where
      one : entry_of g m ≡ entry_of f m
      one = let e = clause_extends f g grown m.clause (All-head (λ x. IsWholeClause f x.clause) m ms h).ids in λ i. record { clause = e i; origin = origin_of m.origin }

  pub steps_same : (ss : List GroundStep) → All (λ s. IsWholeClause f s.clause) ss → map (step_of g) ss ≡ map (step_of f) ss
  steps_same [] h = refl
  steps_same (s ∷ ss) h = ap₂ (λ x xs. x ∷ xs) one (steps_same ss (All-tail (λ x. IsWholeClause f x.clause) s ss h))
    where
      one : step_of g s ≡ step_of f s
      one = let e = clause_extends f g grown s.clause (All-head (λ x. IsWholeClause f x.clause) s ss h).ids in λ i. record { clause = e i; hints = map hint_of s.hints }

  term_grown : (t : ℕ) → IsWholeTerm f t → IsWholeTerm g t
  term_grown t w = record { within = omega (arith, w.within, grown.trees.0); term = transport (λ (x : Tree). IsTerm x) (sym (grown.trees.1 t w.within)) w.term }

  pub terms_grown : (ts : List ℕ) → All (IsWholeTerm f) ts → All (IsWholeTerm g) ts
  terms_grown ts h = All-weaker (IsWholeTerm f) (IsWholeTerm g) term_grown ts h

  pub terms_same : (ts : List ℕ) → All (IsWholeTerm f) ts → map (tree_at g) ts ≡ map (tree_at f) ts
  terms_same [] h = refl
  terms_same (t ∷ ts) h = ap₂ (λ x xs. x ∷ xs) (grown.trees.1 t (All-head (IsWholeTerm f) t ts h).within) (terms_same ts (All-tail (IsWholeTerm f) t ts h))

  pub lines_grown : (gs : List GroundLine) → All (IsWholeLine f) gs → All (IsWholeLine g) gs
  lines_grown gs h = All-weaker (IsWholeLine f) (IsWholeLine g) (λ l w. record { clause = clause_grown l.clause w.clause; terms = terms_grown l.terms w.terms }) gs h

  pub lines_same : (gs : List GroundLine) → All (IsWholeLine f) gs → map (line_of g) gs ≡ map (line_of f) gs
  lines_same [] h = refl
  lines_same (l ∷ gs) h = ap₂ (λ x xs. x ∷ xs) one (lines_same gs (All-tail (IsWholeLine f) l gs h))
    where
      one : line_of g l ≡ line_of f l
      one = let w = All-head (IsWholeLine f) l gs h in
          let c = clause_extends f g grown l.clause w.clause.ids in
          let t = terms_same l.terms w.terms in
          λ i. record { clause = c i; input = l.input; terms = t i }

  by_grown : (b : By) → IsWholeBy f b → IsWholeBy g b
  by_grown Tautology h = h
  by_grown (Variant n) h = h
  by_grown (Part n terms) h = terms_grown terms h

  pub bys_grown : (bs : List By) → All (IsWholeBy f) bs → All (IsWholeBy g) bs
  bys_grown bs h = All-weaker (IsWholeBy f) (IsWholeBy g) by_grown bs h

  by_same : (b : By) → IsWholeBy f b → by_of g b ≡ by_of f b
  by_same Tautology h = refl
  by_same (Variant n) h = refl
  by_same (Part n terms) h = ap (by_part n) (terms_same terms h)

  pub bys_same : (bs : List By) → All (IsWholeBy f) bs → map (by_of g) bs ≡ map (by_of f) bs
  bys_same [] h = refl
  bys_same (b ∷ bs) h = ap₂ (λ x xs. x ∷ xs) (by_same b (All-head (IsWholeBy f) b bs h)) (bys_same bs (All-tail (IsWholeBy f) b bs h))

  pub covers_grown : (vs : List Cover) → All (IsWholeCover f) vs → All (IsWholeCover g) vs
  covers_grown vs h = All-weaker (IsWholeCover f) (IsWholeCover g) (λ v w. record { clause = clause_grown v.clause w.clause; by = by_grown v.by w.by }) vs h

  pub covers_same : (vs : List Cover) → All (IsWholeCover f) vs → map (cover_of g) vs ≡ map (cover_of f) vs
  covers_same [] h = refl
  covers_same (v ∷ vs) h = ap₂ (λ x xs. x ∷ xs) one (covers_same vs (All-tail (IsWholeCover f) v vs h))
    where
      one : cover_of g v ≡ cover_of f v
      one = let w = All-head (IsWholeCover f) v vs h in
          let c = clause_extends f g grown v.clause w.clause.ids in
          let b = by_same v.by w.by in
          λ i. record { left = v.left; right = v.right; side = side_of v.side; clause = c i; by = b i }
