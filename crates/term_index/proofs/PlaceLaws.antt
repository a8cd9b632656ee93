-- What is known of the places of spans after one is noted.
use Rattle.std.proofs.Common.{◌≡◌, ◌<◌, ◌≤◌, ◌-◌, ◌⊎◌, inl, inr, ℕ, List, ◌++◌, length, slice_set, Bool, true, false, cond, nat_eq, nat_lt, ◌&&◌, Option, Some, None, refl, sym, ◌∙◌, ap, ap₂, subst, arith}
use Rattle.std.specs.Prelude.{if◌then◌else◌, slice_get}
use Rattle.std.specs.Map.{lookup}
use Rattle.std.proofs.lemmas.Bool.Decides.{Decides-eqb, nat_tests}
use Rattle.std.proofs.lemmas.Option.{slice_get_within}
use Rattle.inst_logic.proofs.Items.{slice_get_set, slice_get_set_other, slice_get_append}
use Rattle.inst_logic.specs.EqualLaws.{and_right}
use Rattle.term_index.specs.declared.node.Edge.{Edge}
use Rattle.term_index.specs.declared.node.Span.{Span}
use Rattle.term_index.specs.Paths.{PlaceLists, edge_at, is_step, place_of}
use Rattle.term_index.specs.Lists.{IsNoted}
use Rattle.term_index.proofs.EdgeLaws.{span_eq, span_same, span_itself}

-- where the place of a span is looked up
step_place : (es : List Edge) (ps : PlaceLists) (s : Span) → is_step es s ≡ true → place_of es ps s ≡ slice_get ps.ends s.end
step_place es ps s h = ap (λ b. if b then slice_get ps.ends s.end else lookup (span_eq s) ps.spans) h

long_place : (es : List Edge) (ps : PlaceLists) (s : Span) → is_step es s ≡ false → place_of es ps s ≡ lookup (span_eq s) ps.spans
long_place es ps s h = ap (λ b. if b then slice_get ps.ends s.end else lookup (span_eq s) ps.spans) h

-- two spans over one edge that end together are one
same_step : (es : List Edge) (s t : Span) → is_step es s ≡ true → is_step es t ≡ true → t.end ≡ s.end → t ≡ s
same_step es s t h k e =
    let x : (edge_at es (s.end - 1)).from ≡ s.begin = (Decides-eqb (edge_at es (s.end - 1)).from s.begin).0 (and_right (nat_lt (s.end - 1) (length es)) _ h) in
    let y : (edge_at es (t.end - 1)).from ≡ t.begin = (Decides-eqb (edge_at es (t.end - 1)).from t.begin).0 (and_right (nat_lt (t.end - 1) (length es)) _ k) in
    let z : t.begin ≡ s.begin = sym y ∙ ap (λ n. (edge_at es (n - 1)).from) e ∙ x in
    λ i. record { begin = z i; end = e i }

differs : (s t : Span) → ¬ (t ≡ s) → span_eq s t ≡ false
differs s t d = by (span_eq s t) refl
  where
    by : (b : Bool) → span_eq s t ≡ b → b ≡ false
    by true e = absurd (d (sym (span_same s t e)))
    by false e = refl

-- by its end
pub noted_end : (es : List Edge) (ps qs : PlaceLists) (s : Span) (k : ℕ) (more : List ℕ) → is_step es s ≡ true → s.end < length (ps.ends ++ more) → qs.ends ≡ slice_set (ps.ends ++ more) s.end k → qs.spans ≡ ps.spans → IsNoted es ps qs s k
noted_end es ps qs s k more h w e same = record {
  here = step_place es qs s h ∙ ap (λ xs. slice_get xs s.end) e ∙ slice_get_set (ps.ends ++ more) s.end k w;
  others = λ t p d q. others t p d q (is_step es t) refl;
}
  where
    others : (t : Span) (p : ℕ) → ¬ (t ≡ s) → place_of es ps t ≡ Some p → (b : Bool) → is_step es t ≡ b → place_of es qs t ≡ Some p
    others t p d q true f =
        step_place es qs t f ∙ ap (λ xs. slice_get xs t.end) e ∙ slice_get_set_other (ps.ends ++ more) s.end t.end k (λ i. d (same_step es s t h f i))
        ∙ slice_get_append ps.ends more t.end p (sym (step_place es ps t f) ∙ q)
    others t p d q false f = long_place es qs t f ∙ ap (lookup (span_eq t)) same ∙ sym (long_place es ps t f) ∙ q

-- in the map
pub noted_span : (es : List Edge) (ps qs : PlaceLists) (s : Span) (k : ℕ) → is_step es s ≡ false → qs.ends ≡ ps.ends → ((t : Span) → lookup (span_eq t) qs.spans ≡ cond (span_eq s t) (Some k) (lookup (span_eq t) ps.spans)) → IsNoted es ps qs s k
noted_span es ps qs s k h same u = record {
  here = long_place es qs s h ∙ u s ∙ ap (λ b. cond b (Some k) (lookup (span_eq s) ps.spans)) (span_itself s);
  others = λ t p d q. others t p d q (is_step es t) refl;
}
  where
    others : (t : Span) (p : ℕ) → ¬ (t ≡ s) → place_of es ps t ≡ Some p → (b : Bool) → is_step es t ≡ b → place_of es qs t ≡ Some p
    others t p d q true f = step_place es qs t f ∙ ap (λ xs. slice_get xs t.end) same ∙ sym (step_place es ps t f) ∙ q
    others t p d q false f = long_place es qs t f ∙ u t ∙ ap (λ b. cond b (Some k) (lookup (span_eq t) ps.spans)) (differs s t d) ∙ sym (long_place es ps t f) ∙ q

-- a place by an end is one
pub known_end : (es : List Edge) (ps : PlaceLists) (s : Span) (p : ℕ) → is_step es s ≡ true → place_of es ps s ≡ Some p → s.end < length ps.ends
known_end es ps s p h q = slice_get_within ps.ends s.end p (sym (step_place es ps s h) ∙ q)

-- and one in the map is there
pub known_span : (es : List Edge) (ps : PlaceLists) (s : Span) (p : ℕ) → is_step es s ≡ false → place_of es ps s ≡ Some p → lookup (span_eq s) ps.spans ≡ Some p
known_span es ps s p h q = sym (long_place es ps s h) ∙ q

-- new edges change nothing of spans to old ends
pub old_place : (es fs added : List Edge) (ps : PlaceLists) (s : Span) → fs ≡ es ++ added → s.end - 1 < length es → place_of fs ps s ≡ place_of es ps s
old_place es fs added ps s e w = ap (λ b. if b then slice_get ps.ends s.end else lookup (span_eq s) ps.spans) step
  where
    longer : length es ≤ length fs
    longer = omega (arith, ap length e, Rattle.std.proofs.Common.length-append es added)

    here : (m : ℕ) → s.end - 1 < m → nat_lt (s.end - 1) m ≡ true
    here m h = by (nat_lt (s.end - 1) m) refl
      where
        by : (b : Bool) → nat_lt (s.end - 1) m ≡ b → b ≡ true
        by true f = refl
        by false f = absurd (grind (arith, nat_tests))

    from : edge_at fs (s.end - 1) ≡ edge_at es (s.end - 1)
    from = ap (λ xs. edge_at xs (s.end - 1)) e ∙ Rattle.std.proofs.Math.ListN.get_or-append es added Rattle.term_index.specs.Paths.no_edge (s.end - 1) w

    step : is_step fs s ≡ is_step es s
    step = ap₂ (λ b (x : Edge). b && nat_eq x.from s.begin) (here (length fs) (omega (arith, w, longer)) ∙ sym (here (length es) w)) from
