-- The derived tests of equality of edges and of spans decide equality.
use Rattle.std.proofs.Common.{◌≡◌, Bool, true, refl, nat_eq}
use Rattle.std.proofs.lemmas.Bool.Decides.{Decides-eqb}
use Rattle.inst_logic.specs.EqualLaws.{and_left, and_right, and_both}
use Rattle.term_index.specs.contracts.node.EdgePartialEq.TheImpl as edge
use Rattle.term_index.specs.contracts.node.SpanPartialEq.TheImpl as span
use Rattle.term_index.specs.contracts.label.LabelPartialEq.TheImpl as label
use Rattle.term_index.specs.declared.label.Label.{Label}
use Rattle.term_index.specs.declared.label.Label.TheVariants.{Variable, Symbol}
use Rattle.term_index.specs.declared.node.Edge.{Edge}
use Rattle.term_index.specs.declared.node.Span.{Span}

abbrev pub edge_eq : Edge → Edge → Bool
edge_eq = (edge.ghosts).eq

abbrev pub same_label : Label → Label → Bool
same_label = (label.ghosts).eq

pub label_same : (l m : Label) → same_label l m ≡ true → l ≡ m
label_same Variable Variable h = refl
label_same Variable (Symbol s n) h = absurd (cc)
label_same (Symbol s n) Variable h = absurd (cc)
label_same (Symbol s m) (Symbol r n) h =
    let x : s ≡ r = (Decides-eqb s r).0 (and_left _ _ h) in
    let y : m ≡ n = (Decides-eqb m n).0 (and_right (nat_eq s r) _ h) in
    λ i. Symbol (x i) (y i)

pub label_itself : (l : Label) → same_label l l ≡ true
label_itself Variable = refl
label_itself (Symbol s n) = and_both _ _ ((Decides-eqb s s).1 refl) ((Decides-eqb n n).1 refl)

pub edge_same : (d e : Edge) → edge_eq d e ≡ true → d ≡ e
edge_same d e h =
    let x : d.from ≡ e.from = (Decides-eqb d.from e.from).0 (and_left _ _ h) in
    let y : d.label ≡ e.label = label_same d.label e.label (and_right (nat_eq d.from e.from) _ h) in
    λ i. record { from = x i; label = y i }

abbrev pub span_eq : Span → Span → Bool
span_eq = (span.ghosts).eq

pub span_same : (s t : Span) → span_eq s t ≡ true → s ≡ t
span_same s t h =
    let x : s.begin ≡ t.begin = (Decides-eqb s.begin t.begin).0 (and_left _ _ h) in
    let y : s.end ≡ t.end = (Decides-eqb s.end t.end).0 (and_right (nat_eq s.begin t.begin) _ h) in
    λ i. record { begin = x i; end = y i }

pub span_itself : (s : Span) → span_eq s s ≡ true
span_itself s = and_both _ _ ((Decides-eqb s.begin s.begin).1 refl) ((Decides-eqb s.end s.end).1 refl)
