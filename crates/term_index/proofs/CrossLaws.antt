-- Exits: over one edge from the root, and over one term from any other node.
use Rattle.std.proofs.Common.{◌≡◌, ◌<◌, ◌≤◌, ℕ, zero, suc, List, [], ◌∷◌, length, ap, arith}
use Rattle.term_index.specs.declared.label.Label.{Label}
use Rattle.term_index.specs.declared.node.Edge.{Edge}
use Rattle.term_index.specs.Paths.{IsChild, Spans, Crosses, KeepsEdges, edge_at}
use Rattle.term_index.proofs.PathLaws.{leads_up, leads_in, leads_kept}

pub crosses_span : (es : List Edge) (n c : ℕ) → 0 < n → Crosses es n c → Spans es n c
crosses_span es zero c w h = absurd (omega arith)
crosses_span es (suc n) c w h = h

pub span_crosses : (es : List Edge) (n c : ℕ) → 0 < n → Spans es n c → Crosses es n c
span_crosses es zero c w h = absurd (omega arith)
span_crosses es (suc n) c w h = h

pub crosses_kept : (es fs : List Edge) → KeepsEdges es fs → (n c : ℕ) → Crosses es n c → Crosses fs n c
crosses_kept es fs kept zero c (l, h) = (l, kept 0 l c h)
crosses_kept es fs kept (suc n) c (ls, l, p) = (ls, leads_kept es fs kept (suc n) ls c l, p)

-- an edge leads further down
pub edge_ends : (es : List Edge) → ((k : ℕ) → k < length es → (edge_at es k).from ≤ k) → (n c : ℕ) (l : Label) → IsChild es n l c → (n < c) × (c ≤ length es)
edge_ends es o n c l h =
    let f = o h.edge h.within in
    let e : (edge_at es h.edge).from ≡ n = ap (λ (y : Edge). y.from) h.is in
    (omega (arith, h.number, e, f), omega (arith, h.number, h.within))

-- and so does a term
pub span_ends : (es : List Edge) → ((k : ℕ) → k < length es → (edge_at es k).from ≤ k) → (n c : ℕ) → Spans es n c → (n < c) × (c ≤ length es)
span_ends es o n c ([], l, p) = let z : Path ℕ 1 0 = p in absurd (omega (arith, z))
span_ends es o n c (x ∷ ks, (d, k, l), p) =
    let e = edge_ends es o n d x k in
    (omega (arith, e.0, leads_up es o d ks c l), leads_in es d ks c e.1 l)

pub cross_ends : (es : List Edge) → ((k : ℕ) → k < length es → (edge_at es k).from ≤ k) → (n c : ℕ) → Crosses es n c → (n < c) × (c ≤ length es)
cross_ends es o zero c (l, h) = edge_ends es o 0 c l h
cross_ends es o (suc n) c h = span_ends es o (suc n) c h
