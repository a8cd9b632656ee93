-- What stays of the entries as the bank and the entries grow.
use Rattle.std.proofs.Common.{◌≡◌, ℕ, ◌≤◌, List, [], ◌∷◌, ◌++◌, ◌+◌, inl, inr, refl, sym, ap, ap₂, ◌∙◌, subst as transport, arith, All}
use Rattle.std.proofs.lemmas.List.Elements.{All-push}
use Rattle.inst_logic.specs.declared.signed.Signed.{Signed}
use Rattle.inst_logic.specs.Tree.{Tree}
use Rattle.inst_logic.specs.WellFormed.{IsAtom, IsFormedClause, clause_is_formed, atom_is_formed}
use Rattle.inst_logic.specs.Clauses.{TreeClause, IsCanonical}
use Rattle.inst_logic.proofs.ShownLaws.{slice_get_append}
use Rattle.inst_calculus.specs.Entries.{Entry}
use Rattle.inst_calculus.proofs.Membership.{◌∈◌, in_all, all_in, in_map, passes}
use Rattle.inst_calculus.proofs.Distinct.{map_append}
use Rattle.term_bank.specs.Forest.{Forest, AreFormed, IsClauseOf, IsClauseAt, Extends, clause_at, tree_at}
use Rattle.cert_values.specs.Wholes.{IsWholeClause}
use Rattle.cert_values.specs.Values.{origin_of}
use Rattle.cert_values.specs.declared.member.Origin.{Origin}
use Rattle.instgen_run.specs.Clauses.{Item, AreEntries, entries_in, clauses_in}
use Rattle.instgen_run.specs.Loops.{IsLiteralPlace}
use Rattle.term_bank.proofs.Clauses.{clause_of_extends, atoms_extend, clause_extends}

pub whole_kept : (f g : Forest) → Extends f g → (c : List (Signed ℕ)) → IsWholeClause f c → IsWholeClause g c
whole_kept f g e c h = record { ids = clause_of_extends f g e c h.ids; atoms = atoms_extend f g e c h.ids h.atoms }

pub canonical_kept : (f g : Forest) → Extends f g → (c : List (Signed ℕ)) → IsClauseOf f c → IsCanonical (clause_at f c) → IsCanonical (clause_at g c)
canonical_kept f g e c h k = transport IsCanonical (sym (clause_extends f g e c h)) k

pub entries_kept : (f g : Forest) → Extends f g → AreFormed g → (es : List Item) → AreEntries f es → AreEntries g es
entries_kept f g e formed es h = record {
  formed = formed;
  ids = in_all (λ (x : Item). IsClauseOf g x.0) es (λ x i. clause_of_extends f g e x.0 (ids x i));
  atoms = in_all (λ (x : Item). All (λ l. IsAtom (tree_at g l.atom)) x.0) es (λ x i. atoms_extend f g e x.0 (ids x i) (all_in (λ (x : Item). All (λ l. IsAtom (tree_at f l.atom)) x.0) es h.atoms x i));
  canonical = in_all (λ (x : Item). IsCanonical (clause_at g x.0)) es (λ x i. canonical_kept f g e x.0 (ids x i) (all_in (λ (x : Item). IsCanonical (clause_at f x.0)) es h.canonical x i));
}
  where
    ids : (x : Item) → x ∈ es → IsClauseOf f x.0
    ids x i = all_in (λ (x : Item). IsClauseOf f x.0) es h.ids x i

pub one_more_entry : (f g : Forest) → Extends f g → AreFormed g → (es : List Item) (c : List (Signed ℕ)) (o : Origin) → AreEntries f es → IsWholeClause f c → IsCanonical (clause_at f c) → AreEntries g (es ++ (c, o) ∷ [])
one_more_entry f g e formed es c o h w k =
    let later = entries_kept f g e formed es h in
    let whole = whole_kept f g e c w in
    record {
      formed = formed;
      ids = All-push (λ (x : Item). IsClauseOf g x.0) es (c, o) later.ids whole.ids;
      atoms = All-push (λ (x : Item). All (λ l. IsAtom (tree_at g l.atom)) x.0) es (c, o) later.atoms whole.atoms;
      canonical = All-push (λ (x : Item). IsCanonical (clause_at g x.0)) es (c, o) later.canonical (canonical_kept f g e c w.ids k);
    }

pub clauses_kept : (f g : Forest) → Extends f g → (es : List Item) → ((x : Item) → x ∈ es → IsClauseOf f x.0) → clauses_in g es ≡ clauses_in f es
clauses_kept f g e [] h = refl
clauses_kept f g e (x ∷ es) h = ap₂ (λ (y : TreeClause) ys. y ∷ ys) (clause_extends f g e x.0 (h x (inl refl))) (clauses_kept f g e es (λ y i. h y (inr i)))

pub entries_stay : (f g : Forest) → Extends f g → (es : List Item) → ((x : Item) → x ∈ es → IsClauseOf f x.0) → entries_in g es ≡ entries_in f es
entries_stay f g e [] h = refl
entries_stay f g e (x ∷ es) h =
    ap₂ (λ (c : TreeClause) (ys : List Entry). record { clause = c; origin = origin_of x.1 } ∷ ys) (clause_extends f g e x.0 (h x (inl refl))) (entries_stay f g e es (λ y i. h y (inr i)))

pub clauses_pushed : (f g : Forest) → Extends f g → (es : List Item) (c : List (Signed ℕ)) (o : Origin) → AreEntries f es → IsClauseOf f c → clauses_in g (es ++ (c, o) ∷ []) ≡ clauses_in f es ++ clause_at f c ∷ []
clauses_pushed f g e es c o h k =
    map_append (λ (x : Item). clause_at g x.0) es ((c, o) ∷ [])
    ∙ ap₂ (λ xs ys. xs ++ ys) (clauses_kept f g e es (λ x i. all_in (λ (x : Item). IsClauseOf f x.0) es h.ids x i)) (ap (λ (y : TreeClause). y ∷ []) (clause_extends f g e c k))

pub place_kept : (es more : List Item) (places : List ℕ) (i : ℕ) → IsLiteralPlace es places i → IsLiteralPlace (es ++ more) places i
place_kept es more places i h = record { item = h.item; place = h.place; literal = h.literal; item_at = slice_get_append es more i h.item h.item_at; place_at = h.place_at; literal_at = h.literal_at }

pub waiting_pushed : (queue : List ℕ) (n m : ℕ) → m ≡ n + 1 → All (λ k. k ≤ n) queue → All (λ k. k ≤ m) (queue ++ m ∷ [])
waiting_pushed queue n m e h = All-push (λ k. k ≤ m) queue m (in_all (λ k. k ≤ m) queue (λ k i. let l = all_in (λ k. k ≤ n) queue h k i in omega arith)) (omega arith)

-- the ids of a well-formed clause are whole
pub whole_at : (f : Forest) (c : List (Signed ℕ)) (trees : TreeClause) → IsClauseAt f c trees → IsFormedClause trees → IsWholeClause f c
whole_at f c trees at formed = record {
  ids = at.0;
  atoms = in_all (λ (l : Signed ℕ). IsAtom (tree_at f l.atom)) c (λ l i.
      passes (λ (x : Signed Tree). atom_is_formed x.atom) (clause_at f c) (ap clause_is_formed at.1 ∙ formed) (record { positive = l.positive; atom = tree_at f l.atom })
      (in_map (λ (x : Signed ℕ). record { positive = x.positive; atom = tree_at f x.atom }) l c i));
}
