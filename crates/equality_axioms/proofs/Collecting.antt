-- What the walk for symbols collects.
use Rattle.std.proofs.Common.{◌≡◌, ℕ, suc, ◌+◌, ◌-◌, ◌<◌, ◌≤◌, List, [], ◌∷◌, ◌++◌, refl, ap, ap₂, sym, ◌∙◌, map, fold, length, drop, get_or, true, cond, arith, append_assoc}
use Rattle.std.proofs.Math.Seq.{drop-cons}
use denote.Bor.{Bor}
use Rattle.std.specs.List.{list_any}
use Rattle.std.specs.Cmp.{decided}
use Rattle.std.proofs.lemmas.List.{append-nil, map-append}
use Rattle.std.proofs.lemmas.List.Sums.{fold-append}
use Rattle.inst_logic.specs.declared.symbol.Sym.{Sym}
use Rattle.inst_logic.specs.declared.term.Term.{Term}
use Rattle.inst_logic.specs.Equal.{sym_eq}
use Rattle.inst_logic.specs.EqualLaws.{sym_eq_decides}
use Rattle.inst_logic.specs.Lists.{with_item}
use Rattle.inst_logic.specs.View.{tree}
use Rattle.inst_logic.specs.Measure.{tree_size, trees_size}
use Rattle.inst_logic.specs.Tree.{Tree, of_list}
use Rattle.inst_logic.specs.Clauses.{TreeClause}
use Rattle.inst_logic.proofs.Distinct.{distinct_append}
use Rattle.inst_calculus.specs.Axioms.{tree_symbols, trees_symbols, clause_symbols, occurrences, symbols_of}
use Rattle.indexmap.specs.IndexSet.{insert_key}
use Rattle.equality_axioms.specs.Pending.{pending_symbols, pending_size}

either_way : (ks : List Sym) (k : Sym) → list_any (sym_eq k) ks ≡ list_any (λ x. sym_eq x k) ks
either_way ks k = λ i. list_any (λ x. (decided sym_eq sym_eq_decides).symm k x i) ks

pub with_symbol : (ks : List Sym) (k : Sym) → insert_key sym_eq ks k ≡ with_item sym_eq ks k
with_symbol ks k = λ i. cond (either_way ks k i) ks (ks ++ k ∷ [])

-- a symbol that is there
pub has_symbol : (ks : List Sym) (k : Sym) → list_any (sym_eq k) ks ≡ true → ks ≡ with_item sym_eq ks k
has_symbol ks k h = sym (ap (λ b. cond b ks (ks ++ k ∷ [])) (sym (either_way ks k) ∙ h))

pub symbols_push : (ts : List Tree) (t : Tree) → pending_symbols (ts ++ t ∷ []) ≡ tree_symbols t ++ pending_symbols ts
symbols_push [] t = sym (append-nil (tree_symbols t))
symbols_push (u ∷ us) t = ap (λ l. l ++ tree_symbols u) (symbols_push us t) ∙ append_assoc (tree_symbols t) (pending_symbols us) (tree_symbols u)

pub size_push : (ts : List Tree) (t : Tree) → pending_size (ts ++ t ∷ []) ≡ pending_size ts + tree_size t
size_push [] t = omega arith
size_push (u ∷ us) t = omega (arith, size_push us t)

-- the trees of the terms
abbrev pub views : List (Bor Term) → List Tree
views ts = map (λ u. tree u.now) ts

-- the trees were put on the list
pub record IsPushed (old new ts : List Tree) : Type 0 where
  pub symbols : pending_symbols new ≡ trees_symbols (of_list ts) ++ pending_symbols old
  pub size : pending_size new ≡ pending_size old + trees_size (of_list ts)

pub one_more : (old : List Tree) (new : List (Bor Term)) (terms : List Term) (i : ℕ) (t : Bor Term) → 0 < i → i ≤ length terms → t.now ≡ get_or terms (i - 1) t.now
    → IsPushed old (views new) (map tree (drop i terms)) → IsPushed old (views (new ++ t ∷ [])) (map tree (drop (i - 1) terms))
one_more old new terms i t positive within is pushed =
    let next : suc (i - 1) ≡ i = omega arith in
    let d : drop (i - 1) terms ≡ get_or terms (i - 1) t.now ∷ drop (suc (i - 1)) terms = drop-cons terms (i - 1) t.now (omega arith) in
    let e : drop (i - 1) terms ≡ t.now ∷ drop i terms = d ∙ ap₂ (λ x xs. x ∷ xs) (sym is) (ap (λ j. drop j terms) next) in
    let v : views (new ++ t ∷ []) ≡ views new ++ tree t.now ∷ [] = map-append (λ (u : Bor Term). tree u.now) new (t ∷ []) in
    record {
      symbols = ap pending_symbols v ∙ symbols_push (views new) (tree t.now) ∙ ap (λ l. tree_symbols (tree t.now) ++ l) pushed.symbols
          ∙ sym (append_assoc (tree_symbols (tree t.now)) (trees_symbols (of_list (map tree (drop i terms)))) (pending_symbols old))
          ∙ ap (λ (xs : List Term). trees_symbols (of_list (map tree xs)) ++ pending_symbols old) (sym e);
      size = let s = ap (λ (xs : List Term). trees_size (of_list (map tree xs))) e in let p = ap pending_size v in omega (arith, p, size_push (views new) (tree t.now), pushed.size, s);
    }

-- the last term of a list comes first
pub popped_symbols : (all rest : List (Bor Term)) (t : Bor Term) → all ≡ rest ++ t ∷ [] → pending_symbols (views all) ≡ tree_symbols (tree t.now) ++ pending_symbols (views rest)
popped_symbols all rest t e = ap (λ ts. pending_symbols (views ts)) e ∙ ap pending_symbols (map-append (λ (u : Bor Term). tree u.now) rest (t ∷ [])) ∙ symbols_push (views rest) (tree t.now)

pub popped_size : (all rest : List (Bor Term)) (t : Bor Term) → all ≡ rest ++ t ∷ [] → pending_size (views all) ≡ pending_size (views rest) + tree_size (tree t.now)
popped_size all rest t e = ap (λ ts. pending_size (views ts)) e ∙ ap pending_size (map-append (λ (u : Bor Term). tree u.now) rest (t ∷ [])) ∙ size_push (views rest) (tree t.now)

-- the symbols of one more tree
abbrev pub collect : List Sym → Tree → List Sym
collect seen t = fold (with_item sym_eq) seen (tree_symbols t)

pub collect_clause : (seen : List Sym) (ls : TreeClause) → fold (λ a l. collect a l.atom) seen ls ≡ fold (with_item sym_eq) seen (clause_symbols ls)
collect_clause seen [] = refl
collect_clause seen (l ∷ ls) = collect_clause (collect seen l.atom) ls ∙ sym (fold-append (with_item sym_eq) seen (tree_symbols l.atom) (clause_symbols ls))

collect_all : (seen : List Sym) (cs : List TreeClause) → fold (λ a c. fold (with_item sym_eq) a (clause_symbols c)) seen cs ≡ fold (with_item sym_eq) seen (occurrences cs)
collect_all seen [] = refl
collect_all seen (c ∷ cs) = collect_all (fold (with_item sym_eq) seen (clause_symbols c)) cs ∙ sym (fold-append (with_item sym_eq) seen (clause_symbols c) (occurrences cs))

pub collect_clauses : (cs : List TreeClause) → fold (λ a c. fold (with_item sym_eq) a (clause_symbols c)) [] cs ≡ symbols_of cs
collect_clauses cs = collect_all [] cs ∙ distinct_append sym_eq sym_eq_decides [] (occurrences cs)
