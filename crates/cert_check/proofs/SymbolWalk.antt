-- What the walk for symbols over a bank collects.
use Rattle.std.proofs.Common.{◌≡◌, ℕ, ◌+◌, ◌*◌, ◌<◌, ◌≤◌, Bool, true, false, cond, List, [], ◌∷◌, ◌++◌, refl, ap, ap₂, sym, ◌∙◌, map, fold, length, arith, subst, Some, inl, inr, ◌⊎◌}
use Rattle.std.specs.Prelude.{All, Contains, nat_eq, ◌||◌}
use Rattle.std.specs.List.{list_any}
use Rattle.std.proofs.lemmas.List.Sums.{fold-append}
use Rattle.indexmap.proofs.CallerLemmas.{Contains-list_any, Contains-insert_key}
use Rattle.indexmap.specs.IndexSet.{insert_key}
use Rattle.inst_logic.specs.declared.symbol.Sym.{Sym}
use Rattle.inst_logic.specs.declared.signed.Signed.{Signed}
use Rattle.inst_logic.specs.Equal.{sym_eq}
use Rattle.inst_logic.specs.EqualLaws.{sym_eq_decides}
use Rattle.inst_logic.specs.Lists.{with_item}
use Rattle.inst_logic.specs.Measure.{tree_size, trees_size}
use Rattle.inst_logic.specs.Tree.{Tree, var, app, of_list}
use Rattle.inst_calculus.specs.Axioms.{tree_symbols, trees_symbols, clause_symbols, occurrences, symbols_of}
use Rattle.inst_logic.proofs.Distinct.{distinct_append}
use Rattle.inst_calculus.proofs.Membership.{◌∈◌, all_in, in_all, contains_in, in_contains, in_left, in_either}
use Rattle.equality_axioms.proofs.Collecting.{with_symbol}
use Rattle.term_bank.specs.Forest.{Forest, clause_at, tree_at, symbol_of, arguments_of}
use Rattle.cert_check.specs.declared.walk.Step.{Step}
use Rattle.cert_check.specs.declared.walk.Step.TheVariants.{Visit, Close}
use Rattle.cert_check.specs.SymbolSteps.{with_symbols, AreFound, AreClosed, Leads, steps_size}
use Rattle.inst_logic.proofs.Numbers.{number_is}
use Rattle.inst_logic.proofs.Applications.{same_trees}
use Rattle.inst_logic.proofs.Booleans.{or_right}

abbrev collected : List Sym → List Sym → List Sym
collected = fold (with_item sym_eq)

-- symbols that are found
sym_eq_itself : (s : Sym) → sym_eq s s ≡ true
sym_eq_itself s = (sym_eq_decides s s).1 refl

any_of : (xs : List Sym) (s : Sym) → s ∈ xs → list_any (λ x. sym_eq x s) xs ≡ true
any_of [] s h = absurd h
any_of (x ∷ xs) s (inl e) = ap (λ b. b || list_any (λ y. sym_eq y s) xs) (ap (λ y. sym_eq y s) (sym e) ∙ sym_eq_itself s)
any_of (x ∷ xs) s (inr h) = or_right (sym_eq x s) (list_any (λ y. sym_eq y s) xs) (any_of xs s h)

item_there : (xs : List Sym) (s : Sym) → s ∈ xs → with_item sym_eq xs s ≡ xs
item_there xs s h = ap (λ b. cond b xs (xs ++ s ∷ [])) (any_of xs s h)

item_kept : (xs : List Sym) (s x : Sym) → x ∈ xs → x ∈ with_item sym_eq xs s
item_kept xs s x h = by (list_any (λ y. sym_eq y s) xs)
  where
    by : (b : Bool) → x ∈ cond b xs (xs ++ s ∷ [])
    by true = h
    by false = in_left x xs (s ∷ []) h

item_added : (xs : List Sym) (s : Sym) → s ∈ with_item sym_eq xs s
item_added xs s =
    subst (λ (ys : List Sym). s ∈ ys) (with_symbol xs s)
    (contains_in s (insert_key sym_eq xs s) (Contains-insert_key sym_eq (λ x y. (sym_eq_decides x y).0) xs s))

kept : (xs ys : List Sym) (x : Sym) → x ∈ xs → x ∈ collected xs ys
kept xs [] x h = h
kept xs (y ∷ ys) x h = kept (with_item sym_eq xs y) ys x (item_kept xs y x h)

added : (xs ys : List Sym) (y : Sym) → y ∈ ys → y ∈ collected xs ys
added xs [] y h = absurd h
added xs (z ∷ ys) y (inl e) = kept (with_item sym_eq xs z) ys y (subst (λ (w : Sym). w ∈ with_item sym_eq xs z) (sym e) (item_added xs z))
added xs (z ∷ ys) y (inr h) = added (with_item sym_eq xs z) ys y h

all_there : (xs ys : List Sym) → ((y : Sym) → y ∈ ys → y ∈ xs) → collected xs ys ≡ xs
all_there xs [] h = refl
all_there xs (y ∷ ys) h = ap (λ zs. collected zs ys) (item_there xs y (h y (inl refl))) ∙ all_there xs ys (λ z i. h z (inr i))

-- trees whose symbols are found
found_grown : (xs ys : List Sym) (t : Tree) → ((x : Sym) → x ∈ xs → x ∈ ys) → AreFound xs t → AreFound ys t
found_grown xs ys t grown h =
    in_all (Contains ys) (tree_symbols t) (λ s i. in_contains s ys (grown s (contains_in s xs (all_in (Contains xs) (tree_symbols t) h s i))))

found_after : (xs : List Sym) (t : Tree) → AreFound (with_symbols xs t) t
found_after xs t = in_all (Contains (with_symbols xs t)) (tree_symbols t) (λ s i. in_contains s (with_symbols xs t) (added xs (tree_symbols t) s i))

nothing_new : (xs : List Sym) (t : Tree) → AreFound xs t → with_symbols xs t ≡ xs
nothing_new xs t h = all_there xs (tree_symbols t) (λ s i. contains_in s xs (all_in (Contains xs) (tree_symbols t) h s i))

-- a node that is closed
closed_is_found : (f : Forest) (found : List Sym) (ids : List ℕ) (id : ℕ) → AreClosed f found ids → list_any (nat_eq id) ids ≡ true → AreFound found (tree_at f id)
closed_is_found f found ids id h there = all_in (λ i. AreFound found (tree_at f i)) ids h id (contains_in id ids (Contains-list_any nat_eq number_is ids id there))

pub visit_closed : (f : Forest) (found : List Sym) (ids : List ℕ) (id : ℕ) (rest : List Step) (end : List Sym)
    → AreClosed f found ids → list_any (nat_eq id) ids ≡ true → Leads f (Visit id ∷ rest) found end → Leads f rest found end
visit_closed f found ids id rest end h there l = subst (λ (xs : List Sym). Leads f rest xs end) (nothing_new found (tree_at f id) (closed_is_found f found ids id h there)) l.1

pub closed_grown : (f : Forest) (xs : List Sym) (s : Sym) (ids : List ℕ) → AreClosed f xs ids → AreClosed f (with_item sym_eq xs s) ids
closed_grown f xs s ids h =
    in_all (λ i. AreFound (with_item sym_eq xs s) (tree_at f i)) ids (λ i m. found_grown xs (with_item sym_eq xs s) (tree_at f i) (item_kept xs s) (all_in (λ j. AreFound xs (tree_at f j)) ids h i m))

-- one more node is closed
pub one_more_closed : (f : Forest) (found : List Sym) (old new : List ℕ) (id : ℕ) → AreClosed f found old → AreFound found (tree_at f id) → new ≡ insert_key nat_eq old id → AreClosed f found new
one_more_closed f found old new id h there e = subst (AreClosed f found) (sym e) (by (list_any (nat_eq id) old))
  where
    each : (i : ℕ) → (i ∈ old) ⊎ (i ∈ (id ∷ [])) → AreFound found (tree_at f i)
    each i (inl m) = all_in (λ j. AreFound found (tree_at f j)) old h i m
    each i (inr (inl e)) = subst (λ (j : ℕ). AreFound found (tree_at f j)) (sym e) there
    each i (inr (inr m)) = absurd m

    by : (b : Bool) → AreClosed f found (cond b old (old ++ id ∷ []))
    by true = h
    by false = in_all (λ i. AreFound found (tree_at f i)) (old ++ id ∷ []) (λ i m. each i (in_either i old (id ∷ []) m))

-- visits of the ids
visits_lead : (f : Forest) (ids : List ℕ) (rest : List Step) (found end : List Sym) → ((i : ℕ) → i ∈ ids → i < length f.trees)
    → Leads f rest (collected found (trees_symbols (of_list (map (tree_at f) ids)))) end → Leads f (map Visit ids ++ rest) found end
visits_lead f [] rest found end within h = h
visits_lead f (i ∷ ids) rest found end within h = (
  within i (inl refl),
  visits_lead f ids rest (with_symbols found (tree_at f i)) end (λ j m. within j (inr m))
      (subst (λ (xs : List Sym). Leads f rest xs end) (fold-append (with_item sym_eq) found (tree_symbols (tree_at f i)) (trees_symbols (of_list (map (tree_at f) ids)))) h),
)

visits_size : (f : Forest) (ids : List ℕ) (rest : List Step) → steps_size f (map Visit ids ++ rest) ≡ 2 * trees_size (of_list (map (tree_at f) ids)) + steps_size f rest
visits_size f [] rest = omega arith
visits_size f (i ∷ ids) rest = omega (arith, visits_size f ids rest)

-- an application by its symbol and arguments
application_symbols : (t : Tree) (s : Sym) (ts : List Tree) → symbol_of t ≡ Some s → ts ≡ arguments_of t → s ∷ trees_symbols (of_list ts) ≡ tree_symbols t
application_symbols (var v) s ts e a = absurd (cc)
application_symbols (app g us) s ts e a = let same : g ≡ s = cc in ap₂ (λ x xs. x ∷ xs) (sym same) (ap (λ xs. trees_symbols (of_list xs)) a ∙ ap trees_symbols (same_trees us))

application_size : (t : Tree) (s : Sym) (ts : List Tree) → symbol_of t ≡ Some s → ts ≡ arguments_of t → tree_size t ≡ trees_size (of_list ts) + 1
application_size (var v) s ts e a = absurd (cc)
application_size (app g us) s ts e a = let k = ap (λ xs. trees_size (of_list xs)) a ∙ ap trees_size (same_trees us) in omega (arith, k)

-- a node that is opened: its symbol is found, then come its arguments, and then it is closed
module _ (f : Forest) (id : ℕ) (ids : List ℕ) (s : Sym) (rest : List Step) (e : symbol_of (tree_at f id) ≡ Some s) (a : map (tree_at f) ids ≡ arguments_of (tree_at f id)) where
  pub opened_leads : (found end : List Sym) → All (λ i. i < id) ids → Leads f (Visit id ∷ rest) found end → Leads f (map Visit ids ++ Close id ∷ rest) (with_item sym_eq found s) end
  opened_leads found end smaller h =
      visits_lead f ids (Close id ∷ rest) (with_item sym_eq found s) end within
      (subst (λ (xs : List Sym). Leads f (Close id ∷ rest) (collected found xs) end) (sym (application_symbols (tree_at f id) s (map (tree_at f) ids) e a)) (found_after found (tree_at f id), h.1))
    where
      within : (i : ℕ) → i ∈ ids → i < length f.trees
      within i m = let k = all_in (λ j. j < id) ids smaller i m in let l = h.0 in omega (arith, k, l)

  pub opened_size : steps_size f (map Visit ids ++ Close id ∷ rest) + 1 ≤ steps_size f (Visit id ∷ rest)
  opened_size =
      let v = visits_size f ids (Close id ∷ rest) in
      let r = application_size (tree_at f id) s (map (tree_at f) ids) e a in
      omega (arith, v, r)

some_size : (t : Tree) → 1 ≤ tree_size t
some_size (var v) = omega arith
some_size (app g us) = omega arith

-- a node that is not opened
pub passed_size : (f : Forest) (id : ℕ) (rest : List Step) → steps_size f rest + 1 ≤ steps_size f (Visit id ∷ rest)
passed_size f id rest = let k = some_size (tree_at f id) in omega (arith, k)

-- clauses
pub collect_ids : (f : Forest) (seen : List Sym) (c : List (Signed ℕ)) → fold (λ a l. with_symbols a (tree_at f l.atom)) seen c ≡ fold (with_item sym_eq) seen (clause_symbols (clause_at f c))
collect_ids f seen [] = refl
collect_ids f seen (l ∷ c) =
    collect_ids f (with_symbols seen (tree_at f l.atom)) c
    ∙ sym (fold-append (with_item sym_eq) seen (tree_symbols (tree_at f l.atom)) (clause_symbols (clause_at f c)))

collect_all : (f : Forest) (seen : List Sym) (cs : List (List (Signed ℕ)))
    → fold (λ a c. fold (with_item sym_eq) a (clause_symbols (clause_at f c))) seen cs ≡ fold (with_item sym_eq) seen (occurrences (map (clause_at f) cs))
collect_all f seen [] = refl
collect_all f seen (c ∷ cs) =
    collect_all f (fold (with_item sym_eq) seen (clause_symbols (clause_at f c))) cs
    ∙ sym (fold-append (with_item sym_eq) seen (clause_symbols (clause_at f c)) (occurrences (map (clause_at f) cs)))

pub collect_clauses : (f : Forest) (cs : List (List (Signed ℕ))) → fold (λ a c. fold (with_item sym_eq) a (clause_symbols (clause_at f c))) [] cs ≡ symbols_of (map (clause_at f) cs)
collect_clauses f cs = collect_all f [] cs ∙ distinct_append sym_eq sym_eq_decides [] (occurrences (map (clause_at f) cs))
