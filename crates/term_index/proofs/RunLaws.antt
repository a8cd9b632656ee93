-- A query meets an atom along its labels exactly where the two meet.
use Rattle.std.proofs.Common.{◌≡◌, ◌<◌, ◌+◌, ℕ, suc, List, [], ◌∷◌, ◌++◌, length, map, Bool, true, false, ◌&&◌, Option, Some, None, refl, sym, ◌∙◌, ap, arith, nat_eq, All}
use Rattle.std.specs.Prelude.{if◌then◌else◌}
use Rattle.std.proofs.lemmas.List.Elements.{All-head, All-tail}
use Rattle.std.proofs.lemmas.List.{length-map}
use Rattle.std.proofs.lemmas.Bool.Decides.{Decides-eqb}
use Rattle.inst_logic.specs.declared.symbol.Sym.{Sym}
use Rattle.inst_logic.specs.Tree.{Tree, var, app, Trees, none, more, of_list, to_list}
use Rattle.inst_logic.specs.Equal.{sym_eq}
use Rattle.inst_logic.specs.EqualLaws.{sym_eq_decides, and_right}
use Rattle.inst_logic.specs.WellFormed.{count_of}
use Rattle.term_bank.specs.Forest.{Forest, number_of, symbol_at, arguments_of}
use Rattle.term_index.specs.declared.view.View.{View}
use Rattle.term_index.specs.declared.label.Label.{Label}
use Rattle.term_index.specs.declared.label.Label.TheVariants.{Variable, Symbol}
use Rattle.term_index.specs.Labels.{label_of, labels, all_labels}
use Rattle.term_index.specs.Wide.{meets, all_meet, query_bends}
use Rattle.term_index.specs.Run.{Graph, node_at, args_at, Todo, meet, step, run}
use Rattle.term_index.specs.Numbered.{IsNumbered, AreNumbered, IsGraphOf}

module _ (v : View) (g : Graph) where
  pub run_append : (ls ms : List Label) (t : Option Todo) → run v g (ls ++ ms) t ≡ run v g ms (run v g ls t)
  run_append [] ms t = refl
  run_append (l ∷ ls) ms t = run_append ls ms (step v g l t)

  pub run_none : (ls : List Label) → run v g ls None ≡ None
  run_none [] = refl
  run_none (l ∷ ls) = run_none ls

  -- any term is passed over
  mutual
    pub run_any : (f : Forest) (t : Tree) (n : ℕ) (rest : List ℕ) → run v g (labels f t) (Some (suc n, rest)) ≡ Some (n, rest)
    run_any f (var x) n rest = let e : n + 0 ≡ n = omega arith in ap (λ k. Some (k, rest)) e
    run_any f (app s ts) n rest = run_all_any f ts n rest

    run_all_any : (f : Forest) (ts : Trees) (n : ℕ) (rest : List ℕ) → run v g (all_labels f ts) (Some (n + count_of ts, rest)) ≡ Some (n, rest)
    run_all_any f none n rest = let e : n + 0 ≡ n = omega arith in ap (λ k. Some (k, rest)) e
    run_all_any f (more t ts) n rest =
        let e : n + (count_of ts + 1) ≡ suc (n + count_of ts) = omega arith in
        run_append (labels f t) (all_labels f ts) (Some (n + (count_of ts + 1), rest))
        ∙ ap (λ k. run v g (all_labels f ts) (run v g (labels f t) (Some (k, rest)))) e
        ∙ ap (run v g (all_labels f ts)) (run_any f t (n + count_of ts) rest)
        ∙ run_all_any f ts n rest

  abbrev pub taken : Bool → Todo → Option Todo
  taken b t = if b then Some t else None

  -- the numbers of two symbols
  same_symbol : (f : Forest) (s r : Sym) → symbol_at f.symbols (number_of f.symbols s) ≡ s → symbol_at f.symbols (number_of f.symbols r) ≡ r → nat_eq (number_of f.symbols r) (number_of f.symbols s) ≡ sym_eq s r
  same_symbol f s r h k = by (sym_eq s r) refl
    where
      by : (b : Bool) → sym_eq s r ≡ b → nat_eq (number_of f.symbols r) (number_of f.symbols s) ≡ b
      by true e = (Decides-eqb (number_of f.symbols r) (number_of f.symbols s)).1 (ap (number_of f.symbols) (sym ((sym_eq_decides s r).0 e)))
      by false e = differ (nat_eq (number_of f.symbols r) (number_of f.symbols s)) refl
        where
          differ : (c : Bool) → nat_eq (number_of f.symbols r) (number_of f.symbols s) ≡ c → c ≡ false
          differ true p =
              let same : s ≡ r = sym h ∙ ap (symbol_at f.symbols) (sym ((Decides-eqb (number_of f.symbols r) (number_of f.symbols s)).0 p)) ∙ k in
              let q : sym_eq s r ≡ true = (sym_eq_decides s r).1 same in
              absurd (cc)
          differ false p = refl

  -- as many on both sides
  all_meet_count : (ts us : Trees) → all_meet v ts us ≡ true → count_of ts ≡ count_of us
  all_meet_count none none e = refl
  all_meet_count none (more u us) e = cc
  all_meet_count (more t ts) none e = cc
  all_meet_count (more t ts) (more u us) e = ap (λ n. n + 1) (all_meet_count ts us (and_right (meets v t u) _ e))

  length_to_list : (ts : Trees) → length (to_list ts) ≡ count_of ts
  length_to_list none = refl
  length_to_list (more t ts) = omega (arith, length_to_list ts)

  of_to_list : (ts : Trees) → of_list (to_list ts) ≡ ts
  of_to_list none = refl
  of_to_list (more t ts) = ap (more t) (of_to_list ts)

  module _ (f : Forest) (tree : ℕ → Tree) (is : IsGraphOf f tree g) where
    abbrev Known : Trees → Type 0
    Known ts = (qs : List ℕ) → All (λ a. a < length g.nodes) qs → count_of ts ≡ length qs → (rest : List ℕ)
        → run v g (all_labels f ts) (Some (0, qs ++ rest)) ≡ taken (all_meet v ts (of_list (map tree qs))) (0, rest)

    at_variable : (x q : ℕ) (rest : List ℕ) (u : Tree) → (node_at g q).label ≡ label_of f u → run v g (labels f (var x)) (Some (0, q ∷ rest)) ≡ taken (meets v (var x) u) (0, rest)
    at_variable x q rest (var y) e = ap (λ l. meet v g q rest l Variable) e
    at_variable x q rest (app r us) e = ap (λ l. meet v g q rest l Variable) e

    bent : (ts : Trees) (rest : List ℕ) (b : Bool) → run v g (all_labels f ts) (if b then Some (count_of ts, rest) else None) ≡ taken b (0, rest)
    bent ts rest true = let e : count_of ts ≡ 0 + count_of ts = omega arith in ap (λ n. run v g (all_labels f ts) (Some (n, rest))) e ∙ run_all_any f ts 0 rest
    bent ts rest false = run_none (all_labels f ts)

    at_application : (s : Sym) (ts : Trees) → Known ts → symbol_at f.symbols (number_of f.symbols s) ≡ s → (q : ℕ) (rest : List ℕ) (u : Tree) → IsNumbered f u → q < length g.nodes
        → (node_at g q).label ≡ label_of f u → map tree (args_at g q) ≡ arguments_of u → run v g (labels f (app s ts)) (Some (0, q ∷ rest)) ≡ taken (meets v (app s ts) u) (0, rest)
    at_application s ts known h q rest (var y) k w e a =
        ap (λ l. run v g (all_labels f ts) (meet v g q rest l (Symbol (number_of f.symbols s) (count_of ts)))) e ∙ bent ts rest (query_bends v)
    at_application s ts known h q rest (app r us) k w e a =
        ap (λ l. run v g (all_labels f ts) (meet v g q rest l (Symbol (number_of f.symbols s) (count_of ts)))) e
        ∙ ap (λ b. run v g (all_labels f ts) (taken (b && nat_eq (count_of us) (count_of ts)) (0, args_at g q ++ rest))) (same_symbol f s r h k.1)
        ∙ by (sym_eq s r) (nat_eq (count_of us) (count_of ts)) refl
      where
        args_are : of_list (map tree (args_at g q)) ≡ us
        args_are = ap of_list a ∙ of_to_list us

        counted : nat_eq (count_of us) (count_of ts) ≡ true → count_of ts ≡ length (args_at g q)
        counted p = sym ((Decides-eqb (count_of us) (count_of ts)).0 p) ∙ sym (length_to_list us) ∙ sym (ap length a) ∙ length-map (args_at g q) tree

        differ : nat_eq (count_of us) (count_of ts) ≡ false → (b : Bool) → all_meet v ts us ≡ b → None ≡ taken b (0, rest)
        differ p true m = let t = (Decides-eqb (count_of us) (count_of ts)).1 (sym (all_meet_count ts us m)) in absurd (cc)
        differ p false m = refl

        by : (b c : Bool) → nat_eq (count_of us) (count_of ts) ≡ c → run v g (all_labels f ts) (taken (b && c) (0, args_at g q ++ rest)) ≡ taken (b && all_meet v ts us) (0, rest)
        by true true p = known (args_at g q) (is.within q w) (counted p) rest ∙ ap (λ xs. taken (all_meet v ts xs) (0, rest)) args_are
        by true false p = run_none (all_labels f ts) ∙ differ p (all_meet v ts us) refl
        by false c p = run_none (all_labels f ts)

    one_more : (t : Tree) (ts : Trees) (q : ℕ) (qs rest : List ℕ) (b c : Bool) → run v g (labels f t) (Some (0, q ∷ (qs ++ rest))) ≡ taken b (0, qs ++ rest) → run v g (all_labels f ts) (Some (0, qs ++ rest)) ≡ taken c (0, rest)
        → run v g (labels f t ++ all_labels f ts) (Some (0, q ∷ (qs ++ rest))) ≡ taken (b && c) (0, rest)
    one_more t ts q qs rest true c e h = run_append (labels f t) (all_labels f ts) (Some (0, q ∷ (qs ++ rest))) ∙ ap (run v g (all_labels f ts)) e ∙ h
    one_more t ts q qs rest false c e h = run_append (labels f t) (all_labels f ts) (Some (0, q ∷ (qs ++ rest))) ∙ ap (run v g (all_labels f ts)) e ∙ run_none (all_labels f ts)

    mutual
      pub run_meets : (t : Tree) → IsNumbered f t → (q : ℕ) → q < length g.nodes → (rest : List ℕ) → run v g (labels f t) (Some (0, q ∷ rest)) ≡ taken (meets v t (tree q)) (0, rest)
      run_meets (var x) n q w rest = at_variable x q rest (tree q) (is.label q w)
      run_meets (app s ts) n q w rest = at_application s ts (λ qs a c r. run_all_meet ts n.2 qs a c r) n.1 q rest (tree q) (is.numbered q w) w (is.label q w) (is.args q w)

      run_all_meet : (ts : Trees) → AreNumbered f ts → (qs : List ℕ) → All (λ a. a < length g.nodes) qs → count_of ts ≡ length qs → (rest : List ℕ)
          → run v g (all_labels f ts) (Some (0, qs ++ rest)) ≡ taken (all_meet v ts (of_list (map tree qs))) (0, rest)
      run_all_meet none n [] a c rest = refl
      run_all_meet none n (q ∷ qs) a c rest = absurd (omega arith)
      run_all_meet (more t ts) n [] a c rest = absurd (omega arith)
      run_all_meet (more t ts) n (q ∷ qs) a c rest =
          one_more t ts q qs rest (meets v t (tree q)) (all_meet v ts (of_list (map tree qs)))
          (run_meets t n.0 q (All-head (λ a. a < length g.nodes) q qs a) (qs ++ rest))
          (run_all_meet ts n.1 qs (All-tail (λ a. a < length g.nodes) q qs a) (omega arith) rest)
