-- The steps of reading terms, as the code takes them.
use Rattle.std.proofs.Common.{◌≡◌, ℕ, zero, suc, ◌+◌, ◌-◌, ◌≤◌, ◌<◌, true, false, cond, List, [], ◌∷◌, ◌++◌, length, Option, Some, None, refl, sym, ap, subst, ◌∙◌, append_assoc, arith}
use Rattle.std.proofs.lemmas.List.{append-nil}
use Rattle.std.specs.Prelude.{map, ◌&&◌}
use Rattle.inst_logic.specs.Tree.{Tree, app, of_list}
use Rattle.inst_logic.specs.Tree as logic
use Rattle.inst_logic.specs.declared.symbol.Kind.TheVariants.{Function}
use Rattle.tptp_read.specs.declared.stop.Stop.{Stop}
use Rattle.tptp_read.specs.declared.stop.Stop.TheVariants as stops
use Rattle.tptp_read.specs.Stream.{Tok}
use Rattle.tptp_read.specs.Lexemes.{is_head, is_plain}
use Rattle.tptp_read.specs.Grammar.{Written, single, applied}
use Rattle.tptp_read.specs.Meaning.{tree_of, trees_of, count, name_of}
use Rattle.tptp_read.specs.Parse.{◌>>=◌, begins_with, behind, many_at, writtens, applied_at, term_with, term_at}
use Rattle.tptp_read.specs.LexemeView.{in_trees, in_lists, Fails}
use Rattle.tptp_read.proofs.ParseLaws.{term_spelled, term_len}
pub use Rattle.tptp_read.proofs.Places.{other, behind_toks, toks_at, toks_end}
pub use Rattle.inst_logic.proofs.Booleans.{left_false as false_and}
use Rattle.inst_logic.proofs.Outcomes.{same_pair}

-- a term takes a token
shorter : (d : ℕ) (ts : List Tok) (z : Written × List Tok) → term_at d ts ≡ Some z → length z.1 < length ts
shorter d ts z e = let s = term_spelled d ts z e in omega (arith, term_len z.0 z.1, ap length s.0)

more_fuel : (d n m : ℕ) (ts : List Tok) (r : Option (Written × List Tok)) → term_at d ts ≡ r → ((us : List Tok) → length us < length ts → many_at 44 (term_at d) n us ≡ many_at 44 (term_at d) m us)
    → ◌>>=◌ {B = List Written × List Tok} r (λ x. ◌>>=◌ {B = List Written × List Tok} (many_at 44 (term_at d) n x.1) (λ xs. Some (x.0 ∷ xs.0, xs.1))) ≡ ◌>>=◌ {B = List Written × List Tok} r (λ x. ◌>>=◌ {B = List Written × List Tok} (many_at 44 (term_at d) m x.1) (λ xs. Some (x.0 ∷ xs.0, xs.1)))
more_fuel d n m ts (Some z) e same = rw (same z.1 (shorter d ts z e)) refl
more_fuel d n m ts None e same = refl

-- enough fuel is as good as more
many_fuel : (d n m : ℕ) (ts : List Tok) → length ts ≤ n → length ts ≤ m → many_at 44 (term_at d) n ts ≡ many_at 44 (term_at d) m ts
unfolding many_at
many_fuel d zero zero ts le le' = refl
many_fuel d zero (suc m) [] le le' = refl
many_fuel d zero (suc m) (t ∷ ts) le le' = absurd (omega arith)
many_fuel d (suc n) zero [] le le' = refl
many_fuel d (suc n) zero (t ∷ ts) le le' = absurd (omega arith)
many_fuel d (suc n) (suc m) [] le le' = refl
many_fuel d (suc n) (suc m) (t ∷ ts) le le' = ap (λ r. cond (begins_with 44 (t ∷ ts)) r (Some ([], t ∷ ts))) (more_fuel d n m ts (term_at d ts) refl (λ us lt. many_fuel d n m us (omega arith) (omega arith)))

-- ---- a term

pub term_none : (d : ℕ) (ts : List Tok) → ts ≡ [] → term_at d ts ≡ None
unfolding term_at term_with
term_none zero ts e = rw e refl
term_none (suc d) ts e = rw e refl

pub term_deep : (d : ℕ) (t : Tok) (rest : List Tok) → d ≡ 0 → is_head t.kind ≡ true → begins_with 40 rest ≡ true → term_at d (t ∷ rest) ≡ None
unfolding term_at term_with applied_at
term_deep zero t rest e head opened = rw (head, opened) refl
term_deep (suc d) t rest e head opened = absurd (omega arith)

pub term_calls : (d : ℕ) (t : Tok) (rest : List Tok) → (d ≡ 0 → ⊥) → is_head t.kind ≡ true → begins_with 40 rest ≡ true → term_at d (t ∷ rest) ≡ applied_at (term_at (d - 1)) t (behind rest)
unfolding term_at term_with
term_calls zero t rest ne head opened = absurd (ne refl)
term_calls (suc d) t rest ne head opened = let e : suc d - 1 ≡ d = omega arith in rw (e, head, opened) refl

pub term_single : (d : ℕ) (t : Tok) (rest : List Tok) → (is_head t.kind && begins_with 40 rest) ≡ false → is_plain t.kind ≡ true → term_at d (t ∷ rest) ≡ Some (single t, rest)
unfolding term_at term_with
term_single zero t rest e plain = rw (e, plain) refl
term_single (suc d) t rest e plain = rw (e, plain) refl

pub term_nothing : (d : ℕ) (t : Tok) (rest : List Tok) → (is_head t.kind && begins_with 40 rest) ≡ false → is_plain t.kind ≡ false → term_at d (t ∷ rest) ≡ None
unfolding term_at term_with
term_nothing zero t rest e plain = rw (e, plain) refl
term_nothing (suc d) t rest e plain = rw (e, plain) refl

-- ---- arguments

abbrev some : {A : Type 0} → A → Option A
some x = Some x

in_trees_some : (vs : List (List ℕ)) (r : Option (Written × List Tok)) (u : Tree) (us : List Tok) → in_trees vs r ≡ Some (u, us) → (w : Written) × (r ≡ Some (w, us)) × (tree_of vs w ≡ u)
in_trees_some vs (Some z) u us e = let p = same_pair (tree_of vs z.0, z.1) (u, us) e in (z.0, ap (λ (y : List Tok). Some (z.0, y)) p.1, p.0)
in_trees_some vs None u us e = absurd cc

in_trees_fails : (vs : List (List ℕ)) (r : Option (Written × List Tok)) (e : Stop) → Fails e (in_trees vs r) → Fails e r
in_trees_fails vs r stops.Memory h = tt
in_trees_fails vs (Some z) stops.Wrong h = absurd cc
in_trees_fails vs None stops.Wrong h = refl

regroup : (vs : List (List ℕ)) (front : List Tree) (w : Written) (r : Option (List Written × List Tok)) → in_lists vs front (◌>>=◌ {B = List Written × List Tok} r (λ xs. Some (w ∷ xs.0, xs.1))) ≡ in_lists vs (front ++ tree_of vs w ∷ []) r
regroup vs front w (Some z) = ap (λ (l : List Tree). Some (l, z.1)) (simp append_assoc)
regroup vs front w None = refl

first_of : (d : ℕ) (ts : List Tok) → begins_with 44 ts ≡ true → many_at 44 (term_at d) (length ts) ts ≡ ◌>>=◌ {B = List Written × List Tok} (term_at d (behind ts)) (λ x. ◌>>=◌ {B = List Written × List Tok} (many_at 44 (term_at d) (length (behind ts)) x.1) (λ xs. Some (x.0 ∷ xs.0, xs.1)))
unfolding many_at
first_of d [] e = absurd cc
first_of d (t ∷ ts) e = rw e refl

go_on_at : (vs : List (List ℕ)) (d : ℕ) (ts after : List Tok) (front : List Tree) (w : Written) (total : Option (List Tree × List Tok)) → begins_with 44 ts ≡ true → term_at d (behind ts) ≡ Some (w, after)
    → in_lists vs front (many_at 44 (term_at d) (length ts) ts) ≡ total → in_lists vs (front ++ tree_of vs w ∷ []) (many_at 44 (term_at d) (length after) after) ≡ total
go_on_at vs d ts after front w total comma first so_far =
    let lt = shorter d (behind ts) (w, after) first in
    let fuel = many_fuel d (length (behind ts)) (length after) after (omega arith) (omega arith) in
    let one : many_at 44 (term_at d) (length ts) ts ≡ ◌>>=◌ {B = List Written × List Tok} (many_at 44 (term_at d) (length after) after) (λ xs. Some (w ∷ xs.0, xs.1)) = first_of d ts comma ∙ rw (first, fuel) refl in
    sym (regroup vs front w (many_at 44 (term_at d) (length after) after)) ∙ sym (ap (λ r. in_lists vs front r) one) ∙ so_far

pub arguments_go_on : (vs : List (List ℕ)) (d : ℕ) (ts after : List Tok) (front : List Tree) (u : Tree) (total : Option (List Tree × List Tok)) → begins_with 44 ts ≡ true → in_trees vs (term_at d (behind ts)) ≡ Some (u, after)
    → in_lists vs front (many_at 44 (term_at d) (length ts) ts) ≡ total → in_lists vs (front ++ u ∷ []) (many_at 44 (term_at d) (length after) after) ≡ total
arguments_go_on vs d ts after front u total comma first so_far =
    let w = in_trees_some vs (term_at d (behind ts)) u after first in
    subst (λ (x : Tree). in_lists vs (front ++ x ∷ []) (many_at 44 (term_at d) (length after) after) ≡ total) w.2 (go_on_at vs d ts after front w.0 total comma w.1 so_far)

pub arguments_end : (e : Stop) (vs : List (List ℕ)) (d : ℕ) (ts : List Tok) (front : List Tree) (total : Option (List Tree × List Tok)) → begins_with 44 ts ≡ true → Fails e (in_trees vs (term_at d (behind ts)))
    → in_lists vs front (many_at 44 (term_at d) (length ts) ts) ≡ total → Fails e total
arguments_end stops.Memory vs d ts front total comma h so_far = tt
arguments_end stops.Wrong vs d ts front total comma h so_far =
    let none = in_trees_fails vs (term_at d (behind ts)) stops.Wrong h in
    let one : many_at 44 (term_at d) (length ts) ts ≡ None = first_of d ts comma ∙ rw none refl in
    sym so_far ∙ ap (λ r. in_lists vs front r) one

no_more : (d n : ℕ) (ts : List Tok) → begins_with 44 ts ≡ false → many_at 44 (term_at d) n ts ≡ Some ([], ts)
unfolding many_at
no_more d zero ts e = refl
no_more d (suc n) ts e = rw e refl

pub arguments_done : (vs : List (List ℕ)) (d : ℕ) (ts : List Tok) (front : List Tree) (total : Option (List Tree × List Tok)) → begins_with 44 ts ≡ false → in_lists vs front (many_at 44 (term_at d) (length ts) ts) ≡ total → total ≡ Some (front, ts)
arguments_done vs d ts front total e so_far = sym so_far ∙ ap (λ r. in_lists vs front r) (no_more d (length ts) ts e) ∙ ap (λ (l : List Tree). Some (l, ts)) (append-nil front)

-- ---- a word with its arguments

trees_listed : (vs : List (List ℕ)) (ws : List Written) → trees_of vs (writtens ws) ≡ of_list (map (tree_of vs) ws)
trees_listed vs [] = refl
trees_listed vs (w ∷ ws) = ap (λ us. logic.more (tree_of vs w) us) (trees_listed vs ws)

count_listed : (vs : List (List ℕ)) (ws : List Written) → count (writtens ws) ≡ length (map (tree_of vs) ws)
count_listed vs [] = refl
count_listed vs (w ∷ ws) = omega (arith, count_listed vs ws)

in_lists_some : (vs : List (List ℕ)) (front : List Tree) (r : Option (List Written × List Tok)) (args : List Tree) (us : List Tok) → in_lists vs front r ≡ Some (args, us) → (ws : List Written) × (r ≡ Some (ws, us)) × (front ++ map (tree_of vs) ws ≡ args)
in_lists_some vs front (Some z) args us e = let p = same_pair (front ++ map (tree_of vs) z.0, z.1) (args, us) e in (z.0, ap (λ (y : List Tok). Some (z.0, y)) p.1, p.0)
in_lists_some vs front None args us e = absurd cc

applied_is : (d : ℕ) (f : Tok) (ts us rest : List Tok) (w : Written) (ws : List Written) → term_at d ts ≡ Some (w, us) → many_at 44 (term_at d) (length us) us ≡ Some (ws, rest)
    → begins_with 41 rest ≡ true → applied_at (term_at d) f ts ≡ Some (applied f w (writtens ws), behind rest)
unfolding applied_at
applied_is d f ts us rest w ws first others closed = rw (first, others, closed) refl

pub applied_done : (vs : List (List ℕ)) (d : ℕ) (f : Tok) (ts us rest : List Tok) (u : Tree) (args : List Tree) (arity : ℕ) → in_trees vs (term_at d ts) ≡ Some (u, us) → in_lists vs (u ∷ []) (many_at 44 (term_at d) (length us) us) ≡ Some (args, rest)
    → begins_with 41 rest ≡ true → arity ≡ length args → in_trees vs (applied_at (term_at d) f ts) ≡ Some (app (record { kind = Function; name = name_of f; arity = arity }) (of_list args), behind rest)
applied_done vs d f ts us rest u args arity first others closed len =
    let a = in_trees_some vs (term_at d ts) u us first in
    let b = in_lists_some vs (u ∷ []) (many_at 44 (term_at d) (length us) us) args rest others in
    let one = ap (λ r. in_trees vs r) (applied_is d f ts us rest a.0 b.0 a.1 b.1 closed) in
    let size : count (writtens b.0) + 1 ≡ arity = omega (arith, count_listed vs b.0, ap length b.2) in
    let list : logic.more (tree_of vs a.0) (trees_of vs (writtens b.0)) ≡ of_list args = rw (a.2, trees_listed vs b.0) (ap of_list b.2) in
    one ∙ (λ i. Some (app (record { kind = Function; name = name_of f; arity = size i }) (list i), behind rest))
