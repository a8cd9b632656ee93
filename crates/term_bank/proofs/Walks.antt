-- What the steps of an interning walk make.
use Rattle.std.proofs.Common.{◌≡◌, ℕ, suc, ◌+◌, ◌-◌, ◌*◌, ◌<◌, ◌≤◌, List, [], ◌∷◌, ◌++◌, length, map, take, drop, get_or, true, refl, ap, ap₂, sym, ◌∙◌, arith, length-append, append_assoc, ◌⊎◌, inl, inr}
use Rattle.std.proofs.Math.Seq.{take-append_seam, drop-append_seam, drop-cons}
use denote.Bor.{Bor}
use Rattle.std.proofs.lemmas.List.{take-append-drop}
use Rattle.std.proofs.lemmas.List.Folds.{list_all-append}
use Rattle.std.specs.Prelude.{◌||◌}
use Rattle.std.specs.List.{list_all}
use Rattle.inst_logic.proofs.SameLemmas.{and_left, and_right, and_both}
use Rattle.inst_logic.specs.declared.symbol.Sym.{Sym}
use Rattle.inst_logic.specs.declared.term.Term.{Term}
use Rattle.inst_logic.specs.Tree.{Tree, app, of_list}
use Rattle.inst_logic.specs.View.{tree}
use Rattle.inst_logic.specs.Measure.{trees_size}
use Rattle.inst_logic.specs.WellFormed.{is_function_kind, tree_is_formed, trees_are_formed, atom_is_formed, symbol_is_formed}
use Rattle.term_bank.specs.declared.walk.Step.{Step}
use Rattle.term_bank.specs.declared.walk.Step.TheVariants.{Visit, Apply}
use Rattle.term_bank.specs.Forest.{is_formed}
use Rattle.term_bank.specs.Steps.{applied, done, all_done, step_size, steps_size}
use Rattle.inst_logic.proofs.Booleans.{or_cases}

-- the last step comes first
pub all_done_push : (ss : List Step) (s : Step) (ts : List Tree) → all_done (ss ++ s ∷ []) ts ≡ all_done ss (done s ts)
all_done_push [] s ts = refl
all_done_push (r ∷ ss) s ts = ap (done r) (all_done_push ss s ts)

pub steps_size_push : (ss : List Step) (s : Step) → steps_size (ss ++ s ∷ []) ≡ steps_size ss + step_size s
steps_size_push [] s = omega arith
steps_size_push (r ∷ ss) s = omega (arith, steps_size_push ss s)

take_front : (ts us : List Tree) → take (length (ts ++ us) - length us) (ts ++ us) ≡ ts
take_front ts us = let e : length (ts ++ us) - length us ≡ length ts = omega (arith, length-append ts us) in rw e (take-append_seam ts us)

drop_front : (ts us : List Tree) → drop (length (ts ++ us) - length us) (ts ++ us) ≡ us
drop_front ts us = let e : length (ts ++ us) - length us ≡ length ts = omega (arith, length-append ts us) in rw e (drop-append_seam ts us)

-- the arguments are on top
pub applied_to : (s : Sym) (ts us : List Tree) → applied s (length us) (ts ++ us) ≡ ts ++ app s (of_list us) ∷ []
applied_to s ts us = ap₂ (λ xs ys. xs ++ app s (of_list ys) ∷ []) (take_front ts us) (drop_front ts us)

-- arguments of a formed tree are terms
arguments_formed : (s : Sym) (ts : List Tree) → is_formed (app s (of_list ts)) ≡ true → trees_are_formed (of_list ts) ≡ true
arguments_formed s ts h = by (or_cases (tree_is_formed (app s (of_list ts))) (atom_is_formed (app s (of_list ts))) h)
  where
    by : (tree_is_formed (app s (of_list ts)) ≡ true) ⊎ (atom_is_formed (app s (of_list ts)) ≡ true) → trees_are_formed (of_list ts) ≡ true
    by (inl p) = and_right _ _ (and_right (is_function_kind s.kind) _ p)
    by (inr p) = and_right _ _ (and_right (symbol_is_formed s) _ (and_right _ _ p))

terms_formed : (ts : List Tree) → trees_are_formed (of_list ts) ≡ true → list_all is_formed ts ≡ true
terms_formed [] h = refl
terms_formed (t ∷ ts) h = and_both (is_formed t) (list_all is_formed ts) (ap (λ b. b || atom_is_formed t) (and_left (tree_is_formed t) _ h)) (terms_formed ts (and_right (tree_is_formed t) _ h))

-- the application that was made
pub applied_formed : (s : Sym) (n : ℕ) (ts : List Tree) → list_all is_formed (applied s n ts) ≡ true → is_formed (app s (of_list (drop (length ts - n) ts))) ≡ true
applied_formed s n ts h =
    let k = length ts - n in
    let both = sym (list_all-append is_formed (take k ts) (app s (of_list (drop k ts)) ∷ [])) ∙ h in
    and_left (is_formed (app s (of_list (drop k ts)))) _ (and_right (list_all is_formed (take k ts)) _ both)

-- where the outcome is formed, so is what it was made of
step_back : (s : Step) (ts : List Tree) → list_all is_formed (done s ts) ≡ true → list_all is_formed ts ≡ true
step_back (Visit t) ts h = and_left (list_all is_formed ts) _ (sym (list_all-append is_formed ts (tree t.now ∷ [])) ∙ h)
step_back (Apply s n) ts h =
    let k = length ts - n in
    let both = sym (list_all-append is_formed (take k ts) (app s.now (of_list (drop k ts)) ∷ [])) ∙ h in
    let front = and_left (list_all is_formed (take k ts)) _ both in
    let rest = terms_formed (drop k ts) (arguments_formed s.now (drop k ts) (applied_formed s.now n ts h)) in
    ap (list_all is_formed) (sym (take-append-drop k ts)) ∙ list_all-append is_formed (take k ts) (drop k ts) ∙ and_both _ _ front rest

pub formed_back : (ss : List Step) (ts : List Tree) → list_all is_formed (all_done ss ts) ≡ true → list_all is_formed ts ≡ true
formed_back [] ts h = h
formed_back (s ∷ ss) ts h = formed_back ss ts (step_back s (all_done ss ts) h)

-- the steps visit these terms first, from left to right
pub record IsPushed (old new : List Step) (terms : List Term) : Type 0 where
  pub done : (ts : List Tree) → all_done new ts ≡ all_done old (ts ++ map tree terms)
  pub size : steps_size new ≡ steps_size old + 2 * trees_size (of_list (map tree terms))

pub one_more : (old new : List Step) (terms : List Term) (i : ℕ) (t : Bor Term) → 0 < i → i ≤ length terms → t.now ≡ get_or terms (i - 1) t.now → IsPushed old new (drop i terms)
    → IsPushed old (new ++ Visit t ∷ []) (drop (i - 1) terms)
one_more old new terms i t positive within is pushed =
    let next : suc (i - 1) ≡ i = omega arith in
    let d : drop (i - 1) terms ≡ get_or terms (i - 1) t.now ∷ drop (suc (i - 1)) terms = drop-cons terms (i - 1) t.now (omega arith) in
    let e : drop (i - 1) terms ≡ t.now ∷ drop i terms = d ∙ ap₂ (λ x xs. x ∷ xs) (sym is) (ap (λ j. drop j terms) next) in
    record {
      done = λ ts. all_done_push new (Visit t) ts ∙ pushed.done (ts ++ tree t.now ∷ []) ∙ ap (all_done old) (append_assoc ts (tree t.now ∷ []) (map tree (drop i terms)))
          ∙ ap (λ (xs : List Term). all_done old (ts ++ map tree xs)) (sym e);
      size = let s = ap (λ (xs : List Term). trees_size (of_list (map tree xs))) e in omega (arith, steps_size_push new (Visit t), pushed.size, s);
    }

-- an application is its arguments, and then its symbol
pub spread : (steps : List Step) (s : Bor Sym) (ts us : List Tree) → all_done (steps ++ Apply s (length us) ∷ []) (ts ++ us) ≡ all_done steps (ts ++ app s.now (of_list us) ∷ [])
spread steps s ts us = all_done_push steps (Apply s (length us)) (ts ++ us) ∙ ap (all_done steps) (applied_to s.now ts us)

-- the last step of a list comes first
pub first_step : (steps rest : List Step) (s r : Step) (ts : List Tree) → steps ≡ rest ++ s ∷ [] → s ≡ r → all_done steps ts ≡ all_done rest (done r ts)
first_step steps rest s r ts e is = ap (λ (ss : List Step). all_done ss ts) (e ∙ ap (λ (x : Step). rest ++ x ∷ []) is) ∙ all_done_push rest r ts

pub first_size : (steps rest : List Step) (s r : Step) → steps ≡ rest ++ s ∷ [] → s ≡ r → steps_size steps ≡ steps_size rest + step_size r
first_size steps rest s r e is = ap steps_size (e ∙ ap (λ (x : Step). rest ++ x ∷ []) is) ∙ steps_size_push rest r

-- where the outcome is formed, so is what the last step makes
pub first_formed : (steps rest : List Step) (s r : Step) (ts out : List Tree) → steps ≡ rest ++ s ∷ [] → s ≡ r → all_done steps ts ≡ out → list_all is_formed out ≡ true → list_all is_formed (done r ts) ≡ true
first_formed steps rest s r ts out e is same h = formed_back rest (done r ts) (ap (list_all is_formed) (sym (first_step steps rest s r ts e is) ∙ same) ∙ h)
