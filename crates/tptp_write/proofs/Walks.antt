-- What steps print, and how much work they are. Crates above cite these laws.
use Rattle.std.proofs.Common.{◌≡◌, ◌≢◌, ℕ, ◌+◌, ◌-◌, ◌*◌, ◌<◌, ◌≤◌, List, [], ◌∷◌, ◌++◌, length, map, take, drop, get_or, refl, ap, sym, ◌∙◌, arith, append_assoc, append-nil, codes}
use Rattle.std.proofs.lemmas.List.{drop_more, drop_all, take_rest}
use denote.Bor.{Bor}
use Rattle.inst_logic.specs.declared.clause.Literal.{Literal}
use Rattle.inst_logic.specs.declared.term.Term.{Term}
use Rattle.inst_logic.specs.Tree.{Tree, of_list}
use Rattle.inst_logic.specs.View.{tree}
use Rattle.inst_logic.specs.Measure.{trees_size}
use Rattle.inst_logic.specs.Printing.{tree_text, arguments_text, more_text, sides_text, joined, literal_text, clause_text}
use Rattle.inst_logic.specs.LiteralView.{literal}
use Rattle.inst_logic.specs.Clauses.{TreeClause}
use Rattle.tptp_write.specs.declared.terms.Step.{Step}
use Rattle.tptp_write.specs.declared.terms.Step.TheVariants.{Print, PrintNext, Close}
use Rattle.tptp_write.specs.Steps.{step_text, steps_text, step_size, steps_size}
use Rattle.tptp_write.specs.Pieces.{following_text}

-- the last step comes first
pub steps_text_push : (ss : List Step) (s : Step) → steps_text (ss ++ s ∷ []) ≡ step_text s ++ steps_text ss
steps_text_push [] s = sym (append-nil (step_text s))
steps_text_push (r ∷ ss) s = ap (λ (bs : List ℕ). bs ++ step_text r) (steps_text_push ss s) ∙ append_assoc (step_text s) (steps_text ss) (step_text r)

pub steps_size_push : (ss : List Step) (s : Step) → steps_size (ss ++ s ∷ []) ≡ steps_size ss + step_size s
steps_size_push [] s = omega arith
steps_size_push (r ∷ ss) s = omega (arith, steps_size_push ss s)

-- steps for what follows an argument
pub record IsPushed (before after : List Step) (terms : List Term) : Type 0 where
  pub text : steps_text after ≡ more_text (of_list (map tree terms)) ++ steps_text before
  pub size : steps_size after ≡ steps_size before + 2 * trees_size (of_list (map tree terms)) + 1

pub closed : (before after : List Step) (terms : List Term) → after ≡ before ++ Close ∷ [] → IsPushed before after (drop (length terms) terms)
closed before after terms e =
    let none : drop (length terms) terms ≡ [] = drop_all (length terms) terms (omega arith) in
    let size : steps_size after ≡ steps_size before + 2 * 0 + 1 = omega (arith, ap steps_size e, steps_size_push before Close) in
    record { text = rw none (ap steps_text e ∙ steps_text_push before Close); size = rw none size }

pub one_more : (before after : List Step) (terms : List Term) (i : ℕ) (t : Bor Term) → 0 < i → i ≤ length terms → t.now ≡ get_or terms (i - 1) t.now → IsPushed before after (drop i terms) → IsPushed before (after ++ PrintNext t ∷ []) (drop (i - 1) terms)
one_more before after terms i t lt le is h =
    let back : i - 1 + 1 ≡ i = omega arith in
    let at : drop (i - 1) terms ≡ t.now ∷ drop i terms = drop_more terms (i - 1) t.now (omega arith) ∙ (ap (λ (x : Term). x ∷ drop (i - 1 + 1) terms) (sym is) ∙ ap (λ (k : ℕ). t.now ∷ drop k terms) back) in
    let mid = map tree (drop i terms) in
    let text : steps_text (after ++ PrintNext t ∷ []) ≡ (44 ∷ tree_text (tree t.now) ++ more_text (of_list mid)) ++ steps_text before =
    steps_text_push after (PrintNext t) ∙ (ap (λ (bs : List ℕ). (44 ∷ tree_text (tree t.now)) ++ bs) h.text ∙ sym (append_assoc (44 ∷ tree_text (tree t.now)) (more_text (of_list mid)) (steps_text before))) in
    record { text = rw at text; size = rw at (omega (arith, steps_size_push after (PrintNext t), h.size)) }

-- an equality that has not two arguments is printed as arguments
pub other_sides : (sign : List ℕ) (ts : List Tree) → length ts ≢ 2 → sides_text sign (of_list ts) ≡ arguments_text (of_list ts)
other_sides sign [] h = refl
other_sides sign (t ∷ []) h = refl
other_sides sign (t ∷ u ∷ []) h = absurd (h refl)
other_sides sign (t ∷ u ∷ v ∷ ts) h = refl

-- the first literal, and what follows it
pub first_literal : (l : List ℕ) (ls : TreeClause) → joined (codes " | ") (l ∷ map literal_text ls) ≡ l ++ following_text ls
first_literal l [] = sym (append-nil l)
first_literal l (m ∷ ls) = ap (λ (bs : List ℕ). l ++ codes " | " ++ bs) (first_literal (literal_text m) ls) ∙ simp append_assoc

-- the steps for arguments, of which the parenthesis was printed
pub opened_text : (old rest : List ℕ) (first : Bor Term) (pushed : List Step) (terms : List Term) → steps_text pushed ≡ more_text (of_list (map tree terms)) ++ rest → (old ++ 40 ∷ []) ++ steps_text (pushed ++ Print first ∷ []) ≡ old ++ ((40 ∷ tree_text (tree first.now) ++ more_text (of_list (map tree terms))) ++ rest)
opened_text old rest first pushed terms e =
    ap (λ (bs : List ℕ). (old ++ 40 ∷ []) ++ bs) (steps_text_push pushed (Print first) ∙ ap (λ (bs : List ℕ). tree_text (tree first.now) ++ bs) e) ∙ simp append_assoc

-- a step is taken
pub step_taken : (text old : List ℕ) (steps popped : List Step) (s : Step) → steps ≡ popped ++ s ∷ [] → text ++ steps_text steps ≡ old → text ++ (step_text s ++ steps_text popped) ≡ old
step_taken text old steps popped s e h = ap (λ (bs : List ℕ). text ++ bs) (sym (ap steps_text e ∙ steps_text_push popped s)) ∙ h

-- a list with a first item
pub split_first : {X : Type 0} (xs : List X) (x : X) → 0 < length xs → x ≡ get_or xs 0 x → xs ≡ x ∷ take (length xs - 1) (drop 1 xs)
split_first [] x lt e = absurd (omega arith)
split_first (y ∷ ys) x lt e = let rest = take_rest (y ∷ ys) 1 in ap (λ z. z ∷ ys) (sym e) ∙ ap (λ zs. x ∷ zs) (sym rest)

pub record IsOpened (old : List ℕ) (before : List Step) (args : List Tree) (new : List ℕ) (after : List Step) : Type 0 where
  pub text : new ++ steps_text after ≡ old ++ (arguments_text (of_list args) ++ steps_text before)
  pub size : steps_size after ≤ steps_size before + 2 * trees_size (of_list args) + 1

pub opened : (old new : List ℕ) (before pushed after : List Step) (terms : List Term) (first : Bor Term) (args : List Tree) → new ≡ old ++ 40 ∷ [] → IsPushed before pushed (take (length terms - 1) (drop 1 terms)) → after ≡ pushed ++ Print first ∷ [] → map tree terms ≡ args → 0 < length terms → first.now ≡ get_or terms 0 first.now → IsOpened old before args new after
opened old new before pushed after terms first args e h p q lt is =
    let rest = take (length terms - 1) (drop 1 terms) in
    let split : args ≡ tree first.now ∷ map tree rest = sym q ∙ ap (map tree) (split_first terms first.now lt is) in
    let size : steps_size after ≤ steps_size before + 2 * trees_size (of_list (tree first.now ∷ map tree rest)) + 1 = omega (arith, ap steps_size p, steps_size_push pushed (Print first), h.size) in
    record { text = rw (e, p, split) (opened_text old (steps_text before) first pushed rest h.text); size = rw split size }

-- a clause by its first literal
pub clause_written : (old mid new : List ℕ) (ls : List Literal) (first : Literal) (c : TreeClause) → map literal ls ≡ c → 0 < length ls → first ≡ get_or ls 0 first → mid ≡ old ++ literal_text (literal first) → new ≡ mid ++ following_text (map literal (take (length ls - 1) (drop 1 ls))) → new ≡ old ++ clause_text c
clause_written old mid new ls first c view lt is e h =
    let rest = map literal (take (length ls - 1) (drop 1 ls)) in
    let split : c ≡ literal first ∷ rest = sym view ∙ ap (map literal) (split_first ls first lt is) in
    let joined_is = first_literal (literal_text (literal first)) rest in
    let text : new ≡ old ++ clause_text (literal first ∷ rest) = h ∙ (ap (λ (bs : List ℕ). bs ++ following_text rest) e ∙ (append_assoc old (literal_text (literal first)) (following_text rest) ∙ ap (λ (bs : List ℕ). old ++ bs) (sym joined_is))) in
    rw split text
