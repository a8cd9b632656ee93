-- What steps print, and how much work they are.
use Rattle.std.proofs.Common.{◌≡◌, ℕ, ◌+◌, ◌-◌, ◌*◌, ◌<◌, ◌≤◌, List, [], ◌∷◌, ◌++◌, length, map, take, drop, get_or, ap, sym, ◌∙◌, subst, arith, append_assoc, append-nil}
use Rattle.std.proofs.lemmas.List.{drop_more, drop_all}
use Rattle.inst_logic.specs.declared.signed.Signed.{Signed}
use Rattle.inst_logic.specs.Tree.{of_list}
use Rattle.inst_logic.specs.Measure.{trees_size}
use Rattle.inst_logic.specs.Printing.{tree_text, arguments_text, more_text, literal_text, clause_text}
use Rattle.term_bank.specs.Forest.{Forest, tree_at, literal_tree, clause_at}
use Rattle.tptp_write.specs.Pieces.{following_text}
use Rattle.tptp_write.proofs.Walks.{first_literal, split_first as first_of}
use Rattle.cert_text.specs.declared.walk.Step.{Step}
use Rattle.cert_text.specs.declared.walk.Step.TheVariants.{Print, PrintNext, Close}
use Rattle.cert_text.specs.Steps.{step_text, steps_text, step_size, steps_size, IsStep, AreSteps}

-- the last step comes first
pub steps_text_push : (f : Forest) (ss : List Step) (s : Step) → steps_text f (ss ++ s ∷ []) ≡ step_text f s ++ steps_text f ss
steps_text_push f [] s = sym (append-nil (step_text f s))
steps_text_push f (r ∷ ss) s = ap (λ (bs : List ℕ). bs ++ step_text f r) (steps_text_push f ss s) ∙ append_assoc (step_text f s) (steps_text f ss) (step_text f r)

pub steps_size_push : (f : Forest) (ss : List Step) (s : Step) → steps_size f (ss ++ s ∷ []) ≡ steps_size f ss + step_size f s
steps_size_push f [] s = omega arith
steps_size_push f (r ∷ ss) s = omega (arith, steps_size_push f ss s)

pub are_pushed : (f : Forest) (ss : List Step) (s : Step) → AreSteps f ss → IsStep f s → AreSteps f (ss ++ s ∷ [])
are_pushed f [] s h k = (k, tt)
are_pushed f (r ∷ ss) s h k = (h.0, are_pushed f ss s h.1 k)

-- steps for what follows an argument
pub record IsPushed (f : Forest) (before after : List Step) (ids : List ℕ) : Type 0 where
  pub text : steps_text f after ≡ more_text (of_list (map (tree_at f) ids)) ++ steps_text f before
  pub size : steps_size f after ≡ steps_size f before + 2 * trees_size (of_list (map (tree_at f) ids)) + 1
  pub steps : AreSteps f before → AreSteps f after

pub closed : (f : Forest) (before after : List Step) (ids : List ℕ) → after ≡ before ++ Close ∷ [] → IsPushed f before after (drop (length ids) ids)
closed f before after ids e =
    let nothing : drop (length ids) ids ≡ [] = drop_all (length ids) ids (omega arith) in
    let size : steps_size f after ≡ steps_size f before + 2 * 0 + 1 = omega (arith, ap (steps_size f) e, steps_size_push f before Close) in
    record {
      text = rw nothing (ap (steps_text f) e ∙ steps_text_push f before Close);
      size = rw nothing size;
      steps = λ h. subst (AreSteps f) (sym e) (are_pushed f before Close h tt);
    }

pub one_more : (f : Forest) (before after : List Step) (ids : List ℕ) (i id : ℕ) → 0 < i → i ≤ length ids → id ≡ get_or ids (i - 1) id → id < length f.trees → IsPushed f before after (drop i ids) → IsPushed f before (after ++ PrintNext id ∷ []) (drop (i - 1) ids)
one_more f before after ids i id lt le is within h =
    let back : i - 1 + 1 ≡ i = omega arith in
    let at : drop (i - 1) ids ≡ id ∷ drop i ids = drop_more ids (i - 1) id (omega arith) ∙ (ap (λ (x : ℕ). x ∷ drop (i - 1 + 1) ids) (sym is) ∙ ap (λ (k : ℕ). id ∷ drop k ids) back) in
    let mid = map (tree_at f) (drop i ids) in
    let text : steps_text f (after ++ PrintNext id ∷ []) ≡ (44 ∷ tree_text (tree_at f id) ++ more_text (of_list mid)) ++ steps_text f before =
    steps_text_push f after (PrintNext id) ∙ (ap (λ (bs : List ℕ). (44 ∷ tree_text (tree_at f id)) ++ bs) h.text ∙ sym (append_assoc (44 ∷ tree_text (tree_at f id)) (more_text (of_list mid)) (steps_text f before))) in
    record { text = rw at text; size = rw at (omega (arith, steps_size_push f after (PrintNext id), h.size)); steps = λ k. are_pushed f after (PrintNext id) (h.steps k) within }

-- a list with a first item
pub split_first : (xs : List ℕ) (x : ℕ) → 0 < length xs → x ≡ get_or xs 0 x → xs ≡ x ∷ drop 1 xs
split_first [] x lt e = absurd (omega arith)
split_first (y ∷ ys) x lt e = ap (λ z. z ∷ ys) (sym e)

pub record IsOpened (f : Forest) (old : List ℕ) (before : List Step) (ids : List ℕ) (new : List ℕ) (after : List Step) : Type 0 where
  pub text : new ++ steps_text f after ≡ old ++ (arguments_text (of_list (map (tree_at f) ids)) ++ steps_text f before)
  pub size : steps_size f after ≤ steps_size f before + 2 * trees_size (of_list (map (tree_at f) ids)) + 1
  pub steps : AreSteps f after

opened_text : (f : Forest) (old rest : List ℕ) (first : ℕ) (pushed : List Step) (ids : List ℕ) → steps_text f pushed ≡ more_text (of_list (map (tree_at f) ids)) ++ rest
    → (old ++ 40 ∷ []) ++ steps_text f (pushed ++ Print first ∷ []) ≡ old ++ ((40 ∷ tree_text (tree_at f first) ++ more_text (of_list (map (tree_at f) ids))) ++ rest)
opened_text f old rest first pushed ids e =
    ap (λ (bs : List ℕ). (old ++ 40 ∷ []) ++ bs) (steps_text_push f pushed (Print first) ∙ ap (λ (bs : List ℕ). tree_text (tree_at f first) ++ bs) e) ∙ simp append_assoc

pub opened : (f : Forest) (old new : List ℕ) (before pushed after : List Step) (ids : List ℕ) (first : ℕ) → new ≡ old ++ 40 ∷ [] → IsPushed f before pushed (drop 1 ids) → after ≡ pushed ++ Print first ∷ [] → 0 < length ids → first ≡ get_or ids 0 first → first < length f.trees → AreSteps f before
    → IsOpened f old before ids new after
opened f old new before pushed after ids first e h p lt is within all_ =
    let rest = drop 1 ids in
    let split : ids ≡ first ∷ rest = split_first ids first lt is in
    let size : steps_size f after ≤ steps_size f before + 2 * trees_size (of_list (map (tree_at f) (first ∷ rest))) + 1 = omega (arith, ap (steps_size f) p, steps_size_push f pushed (Print first), h.size) in
    record {
      text = (λ i. e i ++ steps_text f (p i)) ∙ opened_text f old (steps_text f before) first pushed rest h.text ∙ ap (λ (xs : List ℕ). old ++ (arguments_text (of_list (map (tree_at f) xs)) ++ steps_text f before)) (sym split);
      size = subst (λ (xs : List ℕ). steps_size f after ≤ steps_size f before + 2 * trees_size (of_list (map (tree_at f) xs)) + 1) (sym split) size;
      steps = subst (AreSteps f) (sym p) (are_pushed f pushed (Print first) (h.steps all_) within);
    }

-- a step is taken
pub step_taken : (f : Forest) (text old : List ℕ) (steps popped : List Step) (s : Step) → steps ≡ popped ++ s ∷ [] → text ++ steps_text f steps ≡ old → text ++ (step_text f s ++ steps_text f popped) ≡ old
step_taken f text old steps popped s e h = ap (λ (bs : List ℕ). text ++ bs) (sym (ap (steps_text f) e ∙ steps_text_push f popped s)) ∙ h

pub last_step : (f : Forest) (ss : List Step) (s : Step) → AreSteps f (ss ++ s ∷ []) → AreSteps f ss × IsStep f s
last_step f [] s h = (tt, h.0)
last_step f (r ∷ ss) s h = let k = last_step f ss s h.1 in ((h.0, k.0), k.1)

-- a name with its arguments
pub named_text : (old name args rest text new : List ℕ) → text ≡ old ++ name → new ≡ text ++ (args ++ rest) → new ≡ old ++ ((name ++ args) ++ rest)
named_text old name args rest text new e h = h ∙ ap (λ (xs : List ℕ). xs ++ (args ++ rest)) e ∙ append_assoc old name (args ++ rest) ∙ ap (λ (xs : List ℕ). old ++ xs) (sym (append_assoc name args rest))

-- a clause by its first literal
pub clause_written : (f : Forest) (old mid new : List ℕ) (ls : List (Signed ℕ)) (first : Signed ℕ) (c : List (Signed ℕ)) → ls ≡ c → 0 < length ls → first ≡ get_or ls 0 first → mid ≡ old ++ literal_text (literal_tree f first) → new ≡ mid ++ following_text (clause_at f (take (length ls - 1) (drop 1 ls)))
    → new ≡ old ++ clause_text (clause_at f c)
clause_written f old mid new ls first c view lt is e h =
    let rest = clause_at f (take (length ls - 1) (drop 1 ls)) in
    let split : clause_at f c ≡ literal_tree f first ∷ rest = ap (clause_at f) (sym view ∙ first_of ls first lt is) in
    let text : new ≡ old ++ clause_text (literal_tree f first ∷ rest) = h ∙ (ap (λ (bs : List ℕ). bs ++ following_text rest) e ∙ (append_assoc old (literal_text (literal_tree f first)) (following_text rest) ∙ ap (λ (bs : List ℕ). old ++ bs) (sym (first_literal (literal_text (literal_tree f first)) rest)))) in
    rw split text
