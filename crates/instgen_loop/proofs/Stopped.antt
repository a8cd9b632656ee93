-- A run that ends for want of budget.
use Rattle.std.proofs.Common.{◌≡◌, ◌⊎◌, inl, inr, ℕ, ◌-◌, ◌^◌, ◌<◌, ◌≤◌, min, List, [], ◌∷◌, refl, sym, ap, ◌∙◌, subst as transport, map, length, arith, All, Contains, Bool, true, false, Some, None}
use Rattle.std.specs.Prelude.{IsFalse}
use Rattle.std.proofs.lemmas.Bool.{cases_lt}
use Rattle.inst_logic.specs.declared.symbol.Sym.{Sym}
use Rattle.inst_logic.specs.declared.signed.Signed.{Signed}
use Rattle.inst_logic.specs.Tree.{Tree}
use Rattle.inst_logic.specs.Clauses.{TreeClause}
use Rattle.inst_logic.specs.Measure.{clause_size, is_function_free}
use Rattle.inst_calculus.specs.Axioms.{with_axioms}
use Rattle.inst_calculus.specs.Conclusions.{IsConclusion}
use Rattle.inst_calculus.proofs.EqualityAxioms.{with_axioms_function_free}
use Rattle.inst_calculus.proofs.Membership.{◌∈◌, contains_in, in_contains, in_all, all_in}
use Rattle.inst_calculus.proofs.OneConclusion.{one_conclusion}
use Rattle.inst_machine.specs.Machine.{State}
use Rattle.inst_machine.specs.Replay.{IsSelection, IsOpenConclusion}
use Rattle.inst_machine.specs.Budget.{RunsOut}
use Rattle.cert_format.specs.Certificate as format
use Rattle.cert_format.specs.Certificate.{selected_at}
use Rattle.engine_laws.specs.Pairs.{Held, IsDecided, IsHeldBack}
use Rattle.engine_laws.proofs.SelectedEntries.{open_is_among, still_is_open}
use Rattle.term_bank.specs.Forest.{Forest}
use Rattle.term_index.specs.Pairs.{Posting}
use Rattle.instgen_loop.specs.declared.ending.Ending.TheVariants.{OutOfBudget}
use Rattle.instgen_loop.specs.declared.finish.SettledRun.{SettledRun}
use Rattle.instgen_loop.specs.declared.task.Task.{Task}
use Rattle.instgen_loop.specs.Endings.{IsEndingAfter}
use Rattle.instgen_run.specs.Logs.{Log}
use Rattle.instgen_loop.specs.declared.start.Given.{Given}
use Rattle.instgen_run.specs.declared.state.Run.{Run}
use Rattle.instgen_run.specs.declared.premises.Premises.{Premises}
use Rattle.instgen_run.specs.declared.queue.Partners.{Partners}
use Rattle.instgen_run.specs.Deciding.{IsOpenHeld, IsLeastOpen}
use Rattle.instgen_loop.specs.Ending.{IsAtRest, IsFinished, settled_from, saturation_from}
use Rattle.instgen_run.specs.Loops.{held_in, held_of}
use Rattle.instgen_loop.specs.Outcomes.{IsStoppedRun}
use Rattle.instgen_run.specs.Running.{entries_of, state_of, event_in, IsRunning, events_so_far}
use Rattle.instgen_loop.specs.Starting.{IsOfProblem}
use Rattle.instgen_loop.specs.Tasks.{all_clauses}
use Rattle.instgen_run.specs.Tended.{indexed_of}
use Rattle.instgen_loop.proofs.Endings.{same, long, selected_run, own_constant}
use Rattle.instgen_loop.proofs.Saturated.{all_indexed}

-- The smallest of what is open

-- one whose conclusion is no larger than those of the others
record IsSmallest {S I C : Type 0} (r : Run S I C) (hs : List Held) : Type 0 where
  at : Held
  among : at ∈ hs
  size : ℕ
  open_at : IsOpenHeld r at size
  least : (k : Held) → k ∈ hs → (c : TreeClause) → IsConclusion (entries_of r) k.from k.place k.partner k.other c → clause_size open_at.clause ≤ clause_size c

module _ {S I C : Type 0} (r : Run S I C) where
  -- what is concluded at the same places has its size
  same_size : (h k : Held) (n : ℕ) (o : IsOpenHeld r h n) → h ≡ k → (c : TreeClause) → IsConclusion (entries_of r) k.from k.place k.partner k.other c → clause_size o.clause ≡ clause_size c
  same_size h k n o e c d =
      ap clause_size (one_conclusion (entries_of r) h.from h.place h.partner h.other o.clause c o.concluded
      (transport (λ (x : Held). IsConclusion (entries_of r) x.from x.place x.partner x.other c) (sym e) d))

  smallest : (h : Held) (hs : List Held) → ((k : Held) → k ∈ (h ∷ hs) → (n : ℕ) × IsOpenHeld r k n) → IsSmallest r (h ∷ hs)
  smallest h [] all =
      let (n, o) = all h (inl refl) in
      record { at = h; among = inl refl; size = n; open_at = o; least = λ k i c d. one n o k i c d }
    where
      one : (n : ℕ) (o : IsOpenHeld r h n) (k : Held) → k ∈ (h ∷ []) → (c : TreeClause) → IsConclusion (entries_of r) k.from k.place k.partner k.other c → clause_size o.clause ≤ clause_size c
      one n o k (inl e) c d = let q = same_size h k n o (sym e) c d in omega arith
      one n o k (inr i) c d = absurd i
  smallest h (g ∷ hs) all =
      let s = smallest g hs (λ k i. all k (inr i)) in
      let (n, o) = all h (inl refl) in
      by s n o (cases_lt (clause_size o.clause) (clause_size s.open_at.clause))
    where
      first : (s : IsSmallest r (g ∷ hs)) (n : ℕ) (o : IsOpenHeld r h n) → clause_size o.clause < clause_size s.open_at.clause → (k : Held) → k ∈ (h ∷ g ∷ hs)
          → (c : TreeClause) → IsConclusion (entries_of r) k.from k.place k.partner k.other c → clause_size o.clause ≤ clause_size c
      first s n o less k (inl e) c d = let q = same_size h k n o (sym e) c d in omega arith
      first s n o less k (inr i) c d = let l = s.least k i c d in omega arith

      later : (s : IsSmallest r (g ∷ hs)) (n : ℕ) (o : IsOpenHeld r h n) → clause_size s.open_at.clause ≤ clause_size o.clause → (k : Held) → k ∈ (h ∷ g ∷ hs)
          → (c : TreeClause) → IsConclusion (entries_of r) k.from k.place k.partner k.other c → clause_size s.open_at.clause ≤ clause_size c
      later s n o less k (inl e) c d = let q = same_size h k n o (sym e) c d in omega arith
      later s n o less k (inr i) c d = s.least k i c d

      by : (s : IsSmallest r (g ∷ hs)) (n : ℕ) (o : IsOpenHeld r h n) → (clause_size o.clause < clause_size s.open_at.clause) ⊎ (clause_size s.open_at.clause ≤ clause_size o.clause) → IsSmallest r (h ∷ g ∷ hs)
      by s n o (inl less) = record { at = h; among = inl refl; size = n; open_at = o; least = first s n o less }
      by s n o (inr more) = record { at = s.at; among = inr s.among; size = s.size; open_at = s.open_at; least = later s n o more }

  smallest_of : (h : Held) (hs : List Held) → h ∈ hs → ((k : Held) → k ∈ hs → (n : ℕ) × IsOpenHeld r k n) → IsSmallest r hs
  smallest_of h [] i all = absurd i
  smallest_of h (g ∷ hs) i all = smallest g hs all

-- the least of the sizes that are cut is the least size, cut
cut_least : (m size other least n : ℕ) → size ≤ n → n ≡ min least m → size ≡ min other m → least ≤ other → size ≡ min least m
cut_least m size other least n a b c d = omega arith

has_functions : (clauses : List TreeClause) → IsFalse (is_function_free (with_axioms clauses)) → IsFalse (is_function_free clauses)
has_functions clauses h = go (is_function_free clauses) refl
  where
    go : (b : Bool) → is_function_free clauses ≡ b → IsFalse b
    go true e = let k = with_axioms_function_free clauses e in absurd cc
    go false e = refl

module _ {S I C : Type 0} (atoms : S → ℕ) (added : S → List (List (Signed ℕ))) (pairs : I → List Posting) (fits : Forest → I → Type 0) (r : Run S I C) (p : Partners I C) (g : Given) (clauses : List TreeClause) (names : List (List ℕ))
    (budget : ℕ) (v : List Tree) (rest : IsAtRest atoms pairs fits r p) (h : IsRunning atoms added r r.ground.abstraction.bot (with_axioms clauses) budget v true) (problem : IsOfProblem r g clauses)
    (wanted : ℕ) (open_ones : IsLeastOpen r wanted) where
  abbrev bot : Sym
  bot = r.ground.abstraction.bot

  abbrev t : State
  t = state_of r v true

  whole : length r.selection.places ≡ length t.entries
  whole = long atoms added pairs fits r p g clauses names budget v rest h problem

  abbrev IsOpen : TreeClause → Type 0
  IsOpen c = IsOpenConclusion bot t (selected_at (entries_of r) r.selection.places) c

  among : (still : List Held) → All (IsDecided (entries_of r) r.selection.places still) (held_of r) → (c : TreeClause) → IsOpen c → (x : Held) × Contains still x × IsConclusion (entries_of r) x.from x.place x.partner x.other c
  among still decided c o = open_is_among bot t r.selection.places h.places whole (indexed_of pairs p) (held_of r) still rest.tended.worked (all_indexed pairs r p rest.tended rest.rests) decided c o

  -- what is open was held back
  among_held : (c : TreeClause) → IsOpen c → (x : Held) × Contains (held_of r) x × IsConclusion (entries_of r) x.from x.place x.partner x.other c
  among_held c o = among (held_of r) (in_all (IsDecided (entries_of r) r.selection.places (held_of r)) (held_of r) (λ x i. inr (inr (in_contains x (held_of r) i)))) c o

  is_open : (x : Held) (n : ℕ) (o : IsOpenHeld r x n) → IsOpen o.clause
  is_open x n o = still_is_open bot t r.selection.places h.places whole refl x o.still o.clause o.concluded o.uncovered

  pub some_left : ¬ (r.left ≡ None)
  some_left e =
      let (x, i, k) = among_held open_ones.at_open.clause (is_open open_ones.at wanted open_ones.at_open) in
      contains_in x [] (transport (λ (hs : List Premises). Contains (held_in hs) x) (h.none_held e) i)

  least_one : IsSmallest r open_ones.still
  least_one = smallest_of r open_ones.at open_ones.still (contains_in open_ones.at open_ones.still open_ones.at_still) (λ k i. let (n, o, l) = open_ones.open_at k (in_contains k open_ones.still i) in (n, o))

  wanted_is : wanted ≡ min (clause_size least_one.open_at.clause) (2 ^ 64 - 1)
  wanted_is =
      let s = least_one in
      let (n, o, l) = open_ones.open_at s.at (in_contains s.at open_ones.still s.among) in
      let q : clause_size o.clause ≡ clause_size s.open_at.clause = same_size r s.at s.at n o refl s.open_at.clause s.open_at.concluded in
      cut_least (2 ^ 64 - 1) wanted (clause_size open_ones.at_open.clause) (clause_size s.open_at.clause) n l (o.size_is ∙ ap (λ k. min k (2 ^ 64 - 1)) q) open_ones.at_open.size_is
      (s.least open_ones.at (contains_in open_ones.at open_ones.still open_ones.at_still) open_ones.at_open.clause open_ones.at_open.concluded)

  runs_out : (left : ℕ) → r.left ≡ Some left → RunsOut clauses budget left wanted bot (map (event_in r.entries.bank) (events_so_far r)) t (selected_at (entries_of r) r.selection.places)
  runs_out left e =
      let run = selected_run atoms added pairs fits r p g clauses names budget v rest h problem in
      record {
        functions = has_functions clauses (h.budgeted left e);
        replays = run.run.replays;
        settled = run.settled;
        selection = transport (λ (c : format.Saturation). IsSelection bot t (format.selected_members c)) (same atoms added pairs fits r p g clauses names budget v rest h problem) run.selection;
        left_is = h.left left e;
        least = least_one.open_at.clause;
        least_open = is_open least_one.at least_one.size least_one.open_at;
        is_least = λ c o. let (x, i, k) = among open_ones.still open_ones.decided c o in least_one.least x (contains_in x open_ones.still i) c k;
        wanted_is = wanted_is;
        larger = λ c o.
            let (x, i, k) = among_held c o in
            let b = all_in (IsHeldBack (entries_of r) left) (held_of r) (h.held left e) x (contains_in x (held_of r) i) in
            transport (λ d. left < clause_size d) (one_conclusion (entries_of r) x.from x.place x.partner x.other b.clause c b.concluded k) b.large;
      }

  pub stopped_run : (left : ℕ) → r.left ≡ Some left → IsStoppedRun clauses names budget left wanted (saturation_from names (settled_from r g)) (events_so_far r)
  stopped_run left e = record {
    bot = bot;
    state = t;
    run = selected_run atoms added pairs fits r p g clauses names budget v rest h problem;
    ends = transport (λ (c : format.Saturation). RunsOut clauses budget left wanted bot (map (event_in r.entries.bank) (events_so_far r)) t (format.selected_members c))
        (sym (same atoms added pairs fits r p g clauses names budget v rest h problem)) (runs_out left e);
  }

-- from what the cycle leaves

module _ {S I C : Type 0} (atoms : S → ℕ) (added : S → List (List (Signed ℕ))) (pairs : I → List Posting) (fits : Forest → I → Type 0) (t : Task) (r : Run S I C) (p : Partners I C) (g : Given)
    (wanted : ℕ) (finished : IsFinished atoms added pairs fits t r p g) (open_ones : IsLeastOpen r wanted) where
  pub has_left : ¬ (r.left ≡ None)
  has_left =
      let (constant, v, h) = finished.solved in
      some_left atoms added pairs fits r p g t.problem.now.clauses t.problem.now.names t.budget v finished.rest (own_constant atoms added r constant (all_clauses t) t.budget v h) finished.problem wanted open_ones

  pub stopped_outcome : (left : ℕ) → r.left ≡ Some left → (state : SettledRun) (log : Log) → state ≡ settled_from r g → log ≡ r.log → IsEndingAfter t (OutOfBudget left wanted state) log
  stopped_outcome left l state log e q =
      let (constant, v, h) = finished.solved in
      let run : IsEndingAfter t (OutOfBudget left wanted (settled_from r g)) r.log =
      (h.logged, stopped_run atoms added pairs fits r p g t.problem.now.clauses t.problem.now.names t.budget v finished.rest (own_constant atoms added r constant (all_clauses t) t.budget v h) finished.problem wanted open_ones left l) in
      transport (λ (x : SettledRun). IsEndingAfter t (OutOfBudget left wanted x) log) (sym e) (transport (IsEndingAfter t (OutOfBudget left wanted (settled_from r g))) (sym q) run)
