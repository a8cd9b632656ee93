use Rattle.std.proofs.Common.{◌≡◌, ◌≤◌, ◌+◌, ℕ, suc, map, List, ◌++◌, ◌∷◌, [], length, length-append, arith, refl, ap, sym, ◌∙◌, subst, All, Result, Ok, Err, OnOk}
use Rattle.inst_logic.specs.declared.signed.Signed.{Signed}
use Rattle.term_bank.specs.Forest.{Forest, Extends, clause_at}
use Rattle.ground_abs.specs.Abstracts.{AreAtomsIn, AreNotesIn}
use Rattle.instgen_select.specs.Queues.{numbers, Waiting}
use Rattle.inst_calculus.proofs.Distinct.{map_append}
use Rattle.instgen_run.specs.Clauses.{Item, AreEntries, clauses_in}
use Rattle.instgen_run.specs.Grounds.{IsLinked}
use Rattle.instgen_run.specs.Loops.{IsLiteralPlace}
use Rattle.instgen_run.proofs.Grown.{one_more_entry, clauses_pushed, place_kept, waiting_pushed}
use Rattle.instgen_run.proofs.Firsts.{firsts_kept}
use Rattle.instgen_run.proofs.state.append.Goals as goal

-- what holds after a success by what else holds after it
of_two : {T E : Type 0} (r : Result T E) (A B Q : Type 0) → (A → B → Q) → OnOk r A → OnOk r B → OnOk r Q
of_two (Ok x) A B Q f a b = f a b
of_two (Err e) A B Q f a b = tt

of_three : {T E : Type 0} (r : Result T E) (A B C Q : Type 0) → (A → B → C → Q) → OnOk r A → OnOk r B → OnOk r C → OnOk r Q
of_three (Ok x) A B C Q f a b c = f a b c
of_three (Err e) A B C Q f a b c = tt

of_four : {T E : Type 0} (r : Result T E) (A B C D Q : Type 0) → (A → B → C → D → Q) → OnOk r A → OnOk r B → OnOk r C → OnOk r D → OnOk r Q
of_four (Ok x) A B C D Q f a b c d = f a b c d
of_four (Err e) A B C D Q f a b c d = tt

pub push_entry-requires-clause-firsts : goal.push_entry-requires-clause-firsts
push_entry-requires-clause-firsts g c =
    let old = c.args.run.now in
    firsts_kept g.I.PartnerIndex.pairs old.entries c.add_entry.new.bank old.entries.clauses.entries c.in_ok-add_entry.ensures.extends c.requires.safe.entries c.requires.safe.firsts

pub returns-clause-safe : goal.returns-clause-safe
returns-clause-safe g c =
    let old = c.args.run.now in
    let es = old.entries.clauses.entries in
    let item : Item = (c.args.clause, c.args.origin) in
    let later = c.push_entry.new.entries in
    let add = c.in_ok-add_entry.ensures in
    of_four c.push_entry.result _ _ _ _ _ (λ firsts fits bank pushed. record {
      entries = subst (λ (f : Forest). AreEntries f later.clauses.entries) (sym bank) (subst (AreEntries c.add_entry.new.bank) (sym pushed)
          (one_more_entry old.entries.bank c.add_entry.new.bank add.extends (add.formed c.requires.safe.entries.formed) es c.args.clause c.args.origin c.requires.safe.entries c.requires.whole c.requires.canonical));
      firsts = firsts;
      stored = fits;
      numbered = subst (λ (f : Forest). AreAtomsIn f c.add_entry.new.ground.abstraction.ids) (sym bank) add.fits;
      notes = subst (λ (f : Forest). AreNotesIn f c.add_entry.new.ground.abstraction.bot c.add_entry.new.ground.abstraction.notes) (sym bank) add.notes;
      count = add.count;
      waiting =
          let n = c.len-number.result in
          let m : length later.clauses.entries ≡ length es + 1 = ap length pushed ∙ length-append es (item ∷ []) in
          let q : numbers c.put.new.self.items ≡ numbers old.queue.items ++ (length es + 1) ∷ [] =
          ap numbers c.in_ok-put.ensures.ok ∙ map_append (λ (x : Waiting). x.0) old.queue.items ((n + 1, c.clause_size-size.result) ∷ [])
          ∙ ap (λ k. numbers old.queue.items ++ (k + 1) ∷ []) c.len-number.ensures.len in
          subst (All (λ k. k ≤ length later.clauses.entries)) (sym q) (subst (λ k. All (λ j. j ≤ k) (numbers old.queue.items ++ (length es + 1) ∷ [])) (sym m)
          (waiting_pushed (numbers old.queue.items) (length es) (length es + 1) refl c.requires.safe.waiting));
      within = let m : length later.clauses.entries ≡ length es + 1 = ap length pushed ∙ length-append es (item ∷ []) in omega (arith, c.requires.safe.within);
      placed = λ i l. subst (λ (xs : List Item). IsLiteralPlace xs old.selection.places i) (sym pushed) (place_kept es (item ∷ []) old.selection.places i (c.requires.safe.placed i l));
      known = c.in_ok-entry.ensures.added ∙ ap (λ (cs : List (List (Signed ℕ))). cs ++ c.args.clause ∷ []) c.requires.safe.known ∙ sym (ap (map (λ (e : Item). e.0)) pushed ∙ map_append (λ (e : Item). e.0) es (item ∷ []));
    }) c.push_entry.ensures.firsts c.push_entry.ensures.fits c.push_entry.ensures.bank c.push_entry.ensures.pushed

pub returns-clause-appends : goal.returns-clause-appends
returns-clause-appends g c =
    let old = c.args.run.now in
    let es = old.entries.clauses.entries in
    let add = c.in_ok-add_entry.ensures in
    of_three c.push_entry.result _ _ _ _ (λ bank pushed longest. record {
      bank = subst (Extends old.entries.bank) (sym bank) add.extends;
      entry = pushed;
      waits =
          let e : length es + 1 ≡ suc (length es) = omega arith in
          ap numbers c.in_ok-put.ensures.ok ∙ map_append (λ (x : Waiting). x.0) old.queue.items ((c.len-number.result + 1, c.clause_size-size.result) ∷ [])
          ∙ ap (λ k. numbers old.queue.items ++ (k + 1) ∷ []) c.len-number.ensures.len ∙ ap (λ k. numbers old.queue.items ++ k ∷ []) e;
      ready = c.in_ok-put.ensures.ready;
      valuation = add.valuation;
      bot = add.bot;
      atoms = add.grows;
      literals = add.literals;
      selection = refl;
      held = refl;
      log = refl;
      left = refl;
      bindings = refl;
      longest = longest;
    }) c.push_entry.ensures.bank c.push_entry.ensures.pushed c.push_entry.ensures.longest

pub returns-clause-linked : goal.returns-clause-linked
returns-clause-linked g c =
    let old = c.args.run.now in
    let later = c.push_entry.new.entries in
    let add = c.in_ok-add_entry.ensures in
    of_two c.push_entry.result _ _ _ (λ bank pushed bot h.
    let same : clauses_in later.bank later.clauses.entries ≡ clauses_in old.entries.bank old.entries.clauses.entries ++ clause_at old.entries.bank c.args.clause ∷ [] =
    ap (λ (f : Forest). clauses_in f later.clauses.entries) bank ∙ ap (clauses_in c.add_entry.new.bank) pushed
    ∙ clauses_pushed old.entries.bank c.add_entry.new.bank add.extends old.entries.clauses.entries c.args.clause c.args.origin c.requires.safe.entries c.requires.whole.ids in
    subst (IsLinked later.bank c.add_entry.new.ground (g.S.Solver.atoms c.add_entry.new.ground.solver) (g.S.Solver.added c.add_entry.new.ground.solver) bot) (sym same)
    (subst (λ (f : Forest). IsLinked f c.add_entry.new.ground (g.S.Solver.atoms c.add_entry.new.ground.solver) (g.S.Solver.added c.add_entry.new.ground.solver) bot (clauses_in old.entries.bank old.entries.clauses.entries ++ clause_at old.entries.bank c.args.clause ∷ [])) (sym bank)
    (add.linked bot (clauses_in old.entries.bank old.entries.clauses.entries) h))) c.push_entry.ensures.bank c.push_entry.ensures.pushed
