use Rattle.std.proofs.Common.{◌≡◌, ℕ, ◌<◌, ◌≤◌, inl, inr, List, [], ◌∷◌, map, length, reverse, refl, sym, subst, ap, ◌∙◌, arith}
use Rattle.std.specs.Prelude.{All}
use Rattle.std.specs.List.{flat_map}
use Rattle.std.proofs.lemmas.List.{length-append}
use Rattle.std.proofs.lemmas.List.Elements.{All-weaker}
use Rattle.inst_logic.specs.Tree.{app, none}
use Rattle.inst_logic.specs.Substitution.{subst as apply}
use Rattle.inst_calculus.proofs.Items.{at_number_within}
use Rattle.inst_calculus.specs.Unrolling.{Made as TreeMade, unrolled, under_terms}
use Rattle.term_bank.specs.Forest.{AreIds, IsTermIn, no_symbol, tree_at}
use Rattle.term_bank.proofs.Growth.{at_extends}
use Rattle.clause_form.specs.Walks.{listed}
use Rattle.clause_form.proofs.Stacks.{reverse_push}
use Rattle.global_subs.specs.declared.made.Made.{Made}
use Rattle.global_subs.specs.declared.unrolling.Task.{Task}
use Rattle.global_subs.specs.Terms.{HasTerms}
use Rattle.global_subs.specs.Unrolls.{AreOpened, entries_at, fan, terms_of}
use Rattle.global_subs.proofs.TaskLaws.{entries_same, given_there, opened_from, opened_lemma, premises_below, unrolling_stays}
use Rattle.global_subs.proofs.LoadLaws.{breadth_counts, fan_within}
use Rattle.global_subs.proofs.TermLaws.{but_last, one_more_task, term_stays, with_tasks}
use Rattle.global_subs.proofs.unrolling.open_task.Goals as goal

-- An input clause

pub returns-in_ok-add_item-in-Given-clause-opened : goal.returns-in_ok-add_item-in-Given-clause-opened
returns-in_ok-add_item-in-Given-clause-opened c = λ b e.
    let f = c.args.bank.now in
    inr (record {
      input = c.in-Given.input;
      same = refl;
      list_is = given_there f f b c.args.unrolling.now.made.now c.requires.unrolling.entries c.args.task.now c.requires.task c.entry_at.result.now c.entry_at.ensures c.in-Given.input c.in-Given.is;
      tasks = refl;
      added = c.in_ok-add_item-in-Given.ensures.added;
    })

pub returns-in_ok-add_item-in-Given-clause-terms : goal.returns-in_ok-add_item-in-Given-clause-terms
returns-in_ok-add_item-in-Given-clause-terms c = λ constant. but_last c.args.bank.now c.args.unrolling.now.made.now c.args.tasks.now.items c.args.task.now

-- An instance

pub composed_terms-requires-clause-how : goal.composed_terms-requires-clause-how
composed_terms-requires-clause-how c = (c.entry_at.result.now, c.entry_at.ensures, ap terms_of c.in-From.is)

pub returns-in_ok-push-in-From-clause-opened : goal.returns-in_ok-push-in-From-clause-opened
returns-in_ok-push-in-From-clause-opened c = λ b e.
    let f = c.args.bank.now in
    let g = c.composed_terms.new.bank in
    let task = c.args.task.now in
    let old = c.args.tasks.now.items in
    let more : Task = record { entry = c.in-From.from; terms = c.from.result } in
    let trees : map (tree_at g) c.from.result ≡ map (apply (listed f task.terms)) (map (tree_at f) c.in-From.terms) = ap (map (tree_at g)) c.from.ensures ∙ c.in_ok-under-in-From.ensures.trees in
    inl (record {
      opened = opened_from f g b c.args.unrolling.now.made.now c.requires.unrolling.entries task c.requires.task c.entry_at.result.now c.entry_at.ensures c.in-From.from c.in-From.terms c.from.result (reverse old) (reverse c.push.new.self.items) c.in-From.is
          (subst (AreIds g) (sym c.from.ensures) c.in_ok-under-in-From.ensures.ids) trees (ap reverse c.in_ok-push-in-From.ensures.items ∙ reverse_push old more);
      kept = refl;
    })

pub returns-in_ok-push-in-From-clause-few : goal.returns-in_ok-push-in-From-clause-few
returns-in_ok-push-in-From-clause-few c =
    let task : Task = record { entry = c.in-From.from; terms = c.from.result } in
    let more = ap (λ (ts : List Task). length ts) c.in_ok-push-in-From.ensures.items ∙ length-append c.args.tasks.now.items (task ∷ []) in
    let most = breadth_counts c.args.unrolling.now.made.now in
    omega (arith, more, most)

pub returns-in_ok-push-in-From-clause-terms : goal.returns-in_ok-push-in-From-clause-terms
returns-in_ok-push-in-From-clause-terms c = λ constant h.
    let g = c.composed_terms.new.bank in
    let made = c.args.unrolling.now.made.now in
    let old = c.args.tasks.now.items in
    let task : Task = record { entry = c.in-From.from; terms = c.from.result } in
    let (later, ids) = c.in_ok-under-in-From.ensures.terms old h in
    subst (HasTerms g made) (sym c.in_ok-push-in-From.ensures.items) (one_more_task g made old task later (subst (All (IsTermIn g)) (sym c.from.ensures) ids))

-- A lemma

pub composed_terms-requires-in-Lemma-clause-how : goal.composed_terms-requires-in-Lemma-clause-how
composed_terms-requires-in-Lemma-clause-how c = (c.entry_at.result.now, c.entry_at.ensures, ap terms_of c.in-Lemma.is)

pub push_premises-requires-clause-unrolling : goal.push_premises-requires-clause-unrolling
push_premises-requires-clause-unrolling c = unrolling_stays c.args.bank.now c.composed_terms-in-Lemma.new.bank c.composed_terms-in-Lemma.ensures.extends c.args.unrolling.now c.requires.unrolling

pub push_premises-requires-clause-numbers : goal.push_premises-requires-clause-numbers
push_premises-requires-clause-numbers c =
    let f = c.args.bank.now in
    let made = c.args.unrolling.now.made.now in
    let m : Made = c.entry_at.result.now in
    let n = c.args.task.now.entry in
    let within = at_number_within made n m c.entry_at.ensures in
    subst (All (λ p. (0 < p) × (p ≤ length made))) (sym c.as_slice.ensures)
    (All-weaker (λ p. (0 < p) × (p < n)) (λ p. (0 < p) × (p ≤ length made)) (λ p k. (k.0, omega (arith, k.1, within))) c.in-Lemma.premises
    (premises_below f f no_symbol made c.requires.unrolling.entries c.args.task.now c.requires.task m c.entry_at.ensures c.in-Lemma.terms c.in-Lemma.premises c.in-Lemma.is))

pub returns-in_ok-push_premises-in-Lemma-clause-opened : goal.returns-in_ok-push_premises-in-Lemma-clause-opened
returns-in_ok-push_premises-in-Lemma-clause-opened c = λ b e.
    let f = c.args.bank.now in
    let g = c.composed_terms-in-Lemma.new.bank in
    let u = c.args.unrolling.now in
    let made = u.made.now in
    let m : Made = c.entry_at.result.now in
    let task = c.args.task.now in
    let under = c.in_ok-under-in-Lemma.under.items in
    let old = reverse c.args.tasks.now.items in
    let new = reverse c.push_premises.new.tasks.items in
    let extends = c.composed_terms-in-Lemma.ensures.extends in
    let there = at_extends f g u.bot (app b none) extends (c.requires.unrolling.bot, e) in
    let below : All (λ p. p < task.entry) c.as_slice.result.now = subst (All (λ p. p < task.entry)) (sym c.as_slice.ensures)
    (All-weaker (λ p. (0 < p) × (p < task.entry)) (λ p. p < task.entry) (λ p k. k.1) c.in-Lemma.premises
    (premises_below f f no_symbol made c.requires.unrolling.entries task c.requires.task m c.entry_at.ensures c.in-Lemma.terms c.in-Lemma.premises c.in-Lemma.is)) in
    inl (record {
      opened = opened_lemma f g b made c.requires.unrolling.entries task c.requires.task m c.entry_at.ensures c.in-Lemma.terms c.in-Lemma.premises under old new c.in-Lemma.is c.in_ok-under-in-Lemma.ensures.trees
          (subst (λ (ids : List ℕ). AreOpened g b (entries_at f made) task.entry (flat_map (λ p. unrolled b (entries_at f made) p (under_terms b (map (tree_at g) ids))) c.in-Lemma.premises) old new) c.deref.ensures.value
          (subst (λ (ps : List ℕ). AreOpened g b (entries_at f made) task.entry (flat_map (λ p. unrolled b (entries_at f made) p (under_terms b (map (tree_at g) c.deref.result.now))) ps) old new) c.as_slice.ensures
          (subst (λ (ms : List TreeMade). AreOpened g b ms task.entry (flat_map (λ p. unrolled b ms p (under_terms b (map (tree_at g) c.deref.result.now))) c.as_slice.result.now) old new) (entries_same f g extends made c.requires.unrolling.entries)
          (c.in_ok-push_premises-in-Lemma.ensures.opened task.entry below b there.1))));
      kept = refl;
    })

pub returns-in_ok-push_premises-in-Lemma-clause-few : goal.returns-in_ok-push_premises-in-Lemma-clause-few
returns-in_ok-push_premises-in-Lemma-clause-few c =
    let m : Made = c.entry_at.result.now in
    let most = fan_within c.args.unrolling.now.made.now c.args.task.now.entry m c.entry_at.ensures in
    let same = ap fan c.in-Lemma.is in
    let count = ap (λ (ps : List ℕ). length ps) c.as_slice.ensures in
    omega (arith, c.in_ok-push_premises-in-Lemma.ensures.few, most, same, count)

pub returns-in_ok-push_premises-in-Lemma-clause-terms : goal.returns-in_ok-push_premises-in-Lemma-clause-terms
returns-in_ok-push_premises-in-Lemma-clause-terms c = λ constant h.
    let f = c.args.bank.now in
    let g = c.composed_terms-in-Lemma.new.bank in
    let made = c.args.unrolling.now.made.now in
    let old = c.args.tasks.now.items in
    let (later, ids) = c.in_ok-under-in-Lemma.ensures.terms old h in
    with_tasks g made old c.push_premises.new.tasks.items later
    (c.in_ok-push_premises-in-Lemma.ensures.plain g (subst (All (IsTermIn g)) (sym c.deref.ensures.value) ids) (term_stays f g c.composed_terms-in-Lemma.ensures.extends c.args.unrolling.now.bot (c.requires.unrolling.bot, constant)) later.waiting)
