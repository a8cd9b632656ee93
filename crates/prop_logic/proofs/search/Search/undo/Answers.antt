use Rattle.std.proofs.Common.{◌≡◌, ◌≢◌, ◌+◌, ◌-◌, not, length, Some, refl, sym, ap, ◌∙◌, subst, arith}
use Rattle.std.specs.Prelude.{All, Contains}
use Rattle.std.proofs.lemmas.Option.{slice_get-get_or}
use Rattle.prop_logic.specs.declared.literal.Hint.TheVariants.{Step as Earlier}
use Rattle.prop_logic.specs.declared.search.Search.{Search}
use Rattle.prop_logic.specs.Literal.{cited}
use Rattle.prop_logic.specs.Search.{IsSearch, Undoes, literal_of}
use Rattle.prop_logic.proofs.PlainLaws.{IsTop, IsLearned, top_search, skip_undoes, learn_both, turn_both, both_ok, on_ok}
use Rattle.prop_logic.proofs.search.Search.undo.Goals as goal

pub returns-then-not-contains-clause-search : goal.returns-then-not-contains-clause-search
returns-then-not-contains-clause-search c =
    let s = c.args.self.now in
    let es = s.entries.items in
    let m : Search = record { atoms = s.atoms; entries = c.truncate.new.self; steps = s.steps } in
    let p = c.len-place.result - 1 in
    let e = c.index-entry.result.now in
    let size : length es ≡ p + 1 = omega (arith, c.len-place.ensures, c.requires.some, s.entries.ok.0) in
    let conflict = c.requires.conflict in
    let t : IsTop c.args.clauses.now c.args.assumptions.now s m p e c.args.conflict conflict.0 =
    record {
      search = c.requires.search;
      low = c.requires.assumptions;
      size = size;
      at = slice_get-get_or es p e (omega (arith, size)) ∙ ap Some (sym c.index-entry.ensures);
      named = conflict.1;
      all = conflict.2;
      atoms = refl;
      steps = refl;
      entries = c.truncate.ensures.items;
    } in
    let read = c.cited_clause.ensures conflict.0 (ap (λ ss. cited c.args.clauses.now ss c.args.conflict) c.as_slice.ensures ∙ conflict.1) in
    top_search c.args.clauses.now c.args.assumptions.now s m p e c.args.conflict conflict.0 t

pub returns-then-not-contains-clause-undone : goal.returns-then-not-contains-clause-undone
returns-then-not-contains-clause-undone c =
    let s = c.args.self.now in
    let es = s.entries.items in
    let m : Search = record { atoms = s.atoms; entries = c.truncate.new.self; steps = s.steps } in
    let p = c.len-place.result - 1 in
    let e = c.index-entry.result.now in
    let size : length es ≡ p + 1 = omega (arith, c.len-place.ensures, c.requires.some, s.entries.ok.0) in
    let conflict = c.requires.conflict in
    let t : IsTop c.args.clauses.now c.args.assumptions.now s m p e c.args.conflict conflict.0 =
    record {
      search = c.requires.search;
      low = c.requires.assumptions;
      size = size;
      at = slice_get-get_or es p e (omega (arith, size)) ∙ ap Some (sym c.index-entry.ensures);
      named = conflict.1;
      all = conflict.2;
      atoms = refl;
      steps = refl;
      entries = c.truncate.ensures.items;
    } in
    let read = c.cited_clause.ensures conflict.0 (ap (λ ss. cited c.args.clauses.now ss c.args.conflict) c.as_slice.ensures ∙ conflict.1) in
    skip_undoes c.args.clauses.now c.args.assumptions.now s m p e c.args.conflict conflict.0 t (subst (All (λ l. l ≢ literal_of p (not e.value))) read c.if-not-contains.ensures)

pub returns-in_ok-learn-in-Some-clause-search : goal.returns-in_ok-learn-in-Some-clause-search
returns-in_ok-learn-in-Some-clause-search c =
    let s = c.args.self.now in
    let es = s.entries.items in
    let m : Search = record { atoms = s.atoms; entries = c.truncate.new.self; steps = s.steps } in
    let p = c.len-place.result - 1 in
    let e = c.index-entry.result.now in
    let size : length es ≡ p + 1 = omega (arith, c.len-place.ensures, c.requires.some, s.entries.ok.0) in
    let conflict = c.requires.conflict in
    let t : IsTop c.args.clauses.now c.args.assumptions.now s m p e c.args.conflict conflict.0 =
    record {
      search = c.requires.search;
      low = c.requires.assumptions;
      size = size;
      at = slice_get-get_or es p e (omega (arith, size)) ∙ ap Some (sym c.index-entry.ensures);
      named = conflict.1;
      all = conflict.2;
      atoms = refl;
      steps = refl;
      entries = c.truncate.ensures.items;
    } in
    let read = c.cited_clause.ensures conflict.0 (ap (λ ss. cited c.args.clauses.now ss c.args.conflict) c.as_slice.ensures ∙ conflict.1) in
    let f = c.in_ok-learn-in-Some.ensures in
    let l : IsLearned c.args.clauses.now m c.learn.new.self p c.in-Some.reason c.args.conflict = record { steps = f.steps; entries = ap (λ v. v.items) f.entries; atoms = f.atoms } in
    let both = learn_both c.args.clauses.now c.args.assumptions.now s m c.learn.new.self p e c.in-Some.reason c.args.conflict conflict.0 t c.in-Some.is l in
    both.0

pub returns-in_ok-learn-in-Some-clause-undone : goal.returns-in_ok-learn-in-Some-clause-undone
returns-in_ok-learn-in-Some-clause-undone c =
    let s = c.args.self.now in
    let es = s.entries.items in
    let m : Search = record { atoms = s.atoms; entries = c.truncate.new.self; steps = s.steps } in
    let p = c.len-place.result - 1 in
    let e = c.index-entry.result.now in
    let size : length es ≡ p + 1 = omega (arith, c.len-place.ensures, c.requires.some, s.entries.ok.0) in
    let conflict = c.requires.conflict in
    let t : IsTop c.args.clauses.now c.args.assumptions.now s m p e c.args.conflict conflict.0 =
    record {
      search = c.requires.search;
      low = c.requires.assumptions;
      size = size;
      at = slice_get-get_or es p e (omega (arith, size)) ∙ ap Some (sym c.index-entry.ensures);
      named = conflict.1;
      all = conflict.2;
      atoms = refl;
      steps = refl;
      entries = c.truncate.ensures.items;
    } in
    let read = c.cited_clause.ensures conflict.0 (ap (λ ss. cited c.args.clauses.now ss c.args.conflict) c.as_slice.ensures ∙ conflict.1) in
    let f = c.in_ok-learn-in-Some.ensures in
    let l : IsLearned c.args.clauses.now m c.learn.new.self p c.in-Some.reason c.args.conflict = record { steps = f.steps; entries = ap (λ v. v.items) f.entries; atoms = f.atoms } in
    let both = learn_both c.args.clauses.now c.args.assumptions.now s m c.learn.new.self p e c.in-Some.reason c.args.conflict conflict.0 t c.in-Some.is l in
    subst (λ n. Undoes c.args.clauses.now c.args.assumptions.now s c.learn.new.self (Some (Earlier n))) (sym c.len.ensures) both.1

pub returns-in-None-clause-search : goal.returns-in-None-clause-search
returns-in-None-clause-search c =
    let s = c.args.self.now in
    let es = s.entries.items in
    let m : Search = record { atoms = s.atoms; entries = c.truncate.new.self; steps = s.steps } in
    let p = c.len-place.result - 1 in
    let e = c.index-entry.result.now in
    let size : length es ≡ p + 1 = omega (arith, c.len-place.ensures, c.requires.some, s.entries.ok.0) in
    let conflict = c.requires.conflict in
    let t : IsTop c.args.clauses.now c.args.assumptions.now s m p e c.args.conflict conflict.0 =
    record {
      search = c.requires.search;
      low = c.requires.assumptions;
      size = size;
      at = slice_get-get_or es p e (omega (arith, size)) ∙ ap Some (sym c.index-entry.ensures);
      named = conflict.1;
      all = conflict.2;
      atoms = refl;
      steps = refl;
      entries = c.truncate.ensures.items;
    } in
    let read = c.cited_clause.ensures conflict.0 (ap (λ ss. cited c.args.clauses.now ss c.args.conflict) c.as_slice.ensures ∙ conflict.1) in
    let u = c.turn.new.self in
    let here = subst (λ xs. Contains xs (literal_of p (not e.value))) read c.if-not-contains.ensures in
    let both = both_ok c.turn.result _ _ (λ found. IsSearch c.args.clauses.now c.args.assumptions.now u × Undoes c.args.clauses.now c.args.assumptions.now s u found) (λ found stays turned. turn_both c.args.clauses.now c.args.assumptions.now s m u p e c.args.conflict conflict.0 found t c.in-None.is here c.turn.ensures.atoms c.turn.ensures.steps stays turned) c.turn.ensures.stays c.turn.ensures.turned in
    on_ok c.turn.result (IsSearch c.args.clauses.now c.args.assumptions.now u) (both_ok c.turn.result _ _ (λ found. IsSearch c.args.clauses.now c.args.assumptions.now u) (λ found x y. x.0) both both)

pub returns-in-None-clause-undone : goal.returns-in-None-clause-undone
returns-in-None-clause-undone c =
    let s = c.args.self.now in
    let es = s.entries.items in
    let m : Search = record { atoms = s.atoms; entries = c.truncate.new.self; steps = s.steps } in
    let p = c.len-place.result - 1 in
    let e = c.index-entry.result.now in
    let size : length es ≡ p + 1 = omega (arith, c.len-place.ensures, c.requires.some, s.entries.ok.0) in
    let conflict = c.requires.conflict in
    let t : IsTop c.args.clauses.now c.args.assumptions.now s m p e c.args.conflict conflict.0 =
    record {
      search = c.requires.search;
      low = c.requires.assumptions;
      size = size;
      at = slice_get-get_or es p e (omega (arith, size)) ∙ ap Some (sym c.index-entry.ensures);
      named = conflict.1;
      all = conflict.2;
      atoms = refl;
      steps = refl;
      entries = c.truncate.ensures.items;
    } in
    let read = c.cited_clause.ensures conflict.0 (ap (λ ss. cited c.args.clauses.now ss c.args.conflict) c.as_slice.ensures ∙ conflict.1) in
    let u = c.turn.new.self in
    let here = subst (λ xs. Contains xs (literal_of p (not e.value))) read c.if-not-contains.ensures in
    let both = both_ok c.turn.result _ _ (λ found. IsSearch c.args.clauses.now c.args.assumptions.now u × Undoes c.args.clauses.now c.args.assumptions.now s u found) (λ found stays turned. turn_both c.args.clauses.now c.args.assumptions.now s m u p e c.args.conflict conflict.0 found t c.in-None.is here c.turn.ensures.atoms c.turn.ensures.steps stays turned) c.turn.ensures.stays c.turn.ensures.turned in
    both_ok c.turn.result _ _ (Undoes c.args.clauses.now c.args.assumptions.now s u) (λ found x y. x.1) both both
