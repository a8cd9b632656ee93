use Rattle.std.proofs.Common.{rules, inl}
use Rattle.term_bank.specs.Forest.{tree_at}
use Rattle.unify_core.specs.Terms.{AreOfOneKind}
use Rattle.unify_core.specs.declared.side.Side.TheVariants.{Left}
use Rattle.instgen_run.specs.Running.{MayInfer}
use Rattle.instgen_run.specs.Deciding.{held_value}
use Rattle.instgen_run.proofs.Works.{goes_rebound, selected_stays, selected_within}
use Rattle.instgen_run.proofs.Decisions.{decided_here, may_held, entries_read, places_read}
use Rattle.instgen_run.proofs.open_conclusions.decide_one.Goals as goal

pub uncovered_size-requires-clause-unified : goal.uncovered_size-requires-clause-unified
uncovered_size-requires-clause-unified g c =
    let old = c.args.run.now in
    let kinds : AreOfOneKind (tree_at old.entries.bank c.selected_atom-a.result) (tree_at old.entries.bank c.selected_atom-b.result) =
    inl ((selected_within old c.args.held.from c.selected_atom-a.result c.requires.safe.entries c.selected_atom-a.ensures).1, (selected_within old c.args.held.partner c.selected_atom-b.result c.requires.safe.entries c.selected_atom-b.ensures).1) in
    let (s, resolved, general) = c.in_ok-unify.ensures.yes (search rules) in
    record {
      bindings = c.in_ok-unify.ensures.bindings (search rules);
      terms = c.in_ok-unify.ensures.terms (search rules) kinds;
      left = tree_at old.entries.bank c.selected_atom-a.result;
      right = tree_at old.entries.bank c.selected_atom-b.result;
      left_atom = (selected_within old c.args.held.from c.selected_atom-a.result c.requires.safe.entries c.selected_atom-a.ensures).1;
      right_atom = (selected_within old c.args.held.partner c.selected_atom-b.result c.requires.safe.entries c.selected_atom-b.ensures).1;
      unifier = s;
      resolved = resolved;
      most_general = general;
    }

pub returns-clause-decision : goal.returns-clause-decision
returns-clause-decision g c =
    let old = c.args.run.now in
    let mid = record old { bindings = c.unify.new.self } in
    let new = c.uncovered_size.new.run in
    let h = held_value c.args.held in
    let a = c.selected_atom-a.result in
    let b = c.selected_atom-b.result in
    let still = c.is_still_selected.ensures.yes (search rules) in
    let rebound = goes_rebound old c.unify.new.self in
    let first = selected_stays old mid rebound c.requires.safe.entries c.args.held.from a c.selected_atom-a.ensures in
    let second = selected_stays old mid rebound c.requires.safe.entries c.args.held.partner b c.selected_atom-b.ensures in
    let (s, resolved, general) = c.in_ok-unify.ensures.yes (search rules) in
    let (clause, k) = c.requires.held in
    let m : MayInfer mid Left c.args.held.from c.args.held.partner = may_held mid h clause k still a b first second s resolved general in
    let u = c.in_ok-size.ensures in
    decided_here mid h still m new (entries_read mid new u.reads c.requires.safe.entries) (places_read mid new u.reads) (clause, k) c.in_ok-size.size (u.size c.args.held.partner m)
