use Rattle.std.proofs.Common.{ℕ, ◌<◌, ◌++◌, ◌∷◌, [], length, refl, sym, subst, ap, ◌∙◌}
use Rattle.std.specs.Prelude.{Contains, IfSome}
use Rattle.inst_logic.specs.declared.signed.Signed.{Signed}
use Rattle.prop_logic.specs.Literal.{AtomsBelow}
use Rattle.global_subs.specs.Notes.{IsNotedAt}
use Rattle.global_subs.specs.Keeping.{AreKept, IsTrueIn}
use Rattle.global_subs.proofs.MoveLaws.{kept_notes, kept_loose, kept_again, added_at, added_loose}
use Rattle.std.proofs.lemmas.List.Elements.{All-contains}
use Rattle.compact_lists.specs.Codes.{code_of}
use Rattle.global_subs.proofs.KeptLaws.{room_for}
use Rattle.global_subs.proofs.turn.take_in.Goals as goal

pub returns-in_err-l-clause-kept : goal.returns-in_err-l-clause-kept
returns-in_err-l-clause-kept c = c.make_one_true.ensures.kept c.args.witnesses.now.loose.items c.requires.kept

pub returns-in_err-add-in-Some-clause-kept : goal.returns-in_err-add-in-Some-clause-kept
returns-in_err-add-in-Some-clause-kept c =
    let k = c.make_one_true.ensures.kept c.args.witnesses.now.loose.items c.requires.kept in
    kept_again c.args.clauses.now c.make_one_true.new.notes c.add.new.self c.make_one_true.new.values c.make_one_true.new.values c.args.witnesses.now.loose.items c.args.witnesses.now.loose.items k c.add.ensures.len refl
    (kept_notes c.args.clauses.now c.make_one_true.new.notes c.add.new.self c.make_one_true.new.values c.args.witnesses.now.loose.items c.add.ensures.keeps k.each)

pub returns-in_err-push-in-None-clause-kept : goal.returns-in_err-push-in-None-clause-kept
returns-in_err-push-in-None-clause-kept c =
    subst (AreKept c.args.clauses.now c.make_one_true.new.notes c.make_one_true.new.values) (sym c.in_err-push-in-None.ensures.items)
    (c.make_one_true.ensures.kept c.args.witnesses.now.loose.items c.requires.kept)

pub returns-in_ok-add-in-Some-clause-kept : goal.returns-in_ok-add-in-Some-clause-kept
returns-in_ok-add-in-Some-clause-kept c =
    let k = c.make_one_true.ensures.kept c.args.witnesses.now.loose.items c.requires.kept in
    kept_again c.args.clauses.now c.make_one_true.new.notes c.add.new.self c.make_one_true.new.values c.make_one_true.new.values c.args.witnesses.now.loose.items c.args.witnesses.now.loose.items k c.add.ensures.len refl
    (kept_notes c.args.clauses.now c.make_one_true.new.notes c.add.new.self c.make_one_true.new.values c.args.witnesses.now.loose.items c.add.ensures.keeps k.each)

pub returns-in_ok-add-in-Some-clause-next : goal.returns-in_ok-add-in-Some-clause-next
returns-in_ok-add-in-Some-clause-next c =
    let some = subst (λ o. IfSome o (λ l. Contains c.args.c.now l × IsTrueIn c.make_one_true.new.values l)) c.in-Some.is c.in_ok-l.ensures.some in
    let below : AtomsBelow (length c.make_one_true.new.values) c.args.c.now = subst (λ n. AtomsBelow n c.args.c.now) (sym c.make_one_true.ensures.width) c.requires.within in
    added_at c.args.clauses.now c.args.c.now c.make_one_true.new.notes c.add.new.self c.make_one_true.new.values below c.args.witnesses.now.loose.items c.in-Some.l some.0 some.1
    (subst (IsNotedAt c.add.new.self c.in-Some.l) c.len-k.ensures c.in_ok-add-in-Some.ensures.added) c.add.ensures.keeps c.add.ensures.len
    (c.make_one_true.ensures.kept c.args.witnesses.now.loose.items c.requires.kept)

pub returns-in_ok-push-in-None-clause-kept : goal.returns-in_ok-push-in-None-clause-kept
returns-in_ok-push-in-None-clause-kept c =
    let k = c.make_one_true.ensures.kept c.args.witnesses.now.loose.items c.requires.kept in
    subst (AreKept c.args.clauses.now c.make_one_true.new.notes c.make_one_true.new.values) (sym c.in_ok-push-in-None.ensures.items)
    (kept_again c.args.clauses.now c.make_one_true.new.notes c.make_one_true.new.notes c.make_one_true.new.values c.make_one_true.new.values c.args.witnesses.now.loose.items (c.args.witnesses.now.loose.items ++ c.len-k.result ∷ []) k refl refl
    (kept_loose c.args.clauses.now c.make_one_true.new.notes c.make_one_true.new.values c.args.witnesses.now.loose.items c.len-k.result k.each))

pub returns-in_ok-push-in-None-clause-next : goal.returns-in_ok-push-in-None-clause-next
returns-in_ok-push-in-None-clause-next c =
    let below : AtomsBelow (length c.make_one_true.new.values) c.args.c.now = subst (λ n. AtomsBelow n c.args.c.now) (sym c.make_one_true.ensures.width) c.requires.within in
    let items = c.in_ok-push-in-None.ensures.items ∙ ap (λ n. c.args.witnesses.now.loose.items ++ n ∷ []) c.len-k.ensures in
    subst (AreKept (c.args.clauses.now ++ c.args.c.now ∷ []) c.make_one_true.new.notes c.make_one_true.new.values) (sym items)
    (added_loose c.args.clauses.now c.args.c.now c.make_one_true.new.notes c.make_one_true.new.notes c.make_one_true.new.values below c.args.witnesses.now.loose.items
    (c.make_one_true.ensures.kept c.args.witnesses.now.loose.items c.requires.kept))

pub add-requires : goal.add-requires
add-requires c =
    let some = subst (λ o. IfSome o (λ l. Contains c.args.c.now l × IsTrueIn c.make_one_true.new.values l)) c.in-Some.is c.in_ok-l.ensures.some in
    let below : AtomsBelow (length c.make_one_true.new.values) c.args.c.now = subst (λ n. AtomsBelow n c.args.c.now) (sym c.make_one_true.ensures.width) c.requires.within in
    All-contains (λ (l : Signed ℕ). code_of l < length c.make_one_true.new.notes) c.args.c.now c.in-Some.l
    (room_for (length c.make_one_true.new.values) (length c.make_one_true.new.notes) c.args.c.now (c.make_one_true.ensures.kept c.args.witnesses.now.loose.items c.requires.kept).room below) some.0
