use Rattle.std.proofs.Common.{◌≡◌, length, not, subst, ap, ◌∙◌, length-set}
use Rattle.std.specs.Prelude.{All}
use Rattle.inst_logic.specs.Signed.{complement}
use Rattle.global_subs.specs.Notes.{numbers_at, KeepsOthers}
use Rattle.global_subs.specs.Keeping.{IsPlaced}
use Rattle.global_subs.proofs.ValueLaws.{value_back}
use Rattle.global_subs.proofs.MoveLaws.{kept_notes, kept_values, kept_again}
use Rattle.global_subs.proofs.KeptLaws.{have_room}
use Rattle.global_subs.proofs.RepairLaws.{kept_front, forced}
use Rattle.global_subs.proofs.force.force.Goals as goal

pub place_all-requires-clause-room : goal.place_all-requires-clause-room
place_all-requires-clause-room c = have_room (length c.args.witnesses.now.values) (length c.args.witnesses.now.notes) c.args.clauses.now c.requires.kept.room c.requires.kept.below

pub returns-in-Err-clause-kept : goal.returns-in-Err-clause-kept
returns-in-Err-clause-kept c =
    let k = c.requires.kept in
    let back = value_back c.args.witnesses.now.values c.set.new.self c.set-in-Err.new.self c.args.l c.requires.within c.requires.untrue c.set.ensures c.set-in-Err.ensures in
    let width : length c.set-in-Err.new.self ≡ length c.args.witnesses.now.values =
    ap length c.set-in-Err.ensures ∙ length-set c.set.new.self c.args.l.atom (not c.args.l.positive) ∙ ap length c.set.ensures ∙ length-set c.args.witnesses.now.values c.args.l.atom c.args.l.positive in
    kept_again c.args.clauses.now c.args.witnesses.now.notes c.place_all.new.notes c.args.witnesses.now.values c.set-in-Err.new.self c.args.witnesses.now.loose.items c.place_all.new.loose.items k c.place_all.ensures.len width
    (kept_front c.args.clauses.now c.place_all.new.notes c.set-in-Err.new.self c.args.witnesses.now.loose.items c.place_all.new.loose.items c.place_all.ensures.loose
    (kept_notes c.args.clauses.now c.args.witnesses.now.notes c.place_all.new.notes c.set-in-Err.new.self c.args.witnesses.now.loose.items c.place_all.ensures.keeps
    (kept_values c.args.clauses.now c.args.witnesses.now.notes c.args.witnesses.now.values c.set-in-Err.new.self c.args.witnesses.now.loose.items back k.each)))

pub returns-in-Ok-clause-kept : goal.returns-in-Ok-clause-kept
returns-in-Ok-clause-kept c =
    let k = c.requires.kept in
    let same : c.complement-other.result ≡ complement c.args.l = c.complement-other.ensures in
    let width : length c.set.new.self ≡ length c.args.witnesses.now.values = ap length c.set.ensures ∙ length-set c.args.witnesses.now.values c.args.l.atom c.args.l.positive in
    kept_again c.args.clauses.now c.args.witnesses.now.notes c.clear.new.self c.args.witnesses.now.values c.set.new.self c.args.witnesses.now.loose.items c.place_all.new.loose.items k (c.clear.ensures.len ∙ c.place_all.ensures.len) width
    (forced c.args.clauses.now c.args.witnesses.now.notes c.place_all.new.notes c.clear.new.self c.args.witnesses.now.values c.set.new.self c.args.l c.args.witnesses.now.loose.items c.place_all.new.loose.items
    c.requires.within c.requires.untrue c.set.ensures c.place_all.ensures.keeps c.place_all.ensures.loose
    (subst (λ l. All (IsPlaced c.args.clauses.now c.place_all.new.notes c.set.new.self c.place_all.new.loose.items) (numbers_at c.args.witnesses.now.notes l)) same c.in-Ok.ensures.placed)
    (subst (KeepsOthers c.place_all.new.notes c.clear.new.self) same c.clear.ensures.others) k.each)
