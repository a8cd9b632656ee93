use Rattle.std.proofs.Common.{◌≡◌, length, take}
use Rattle.std.specs.Prelude.{All}
use Rattle.ground_abs.specs.Abstracts.{Grows}
use Rattle.global_subs.specs.Notes.{KeepsNotes, numbers_at}
use Rattle.global_subs.specs.Keeping.{IsPlaced}
use Rattle.global_subs.proofs.force.place_all.Given as goal

abbrev pub invariant-loop-i : goal.invariant-loop-i
invariant-loop-i l = record {
  len : length l.notes ≡ length l.initial.notes;
  keeps : KeepsNotes l.initial.notes l.notes;
  same : numbers_at l.notes l.from ≡ numbers_at l.initial.notes l.from;
  loose : Grows l.initial.loose.items l.loose.items;
  placed : All (IsPlaced l.clauses l.notes l.values l.loose.items) (take l.i (numbers_at l.initial.notes l.from));
}
