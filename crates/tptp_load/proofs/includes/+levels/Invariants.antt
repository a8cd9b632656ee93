use Rattle.std.proofs.Common.{◌≡◌, ◌≤◌, ◌+◌, ◌*◌, All}
use Rattle.std.specs.Vec.Iter.{into_iter_items}
use Rattle.tptp_read.specs.Names.{HasReadableNames}
use Rattle.tptp_read.specs.Text.{IsFormedStatement}
use Rattle.tptp_load.specs.Parts.{Including, IsGathered}
use Rattle.tptp_load.proofs.Parts.{Went}
use Rattle.tptp_load.proofs.includes.+levels.Given as goal
use Rattle.tptp_load.specs.Includes.{path_of}

abbrev pub decreases-add_file : goal.decreases-add_file
decreases-add_file g l = l.site.now.levels * 5 + 2

abbrev pub decreases-add_included : goal.decreases-add_included
decreases-add_included g l = l.site.now.levels * 5 + 3

abbrev pub decreases-add_selected : goal.decreases-add_selected
decreases-add_selected g l = l.site.now.levels * 5 + 4

abbrev pub decreases-add_statement : goal.decreases-add_statement
decreases-add_statement g l = l.site.now.levels * 5

abbrev pub decreases-add_statements : goal.decreases-add_statements
decreases-add_statements g l = l.site.now.levels * 5 + 1

abbrev pub invariant-add_statements-loop-statement : goal.invariant-add_statements-loop-statement
invariant-add_statements-loop-statement g l =
    (goal.iterator-add_statements-loop-statement g).can_next l.statement-iterator ×
    (goal.iterator-add_statements-loop-statement g).is_finite l.statement-iterator ×
    record {
      same_files : (g.L.Library.told l.files).files ≡ (g.L.Library.told l.initial.files).files;
      later : (g.L.Library.told l.initial.files).faults ≤ (g.L.Library.told l.files).faults;
      good : IsGathered l.gathered.stated.items l.gathered.used;
      formed : All IsFormedStatement (into_iter_items l.statement-iterator);
      names : All HasReadableNames (into_iter_items l.statement-iterator);
      went : Went (g.L.Library.told l.initial.files).files (λ told. Including told (path_of l.site.root) l.site.levels) l.site.name.now l.initial.gathered.used l.fn.statements l.initial.gathered.stated.items l.gathered.stated.items l.gathered.used (into_iter_items l.statement-iterator);
    }
