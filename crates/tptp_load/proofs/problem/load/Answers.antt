use Rattle.std.proofs.Common.{[], Some, sym, subst}
use Rattle.tptp_load.specs.Loading.{Loading, last_level}
use Rattle.tptp_load.specs.Problems.{IsGoodProblem}
use Rattle.tptp_load.specs.Reading.{IsHeld}
use Rattle.tptp_load.specs.Parts.{Adds}
use Rattle.tptp_load.proofs.Loads.{part_loads, good_problem}
use Rattle.tptp_load.proofs.problem.load.Goals as goal
use Rattle.tptp_load.specs.Includes.{path_of}

pub returns-clause-loads : goal.returns-clause-loads
returns-clause-loads g c =
    let held : IsHeld (g.L.Library.told c.args.files.now).files c.args.name.now 0 (Some c.in-Some.bytes) = subst (IsHeld (g.L.Library.told c.args.files.now).files c.args.name.now 0) c.in-Some.is c.in_ok-bytes.ensures.ok in
    part_loads (g.L.Library.told c.args.files.now).files c.args.name.now c.in-Some.bytes (path_of c.args.root) c.add_file.new.gathered.stated.items c.add_file.new.gathered.used c.in_ok-problem_of.field-0 held
    (subst (λ F. Adds F (λ told. Loading told (path_of c.args.root) last_level 0 c.args.name.now c.in-Some.bytes) [] c.add_file.new.gathered.stated.items c.add_file.new.gathered.used) c.in_ok-bytes.ensures.follows.files
    (subst (λ l. Adds (g.L.Library.told c.read_named.new.files).files (λ told. Loading told (path_of c.args.root) last_level 0 c.args.name.now c.in-Some.bytes) l c.add_file.new.gathered.stated.items c.add_file.new.gathered.used) c.new.ensures.items c.in_ok-add_file.ensures.ok))
    c.in_ok-problem_of.ensures

pub returns-clause-good : goal.returns-clause-good
returns-clause-good g c = subst IsGoodProblem (sym c.in_ok-problem_of.ensures) (good_problem c.add_file.new.gathered.stated.items c.in_ok-add_file.ensures.good.good)
