use Rattle.std.proofs.Common.{◌≡◌, ◌∷◌, [], ◌∙◌, arith, refl}
use Rattle.std.proofs.lemmas.Result.{err_from_is_err_and}
use Rattle.std.proofs.lemmas.List.Elements.{All-rest, All-same}
use Rattle.std.proofs.lemmas.Grind.{common_steps}
use Rattle.std.specs.Vec.Iter.{into_iter_items}
use Rattle.tptp_read.specs.Names.{HasReadableNames}
use Rattle.tptp_read.specs.Text.{IsFormedStatement}
use Rattle.tptp_load.specs.Parts.{Including}
use Rattle.tptp_load.proofs.Parts.{file_text_cause, file_cause_at, file_adds_at, included_lost, good_selected_at, went_first, went_more, went_done, went_cause}
use Rattle.tptp_load.proofs.includes.+levels.Goals as goal
use Rattle.tptp_load.specs.Includes.{path_of}

pub add_file-returns-in_err-statements-clause-err : goal.add_file-returns-in_err-statements-clause-err
add_file-returns-in_err-statements-clause-err g t c =
    let p = err_from_is_err_and c.from_residual.result c.from_residual.ensures.1 in
    rw (p.1, p.2) (file_text_cause (g.L.Library.told c.args.files.now).files (path_of c.args.site.now.root) c.args.site.now.levels c.args.gathered.now.used c.args.site.now.name.now c.args.bytes _ _ c.in_err-statements.field-0.0 c.requires.fits c.in_err-statements.ensures.err)

pub add_file-returns-clause-ok : goal.add_file-returns-clause-ok
add_file-returns-clause-ok g t c =
    file_adds_at c.add_statements.result (g.L.Library.told c.args.files.now).files (path_of c.args.site.now.root) c.args.site.now.levels c.args.gathered.now.used c.args.site.now.name.now c.args.bytes c.in_ok-statements.statements _ _ _ c.len.result c.len.ensures c.requires.fits c.in_ok-statements.ensures.readable c.add_statements.ensures.ok

pub add_file-returns-clause-err : goal.add_file-returns-clause-err
add_file-returns-clause-err g t c =
    file_cause_at c.add_statements.result (g.L.Library.told c.args.files.now).files (path_of c.args.site.now.root) c.args.site.now.levels c.args.gathered.now.used c.args.site.now.name.now c.args.bytes c.in_ok-statements.statements _ _ c.len.result c.len.ensures c.requires.fits c.in_ok-statements.ensures.readable c.add_statements.ensures.err

pub add_included-returns-in_err-name-clause-err : goal.add_included-returns-in_err-name-clause-err
add_included-returns-in_err-name-clause-err g t c =
    let p = err_from_is_err_and c.from_residual.result c.from_residual.ensures.1 in
    rw (p.1, p.2) (included_lost (g.L.Library.told c.args.files.now).files (path_of c.args.site.now.root) c.args.site.now.levels c.args.gathered.now.used c.args.site.now.name.now c.args.file.now _ _ c.in_err-name.field-0.0 c.in_err-name.ensures.err)

pub add_selected-returns-clause-good : goal.add_selected-returns-clause-good
add_selected-returns-clause-good g t c =
    good_selected_at c.select.result c.args.gathered.now.stated.items c.add_included.new.gathered.stated.items c.select.new.stated.items c.args.names.now c.args.gathered.now.used c.add_included.new.gathered.used c.requires.good c.in_ok-add_included.ensures.good c.select.ensures.added

pub add_statements-loop-statement-init : goal.add_statements-loop-statement-init
add_statements-loop-statement-init g t c =
    let items : into_iter_items c.into_iter-statement-iterator.result ≡ c.args.statements = grind (arith, common_steps) in (
      tt,
      tt,
      record {
        same_files = refl;
        later = omega arith;
        good = c.requires.good;
        formed = All-same IsFormedStatement _ _ items c.requires.formed;
        names = All-same HasReadableNames _ _ items c.requires.names;
        went = rw items (went_first (g.L.Library.told c.args.files.now).files (λ told. Including told (path_of c.args.site.now.root) c.args.site.now.levels) c.args.site.now.name.now c.args.gathered.now.used c.args.statements c.args.gathered.now.stated.items);
      },
    )

pub add_statements-loop-statement-preserved : goal.add_statements-loop-statement-preserved
add_statements-loop-statement-preserved g t c =
    let items : into_iter_items c.loop-statement.statement-iterator ≡ c.in-Some.statement ∷ into_iter_items c.next.new.self = grind (arith, common_steps) in
    let inv = c.loop-statement.invariant.2 in (
      tt,
      tt,
      record {
        same_files = c.in_ok-add_statement.ensures.follows.files ∙ inv.same_files;
        later = omega (arith, inv.later, c.in_ok-add_statement.ensures.follows.later);
        good = c.in_ok-add_statement.ensures.good;
        formed = All-rest IsFormedStatement _ _ _ items inv.formed;
        names = All-rest HasReadableNames _ _ _ items inv.names;
        went = went_more (g.L.Library.told c.args.files.now).files (λ told. Including told (path_of c.args.site.now.root) c.args.site.now.levels) c.args.site.now.name.now c.args.gathered.now.used c.args.statements c.args.gathered.now.stated.items c.loop-statement.gathered.stated.items c.loop-statement.gathered.used c.in-Some.statement (into_iter_items c.next.new.self) c.add_statement.new.gathered.stated.items c.add_statement.new.gathered.used (rw items at inv.went) (rw inv.same_files at c.in_ok-add_statement.ensures.ok);
      },
    )

pub add_statements-returns-in_err-add_statement-clause-err : goal.add_statements-returns-in_err-add_statement-clause-err
add_statements-returns-in_err-add_statement-clause-err g t c =
    let items : into_iter_items c.loop-statement.statement-iterator ≡ c.in-Some.statement ∷ into_iter_items c.next.new.self = grind (arith, common_steps) in
    let inv = c.loop-statement.invariant.2 in
    let p = err_from_is_err_and c.from_residual.result c.from_residual.ensures.1 in
    rw (p.1, p.2) (went_cause (g.L.Library.told c.args.files.now).files (λ told. Including told (path_of c.args.site.now.root) c.args.site.now.levels) c.args.site.now.name.now c.args.gathered.now.used c.args.statements c.args.gathered.now.stated.items c.loop-statement.gathered.stated.items c.loop-statement.gathered.used c.in-Some.statement (into_iter_items c.next.new.self) (g.L.Library.told c.args.files.now).faults (g.L.Library.told c.loop-statement.files).faults _ c.in_err-add_statement.field-0.0 inv.later (rw items at inv.went) (rw inv.same_files at c.in_err-add_statement.ensures.err))

pub add_statements-returns-clause-ok : goal.add_statements-returns-clause-ok
add_statements-returns-clause-ok g t c =
    let items : into_iter_items c.loop-statement.statement-iterator ≡ [] = grind (arith, common_steps) in
    let inv = c.loop-statement.invariant.2 in
    went_done (g.L.Library.told c.args.files.now).files (λ told. Including told (path_of c.args.site.now.root) c.args.site.now.levels) c.args.site.now.name.now c.args.gathered.now.used c.args.statements c.args.gathered.now.stated.items c.loop-statement.gathered.stated.items c.loop-statement.gathered.used (rw items at inv.went)
