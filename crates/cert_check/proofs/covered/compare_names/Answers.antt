use Rattle.std.proofs.Common.{ℕ, subst, sym}
use Rattle.std.specs.Prelude.{IfErr, OnOk}
use Rattle.cert_format.specs.Certificate as format
use Rattle.cert_format.specs.Validity.{CoversPass, IsNamed, IsShownInput}
use Rattle.cert_values.specs.Values.{covered_of}
use Rattle.cert_values.proofs.Kept.{covered_same}
use Rattle.cert_check.specs.Answers.{IsCheckCause}
use Rattle.cert_check.proofs.Bases.{none_wrong, some_wrong}
use Rattle.cert_check.proofs.CoverGrowth.{comparable_kept, covered_trans}
use Rattle.cert_check.proofs.CoveredStages.{input_first}
use Rattle.cert_check.proofs.covered.compare_names.Goals as goal

pub returns-in-Some-clause-complaint : goal.returns-in-Some-clause-complaint
returns-in-Some-clause-complaint c =
    input_first (covered_of c.args.cert.now) c.requires.comparable.base c.requires.comparable.placed c.in-Some.k (some_wrong _ c.in_ok-k.field-0 c.in-Some.k c.in_ok-k.ensures.first c.in-Some.is)

pub compare_due-requires-clause-comparable : goal.compare_due-requires-clause-comparable
compare_due-requires-clause-comparable c = comparable_kept c.args.cert.now c.wrong_shown.new.cert c.requires.comparable c.wrong_shown.ensures.kept c.in_ok-k.ensures.whole

pub compare_due-requires-clause-shown : goal.compare_due-requires-clause-shown
compare_due-requires-clause-shown c =
    subst (λ (x : format.Covered). (k : ℕ) → IsShownInput x k) (sym (covered_same c.args.cert.now c.wrong_shown.new.cert c.requires.comparable.whole c.wrong_shown.ensures.kept))
    (none_wrong _ c.in_ok-k.field-0 c.in_ok-k.ensures.first c.in_default.not-Some)

pub returns-clause-kept : goal.returns-clause-kept
returns-clause-kept c = covered_trans c.args.cert.now c.wrong_shown.new.cert c.compare_due.new.cert c.wrong_shown.ensures.kept c.compare_due.ensures.kept

pub returns-clause-named : goal.returns-clause-named
returns-clause-named c =
    subst (λ (x : format.Covered). OnOk c.compare_due.result (IsNamed x)) (covered_same c.args.cert.now c.wrong_shown.new.cert c.requires.comparable.whole c.wrong_shown.ensures.kept) c.compare_due.ensures.named

pub returns-clause-complaint : goal.returns-clause-complaint
returns-clause-complaint c =
    subst (λ (x : format.Covered). IfErr c.compare_due.result (IsCheckCause (CoversPass x))) (covered_same c.args.cert.now c.wrong_shown.new.cert c.requires.comparable.whole c.wrong_shown.ensures.kept) c.compare_due.ensures.complaint
