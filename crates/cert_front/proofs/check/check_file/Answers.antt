use Rattle.cert_front.proofs.Checks.{exact}
use Rattle.cert_front.proofs.check.check_file.Goals as goal
use Rattle.tptp_load.specs.Includes.{path_of}

pub returns-clause-exact : goal.returns-clause-exact
returns-clause-exact g c =
    let told = (g.L.Library.told c.args.files.now).files in
    let before = (g.L.Library.told c.args.files.now).faults in
    let now = (g.L.Library.told c.judge_file.new.files).faults in
    exact c.findings_are_one.ensures.checks told before now c.args.name.now (path_of c.args.problem) (path_of c.args.root) c.judge_file.result
    c.judge_file.ensures.judged c.judge_file.ensures.refused
