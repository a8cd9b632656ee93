use Rattle.cert_front.proofs.Rewritings.{exact_rewriting}
use Rattle.cert_front.proofs.rewriting_file.rewrite_file.Goals as goal
use Rattle.tptp_load.specs.Includes.{path_of}

pub returns-clause-exact : goal.returns-clause-exact
returns-clause-exact g c =
    let told = (g.L.Library.told c.args.files.now).files in
    let before = (g.L.Library.told c.args.files.now).faults in
    let now = (g.L.Library.told c.rewrite_named.new.files).faults in
    exact_rewriting c.findings_are_one.ensures.checks told before now c.args.file.now (path_of c.args.problem) (path_of c.args.root) c.rewrite_named.result
    c.rewrite_named.ensures.rewritten c.rewrite_named.ensures.refused
