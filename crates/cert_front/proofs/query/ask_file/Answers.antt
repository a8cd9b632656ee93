use Rattle.inst_logic.specs.LiteralView.{literal}
use Rattle.cert_front.proofs.Queries.{exact}
use Rattle.cert_front.proofs.query.ask_file.Goals as goal

pub returns-clause-exact : goal.returns-clause-exact
returns-clause-exact g c =
    let told = (g.L.Library.told c.args.files.now).files in
    let before = (g.L.Library.told c.args.files.now).faults in
    let now = (g.L.Library.told c.reply_of_file.new.files).faults in
    exact c.findings_are_one.ensures.replies told before now c.args.name.now (literal c.args.atom.now).atom c.reply_of_file.result c.reply_of_file.ensures.replied c.reply_of_file.ensures.refused
