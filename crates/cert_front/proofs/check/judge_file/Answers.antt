use Rattle.cert_reader.specs.Reads.{value_of}
use Rattle.cert_front.proofs.Followed.{unjudged}
use Rattle.cert_front.proofs.check.judge_file.Goals as goal
use Rattle.tptp_load.specs.Includes.{path_of}

pub returns-in-Ok-clause-refused : goal.returns-in-Ok-clause-refused
returns-in-Ok-clause-refused g c =
    unjudged (g.L.Library.told c.args.files.now) (g.L.Library.told c.read_file.new.files) c.read_file.ensures.follows (g.L.Library.told c.judge_for.new.files).faults c.args.name.now
    (path_of c.args.problem) (path_of c.args.root) (value_of c.in-Ok.certificate) c.in-Ok.ensures.read c.judge_for.result c.judge_for.ensures.refused
