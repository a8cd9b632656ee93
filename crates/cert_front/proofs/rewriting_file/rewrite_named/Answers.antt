use Rattle.std.proofs.Common.{List, Option, subst}
use Rattle.std.proofs.lemmas.Result.{IfOk-weaker}
use Rattle.outside_io.specs.declared.library.NamedFile.{NamedFile}
use Rattle.cert_reader.specs.Reads.{value_of}
use Rattle.cert_front.specs.Rewritings.{IsRewrittenAs}
use Rattle.cert_front.proofs.Followed.{unjudged}
use Rattle.cert_front.proofs.Rewritings.{certificate_in, of_file}
use Rattle.cert_front.proofs.rewriting_file.rewrite_named.Goals as goal
use Rattle.tptp_load.specs.Includes.{path_of}

pub rewrite_for-requires-clause-printable : goal.rewrite_for-requires-clause-printable
rewrite_for-requires-clause-printable g c = (c.in-Ok.read.format, c.in-Ok.ensures.read.text.printable)

pub returns-in-Ok-clause-rewritten : goal.returns-in-Ok-clause-rewritten
returns-in-Ok-clause-rewritten g c =
    let problem = path_of c.args.problem in
    let root = path_of c.args.root in
    let read = c.in-Ok.read in
    let old = (g.L.Library.told c.args.files.now).files in
    IfOk-weaker c.rewrite_for.result _ _
    (λ rewriting so. of_file old c.args.file.now problem root read.format read.name (value_of read.cert) rewriting c.in-Ok.ensures.read
    (subst (λ (fs : Option (List NamedFile)). IsRewrittenAs fs problem root read.name (value_of read.cert) rewriting) c.read_named.ensures.follows.files so)) c.rewrite_for.ensures.rewritten

pub returns-in-Ok-clause-refused : goal.returns-in-Ok-clause-refused
returns-in-Ok-clause-refused g c =
    let read = c.in-Ok.read in
    unjudged (g.L.Library.told c.args.files.now) (g.L.Library.told c.read_named.new.files) c.read_named.ensures.follows (g.L.Library.told c.rewrite_for.new.files).faults c.args.file.now
    (path_of c.args.problem) (path_of c.args.root) (value_of read.cert)
    (certificate_in (g.L.Library.told c.args.files.now).files c.args.file.now read.format read.name (value_of read.cert) c.in-Ok.ensures.read) c.rewrite_for.result c.rewrite_for.ensures.refused
