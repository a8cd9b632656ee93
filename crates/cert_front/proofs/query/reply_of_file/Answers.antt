use Rattle.std.proofs.lemmas.Result.{IfErr-weaker}
use Rattle.inst_logic.specs.LiteralView.{literal}
use Rattle.cert_reader.specs.Reads.{value_of}
use Rattle.cert_front.proofs.Queries.{light_of, replied_of, unasked}
use Rattle.cert_front.proofs.query.reply_of_file.Goals as goal

pub reply_of-requires-clause-light : goal.reply_of-requires-clause-light
reply_of-requires-clause-light g c =
    light_of c.short_texts_are_light.ensures (g.L.Library.told c.args.files.now).files c.args.name.now (value_of c.in-Ok.certificate) c.in-Ok.ensures.read

pub returns-in-Ok-clause-replied : goal.returns-in-Ok-clause-replied
returns-in-Ok-clause-replied g c =
    replied_of (g.L.Library.told c.args.files.now).files c.args.name.now (literal c.args.atom.now).atom (value_of c.in-Ok.certificate) c.in-Ok.ensures.read c.reply_of.result c.reply_of.ensures.saturation c.reply_of.ensures.replied

pub returns-in-Ok-clause-refused : goal.returns-in-Ok-clause-refused
returns-in-Ok-clause-refused g c =
    IfErr-weaker c.reply_of.result _ _
    (λ f why. unasked (g.L.Library.told c.args.files.now).files (g.L.Library.told c.args.files.now).faults (g.L.Library.told c.read_file.new.files).faults c.args.name.now (value_of c.in-Ok.certificate) c.in-Ok.ensures.read f why)
    c.reply_of.ensures.refused
