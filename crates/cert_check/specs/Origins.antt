-- Members that are made from two members by their origins.
use Rattle.cert_values.specs.declared.member.Origin.{Origin}
use Rattle.cert_values.specs.declared.member.Origin.TheVariants.{Inst}
use Rattle.cert_inference.specs.declared.inference.Premises.{Premises}

abbrev pub origin_from : Premises → Origin
origin_from p = Inst p.from p.place p.partner p.other
