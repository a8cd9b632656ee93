-- Origins in few bytes each.
use Rattle.cert_values.specs.declared.member.Origin.{Origin}
use Rattle.cert_values.specs.declared.member.Origin.TheVariants as plain
use Rattle.instgen_run.specs.declared.origin.Packed.{Packed}
use Rattle.instgen_run.specs.declared.origin.Packed.TheVariants.{Input, Inst, Part}

abbrev pub origin_in : Packed → Origin
origin_in (Input k) = plain.Input k
origin_in (Inst at) = plain.Inst at.from at.place at.partner at.other
origin_in (Part p) = plain.Lemma p.value.at.from p.value.at.place p.value.at.partner p.value.at.other p.value.lemma.keep p.value.lemma.premises

-- it is an input or a whole conclusion
abbrev pub IsNoPart : Origin → Type 0
IsNoPart (plain.Input k) = Unit {0}
IsNoPart (plain.Inst from place partner other) = Unit {0}
IsNoPart (plain.Lemma from place partner other keep premises) = ⊥
