use Rattle.std.proofs.Common.{◌^◌, ◌-◌, arith}
use Rattle.cert_front.proofs.Light.{text_light}
use Rattle.cert_front.proofs.laws.short_texts_are_light.Goals as goal

pub returns : goal.returns
returns c = λ format name s short. text_light (2 ^ 64 - 1) format name s (omega arith)
