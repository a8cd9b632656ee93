-- What a saturation says of a ground atom.
use Rattle.inst_logic.specs.Tree.{Tree}
use Rattle.inst_calculus.specs.Models.{IsTrueBy}
use Rattle.cert_format.specs.Certificate.{Certificate}
use Rattle.cert_format.specs.Validity.{IsFirstComplaint, IsValid}
use Rattle.cert_front.specs.Judgements.{Passes}
use Rattle.cert_front.specs.Kinds.{selected_of}
use Rattle.cert_front.specs.declared.reply.Reply.{Reply}
use Rattle.cert_front.specs.declared.reply.Reply.TheVariants.{True, False, Invalid}

-- The saturation is valid, and the atom is true by its members or it is not; or the complaint is its first.
abbrev pub IsReply : Certificate → Tree → Reply → Type 0
IsReply c a True = IsValid c × IsTrueBy (selected_of c) a
IsReply c a False = IsValid c × ¬ IsTrueBy (selected_of c) a
IsReply c a (Invalid complaint) = IsFirstComplaint (Passes c) complaint
