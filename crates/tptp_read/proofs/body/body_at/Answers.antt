use Rattle.std.proofs.Common.{ℕ, ◌≤◌, ◌-◌, ◌∙◌, List, take, drop, length, ap, sym, arith}
use Rattle.std.proofs.lemmas.List.{length-map}
use Rattle.std.specs.Borrow.{Bor}
use Rattle.std.specs.Str.{bytes_eq}
use Rattle.inst_logic.specs.Lists.{distinct}
use Rattle.tptp_read.specs.Stream.{Tok}
use Rattle.tptp_read.specs.Meaning.{variable_names}
use Rattle.tptp_read.specs.LexemeView.{toks, texts}
use Rattle.tptp_read.specs.Gathered.{gathered}
use Rattle.tptp_read.proofs.GatherLaws.{slice_split}
use Rattle.tptp_read.proofs.BodyLaws.{body_read, rest_is}
use Rattle.tptp_read.proofs.body.body_at.Goals as goal

pub returns-clause-is : goal.returns-clause-is
returns-clause-is c =
    let ls = c.args.tokens.now in
    let at = c.args.at in
    let after = c.in_ok-literals.after in
    let le : at ≤ after = omega (arith, c.in_ok-literals.ensures.within) in
    let numbered = c.in_ok-vars.ensures ∙ ap (λ (x : List Tok). distinct bytes_eq (variable_names x)) (rest_is ls at) in
    body_read (length ls) (toks (drop at ls)) (toks (drop after ls)) (toks (take (after - at) (drop at ls))) (texts c.in_ok-vars.vars.keys) (texts c.in_ok-own.own.keys) (gathered c.in_ok-literals.literals) c.is_wide.result c.len.result
    (slice_split ls at after le) numbered c.in_ok-own.ensures c.is_wide.ensures (c.len.ensures.len ∙ sym (length-map c.in_ok-own.own.keys (λ (k : Bor (List ℕ)). k.now))) c.in_ok-literals.ensures.is
