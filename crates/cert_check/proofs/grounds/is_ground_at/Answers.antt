use Rattle.std.proofs.Common.{◌∙◌, ap, sym}
use Rattle.std.specs.Prelude.{option_copied}
use Rattle.inst_logic.proofs.Items.{All-slice_get}
use Rattle.inst_logic.specs.Clauses.{IsCanonical}
use Rattle.term_bank.specs.Forest.{IsClauseOf, clause_at}
use Rattle.cert_values.specs.declared.member.Member.{Member}
use Rattle.cert_values.specs.Wholes.{IsWholeClause}
use Rattle.cert_check.proofs.Refutations.{whole_base}
use Rattle.cert_check.proofs.grounds.is_ground_at.Goals as goal

pub is_under-requires-clause-clause : goal.is_under-requires-clause-clause
is_under-requires-clause-clause c =
    let b = c.args.base.now in
    (All-slice_get (λ (m : Member). IsWholeClause b.bank m.clause) b.members c.requires.whole.members c.args.i c.in-Some-Some.member.now (sym c.get-2.ensures ∙ ap option_copied c.in-Some-Some.is-1)).ids

pub is_under-requires-clause-canonical : goal.is_under-requires-clause-canonical
is_under-requires-clause-canonical c =
    let b = c.args.base.now in
    All-slice_get (λ (m : Member). IsCanonical (clause_at b.bank m.clause)) b.members c.requires.canonical c.args.i c.in-Some-Some.member.now (sym c.get-2.ensures ∙ ap option_copied c.in-Some-Some.is-1)

pub is_under-requires-clause-ground : goal.is_under-requires-clause-ground
is_under-requires-clause-ground c =
    All-slice_get (IsClauseOf c.args.base.now.bank) c.args.grounds.now c.requires.grounds c.args.i c.in-Some-Some.ground.now (sym c.get.ensures ∙ ap option_copied c.in-Some-Some.is-0)

pub returns-in-Some-Some-clause-whole : goal.returns-in-Some-Some-clause-whole
returns-in-Some-Some-clause-whole c = whole_base c.args.base.now c.is_under.new.bank c.requires.whole c.is_under.ensures.extends (c.is_under.ensures.formed c.requires.whole.bank)
