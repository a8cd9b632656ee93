use Rattle.std.proofs.Common.{◌≡◌, ◌∙◌, ap, sym, subst}
use Rattle.inst_logic.specs.Derivations.{at_number}
use Rattle.inst_calculus.proofs.Items.{same_item}
use Rattle.term_bank.specs.Forest.{clause_at}
use Rattle.cert_values.specs.declared.member.Origin.{Origin}
use Rattle.instgen_run.specs.Clauses.{Item, entries_in}
use Rattle.instgen_loop.specs.Records.{IsConcluded}
use Rattle.instgen_loop.proofs.RecordLaws.{record_made}
use Rattle.instgen_loop.proofs.records.record_of.Goals as goal

pub how_of-requires-clause-concluded : goal.how_of-requires-clause-concluded
how_of-requires-clause-concluded c =
    let f = c.args.bank.now in
    let es = c.args.clauses.now.entries in
    let (item, at, same) = c.origin_of.ensures in
    (clause_at f item.0, subst (λ (o : Origin). IsConcluded (entries_in f es) o (clause_at f item.0)) (same ∙ sym c.in_ok-origin.ensures) (c.requires.concluded c.args.n item at))

pub returns-clause-record : goal.returns-clause-record
returns-clause-record c = λ bot constant.
    let f = c.args.bank.now in
    let es = c.args.clauses.now.entries in
    let (item, at, same) = c.origin_of.ensures in
    let (other, there, read) = c.clause_of.ensures in
    let one = same_item (at_number es c.args.n) other item there at in
    let how = c.in_ok-how.ensures in
    let origin : item.1 ≡ c.in_ok-origin.origin = same ∙ sym c.in_ok-origin.ensures in
    record_made f c.how_of.new.bank how.extends es c.requires.entries bot c.args.n item c.in_ok-origin.origin (record { clause = c.in_ok-clause.clause; how = c.in_ok-how.how }) at origin
    (c.in_ok-clause.ensures ∙ c.as_slice.ensures ∙ sym read ∙ ap (λ (x : Item). x.0) one) how.ids how.plain
    (how.told bot constant (clause_at f item.0) (subst (λ (o : Origin). IsConcluded (entries_in f es) o (clause_at f item.0)) origin (c.requires.concluded c.args.n item at)))

pub returns-clause-made : goal.returns-clause-made
returns-clause-made c = let (other, there, read) = c.clause_of.ensures in (other, there, c.in_ok-clause.ensures ∙ c.as_slice.ensures ∙ sym read)
