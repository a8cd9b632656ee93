use Rattle.std.proofs.Common.{◌≡◌, ℕ, List, map, subst, length}
use Rattle.std.specs.Prelude.{Option, ◌↔◌, IsTrue}
use Rattle.std.proofs.lemmas.Result.{IfOk-weaker}
use Rattle.inst_logic.specs.declared.signed.Signed.{Signed}
use Rattle.inst_logic.specs.Clauses.{TreeClause, canonical_form}
use Rattle.inst_calculus.specs.Parts.{chosen, IsProperPart}
use Rattle.cert_values.specs.Values.{entry_of}
use Rattle.term_bank.specs.Forest.{clause_at}
use Rattle.term_bank.proofs.Clauses.{clause_extends, clause_of_extends}
use Rattle.cert_inference.specs.Conclusions.{MembersConclude}
use Rattle.cert_check.proofs.PartLaws.{no_part, part_by}
use Rattle.cert_check.proofs.part.is_part.Goals as goal

pub returns-in-None-clause-part : goal.returns-in-None-clause-part
returns-in-None-clause-part c =
    let p = c.args.claim.now.premises in
    let es = map (entry_of c.args.bank.now) c.args.members.now in
    let h = subst (λ (o : Option (List (Signed ℕ))). MembersConclude c.conclusion.new.bank es p.from p.place p.partner p.other o) c.in-None.is c.in_ok-conclusion.ensures.concludes in
    no_part es p.from p.place p.partner p.other c.args.claim.now.keep.now (clause_at c.args.bank.now c.args.claim.now.clause.now) h

pub is_part_of-requires-clause-whole : goal.is_part_of-requires-clause-whole
is_part_of-requires-clause-whole c =
    let p = c.args.claim.now.premises in
    let es = map (entry_of c.args.bank.now) c.args.members.now in
    let h = subst (λ (o : Option (List (Signed ℕ))). MembersConclude c.conclusion.new.bank es p.from p.place p.partner p.other o) c.in-Some.is c.in_ok-conclusion.ensures.concludes in
    h.0

pub is_part_of-requires-clause-clause : goal.is_part_of-requires-clause-clause
is_part_of-requires-clause-clause c = clause_of_extends c.args.bank.now c.conclusion.new.bank c.conclusion.ensures.extends c.args.claim.now.clause.now c.requires.clause

pub returns-in-Some-clause-part : goal.returns-in-Some-clause-part
returns-in-Some-clause-part c =
    let f = c.args.bank.now in
    let g = c.conclusion.new.bank in
    let p = c.args.claim.now.premises in
    let keep = c.args.claim.now.keep.now in
    let d = c.in-Some.whole in
    let es = map (entry_of f) c.args.members.now in
    let h = subst (λ (o : Option (List (Signed ℕ))). MembersConclude g es p.from p.place p.partner p.other o) c.in-Some.is c.in_ok-conclusion.ensures.concludes in
    let same = clause_extends f g c.conclusion.ensures.extends c.args.claim.now.clause.now c.requires.clause in
    IfOk-weaker c.is_part_of.result _ _
    (λ b k. part_by es p.from p.place p.partner p.other keep (clause_at f c.args.claim.now.clause.now) g d h.1 b
    (subst (λ (x : TreeClause). IsTrue b ↔ (IsProperPart (length d) keep × (x ≡ canonical_form (chosen (clause_at g d) keep)))) same k)) c.is_part_of.ensures.part
