use Rattle.std.proofs.Common.{◌≡◌, List, ap, sym, ◌∙◌, subst, map}
use Rattle.inst_logic.specs.Clauses.{TreeClause}
use Rattle.inst_logic.specs.Derivations.{at_number}
use Rattle.inst_logic.specs.WellFormed.{AreFormedClauses}
use Rattle.inst_calculus.specs.Axioms.{axioms_for, equality_axioms}
use Rattle.inst_calculus.proofs.EqualityAxioms.{with_axioms_formed}
use Rattle.term_bank.specs.Forest.{clause_at}
use Rattle.cert_check.specs.Firsts.{IsFirstWrongOf}
use Rattle.cert_values.proofs.Grown.{clauses_same}
use Rattle.cert_check.proofs.Refutations.{whole_base, whole_ids}
use Rattle.cert_check.proofs.Interning.{axioms_part, wholes_formed}
use Rattle.cert_check.proofs.Rightness.{ids_of}
use Rattle.cert_check.proofs.base.wrong_axiom.Goals as goal

pub symbols_in-requires : goal.symbols_in-requires
symbols_in-requires c = ids_of c.args.base.now.bank c.args.base.now.inputs c.requires.inputs

pub intern_clauses-requires-clause-clauses : goal.intern_clauses-requires-clause-clauses
intern_clauses-requires-clause-clauses c =
    let b = c.args.base.now in
    let ins = map (clause_at b.bank) b.inputs in
    let e : c.in_ok-axioms.axioms ≡ equality_axioms ins = c.in_ok-axioms.ensures ∙ ap axioms_for c.in_ok-symbols.ensures in
    subst AreFormedClauses (sym e) (axioms_part ins (with_axioms_formed ins (wholes_formed b.bank b.inputs c.requires.inputs)))

pub difference-requires-clause-left : goal.difference-requires-clause-left
difference-requires-clause-left c = whole_ids c.args.base.now.bank c.intern_clauses.new.bank c.intern_clauses.ensures.extends c.args.base.now.axioms c.requires.axioms

pub returns-clause-whole : goal.returns-clause-whole
returns-clause-whole c = whole_base c.args.base.now c.intern_clauses.new.bank c.requires c.intern_clauses.ensures.extends c.intern_clauses.ensures.formed

pub returns-clause-first : goal.returns-clause-first
returns-clause-first c =
    let b = c.args.base.now in
    let ins = map (clause_at b.bank) b.inputs in
    let g = c.intern_clauses.new.bank in
    let e : c.in_ok-axioms.axioms ≡ equality_axioms ins = c.in_ok-axioms.ensures ∙ ap axioms_for c.in_ok-symbols.ensures in
    let one = clauses_same b.bank g c.intern_clauses.ensures.extends b.axioms c.requires.axioms in
    let two = c.in_ok-ids.ensures.at ∙ e in
    subst (λ (xs : List TreeClause). IsFirstWrongOf (λ n. at_number xs n ≡ at_number (equality_axioms ins) n) c.difference.result) one
    (subst (λ (ys : List TreeClause). IsFirstWrongOf (λ n. at_number (map (clause_at g) b.axioms) n ≡ at_number ys n) c.difference.result) two c.difference.ensures)
