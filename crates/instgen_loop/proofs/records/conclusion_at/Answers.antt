use Rattle.std.proofs.Common.{refl, ap, ◌∙◌, sym, subst, List, ℕ, All}
use Rattle.inst_logic.specs.declared.signed.Signed.{Signed}
use Rattle.inst_logic.specs.Clauses.{canonical_form, instance, IsCanonical}
use Rattle.inst_logic.specs.WellFormed.{IsAtom, IsFormedClause}
use Rattle.inst_logic.specs.Derivations.{at_number}
use Rattle.inst_logic.proofs.ShownLaws.{at_number_contains}
use Rattle.inst_calculus.proofs.Membership.{contains_in, all_in}
use Rattle.term_bank.specs.Forest.{IsClauseOf, clause_at, tree_at}
use Rattle.clause_form.specs.Conclusions.{AreTermsOf}
use Rattle.instgen_run.specs.Clauses.{Item}
use Rattle.instgen_run.proofs.Grown.{whole_at}
use Rattle.instgen_run.proofs.Inferred.{from_clause_at}
use Rattle.instgen_loop.proofs.RecordLaws.{atom_within, clause_concluded, entry_ids, has_unifier, one_kind, terms_are}
use Rattle.instgen_loop.proofs.records.conclusion_at.Goals as goal

pub unify-requires-clause-left : goal.unify-requires-clause-left
unify-requires-clause-left c =
    let (item, at, same) = c.clause_of-first.ensures in
    (atom_within c.args.bank.now c.args.clauses.now.entries c.requires.entries c.args.at.from c.args.at.place item c.literal_at-a.result at (ap (λ (x : List (Signed ℕ)). at_number x c.args.at.place) (same ∙ sym c.as_slice.ensures) ∙ c.literal_at-a.ensures)).0

pub unify-requires-clause-right : goal.unify-requires-clause-right
unify-requires-clause-right c =
    let (item, at, same) = c.clause_of-second.ensures in
    (atom_within c.args.bank.now c.args.clauses.now.entries c.requires.entries c.args.at.partner c.args.at.other item c.literal_at-b.result at (ap (λ (x : List (Signed ℕ)). at_number x c.args.at.other) (same ∙ sym c.as_slice-2.ensures) ∙ c.literal_at-b.ensures)).0

pub unreachable-requires : goal.unreachable-requires
unreachable-requires c =
    let (first, first_at, first_is) = c.clause_of-first.ensures in
    let (second, second_at, second_is) = c.clause_of-second.ensures in
    let (clause, k) = c.requires.concluded in
    has_unifier c.args.bank.now c.args.clauses.now.entries c.args.at.from c.args.at.place c.args.at.partner c.args.at.other clause k first second c.literal_at-a.result c.literal_at-b.result first_at second_at
    (ap (λ (x : List (Signed ℕ)). at_number x c.args.at.place) (first_is ∙ sym c.as_slice.ensures) ∙ c.literal_at-a.ensures) (ap (λ (x : List (Signed ℕ)). at_number x c.args.at.other) (second_is ∙ sym c.as_slice-2.ensures) ∙ c.literal_at-b.ensures)
    (c.in_ok-unify.ensures.no c.if-not-branch.true)

pub conclude-requires-clause-clause : goal.conclude-requires-clause-clause
conclude-requires-clause-clause c =
    let (item, at, same) = c.clause_of-first.ensures in
    let es = c.args.clauses.now.entries in
    subst (IsClauseOf c.args.bank.now) same (entry_ids c.args.bank.now es c.requires.entries item (contains_in item es (at_number_contains es c.args.at.from item at)))

pub conclude-requires-clause-canonical : goal.conclude-requires-clause-canonical
conclude-requires-clause-canonical c =
    let (item, at, same) = c.clause_of-first.ensures in
    let es = c.args.clauses.now.entries in
    subst (λ (x : List (Signed ℕ)). IsCanonical (clause_at c.args.bank.now x)) same
    (all_in (λ (x : Item). IsCanonical (clause_at c.args.bank.now x.0)) es c.requires.entries.canonical item (contains_in item es (at_number_contains es c.args.at.from item at)))

pub returns-clause-formed : goal.returns-clause-formed
returns-clause-formed c =
    let (first, first_at, first_is) = c.clause_of-first.ensures in
    let (second, second_at, second_is) = c.clause_of-second.ensures in
    let a_at = ap (λ (x : List (Signed ℕ)). at_number x c.args.at.place) (first_is ∙ sym c.as_slice.ensures) ∙ c.literal_at-a.ensures in
    let b_at = ap (λ (x : List (Signed ℕ)). at_number x c.args.at.other) (second_is ∙ sym c.as_slice-2.ensures) ∙ c.literal_at-b.ensures in
    let kind = one_kind c.args.bank.now c.args.clauses.now.entries c.requires.entries c.args.at.from c.args.at.place c.args.at.partner c.args.at.other first second c.literal_at-a.result c.literal_at-b.result first_at second_at a_at b_at in
    let terms = c.in_ok-unify.ensures.terms c.if-not-branch.false kind in
    c.in_ok-conclusion.ensures.formed c.requires.entries.formed terms

pub returns-clause-plain : goal.returns-clause-plain
returns-clause-plain c =
    let (first, first_at, first_is) = c.clause_of-first.ensures in
    let (second, second_at, second_is) = c.clause_of-second.ensures in
    let a_at = ap (λ (x : List (Signed ℕ)). at_number x c.args.at.place) (first_is ∙ sym c.as_slice.ensures) ∙ c.literal_at-a.ensures in
    let b_at = ap (λ (x : List (Signed ℕ)). at_number x c.args.at.other) (second_is ∙ sym c.as_slice-2.ensures) ∙ c.literal_at-b.ensures in
    let kind = one_kind c.args.bank.now c.args.clauses.now.entries c.requires.entries c.args.at.from c.args.at.place c.args.at.partner c.args.at.other first second c.literal_at-a.result c.literal_at-b.result first_at second_at a_at b_at in
    let terms = c.in_ok-unify.ensures.terms c.if-not-branch.false kind in
    c.in_ok-conclusion.ensures.terms terms

pub returns-clause-terms : goal.returns-clause-terms
returns-clause-terms c = λ clause k.
    let f = c.args.bank.now in
    let es = c.args.clauses.now.entries in
    let (first, first_at, first_is) = c.clause_of-first.ensures in
    let (second, second_at, second_is) = c.clause_of-second.ensures in
    let a_at = ap (λ (x : List (Signed ℕ)). at_number x c.args.at.place) (first_is ∙ sym c.as_slice.ensures) ∙ c.literal_at-a.ensures in
    let b_at = ap (λ (x : List (Signed ℕ)). at_number x c.args.at.other) (second_is ∙ sym c.as_slice-2.ensures) ∙ c.literal_at-b.ensures in
    let (s, resolved, most) = c.in_ok-unify.ensures.yes c.if-not-branch.false in
    let made = c.in_ok-conclusion.ensures.conclusion s resolved in
    let g = c.conclude.new.bank in
    let ids = c.in_ok-conclusion.conclusion.terms in
    terms_are f es c.args.at.from c.args.at.place c.args.at.partner c.args.at.other clause k first second c.literal_at-a.result c.literal_at-b.result first_at second_at a_at b_at g s ids
    (all_in (λ (x : Item). IsCanonical (clause_at f x.0)) es c.requires.entries.canonical first (contains_in first es (at_number_contains es c.args.at.from first first_at))) most
    (subst (λ (x : List (Signed ℕ)). AreTermsOf g s.left (clause_at f x) ids) (sym first_is) made.terms)

pub returns-clause-whole : goal.returns-clause-whole
returns-clause-whole c =
    let f = c.args.bank.now in
    let es = c.args.clauses.now.entries in
    let (first, first_at, first_is) = c.clause_of-first.ensures in
    let (second, second_at, second_is) = c.clause_of-second.ensures in
    let a_at = ap (λ (x : List (Signed ℕ)). at_number x c.args.at.place) (first_is ∙ sym c.as_slice.ensures) ∙ c.literal_at-a.ensures in
    let b_at = ap (λ (x : List (Signed ℕ)). at_number x c.args.at.other) (second_is ∙ sym c.as_slice-2.ensures) ∙ c.literal_at-b.ensures in
    let kind = one_kind f es c.requires.entries c.args.at.from c.args.at.place c.args.at.partner c.args.at.other first second c.literal_at-a.result c.literal_at-b.result first_at second_at a_at b_at in
    let terms = c.in_ok-unify.ensures.terms c.if-not-branch.false kind in
    let atoms = all_in (λ (x : Item). All (λ l. IsAtom (tree_at f l.atom)) x.0) es c.requires.entries.atoms first (contains_in first es (at_number_contains es c.args.at.from first first_at)) in
    let formed : IsFormedClause (clause_at f c.clause_of-first.result.now) = from_clause_at f c.clause_of-first.result.now (subst (λ (x : List (Signed ℕ)). All (λ l. IsAtom (tree_at f l.atom)) x) first_is atoms) in
    let d = c.in_ok-conclusion.conclusion.clause in
    let g = c.conclude.new.bank in
    whole_at g d (clause_at g d) (c.in_ok-conclusion.ensures.ids, refl) (c.in_ok-conclusion.ensures.atoms terms formed)

pub returns-clause-clause : goal.returns-clause-clause
returns-clause-clause c = λ clause k.
    let f = c.args.bank.now in
    let es = c.args.clauses.now.entries in
    let (first, first_at, first_is) = c.clause_of-first.ensures in
    let (second, second_at, second_is) = c.clause_of-second.ensures in
    let a_at = ap (λ (x : List (Signed ℕ)). at_number x c.args.at.place) (first_is ∙ sym c.as_slice.ensures) ∙ c.literal_at-a.ensures in
    let b_at = ap (λ (x : List (Signed ℕ)). at_number x c.args.at.other) (second_is ∙ sym c.as_slice-2.ensures) ∙ c.literal_at-b.ensures in
    let (s, resolved, most) = c.in_ok-unify.ensures.yes c.if-not-branch.false in
    let made = c.in_ok-conclusion.ensures.conclusion s resolved in
    let g = c.conclude.new.bank in
    let d = c.in_ok-conclusion.conclusion.clause in
    clause_concluded f es c.args.at.from c.args.at.place c.args.at.partner c.args.at.other clause k first second c.literal_at-a.result c.literal_at-b.result first_at second_at a_at b_at g s d most
    (made.clause.1 ∙ ap (λ (x : List (Signed ℕ)). canonical_form (instance s.left (clause_at f x))) (sym first_is))
