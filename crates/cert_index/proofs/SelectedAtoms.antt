-- The atoms of selected literals are atoms, since the members' clauses are well formed.
use Rattle.std.proofs.Common.{◌≡◌, ℕ, ap, sym, ◌∙◌, true}
use Rattle.std.proofs.Common.{List}
use Rattle.inst_logic.specs.declared.signed.Signed.{Signed}
use Rattle.inst_logic.specs.Tree.{Tree}
use Rattle.inst_logic.specs.WellFormed.{atom_is_formed, clause_is_formed, AreFormedClauses, IsAtom}
use Rattle.inst_logic.proofs.ShownLaws.{at_number_contains}
use Rattle.inst_calculus.specs.Entries.{Entry, entry_clauses}
use Rattle.inst_calculus.proofs.Membership.{all_in, all_pass, contains_in, from_map, in_map, passes}
use Rattle.term_bank.specs.Forest.{literal_tree, Forest, clause_at, tree_at}
use Rattle.cert_values.specs.declared.member.Member.{Member}
use Rattle.cert_values.specs.declared.certificate.Saturation.{Saturation}
use Rattle.cert_values.specs.SelectedLiteral.{IsSelectedLiteral}
use Rattle.cert_values.specs.Values.{saturation_of, entry_of}
use Rattle.cert_values.specs.Wholes.{IsWholeClause, IsWholeSaturation}

-- whole clauses are formed
clause_formed : (f : Forest) (c : List (Signed ℕ)) → IsWholeClause f c → clause_is_formed (clause_at f c) ≡ true
clause_formed f c h = all_pass (λ (k : Signed Tree). atom_is_formed k.atom) (clause_at f c) (λ x i.
    let (l, j, same) = from_map (literal_tree f) x c i in
    ap (λ (k : Signed Tree). atom_is_formed k.atom) (sym same) ∙ all_in (λ (k : Signed ℕ). IsAtom (tree_at f k.atom)) c h.atoms l j)

pub members_formed : (s : Saturation) → IsWholeSaturation s → AreFormedClauses (entry_clauses (saturation_of s).base.members)
members_formed s whole = all_pass clause_is_formed (entry_clauses (saturation_of s).base.members) (λ d i.
    let (e, j, same) = from_map (λ (x : Entry). x.clause) d (saturation_of s).base.members i in
    let (m, k, is) = from_map (entry_of s.base.bank) e s.base.members j in
    ap clause_is_formed (sym same ∙ ap (λ (x : Entry). x.clause) (sym is)) ∙ clause_formed s.base.bank m.clause (all_in (λ (n : Member). IsWholeClause s.base.bank n.clause) s.base.members whole.members m k))

-- the selected literal's atom is an atom
pub selected_atom : (c : Saturation) → IsWholeSaturation c → (n : ℕ) (l : Signed ℕ) → IsSelectedLiteral c n l → IsAtom (tree_at c.base.bank l.atom)
selected_atom c whole n l h =
    let e = h.is.entry in
    let i = contains_in e (saturation_of c).base.members (at_number_contains (saturation_of c).base.members n e h.is.entry_at) in
    let formed : clause_is_formed e.clause ≡ true = passes clause_is_formed (entry_clauses (saturation_of c).base.members) (members_formed c whole) e.clause (in_map (λ (x : Entry). x.clause) e (saturation_of c).base.members i) in
    let j = contains_in h.member.selected e.clause (at_number_contains e.clause h.is.place h.member.selected h.is.selected) in
    ap (λ (k : Signed Tree). atom_is_formed k.atom) (sym h.literal) ∙ passes (λ (k : Signed Tree). atom_is_formed k.atom) e.clause formed h.member.selected j
