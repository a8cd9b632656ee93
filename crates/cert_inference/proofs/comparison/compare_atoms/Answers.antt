use Rattle.std.proofs.Common.{◌≡◌, ◌<◌, ◌+◌, ◌++◌, ◌∙◌, List, ℕ, ap, drop, get_or, length, map, arith, subst, sym}
use Rattle.std.proofs.lemmas.List.{get_or-map}
use Rattle.inst_logic.specs.declared.signed.Signed.{Signed}
use Rattle.inst_calculus.proofs.Distinct.{length_map}
use Rattle.clause_form.specs.Walks.{numbers_of}
use Rattle.clause_form.specs.declared.walk.Leaves.TheVariants.{Led}
use Rattle.cert_inference.specs.Comparisons.{pairs_of}
use Rattle.cert_inference.proofs.ComparisonLaws.{no_step, step_pair, step_all}
use Rattle.cert_inference.proofs.comparison.compare_atoms.Goals as goal

-- the atom at a place
atom_at : (ls : List (Signed ℕ)) (i : ℕ) (l : Signed ℕ) → i < length ls → l ≡ get_or ls i l → l.atom ≡ get_or (map (λ (k : Signed ℕ). k.atom) ls) i l.atom
atom_at ls i l within is = ap (λ (k : Signed ℕ). k.atom) is ∙ sym (get_or-map (λ (k : Signed ℕ). k.atom) ls i l l.atom within)

pub loop-i-init : goal.loop-i-init
loop-i-init c rest bs e = no_step c.args.bank.now (Led bs) (pairs_of c.args.of.now.side (map (λ l. l.atom) c.args.literals.now) (map (λ l. l.atom) c.args.others.now) ++ rest) (numbers_of c.args.room.now.order.items)

pub compare_atom-requires-clause-node : goal.compare_atom-requires-clause-node
compare_atom-requires-clause-node c =
    let ls = c.args.literals.now in
    let l = c.index-literals-i.result in
    let within : c.loop-i.i < length ls = c.loop-i-test.true in
    subst (λ (n : ℕ). n < length c.args.bank.now.trees) (sym (atom_at ls c.loop-i.i l within c.index-literals-i.is)) (c.requires.nodes c.loop-i.i l.atom (omega (arith, length_map (λ (k : Signed ℕ). k.atom) ls, within)))

pub compare_atom-requires-clause-term : goal.compare_atom-requires-clause-term
compare_atom-requires-clause-term c =
    let ls = c.args.others.now in
    let l = c.index-others-i.result in
    let within : c.loop-i.i < length ls = omega (arith, c.loop-i-test.true, c.requires.counted) in
    subst (λ (n : ℕ). n < length c.args.bank.now.trees) (sym (atom_at ls c.loop-i.i l within c.index-others-i.is)) (c.requires.terms c.loop-i.i l.atom (omega (arith, length_map (λ (k : Signed ℕ). k.atom) ls, within)))

pub loop-i-preserved : goal.loop-i-preserved
loop-i-preserved c rest bs e =
    let ls = c.args.literals.now in
    let ks = c.args.others.now in
    let i = c.loop-i.i in
    let atoms = map (λ (k : Signed ℕ). k.atom) ls in
    let others = map (λ (k : Signed ℕ). k.atom) ks in
    let long = length_map (λ (k : Signed ℕ). k.atom) ls in
    let long' = length_map (λ (k : Signed ℕ). k.atom) ks in
    let within : i < length ls = c.loop-i-test.true in
    step_pair c.args.bank.now (Led bs) c.args.of.now.side atoms others i c.index-literals-i.result.atom c.index-others-i.result.atom (pairs_of c.args.of.now.side atoms others ++ rest) rest
    (numbers_of c.args.room.now.order.items) (numbers_of c.loop-i.room.order.items) (numbers_of c.compare_atom.new.room.order.items) (omega (arith, within, long)) (omega (arith, c.requires.counted, long, long'))
    (atom_at ls i c.index-literals-i.result within c.index-literals-i.is) (atom_at ks i c.index-others-i.result (omega (arith, within, c.requires.counted)) c.index-others-i.is)
    (c.loop-i.invariant rest bs e) (c.in_ok-compare_atom.ensures c.if-not-branch.false (pairs_of c.args.of.now.side (drop (i + 1) atoms) (drop (i + 1) others) ++ rest) bs e)

pub returns : goal.returns
returns c t rest bs e =
    let atoms = map (λ (k : Signed ℕ). k.atom) c.args.literals.now in
    let others = map (λ (k : Signed ℕ). k.atom) c.args.others.now in
    step_all c.args.bank.now (Led bs) c.args.of.now.side atoms others c.loop-i.i (pairs_of c.args.of.now.side atoms others ++ rest) rest (numbers_of c.args.room.now.order.items) (numbers_of c.loop-i.room.order.items)
    (omega (arith, length_map (λ (k : Signed ℕ). k.atom) c.args.literals.now, c.loop-i-test.false)) (c.loop-i.invariant rest bs e)
