use Rattle.std.proofs.Common.{◌≡◌, ◌<◌, ◌≤◌, ◌∙◌, length, get_or, suc, ap, sym, subst, arith}
use Rattle.std.specs.Prelude.{unwrap_or}
use Rattle.std.proofs.lemmas.List.{get_or_default}
use Rattle.indexmap.specs.IndexMap.{get}
use Rattle.inst_logic.specs.Signed.{complement}
use Rattle.clause_form.specs.Literals.{id_eq}
use Rattle.cert_index.specs.Chains.{HaveOpposite}
use Rattle.cert_index.specs.Partners.{Head, IsNext, head_at}
use Rattle.cert_index.proofs.MeetingLaws.{opposite_all, opposite_more, opposite_none}
use Rattle.cert_index.proofs.meetings.find_opposite_heads.Goals as goal

pub loop-q-init : goal.loop-q-init
loop-q-init c =
    let classes = c.args.classes.now in
    let hs = classes.heads.items in
    let p = c.args.p in
    let q = c.place_of-q.result in
    let other : c.complement-other.result ≡ complement (head_at hs p) = c.complement-other.ensures ∙ ap complement (c.index-head.ensures ∙ get_or_default hs p c.index-head.result.now _ c.requires.within) in
    let count : c.len-count.result ≡ length hs = omega (arith, c.len-count.ensures, classes.heads.ok.0) in
    let same : q ≡ unwrap_or (get id_eq classes.first (complement (head_at hs p))) (length hs) = c.place_of-q.ensures ∙ (λ z. unwrap_or (get id_eq classes.first (other z)) (count z)) in
    let next : IsNext hs (complement (head_at hs p)) 0 q = subst (IsNext hs (complement (head_at hs p)) 0) (sym same) (c.requires.chains.first (complement (head_at hs p))) in
    record { at = next.at; opposite = subst (HaveOpposite hs p q) (sym c.clear.ensures.items) (opposite_none hs p q next) }

pub loop-q-preserved : goal.loop-q-preserved
loop-q-preserved c =
    let classes = c.args.classes.now in
    let hs = classes.heads.items in
    let p = c.args.p in
    let q = c.loop-q.q in
    let to = c.index-q.result.now in
    let inside : q < length hs = omega (arith, c.loop-q-test.true, c.len-count.ensures, classes.heads.ok.0) in
    let there : q < length classes.same.items = omega (arith, inside, c.requires.chains.chained.same_length) in
    let same : get_or classes.same.items q 0 ≡ to = sym (c.index-q.ensures ∙ get_or_default classes.same.items q to 0 there) in
    let chain : IsNext hs (complement (head_at hs p)) (suc q) (get_or classes.same.items q 0) = subst (λ (h : Head). IsNext hs h (suc q) (get_or classes.same.items q 0)) (c.loop-q.invariant.at inside) (c.requires.chains.chained.to_same q (omega arith) inside) in
    let next : IsNext hs (complement (head_at hs p)) (suc q) to = subst (IsNext hs (complement (head_at hs p)) (suc q)) same chain in
    record { at = next.at; opposite = subst (HaveOpposite hs p to) (sym c.in_ok-push.ensures.items) (opposite_more hs p q to c.loop-q.opposite.items inside next c.loop-q.invariant.opposite) }

pub loop-q-smaller : goal.loop-q-smaller
loop-q-smaller c =
    let classes = c.args.classes.now in
    let hs = classes.heads.items in
    let q = c.loop-q.q in
    let to = c.index-q.result.now in
    let inside : q < length hs = omega (arith, c.loop-q-test.true, c.len-count.ensures, classes.heads.ok.0) in
    let there : q < length classes.same.items = omega (arith, inside, c.requires.chains.chained.same_length) in
    let same : get_or classes.same.items q 0 ≡ to = sym (c.index-q.ensures ∙ get_or_default classes.same.items q to 0 there) in
    let low : suc q ≤ get_or classes.same.items q 0 = (c.requires.chains.chained.to_same q (omega arith) inside).from_there in
    omega (arith, low, same, there)

pub returns : goal.returns
returns c =
    let classes = c.args.classes.now in
    opposite_all classes.heads.items c.args.p c.loop-q.q c.loop-q.opposite.items (omega (arith, c.loop-q-test.false, c.len-count.ensures, classes.heads.ok.0)) c.loop-q.invariant.opposite
