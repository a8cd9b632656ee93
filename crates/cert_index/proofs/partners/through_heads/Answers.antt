use Rattle.std.proofs.Common.{◌≡◌, ◌<◌, ◌-◌, suc, sym, subst, ◌∙◌, arith, length}
use Rattle.std.proofs.lemmas.List.{get_or_default}
use Rattle.std.specs.Prelude.{unwrap_or, Some}
use Rattle.std.proofs.Common.{cond}
use Rattle.indexmap.specs.IndexMap.{get}
use Rattle.clause_form.specs.Literals.{id_eq}
use Rattle.cert_index.specs.Partners.{Head, AreChained, IsNext, head_at}
use Rattle.cert_index.proofs.HeadLaws.{empty_first, more_first, more_chained, none_chained}
use Rattle.cert_index.proofs.partners.through_heads.Goals as goal

pub loop-i-init : goal.loop-i-init
loop-i-init c =
    let hs = c.args.heads.items in
    let count : c.len-count.result ≡ length hs = omega (arith, c.len-count.ensures, c.args.heads.ok.0) in record {
      within = omega arith;
      chained = subst (AreChained hs c.in_ok-same.same.items) (sym count) (none_chained hs c.in_ok-same.same.items (omega (arith, count, c.in_ok-same.ensures.len, c.in_ok-same.same.ok.0)));
      first = empty_first hs c.len-count.result count c.new-first.result c.new-first.ensures.empty;
    }

pub loop-i-preserved : goal.loop-i-preserved
loop-i-preserved c =
    let hs = c.args.heads.items in
    let i = c.loop-i.i in
    let j = i - 1 in
    let count : c.len-count.result ≡ length hs = omega (arith, c.len-count.ensures, c.args.heads.ok.0) in
    let next : i ≡ suc j = omega (arith, c.loop-i-test.true) in
    let inside : j < length hs = omega (arith, c.loop-i-test.true, c.loop-i.invariant.within) in
    let at : c.index-head.result.now ≡ head_at hs j = c.index-head.ensures ∙ get_or_default hs j c.index-head.result.now _ inside in
    let first : (h : Head) → IsNext hs h (suc j) (unwrap_or (get id_eq c.loop-i.first h) (length hs)) = subst (λ n. (h : Head) → IsNext hs h n (unwrap_or (get id_eq c.loop-i.first h) (length hs))) next c.loop-i.invariant.first in
    let same : c.place_of.result ≡ unwrap_or (get id_eq c.loop-i.first (head_at hs j)) (length hs) = c.place_of.ensures ∙ (λ z. unwrap_or (get id_eq c.loop-i.first (at z)) (count z)) in
    record {
      within = omega (arith, c.loop-i.invariant.within);
      chained = more_chained hs c.loop-i.same.items i j c.place_of.result next c.loop-i.invariant.within c.loop-i.invariant.chained (subst (IsNext hs (head_at hs j) (suc j)) (sym same) (first (head_at hs j)));
      first = more_first hs j inside (get id_eq c.loop-i.first) (get id_eq c.insert.new.self)
          (subst (λ (k : Head). (h : Head) → get id_eq c.insert.new.self h ≡ cond (id_eq k h) (Some j) (get id_eq c.loop-i.first h)) at c.in_ok-insert.ensures.updates.0) first;
    }
