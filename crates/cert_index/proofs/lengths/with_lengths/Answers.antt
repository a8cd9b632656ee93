use Rattle.std.proofs.Common.{◌≡◌, ◌<◌, ◌∙◌, length, arith, ap, refl, sym, subst}
use Rattle.std.specs.Prelude.{All, Any}
use Rattle.std.proofs.lemmas.List.{get_or_default}
use Rattle.std.proofs.lemmas.List.Elements.{All-push}
use Rattle.cert_values.specs.declared.member.Member.{Member}
use Rattle.cert_index.specs.declared.lengths.Ranked.{Ranked}
use Rattle.cert_index.specs.Lengths.{IsRankOf}
use Rattle.cert_index.proofs.LengthLaws.{one_more_rank}
use Rattle.cert_index.proofs.lengths.with_lengths.Goals as goal

pub loop-place-preserved : goal.loop-place-preserved
loop-place-preserved c =
    let ms = c.args.members.now in
    let rs = c.loop-place.ranked.items in
    let place = c.loop-place.place in
    let within : place < length ms = omega (arith, c.loop-place-test.true) in
    let rank : IsRankOf ms (record { len = c.len.result; place = place }) =
    record { within = within; len = λ m. c.len.ensures ∙ ap (λ (x : Member). length x.clause) (c.index-members-place.is ∙ get_or_default ms place c.index-members-place.result m within) } in
    record {
      each = subst (All (IsRankOf ms)) (sym c.in_ok-push.ensures.items) (All-push (IsRankOf ms) rs (record { len = c.len.result; place = place }) c.loop-place.invariant.each rank);
      all = λ k less. subst (Any (λ (r : Ranked). r.place ≡ k)) (sym c.in_ok-push.ensures.items) (one_more_rank rs (record { len = c.len.result; place = place }) place refl c.loop-place.invariant.all k less);
    }
