use Rattle.std.proofs.Common.{◌≡◌, rules}
use Rattle.std.proofs.lemmas.List.Sorted.{All-permutation, IsNonDecreasingBy-from_sort_by_key}
use Rattle.cert_index.specs.declared.lengths.Ranked.{Ranked}
use Rattle.cert_index.specs.Lengths.{IsRankOf}
use Rattle.cert_index.proofs.LengthLaws.{any_moved}
use Rattle.cert_index.proofs.lengths.by_length.Goals as goal

pub returns : goal.returns
returns c =
    let ms = c.args.members.now in
    let xs = c.in_ok-ranked.ranked.items in
    let moved = c.sort_by_key.ensures.permutation in
    record {
      each = All-permutation (IsRankOf ms) xs _ moved c.in_ok-ranked.ensures.each;
      all = λ k less. any_moved (λ (r : Ranked). r.place ≡ k) xs _ moved (c.in_ok-ranked.ensures.all k less);
      ordered = IsNonDecreasingBy-from_sort_by_key (λ (r : Ranked). r.len) _ c.in_ok-sort_by_key.ensures.sorted (λ a r q k. search rules);
    }
