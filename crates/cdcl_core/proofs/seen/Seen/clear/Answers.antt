use Rattle.std.proofs.Common.{◌≡◌, length, arith, ap, sym, ◌∙◌, vec_len}
use Rattle.std.proofs.lemmas.List.{length-map}
use Rattle.proof_log.proofs.Stamps.{none_stamped, none_stamped_filled}
use Rattle.cdcl_core.proofs.seen.Seen.clear.Goals as goal

pub returns-then-self-lt4294967295 : goal.returns-then-self-lt4294967295
returns-then-self-lt4294967295 c =
    none_stamped c.self.inside.stamps.items c.self.inside.present _ _ c.self.invariant.below (omega arith) (ap length (sym c.self.view_is) ∙ simp length-map)

pub returns-else-self-lt4294967295 : goal.returns-else-self-lt4294967295
returns-else-self-lt4294967295 c =
    let same : length c.args.self.now ≡ length c.self.inside.stamps.items = ap length (sym c.self.view_is) ∙ simp length-map in
    none_stamped_filled c.fill.new.self.items (vec_len c.self.inside.stamps) _ _ (c.fill.ensures.items (λ y h. h)) (omega (arith, c.self.inside.stamps.ok.0)) (omega arith)
