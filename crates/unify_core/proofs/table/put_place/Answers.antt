use Rattle.std.proofs.Common.{ℕ, ◌<◌, length, sym, ap, ◌∙◌, subst, get_or, arith}
use Rattle.unify_core.proofs.Tables.{given_here, given_else}
use Rattle.unify_core.proofs.table.put_place.Goals as goal

pub returns-in-None-clause-placed : goal.returns-in-None-clause-placed
returns-in-None-clause-placed c small = let large = c.in-None.ensures.none in absurd (omega arith)

pub returns-in_ok-put_at-in-Some-clause-placed : goal.returns-in_ok-put_at-in-Some-clause-placed
returns-in_ok-put_at-in-Some-clause-placed c small =
    let e = c.in-Some.ensures.some.0 in (
      subst (λ (m : ℕ). m < length c.put_at.new.places.items) e c.in_ok-put_at-in-Some.ensures.within,
      ap (λ (m : ℕ). get_or c.put_at.new.places.items m 0) (sym e) ∙ given_here c.put_at.new.places.items c.args.places.now.items c.in-Some.n c.args.place c.in_ok-put_at-in-Some.ensures.given,
    )

pub returns-in_ok-put_at-in-Some-clause-kept : goal.returns-in_ok-put_at-in-Some-clause-kept
returns-in_ok-put_at-in-Some-clause-kept c k apart =
    given_else c.put_at.new.places.items c.args.places.now.items c.in-Some.n c.args.place c.in_ok-put_at-in-Some.ensures.given k (λ e. apart (e ∙ c.in-Some.ensures.some.0))

pub returns-in_err-put_at-in-Some-clause-kept : goal.returns-in_err-put_at-in-Some-clause-kept
returns-in_err-put_at-in-Some-clause-kept c k _ = c.in_err-put_at-in-Some.ensures.held k
