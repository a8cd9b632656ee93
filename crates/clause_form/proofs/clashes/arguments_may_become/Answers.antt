use Rattle.std.proofs.Common.{arith, Bool, true, false, ◌≡◌, refl}
use Rattle.std.specs.Prelude.{not}
use Rattle.unify_core.proofs.Visits.{all_in}
use Rattle.clause_form.proofs.Fixed.{never_by_symbol, never_by_length, never_by_clash}
use Rattle.clause_form.proofs.clashes.arguments_may_become.Goals as goal

pub returns-then-not-have_one_symbol : goal.returns-then-not-have_one_symbol
returns-then-not-have_one_symbol c _ = never_by_symbol c.args.bank.now c.args.pattern c.args.target c.requires.application (c.have_one_symbol.ensures c.if-not-have_one_symbol.true)

pub returns-then-xs-ys : goal.returns-then-xs-ys
returns-then-xs-ys c _ =
    never_by_length c.args.bank.now c.args.pattern c.args.target c.requires.application c.args-xs.result.now c.args-ys.result.now c.args-xs.ensures.trees c.args-ys.ensures.trees c.if-xs-ys.true

is_true : (b : Bool) → not b ≡ false → b ≡ true
is_true true h = refl
is_true false h = absurd (cc)

pub returns : goal.returns
returns c h =
    never_by_clash c.args.bank.now c.args.pattern c.args.target c.requires.application c.args-xs.result.now c.args-ys.result.now c.args-xs.ensures.trees c.args-ys.ensures.trees
    c.requires.once c.requires.pattern c.requires.target c.args-xs.ensures.smaller c.args-ys.ensures.smaller (c.has_clash.ensures (is_true c.has_clash.result h))

pub has_clash-requires-clause-within : goal.has_clash-requires-clause-within
has_clash-requires-clause-within c a i =
    let below = all_in c.args.pattern c.args-xs.result.now c.args-xs.ensures.smaller a i in
    let within = c.requires.pattern in
    omega arith
