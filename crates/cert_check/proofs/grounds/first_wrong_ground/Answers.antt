use Rattle.std.proofs.Common.{◌≡◌, arith, below_more, map, refl, rules}
use Rattle.std.specs.Prelude.{slice_get}
use Rattle.std.proofs.lemmas.List.{length-map}
use Rattle.inst_logic.specs.Tree.{app, none}
use Rattle.term_bank.specs.Forest.{clause_at}
use Rattle.cert_check.proofs.Differences.{first_difference, no_difference}
use Rattle.cert_check.proofs.GroundMembers.{abstractions, at_grown, canonical_kept, grounds_of, count_same, ground_kept}
use Rattle.cert_check.proofs.Refutations.{keeps_trans, not_true, whole_base}
use Rattle.cert_check.proofs.grounds.first_wrong_ground.Goals as goal

pub loop-i-init : goal.loop-i-init
loop-i-init c =
    let b = c.args.base.now in
    record {
      constant = c.in_ok-constant.ensures.at;
      right = λ k less. absurd (omega arith);
      kept = record { bank = c.app.ensures.extends; rest = refl };
      whole = whole_base b c.app.new.self c.requires.whole c.app.ensures.extends (c.app.ensures.formed c.requires.whole.bank (search rules));
    }

pub is_ground_at-requires-clause-canonical : goal.is_ground_at-requires-clause-canonical
is_ground_at-requires-clause-canonical c = canonical_kept c.args.base.now c.loop-i.base c.requires.whole c.loop-i.invariant.kept c.requires.canonical

pub is_ground_at-requires-clause-grounds : goal.is_ground_at-requires-clause-grounds
is_ground_at-requires-clause-grounds c = grounds_of c.args.base.now.bank c.loop-i.base.bank c.loop-i.invariant.kept.bank c.args.grounds.now c.requires.grounds

pub loop-i-preserved : goal.loop-i-preserved
loop-i-preserved c =
    let a = c.args.base.now in
    let b = c.loop-i.base in
    let d = c.is_ground_at.new.base in
    let cs = c.args.grounds.now in
    let same = ground_kept a b c.requires.whole c.loop-i.invariant.kept c.args.bot.now c.in_ok-constant.constant c.loop-i.invariant.constant.1 cs c.requires.grounds c.loop-i.i in
    record {
      constant = at_grown b.bank d.bank c.is_ground_at.ensures.kept.bank c.in_ok-constant.constant (app c.args.bot.now none) c.loop-i.invariant.constant;
      right = below_more (λ k. slice_get (map (clause_at a.bank) cs) k ≡ slice_get (abstractions c.args.bot.now a.bank a.members) k) c.loop-i.i c.loop-i.invariant.right
          (same.0 (c.in_ok-is_ground_at.ensures.right.0 c.if-not-branch.false));
      kept = keeps_trans a b d c.loop-i.invariant.kept c.is_ground_at.ensures.kept;
      whole = c.is_ground_at.ensures.whole;
    }

pub returns-then-not-branch-clause-first : goal.returns-then-not-branch-clause-first
returns-then-not-branch-clause-first c =
    let a = c.args.base.now in
    let same = ground_kept a c.loop-i.base c.requires.whole c.loop-i.invariant.kept c.args.bot.now c.in_ok-constant.constant c.loop-i.invariant.constant.1 c.args.grounds.now c.requires.grounds c.loop-i.i in
    first_difference (map (clause_at a.bank) c.args.grounds.now) (abstractions c.args.bot.now a.bank a.members) c.loop-i.i c.loop-i.invariant.right
    (λ e. not_true c.in_ok-is_ground_at.field-0 c.in_ok-is_ground_at.field-0 refl c.if-not-branch.true (c.in_ok-is_ground_at.ensures.right.1 (same.1 e)))

pub returns-clause-first : goal.returns-clause-first
returns-clause-first c =
    let a = c.args.base.now in
    let cs = c.args.grounds.now in
    no_difference (map (clause_at a.bank) cs) (abstractions c.args.bot.now a.bank a.members) c.loop-i.i
    (omega (arith, length-map cs (clause_at a.bank)))
    (omega (arith, count_same c.args.bot.now a.bank a.members))
    c.loop-i.invariant.right

pub returns-in_err-constant-clause-whole : goal.returns-in_err-constant-clause-whole
returns-in_err-constant-clause-whole c =
    whole_base c.args.base.now c.app.new.self c.requires.whole c.app.ensures.extends (c.app.ensures.formed c.requires.whole.bank (search rules))
