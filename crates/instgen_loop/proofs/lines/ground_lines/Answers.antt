use Rattle.std.proofs.Common.{◌≡◌, sym, subst}
use Rattle.inst_logic.specs.Tree.{app, none}
use Rattle.inst_logic.specs.WellFormed.{IsTerm}
use Rattle.term_bank.specs.Forest.{tree_at}
use Rattle.term_bank.proofs.Growth.{extends_trans}
use Rattle.ground_abs.proofs.Images.{constant_is_formed}
use Rattle.global_subs.proofs.TaskLaws.{entries_stay}
use Rattle.instgen_loop.proofs.LineLaws.{all_grounded, all_made, all_terms, constant_term, given_later, made_terms}
use Rattle.instgen_loop.proofs.lines.ground_lines.Goals as goal

pub unroll_all-requires-clause-entries : goal.unroll_all-requires-clause-entries
unroll_all-requires-clause-entries c = entries_stay c.args.bank.now c.app.new.self c.app.ensures.extends c.args.made.now c.requires.entries

pub lines_of-requires-clause-given : goal.lines_of-requires-clause-given
lines_of-requires-clause-given c =
    let f = c.args.bank.now in
    let g = c.app.new.self in
    let h = c.unroll_all.new.bank in
    given_later f h (extends_trans f g h c.app.ensures.extends c.unroll_all.ensures.extends) c.args.given.now c.requires.given

pub lines_of-requires-clause-items : goal.lines_of-requires-clause-items
lines_of-requires-clause-items c =
    let g = c.app.new.self in
    let bot = c.args.bot.now in
    let e : tree_at g c.in_ok-constant.constant ≡ app bot none = c.in_ok-constant.ensures.at.1 in
    all_grounded c.args.bank.now g c.unroll_all.new.bank bot c.args.given.now c.args.made.now c.in_ok-items.items c.app.ensures.extends c.unroll_all.ensures.extends c.requires.given c.requires.entries
    c.requires.made (c.in_ok-items.ensures.grounded bot e)

pub returns-clause-formed : goal.returns-clause-formed
returns-clause-formed c = λ old.
    let g = c.app.new.self in
    let bot = c.args.bot.now in
    let e : tree_at g c.in_ok-constant.constant ≡ app bot none = c.in_ok-constant.ensures.at.1 in
    let made = made_terms c.args.bank.now g c.unroll_all.new.bank bot c.args.given.now c.args.made.now c.in_ok-items.items c.app.ensures.extends c.unroll_all.ensures.extends c.requires.given c.requires.entries c.requires.terms in
    let items = all_terms c.args.bank.now g c.unroll_all.new.bank bot c.args.given.now c.args.made.now c.in_ok-items.items c.app.ensures.extends c.unroll_all.ensures.extends c.requires.given c.requires.entries
    c.requires.items (c.in_ok-items.ensures.list bot e) in
    let constant = subst IsTerm (sym e) (constant_term bot c.requires.constant) in
    c.in_ok-lines.ensures.formed (c.in_ok-items.ensures.formed constant (c.app.ensures.formed old (constant_is_formed bot c.requires.constant)) made) items

pub returns-clause-lines : goal.returns-clause-lines
returns-clause-lines c =
    let g = c.app.new.self in
    let bot = c.args.bot.now in
    let e : tree_at g c.in_ok-constant.constant ≡ app bot none = c.in_ok-constant.ensures.at.1 in
    all_made c.args.bank.now g c.unroll_all.new.bank bot c.args.given.now c.args.made.now c.in_ok-items.items c.app.ensures.extends c.unroll_all.ensures.extends c.requires.given c.requires.entries
    c.lines_of.new.bank c.in_ok-lines.lines (c.in_ok-items.ensures.list bot e) c.in_ok-lines.ensures.lines
