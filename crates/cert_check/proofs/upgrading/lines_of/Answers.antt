use Rattle.std.proofs.Common.{◌≡◌, ℕ, List, ap, sym, refl, rules, subst, length}
use Rattle.std.proofs.lemmas.Result.{IfOk-weaker}
use Rattle.cert_format.specs.Certificate as format
use Rattle.term_bank.specs.Forest.{Forest, Extends}
use Rattle.cert_values.specs.declared.certificate.Base.{Base}
use Rattle.cert_values.specs.Values.{base_of}
use Rattle.cert_values.specs.Wholes.{IsWholeBase, KeepsBase}
use Rattle.cert_values.proofs.Kept.{base_same}
use Rattle.cert_check.specs.declared.source.Source.{Source}
use Rattle.cert_check.specs.Sources.{AreFirstMembers, AreGroundLines, AreSources}
use Rattle.cert_check.proofs.Refutations.{keeps_trans, whole_base}
use Rattle.cert_check.proofs.Sources.{sources_grown}
use Rattle.cert_check.proofs.upgrading.lines_of.Goals as goal

-- a base that was kept, and then its bank grew
grown_same : (a b : Base) (g : Forest) → IsWholeBase a → KeepsBase a b → Extends b.bank g → base_of (record b { bank = g }) ≡ base_of a
grown_same a b g whole kept grown = base_same a (record b { bank = g }) whole (keeps_trans a b (record b { bank = g }) kept (record { bank = grown; rest = refl }))

pub ground_lines-requires-clause-whole : goal.ground_lines-requires-clause-whole
ground_lines-requires-clause-whole c =
    let whole = c.in_ok-sources.ensures.whole in
    whole_base c.sources_of.new.base c.app.new.self whole c.app.ensures.extends (c.app.ensures.formed whole.bank (search rules))

pub ground_lines-requires-clause-members : goal.ground_lines-requires-clause-members
ground_lines-requires-clause-members c =
    let same = grown_same c.args.base.now c.sources_of.new.base c.app.new.self c.requires.whole c.sources_of.ensures.kept c.app.ensures.extends in
    subst AreFirstMembers (sym same) c.requires.members

pub ground_lines-requires-clause-sources : goal.ground_lines-requires-clause-sources
ground_lines-requires-clause-sources c =
    let a = c.args.base.now in
    let b = c.sources_of.new.base in
    let g = c.app.new.self in
    let same = grown_same a b g c.requires.whole c.sources_of.ensures.kept c.app.ensures.extends in
    let count : length b.members ≡ length a.members = ap (λ (x : Base). length x.members) c.sources_of.ensures.kept.rest in
    let grown = sources_grown b.bank g c.app.ensures.extends (base_of a) (length a.members) c.in_ok-sources.sources.items c.in_ok-sources.ensures.sources in
    subst (λ (ss : List Source). AreSources g (base_of (record b { bank = g })) (length b.members) ss) (sym c.as_slice.ensures.value)
    (subst (λ (n : ℕ). AreSources g (base_of (record b { bank = g })) n c.in_ok-sources.sources.items) (sym count)
    (subst (λ (x : format.Base). AreSources g x (length a.members) c.in_ok-sources.sources.items) (sym same) grown))

pub returns-clause-lines : goal.returns-clause-lines
returns-clause-lines c =
    let same = grown_same c.args.base.now c.sources_of.new.base c.app.new.self c.requires.whole c.sources_of.ensures.kept c.app.ensures.extends in
    IfOk-weaker c.ground_lines.result _ _
    (λ ls h. subst (λ (x : format.Base). AreGroundLines c.ground_lines.new.base.bank x c.args.bot.now c.args.grounds.now ls) same (h c.args.bot.now c.in_ok-constant.ensures.at))
    c.ground_lines.ensures.lines
