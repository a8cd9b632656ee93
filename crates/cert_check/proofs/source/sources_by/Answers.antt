use Rattle.std.proofs.Common.{◌≡◌, ℕ, ◌+◌, List, ap, sym, subst, length, arith}
use Rattle.cert_format.specs.Certificate as format
use Rattle.cert_values.specs.declared.certificate.Base.{Base}
use Rattle.cert_values.specs.Values.{base_of}
use Rattle.cert_values.proofs.Kept.{base_same}
use Rattle.cert_check.specs.declared.source.Source.{Source}
use Rattle.cert_check.specs.Sources.{AreFirstMembers, AreSources, IsSource}
use Rattle.cert_check.proofs.Refutations.{keeps_trans, keeps_itself}
use Rattle.cert_check.proofs.Sources.{no_sources, one_more_source, sources_grown}
use Rattle.cert_check.proofs.source.sources_by.Goals as goal

pub loop-i-init : goal.loop-i-init
loop-i-init c =
    let b = c.args.base.now in
    record {
      kept = keeps_itself b;
      whole = c.requires.whole;
      sources = subst (λ (ss : List Source). AreSources b.bank (base_of b) 0 ss) (sym c.new-sources.ensures.items) (no_sources b.bank (base_of b));
    }

pub source_at-requires-clause-members : goal.source_at-requires-clause-members
source_at-requires-clause-members c =
    let same = base_same c.args.base.now c.loop-i.base c.requires.whole c.loop-i.invariant.kept in
    subst AreFirstMembers (sym same) c.requires.members

pub source_at-requires-clause-within : goal.source_at-requires-clause-within
source_at-requires-clause-within c =
    let count = ap (λ (x : Base). length x.members) c.loop-i.invariant.kept.rest in
    let end = c.len-i-end.ensures in
    let test = c.loop-i-test.true in
    omega (arith, count, end, test)

pub source_at-requires-clause-sources : goal.source_at-requires-clause-sources
source_at-requires-clause-sources c =
    let b = c.loop-i.base in
    let same = base_same c.args.base.now b c.requires.whole c.loop-i.invariant.kept in
    subst (λ (x : format.Base). AreSources b.bank x c.loop-i.i c.as_slice.result.now) (sym same)
    (subst (λ (ss : List Source). AreSources b.bank (base_of c.args.base.now) c.loop-i.i ss) (sym c.as_slice.ensures.value) c.loop-i.invariant.sources)

pub loop-i-preserved : goal.loop-i-preserved
loop-i-preserved c =
    let a = c.args.base.now in
    let b = c.loop-i.base in
    let d = c.source_at.new.base in
    let i = c.loop-i.i in
    let s = c.in_ok-source.source in
    let same = base_same a b c.requires.whole c.loop-i.invariant.kept in
    let source = subst (λ (x : format.Base). IsSource d.bank x (i + 1) s) same c.in_ok-source.ensures.source in
    let old = sources_grown b.bank d.bank c.source_at.ensures.kept.bank (base_of a) i c.loop-i.sources.items c.loop-i.invariant.sources in
    record {
      kept = keeps_trans a b d c.loop-i.invariant.kept c.source_at.ensures.kept;
      whole = c.in_ok-source.ensures.whole;
      sources = subst (λ (ss : List Source). AreSources d.bank (base_of a) (i + 1) ss) (sym c.in_ok-push.ensures.items) (one_more_source d.bank (base_of a) i c.loop-i.sources.items s old source);
    }

pub returns-clause-sources : goal.returns-clause-sources
returns-clause-sources c =
    let end = c.len-i-end.ensures in
    let last = c.loop-i-test.false in
    let most = c.loop-i.auto.i-end in
    let same : c.loop-i.i ≡ length c.args.base.now.members = omega (arith, end, last, most) in
    subst (λ (n : ℕ). AreSources c.loop-i.base.bank (base_of c.args.base.now) n c.loop-i.sources.items) same c.loop-i.invariant.sources
