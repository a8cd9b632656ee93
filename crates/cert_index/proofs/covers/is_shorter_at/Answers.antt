use Rattle.std.proofs.Common.{◌≡◌, ◌<◌, ◌∙◌, length, get_or, sym, subst, true, false, arith}
use Rattle.std.proofs.lemmas.List.{get_or_default, length-map}
use Rattle.std.proofs.lemmas.Result.{IfOk-weaker}
use Rattle.inst_logic.specs.Clauses.{Subsumes}
use Rattle.cert_values.specs.declared.member.Member.{Member}
use Rattle.term_bank.specs.Forest.{clause_at, literal_tree, tree_at}
use Rattle.cert_index.specs.declared.fingerprint.Fingerprint.{Fingerprint}
use Rattle.cert_index.specs.Fingerprints.{Differ, fingerprint_at}
use Rattle.cert_index.proofs.FingerprintLaws.{instance_agrees}
use Rattle.cert_index.proofs.covers.is_shorter_at.Goals as goal

pub returns-then-differs-clause-no : goal.returns-then-differs-clause-no
returns-then-differs-clause-no c e l has m inst short =
    let f = c.args.sought.now.bank.now in
    let ps = c.args.sought.now.lookup.now.fingerprints.items in
    let k = c.args.k in
    let here : k < length ps = omega (arith, c.requires.ready.lookup.count, c.requires.within) in
    let left : c.index.result.now ≡ fingerprint_at ps k = c.index.ensures ∙ get_or_default ps k c.index.result.now _ here in
    let differ : Differ (fingerprint_at ps k) c.args.fingerprint.now = subst (λ (p : Fingerprint). Differ p c.args.fingerprint.now) left (c.differs.ensures c.if-differs.true) in
    let (s, t, print, same) = inst in
    instance_agrees f s t (tree_at f l.atom) (fingerprint_at ps k) c.args.fingerprint.now print has same differ

pub returns-clause-yes : goal.returns-clause-yes
returns-clause-yes c =
    let f = c.args.sought.now.bank.now in
    let ms = c.args.sought.now.members.now in
    let k = c.args.k in
    let m = c.index-sought-k.result in
    IfOk-weaker c.subsumes.result _ _ (λ r h t. record {
      within = c.requires.within;
      holds = λ d.
          let same : get_or ms k m ≡ get_or ms k d = get_or_default ms k m d c.requires.within in
          let less : length (clause_at f (get_or ms k d).clause) < c.args.sought.now.len = omega (arith, c.requires.shorter d, length-map (get_or ms k d).clause (literal_tree f)) in
          (less, subst (λ (x : Member). Subsumes (clause_at f x.clause) (clause_at f c.args.sought.now.clause.now)) same (h.0 t));
    }) c.subsumes.ensures

pub returns-clause-no : goal.returns-clause-no
returns-clause-no c =
    let f = c.args.sought.now.bank.now in
    let ms = c.args.sought.now.members.now in
    let k = c.args.k in
    IfOk-weaker c.subsumes.result _ _ (λ r h e l has m inst short.
    let same : get_or ms k m ≡ get_or ms k c.index-sought-k.result = get_or_default ms k m c.index-sought-k.result c.requires.within in
    let t : false ≡ true = sym e ∙ h.1 (subst (λ (x : Member). Subsumes (clause_at f x.clause) (clause_at f c.args.sought.now.clause.now)) same short.1) in cc) c.subsumes.ensures
