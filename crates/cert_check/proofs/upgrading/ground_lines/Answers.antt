use Rattle.std.proofs.Common.{◌≡◌, ℕ, ◌+◌, ◌++◌, ◌∷◌, ◌<◌, [], List, ap, sym, ◌∙◌, map, subst, take, length, get_or, arith}
use Rattle.std.proofs.lemmas.List.{length-take, take_more, take_all}
use Rattle.inst_logic.specs.declared.signed.Signed.{Signed}
use Rattle.inst_logic.specs.Tree.{app, none}
use Rattle.cert_format.specs.Certificate as format
use Rattle.cert_format.specs.Upgrades.{GivesTerms}
use Rattle.term_bank.specs.Forest.{tree_at}
use Rattle.cert_values.specs.declared.certificate.GroundLine.{GroundLine}
use Rattle.cert_values.specs.Values.{base_of}
use Rattle.cert_values.proofs.Kept.{base_same}
use Rattle.cert_check.specs.Sources.{AreFirstMembers, AreGroundLines, IsSource}
use Rattle.cert_check.proofs.Rightness.{item_there}
use Rattle.cert_check.proofs.GroundMembers.{at_grown}
use Rattle.cert_check.proofs.Refutations.{keeps_trans}
use Rattle.cert_check.proofs.Sources.{lines_grown, one_more_line, lines_counted, source_grown}
use Rattle.cert_check.proofs.upgrading.ground_lines.Goals as goal

pub ground_source-requires-clause-members : goal.ground_source-requires-clause-members
ground_source-requires-clause-members c =
    let same = base_same c.args.base.now c.loop-i.base c.requires.whole c.loop-i.invariant.kept in
    subst AreFirstMembers (sym same) c.requires.members

pub ground_source-requires-clause-source : goal.ground_source-requires-clause-source
ground_source-requires-clause-source c =
    let a = c.args.base.now in
    let b = c.loop-i.base in
    let i = c.loop-i.i in
    let s = c.index-sources-i.result in
    let same = base_same a b c.requires.whole c.loop-i.invariant.kept in
    let end = c.len-i-end.ensures in
    let test = c.loop-i-test.true in
    let count = c.requires.count in
    let sources = c.requires.sources.count_of in
    let within : i < length c.args.sources.now = omega (arith, end, test, count, sources) in
    let there = item_there c.args.sources.now i s within c.index-sources-i.is in
    subst (λ (x : format.Base). IsSource b.bank x (i + 1) s) (sym same) (source_grown a.bank b.bank c.loop-i.invariant.kept.bank (base_of a) (i + 1) s (c.requires.sources.each (i + 1) s there))

pub loop-i-preserved : goal.loop-i-preserved
loop-i-preserved c =
    let a = c.args.base.now in
    let b = c.loop-i.base in
    let d = c.ground_source.new.base in
    let i = c.loop-i.i in
    let gs = c.args.grounds.now in
    let ls = c.loop-i.lines in
    let s = c.in_ok-source.source in
    let same = base_same a b c.requires.whole c.loop-i.invariant.kept in
    let end = c.len-i-end.ensures in
    let test = c.loop-i-test.true in
    let within : i < length gs = omega (arith, end, test) in
    let clause : c.in_ok-clause.clause ≡ get_or gs i c.index-as_slice-i.result =
    c.in_ok-clause.ensures ∙ c.index-as_slice-i.is ∙ ap (λ (xs : List (List (Signed ℕ))). get_or xs i c.index-as_slice-i.result) c.as_slice.ensures in
    let taken : take (i + 1) gs ≡ take i gs ++ c.in_ok-clause.clause ∷ [] =
    take_more gs i c.index-as_slice-i.result within ∙ ap (λ (x : List (Signed ℕ)). take i gs ++ x ∷ []) (sym clause) in
    let l : GroundLine = record { clause = c.in_ok-clause.clause; input = s.input; terms = s.terms } in
    record {
      kept = keeps_trans a b d c.loop-i.invariant.kept c.ground_source.ensures.kept;
      whole = c.in_ok-source.ensures.whole;
      lines = λ bot at.
          let old = c.loop-i.invariant.lines bot at in
          let count = lines_counted b.bank (base_of a) bot (take i gs) ls old in
          let size = length-take i gs in
          let number : i + 1 ≡ length ls + 1 = omega (arith, count, size, within) in
          let given = subst (λ (x : format.Base). GivesTerms x bot (i + 1) s.input (map (tree_at d.bank) s.terms)) same
          (c.in_ok-source.ensures.given bot (at_grown a.bank b.bank c.loop-i.invariant.kept.bank c.args.constant (app bot none) at)) in
          let more = one_more_line d.bank (base_of a) bot (take i gs) ls l (lines_grown b.bank d.bank c.ground_source.ensures.kept.bank (base_of a) bot (take i gs) ls old) c.in_ok-source.ensures.terms
          (subst (λ (n : ℕ). GivesTerms (base_of a) bot n s.input (map (tree_at d.bank) s.terms)) number given) in
          subst (λ (xs : List GroundLine). AreGroundLines d.bank (base_of a) bot (take (i + 1) gs) xs) (sym c.in_ok-push.ensures.ok)
          (subst (λ (cs : List (List (Signed ℕ))). AreGroundLines d.bank (base_of a) bot cs (ls ++ l ∷ [])) (sym taken) more);
    }

pub returns-clause-lines : goal.returns-clause-lines
returns-clause-lines c bot at =
    let gs = c.args.grounds.now in
    let end = c.len-i-end.ensures in
    let last = c.loop-i-test.false in
    let most = c.loop-i.auto.i-end in
    let same : c.loop-i.i ≡ length gs = omega (arith, end, last, most) in
    subst (λ (cs : List (List (Signed ℕ))). AreGroundLines c.loop-i.base.bank (base_of c.args.base.now) bot cs c.loop-i.lines) (take_all c.loop-i.i gs (omega (arith, same)))
    (c.loop-i.invariant.lines bot at)
