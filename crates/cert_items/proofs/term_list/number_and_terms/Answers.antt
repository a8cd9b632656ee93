use Rattle.std.proofs.Common.{◌≡◌, ◌≢◌, List, ℕ, map}
use Rattle.inst_logic.specs.Tree.{Tree}
use Rattle.term_bank.specs.Forest.{tree_at}
use Rattle.cert_format.specs.LineTexts as texts
use Rattle.cert_items.specs.Reading.{ArePrintable}
use Rattle.cert_items.proofs.Reading.{is_none, is_some}
use Rattle.cert_items.proofs.Covering.{no_bracket, no_inner, no_parenthesis}
use Rattle.cert_items.proofs.term_list.number_and_terms.Goals as goal

pub returns-in_default-mark-clause-none : goal.returns-in_default-mark-clause-none
returns-in_default-mark-clause-none c =
    let s = c.in-Some in
    no_bracket c.args.bytes.now s.after.now s.n s.ensures.some s.ensures.fits c.in_default-mark.ensures.none

pub returns-in_default-2-clause-none : goal.returns-in_default-2-clause-none
returns-in_default-2-clause-none c =
    let s = c.in-Some in
    let m = c.in-Some-mark in
    let k = c.in_ok-list in
    no_inner c.args.bytes.now s.after.now s.n s.ensures.some s.ensures.fits m.inner.now m.ensures.some
    (is_none k.field-0 ((ts : List Tree) (rest : List ℕ) → ArePrintable ts → m.inner.now ≢ texts.terms ts rest) c.in_default-2.is k.ensures.none)

pub returns-in_default-mark-2-clause-none : goal.returns-in_default-mark-2-clause-none
returns-in_default-mark-2-clause-none c =
    let s = c.in-Some in
    let m = c.in-Some-mark in
    let r = c.in_ok-list in
    let k = c.in-Some-2 in
    let f = c.term_list.new.reader in
    let text = is_some r.field-0 (k.list, k.behind) (λ p. m.inner.now ≡ texts.terms (map (tree_at f) p.0) p.1.now) k.is r.ensures.some in
    let good = is_some r.field-0 (k.list, k.behind) (λ p. ArePrintable (map (tree_at f) p.0)) k.is r.ensures.printable in
    no_parenthesis c.args.bytes.now s.after.now s.n s.ensures.some s.ensures.fits m.inner.now k.behind.now (map (tree_at f) k.list) m.ensures.some text good c.in_default-mark-2.ensures.none
