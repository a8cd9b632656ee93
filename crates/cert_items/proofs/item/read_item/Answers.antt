use Rattle.std.proofs.Common.{◌≡◌, ◌≢◌, ◌∷◌, ◌++◌, Bor, List, ℕ, sym, subst}
use Rattle.std.specs.Prelude.{IsTrue}
use Rattle.inst_logic.specs.Clauses.{TreeClause}
use Rattle.inst_logic.specs.Printing.{clause_text}
use Rattle.term_bank.specs.Forest.{Grows, clause_at}
use Rattle.term_bank.proofs.Clauses.{clause_extends}
use Rattle.term_bank.proofs.Growth.{grows_trans}
use Rattle.cert_format.specs.LineMachine.{item}
use Rattle.cert_format.specs.LineTexts.{line}
use Rattle.cert_format.specs.Formats.{clause_is_printable}
use Rattle.cert_values.specs.Wholes.{IsWholeClause}
use Rattle.cert_values.proofs.Grown.{clause_grown}
use Rattle.cert_items.specs.Items.{IsItem, IsNoteAt, NoLastNote, note_of}
use Rattle.cert_items.proofs.Reading.{is_none, is_some}
use Rattle.cert_items.proofs.Items.{no_item_head, no_item_clause, no_item_note, whole_line, whole_item}
use Rattle.cert_items.proofs.item.read_item.Goals as goal

pub returns-in_default-clause-none : goal.returns-in_default-clause-none
returns-in_default-clause-none c = no_item_head c.args.shape c.args.bytes.now c.in_default.ensures.none

pub returns-in_default-2-clause-none : goal.returns-in_default-2-clause-none
returns-in_default-2-clause-none c =
    let s = c.in-Some in
    let k = c.in_ok-behind in
    no_item_clause c.args.shape s.group s.number c.args.bytes.now s.after.now s.ensures.some.0 s.ensures.some.1
    (is_none k.field-0 ((d : TreeClause) (rest : List ℕ) → IsTrue (clause_is_printable d) → s.after.now ≢ clause_text d ++ 44 ∷ rest) c.in_default-2.is k.ensures.none)

pub returns-in_default-3-clause-none : goal.returns-in_default-3-clause-none
returns-in_default-3-clause-none c =
    let s = c.in-Some in
    let k = c.in_ok-behind in
    let d = clause_at c.printable_clause.new.bank c.printable_clause.new.literals in
    let text = is_some k.field-0 c.in-Some-2.behind (λ (x : Bor (List ℕ)). s.after.now ≡ clause_text d ++ 44 ∷ x.now) c.in-Some-2.is k.ensures.some in
    let test = is_some k.field-0 c.in-Some-2.behind (λ (x : Bor (List ℕ)). IsTrue (clause_is_printable d)) c.in-Some-2.is k.ensures.printable in
    no_item_note c.args.shape s.group s.number d c.args.bytes.now s.after.now c.in-Some-2.behind.now s.ensures.some.0 s.ensures.some.1 text test
    (is_none c.in_ok-note.field-0 (NoLastNote c.args.shape s.group s.number c.in-Some-2.behind.now) c.in_default-3.is c.in_ok-note.ensures.none)

pub returns-clause-some : goal.returns-clause-some
returns-clause-some c =
    let s = c.in-Some in
    let k = c.in_ok-behind in
    let n = c.in-Some-3 in
    let r = c.in_ok-note in
    let f = c.printable_clause.new.bank in
    let h = c.last_note.new.reader in
    let w = c.printable_clause.new.literals in
    let d = clause_at f w in
    let note = note_of h n.note in
    let test = is_some k.field-0 c.in-Some-2.behind (λ (x : Bor (List ℕ)). IsTrue (clause_is_printable d)) c.in-Some-2.is k.ensures.printable in
    let whole = is_some k.field-0 c.in-Some-2.behind (λ (x : Bor (List ℕ)). IsWholeClause f w) c.in-Some-2.is k.ensures.whole in
    let a = is_some r.field-0 (n.note, n.rest) (λ p. IsNoteAt c.args.shape s.group s.number (note_of h p.0) c.in-Some-2.behind.now (41 ∷ 46 ∷ 10 ∷ p.1.now)) n.is r.ensures.some in
    subst (λ (x : TreeClause). IsItem c.args.shape s.number x note) (sym (clause_extends f h c.last_note.ensures.grows.0 w whole.ids))
    (whole_item c.args.shape s.group s.number d note c.in-Some-2.behind.now (41 ∷ 46 ∷ 10 ∷ n.rest.now) s.ensures.some.1 test a)

pub returns-clause-text : goal.returns-clause-text
returns-clause-text c =
    let s = c.in-Some in
    let k = c.in_ok-behind in
    let n = c.in-Some-3 in
    let r = c.in_ok-note in
    let f = c.printable_clause.new.bank in
    let h = c.last_note.new.reader in
    let w = c.printable_clause.new.literals in
    let d = clause_at f w in
    let note = note_of h n.note in
    let text = is_some k.field-0 c.in-Some-2.behind (λ (x : Bor (List ℕ)). s.after.now ≡ clause_text d ++ 44 ∷ x.now) c.in-Some-2.is k.ensures.some in
    let whole = is_some k.field-0 c.in-Some-2.behind (λ (x : Bor (List ℕ)). IsWholeClause f w) c.in-Some-2.is k.ensures.whole in
    let a = is_some r.field-0 (n.note, n.rest) (λ p. IsNoteAt c.args.shape s.group s.number (note_of h p.0) c.in-Some-2.behind.now (41 ∷ 46 ∷ 10 ∷ p.1.now)) n.is r.ensures.some in
    subst (λ (x : TreeClause). c.args.bytes.now ≡ line (item s.number x note) n.rest.now) (sym (clause_extends f h c.last_note.ensures.grows.0 w whole.ids))
    (whole_line c.args.shape s.group s.number d note c.args.bytes.now s.after.now c.in-Some-2.behind.now n.rest.now s.ensures.some.0 text a)

pub returns-clause-group : goal.returns-clause-group
returns-clause-group c =
    let s = c.in-Some in
    let n = c.in-Some-3 in
    let r = c.in_ok-note in
    let a = is_some r.field-0 (n.note, n.rest) (λ p. IsNoteAt c.args.shape s.group s.number (note_of c.last_note.new.reader p.0) c.in-Some-2.behind.now (41 ∷ 46 ∷ 10 ∷ p.1.now)) n.is r.ensures.some in
    a.0.group_is

pub returns-clause-whole : goal.returns-clause-whole
returns-clause-whole c =
    let k = c.in_ok-behind in
    let f = c.printable_clause.new.bank in
    let w = c.printable_clause.new.literals in
    clause_grown f c.last_note.new.reader c.last_note.ensures.grows.0 w (is_some k.field-0 c.in-Some-2.behind (λ (x : Bor (List ℕ)). IsWholeClause f w) c.in-Some-2.is k.ensures.whole)

pub returns-clause-grows : goal.returns-clause-grows
returns-clause-grows c =
    let first = subst (λ f. Grows f c.printable_clause.new.bank) c.reader.view_is c.printable_clause.ensures.grows in
    grows_trans c.args.reader.now c.printable_clause.new.bank c.last_note.new.reader first c.last_note.ensures.grows

pub returns-in_default-3-clause-grows : goal.returns-in_default-3-clause-grows
returns-in_default-3-clause-grows c =
    let first = subst (λ f. Grows f c.printable_clause.new.bank) c.reader.view_is c.printable_clause.ensures.grows in
    grows_trans c.args.reader.now c.printable_clause.new.bank c.last_note.new.reader first c.last_note.ensures.grows

pub returns-in_err-note-clause-grows : goal.returns-in_err-note-clause-grows
returns-in_err-note-clause-grows c =
    let first = subst (λ f. Grows f c.printable_clause.new.bank) c.reader.view_is c.printable_clause.ensures.grows in
    grows_trans c.args.reader.now c.printable_clause.new.bank c.last_note.new.reader first c.last_note.ensures.grows
