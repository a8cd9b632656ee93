use Rattle.std.proofs.Common.{◌≡◌, true, sym, subst}
use Rattle.term_bank.specs.Forest.{clause_at}
use Rattle.cert_format.specs.LineMachine.{item}
use Rattle.cert_format.specs.LineTexts.{line}
use Rattle.cert_values.specs.Wholes.{IsWholeClause}
use Rattle.cert_items.specs.Items.{IsItem, IsWholeNote, NoItem, group_of, note_of}
use Rattle.cert_items.proofs.Reading.{is_none, is_some}
use Rattle.cert_reader.specs.Bodies.{IsNextItem, NoNextItem}
use Rattle.cert_reader.specs.Groups.{AreGroups, items_of}
use Rattle.cert_reader.proofs.NextItems.{no_item_next, wrong_next, next_groups, next_item, line_longer}
use Rattle.cert_reader.proofs.Pushes.{grown_items, grown_groups}
use Rattle.cert_reader.proofs.next.next_item.Goals as goal

pub returns-in_default-clause-none : goal.returns-in_default-clause-none
returns-in_default-clause-none c =
    no_item_next c.args.shape (items_of c.args.shape c.args.reader.now c.args.groups.now) c.args.bytes.now
    (is_none c.in_ok-item.field-0 (NoItem c.args.shape c.args.bytes.now) c.in_default.is c.in_ok-item.ensures.none)

pub returns-then-not-may_take-clause-none : goal.returns-then-not-may_take-clause-none
returns-then-not-may_take-clause-none c =
    let s = c.in_ok-item in
    let x = c.in-Some.item in
    let f = c.args.reader.now in
    let h = c.read_item.new.reader in
    let w = c.read_item.new.literals in
    let d = clause_at h w in
    let i = is_some s.field-0 x (λ i. IsItem c.args.shape i.number d (note_of h i.note)) c.in-Some.is s.ensures.some in
    let text = is_some s.field-0 x (λ i. c.args.bytes.now ≡ line (item i.number d (note_of h i.note)) i.rest.now) c.in-Some.is s.ensures.text in
    let group = is_some s.field-0 x (λ i. group_of (note_of h i.note) ≡ i.group) c.in-Some.is s.ensures.group in
    let whole = is_some s.field-0 x (λ i. IsWholeClause h w) c.in-Some.is s.ensures.whole in
    let p = grown_groups f h c.read_item.ensures.grows.0 c.args.shape c.args.groups.now (c.read_item.ensures.grows.1 c.requires.bank) c.requires in
    subst (λ is. NoNextItem c.args.shape is c.args.bytes.now) (grown_items f h c.read_item.ensures.grows.0 c.args.shape c.args.groups.now c.requires)
    (wrong_next c.args.shape h c.args.groups.now x.group x.number w (note_of h x.note) c.args.bytes.now x.rest.now p c.distinct.ensures whole i text group (λ q. (let t = c.may_take.ensures.1 q in cc)))

pub returns-clause-groups : goal.returns-clause-groups
returns-clause-groups c =
    let s = c.in_ok-item in
    let x = c.in-Some.item in
    let h = c.read_item.new.reader in
    let d = clause_at h c.read_item.new.literals in
    let i = is_some s.field-0 x (λ i. IsItem c.args.shape i.number d (note_of h i.note)) c.in-Some.is s.ensures.some in
    let group = is_some s.field-0 x (λ i. group_of (note_of h i.note) ≡ i.group) c.in-Some.is s.ensures.group in
    let whole = is_some s.field-0 x (λ i. IsWholeClause h c.read_item.new.literals) c.in-Some.is s.ensures.whole in
    let terms = is_some s.field-0 x (λ i. IsWholeNote h i.note) c.in-Some.is s.ensures.terms in
    let t : c.may_take.result ≡ true = cc in
    let q = c.may_take.ensures.0 t in
    subst (λ g. AreGroups c.args.shape h g) (sym c.in_ok-push.ensures)
    (next_groups c.args.shape c.args.reader.now h c.args.groups.now x.group x.number x.note c.read_item.new.literals c.read_item.ensures.grows.0 (c.read_item.ensures.grows.1 c.requires.bank) c.requires i group q whole terms)

pub returns-clause-some : goal.returns-clause-some
returns-clause-some c =
    let s = c.in_ok-item in
    let x = c.in-Some.item in
    let f = c.args.reader.now in
    let h = c.read_item.new.reader in
    let d = clause_at h c.read_item.new.literals in
    let i = is_some s.field-0 x (λ i. IsItem c.args.shape i.number d (note_of h i.note)) c.in-Some.is s.ensures.some in
    let text = is_some s.field-0 x (λ i. c.args.bytes.now ≡ line (item i.number d (note_of h i.note)) i.rest.now) c.in-Some.is s.ensures.text in
    let group = is_some s.field-0 x (λ i. group_of (note_of h i.note) ≡ i.group) c.in-Some.is s.ensures.group in
    let t : c.may_take.result ≡ true = cc in
    let q = c.may_take.ensures.0 t in
    subst (λ g. IsNextItem c.args.shape (items_of c.args.shape f c.args.groups.now) (items_of c.args.shape h g) c.args.bytes.now x.rest.now) (sym c.in_ok-push.ensures)
    (next_item c.args.shape f h c.args.groups.now x.group x.number x.note c.read_item.new.literals c.read_item.ensures.grows.0 (c.read_item.ensures.grows.1 c.requires.bank) c.requires i group q c.args.bytes.now x.rest.now text)

pub returns-clause-shorter : goal.returns-clause-shorter
returns-clause-shorter c =
    let s = c.in_ok-item in
    let x = c.in-Some.item in
    let h = c.read_item.new.reader in
    let d = clause_at h c.read_item.new.literals in
    let text = is_some s.field-0 x (λ i. c.args.bytes.now ≡ line (item i.number d (note_of h i.note)) i.rest.now) c.in-Some.is s.ensures.text in
    line_longer x.number d (note_of h x.note) c.args.bytes.now x.rest.now text
