use Rattle.std.proofs.Common.{◌<◌, Bor, List, ℕ, length, arith}
use Rattle.cert_reader.specs.Bodies.{IsNextItem, NoNextItem}
use Rattle.cert_reader.specs.Groups.{AreGroups, items_of}
use Rattle.cert_items.proofs.Reading.{is_none, is_some}
use Rattle.cert_reader.proofs.Progress.{progress, ended_so, refused_so, closing_longer}
use Rattle.cert_reader.proofs.body.read_items.Goals as goal

pub end_of-requires : goal.end_of-requires
end_of-requires c =
    let l = c.loop-behind in
    omega (arith, l.invariant.counted, c.requires.counted, closing_longer c.args.shape.refutation c.args.name.now l.rest.now c.in-Some.behind.now c.in-Some.ensures.some)

pub returns-in-Some-clause-ends : goal.returns-in-Some-clause-ends
returns-in-Some-clause-ends c text h form same p =
    let l = c.loop-behind in
    ended_so text h c.args.shape c.args.name.now l.reader l.groups l.lines l.rest.now c.in-Some.behind.now c.end_of.result form same l.invariant.groups (l.invariant.read text h form p) c.in-Some.ensures.some c.end_of.ensures

pub returns-in-Ok-None-clause-ends : goal.returns-in-Ok-None-clause-ends
returns-in-Ok-None-clause-ends c text h form same p =
    let l = c.loop-behind in
    refused_so text h c.args.shape c.args.name.now (items_of c.args.shape l.reader l.groups) l.lines l.rest.now form same (l.invariant.read text h form p)
    (is_none c.in-Ok-None.field-0 (NoNextItem c.args.shape (items_of c.args.shape l.reader l.groups) l.rest.now) c.in-Ok-None.field-0-is c.in-Ok-None.ensures.none) c.in-None.ensures.none

pub loop-behind-preserved : goal.loop-behind-preserved
loop-behind-preserved c =
    let l = c.loop-behind in
    let s = c.in-Ok-Some in
    let next = is_some s.field-0 s.after (λ (x : Bor (List ℕ)). IsNextItem c.args.shape (items_of c.args.shape l.reader l.groups) (items_of c.args.shape c.next_item.new.reader c.next_item.new.groups) l.rest.now x.now) s.field-0-is s.ensures.some in
    let whole = is_some s.field-0 s.after (λ (x : Bor (List ℕ)). AreGroups c.args.shape c.next_item.new.reader c.next_item.new.groups) s.field-0-is s.ensures.groups in
    let shorter = is_some s.field-0 s.after (λ (x : Bor (List ℕ)). length x.now < length l.rest.now) s.field-0-is s.ensures.shorter in
    record {
      groups = whole;
      counted = omega (arith, l.invariant.counted, shorter);
      read = λ text h form p. progress text h c.args.shape (items_of c.args.shape l.reader l.groups) (items_of c.args.shape c.next_item.new.reader c.next_item.new.groups) l.lines l.rest.now s.after.now form (l.invariant.read text h form p) next;
    }

pub returns-in-Some-clause-groups : goal.returns-in-Some-clause-groups
returns-in-Some-clause-groups c e = c.loop-behind.invariant.groups

pub returns-in-Ok-None-clause-groups : goal.returns-in-Ok-None-clause-groups
returns-in-Ok-None-clause-groups c e = absurd cc
