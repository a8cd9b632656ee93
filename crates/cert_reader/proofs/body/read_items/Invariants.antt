use Rattle.std.proofs.Common.{◌≡◌, ◌+◌, ◌≤◌, List, ℕ, length}
use Rattle.cert_format.specs.LineMachine.{Header}
use Rattle.cert_items.specs.Items.{shape_of}
use Rattle.cert_reader.specs.Bodies.{HasRead}
use Rattle.cert_reader.specs.Groups.{AreGroups, items_of}
use Rattle.cert_reader.proofs.body.read_items.Given as goal

abbrev pub invariant-loop-behind : goal.invariant-loop-behind
invariant-loop-behind l = record {
  groups : AreGroups l.shape l.reader l.groups;
  counted : l.lines + length l.rest ≤ l.fn.lines + length l.fn.bytes;
  read : (text : List ℕ) (h : Header) → shape_of h ≡ l.shape → HasRead text h (items_of l.shape l.fn.reader l.fn.groups) l.fn.lines l.fn.bytes → HasRead text h (items_of l.shape l.reader l.groups) l.lines l.rest;
}

abbrev pub decreases-loop-behind : goal.decreases-loop-behind
decreases-loop-behind l = length l.rest
