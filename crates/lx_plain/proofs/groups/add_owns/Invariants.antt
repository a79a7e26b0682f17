use Rattle.std.proofs.Common.{◌≡◌, length, take}
use Rattle.lx_plain.specs.Owned.{OwnsAdded}
use Rattle.lx_plain.proofs.groups.add_owns.Given as goal

abbrev pub invariant-loop-own : goal.invariant-loop-own
invariant-loop-own l = record {
  added : OwnsAdded (take l.own-index l.owns) l.holds l.initial.slots.items l.slots.items l.initial.groups.items l.groups.items;
  long : length l.slots.items ≡ length l.initial.slots.items;
}
