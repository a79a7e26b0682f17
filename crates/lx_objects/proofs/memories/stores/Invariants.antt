use Rattle.std.proofs.Common.{◌≡◌, ◌≤◌, ◌+◌, drop}
use Rattle.lx_objects.specs.Memories.{stores}
use Rattle.lx_objects.proofs.memories.stores.Given as goal

abbrev pub invariant-loop-slave : goal.invariant-loop-slave
invariant-loop-slave l = (l.count + stores (drop l.slave-index l.slaves) ≡ stores l.slaves) × (l.count ≤ l.slave-index)
