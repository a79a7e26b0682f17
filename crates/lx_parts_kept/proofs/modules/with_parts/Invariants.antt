use Rattle.std.proofs.Common.{◌≡◌, ◌≤◌, ◌+◌, drop, map, min}
use Rattle.std.specs.Prelude.{sum}
use Rattle.lx_description.specs.Keeping.{part_registers}
use Rattle.lx_parts_kept.proofs.modules.with_parts.Given as goal

abbrev pub invariant-loop-part : goal.invariant-loop-part
invariant-loop-part l = record {
  some : min (l.count + sum (map part_registers (drop l.part-index l.parts))) 1000001 ≡ min (l.so_many + sum (map part_registers l.parts)) 1000001;
  most : l.count ≤ 1000001;
}
