use Rattle.std.proofs.Common.{◌≡◌, ◌≤ℤ◌, ◌<ℤ◌, ◌^◌, pos, drop}
use Rattle.lx_objects.specs.Registers.{with_resets}
use Rattle.lx_objects.proofs.registers.with_resets.Given as goal

abbrev pub invariant-loop-field : goal.invariant-loop-field
invariant-loop-field l = (with_resets l.value (drop l.field-index l.fields) ≡ with_resets (pos 0) l.fields) × ((pos 0 ≤ℤ l.value) × (l.value <ℤ pos (2 ^ 64)))
