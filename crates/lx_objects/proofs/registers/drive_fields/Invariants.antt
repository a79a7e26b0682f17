use Rattle.std.proofs.Common.{◌≡◌, drop}
use Rattle.lx_objects.specs.Registers.{drive_fields}
use Rattle.lx_objects.proofs.registers.drive_fields.Given as goal

abbrev pub invariant-loop-place : goal.invariant-loop-place
invariant-loop-place l = drive_fields l.line l.status (drop l.place l.fields) (drop l.place l.pins) l.machine ≡ drive_fields l.line l.status l.fields l.pins l.initial.machine
