use Rattle.std.proofs.Common.{◌≡◌, drop}
use Rattle.lx_outside.specs.Calls.{file_of}
use Rattle.lx_outside.proofs.sources.file_named.Given as goal

abbrev pub invariant-loop-file : goal.invariant-loop-file
invariant-loop-file l = file_of (drop l.file-index l.files) l.name ≡ file_of l.files l.name
