use Rattle.std.proofs.Common.{◌≡◌, drop}
use Rattle.lx_outside.specs.Calls.{is_new}
use Rattle.lx_outside.proofs.sources.is_new_name.Given as goal

abbrev pub invariant-loop-file : goal.invariant-loop-file
invariant-loop-file l = is_new l.name (drop l.file-index l.files) ≡ is_new l.name l.files
