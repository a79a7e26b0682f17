use Rattle.std.proofs.Common.{◌≡◌, drop}
use Rattle.std.specs.List.{list_all}
use Rattle.lx_fhdl.specs.Keeping as keeping
use Rattle.lx_parts.proofs.is_path.Given as goal

abbrev pub invariant-loop-word : goal.invariant-loop-word
invariant-loop-word l = list_all keeping.is_identifier l.path ≡ list_all keeping.is_identifier (drop l.word-index l.path)
