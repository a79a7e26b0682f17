use Rattle.std.proofs.Common.{◌≡◌, drop}
use Rattle.std.specs.List.{list_all}
use Rattle.lx_description.specs.Keeping.{has_name}
use Rattle.lx_parts_kept.proofs.system.have_names.Given as goal

abbrev pub invariant-loop-fix : goal.invariant-loop-fix
invariant-loop-fix l = list_all has_name (drop l.fix-index l.fixes) ≡ list_all has_name l.fixes
