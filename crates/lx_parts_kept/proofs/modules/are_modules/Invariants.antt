use Rattle.std.proofs.Common.{◌≡◌, drop}
use Rattle.lx_arena.specs.Lower.{all_at}
use Rattle.lx_description.specs.Kept.{is_module}
use Rattle.lx_parts_kept.proofs.modules.are_modules.Given as goal

abbrev pub invariant-loop-place : goal.invariant-loop-place
invariant-loop-place l = all_at (is_module l.description) l.place (drop l.place l.description.modules) ≡ all_at (is_module l.description) 0 l.description.modules
