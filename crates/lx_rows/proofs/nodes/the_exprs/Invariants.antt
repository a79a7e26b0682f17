use Rattle.std.proofs.Common.{◌≡◌, take, map}
use Rattle.lx_fhdl.specs.Instance as instance
use Rattle.lx_rows.proofs.nodes.the_exprs.Given as goal

abbrev pub invariant-loop-place : goal.invariant-loop-place
invariant-loop-place l = l.ids ≡ map instance.the_expr (take l.place-index l.places)
