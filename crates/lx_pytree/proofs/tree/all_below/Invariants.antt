use Rattle.std.proofs.Common.{◌≡◌, drop}
use Rattle.lx_pytree.specs.Below.{parts_below}
use Rattle.lx_pytree.proofs.tree.all_below.Given as goal

abbrev pub invariant-loop-part : goal.invariant-loop-part
invariant-loop-part l = parts_below l.n (drop l.part-index l.parts) ≡ parts_below l.n l.parts
