use Rattle.std.proofs.Common.{◌≡◌, drop}
use Rattle.lx_vtree.specs.Modules.{are_blocks_placed}
use Rattle.lx_vtree.proofs.places.blocks_placed.Given as goal

abbrev pub invariant-loop-block : goal.invariant-loop-block
invariant-loop-block l = are_blocks_placed l.n (drop l.block-index l.blocks) ≡ are_blocks_placed l.n l.blocks
