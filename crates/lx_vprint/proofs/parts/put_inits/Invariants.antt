use Rattle.std.proofs.Common.{◌≡◌, ◌++◌, drop, map, flat_map}
use Rattle.lx_vtext.specs.Printed.{initial_text}
use Rattle.lx_vtree.specs.Modules.{sets_of}
use Rattle.lx_vprint.proofs.parts.put_inits.Given as goal

abbrev pub invariant-loop-initial : goal.invariant-loop-initial
invariant-loop-initial l = l.out ++ flat_map initial_text (map sets_of (drop l.initial-index l.inits)) ≡ l.initial.out ++ flat_map initial_text (map sets_of l.inits)
