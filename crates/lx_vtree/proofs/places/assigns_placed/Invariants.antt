use Rattle.std.proofs.Common.{◌≡◌, drop}
use Rattle.lx_vtree.specs.Modules.{are_assigns_placed}
use Rattle.lx_vtree.proofs.places.assigns_placed.Given as goal

abbrev pub invariant-loop-assign : goal.invariant-loop-assign
invariant-loop-assign l = are_assigns_placed l.n (drop l.assign-index l.assigns) ≡ are_assigns_placed l.n l.assigns
