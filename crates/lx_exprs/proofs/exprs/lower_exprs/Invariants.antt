use Rattle.std.proofs.Common.{◌≡◌, length}
use Rattle.lx_plain.specs.Sources.{IsLowered}
use Rattle.lx_exprs.proofs.exprs.lower_exprs.Given as goal

abbrev pub invariant-loop-node : goal.invariant-loop-node
invariant-loop-node l = record {
  items : l.node-items ≡ l.design.exprs;
  long : length l.places ≡ l.node-index;
  lowered : IsLowered (record { design = l.design; shapes = l.sizes; places = l.places }) l.draft;
}
