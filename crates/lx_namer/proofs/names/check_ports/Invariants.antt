use Rattle.std.proofs.Common.{◌≡◌, take}
use Rattle.lx_namer.specs.Names.{reserved}
use Rattle.lx_namer.proofs.Ports.{AreChecked}
use Rattle.lx_namer.proofs.names.check_ports.Given as goal

abbrev pub invariant-loop-x : goal.invariant-loop-x
invariant-loop-x l = (l.x-items ≡ l.design.ios) × AreChecked l.design (reserved l.design) (take l.x-index l.x-items) l.taken
