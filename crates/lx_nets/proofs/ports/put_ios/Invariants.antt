use Rattle.std.proofs.Common.{◌≡◌, ◌++◌, take, map}
use Rattle.lx_fhdl.specs.declared.exprs.SigId.{SigId}
use Rattle.lx_vtree.specs.Modules.{port_of}
use Rattle.lx_emission.specs.Emission.{signal_port}
use Rattle.lx_nets.proofs.ports.put_ios.Given as goal

abbrev pub invariant-loop-x : goal.invariant-loop-x
invariant-loop-x l =
    (l.x-items ≡ l.sheet.design.ios)
    × (map port_of l.ports ≡ map port_of l.initial.ports ++ map (λ (x : SigId). signal_port l.sheet.design l.sheet.names x.0) (take l.x-index l.x-items))
