-- The law: the module of each lowered design gives what the design means.
use Rattle.std.proofs.Common.{List, refl}
use Rattle.lx_vtext.specs.Tree.{Name}
use Rattle.lx_agree.proofs.Agree.{agrees}
use Rattle.lx_fhdl.specs.Designs.{circuit_of}
use Rattle.lx_fhdl.specs.declared.design.Design.{Design}
use Rattle.lx_fhdl.proofs.Designs as design
use Rattle.lx_emission.specs.Naming.{naming}
use Rattle.lx_emission.specs.Emission.{emitted}
use Rattle.lx_emission.specs.Emits.{CanBeEmitted, Emits}
use Rattle.lx_emission.proofs.Ports.{has_ports}
use Rattle.lx_emission.proofs.Whole.{cycle_meaning, lawful}
use Rattle.lx_emission.proofs.Steps.{follows}

pub emits : (d : Design) (names : List Name) → CanBeEmitted d names → Emits d names (emitted d names)
unfolding emitted
emits d names can = record {
  lawful = lawful d names can;
  meaning = cycle_meaning d names can;
  ports = has_ports d names;
  nets = refl;
  agrees = agrees (circuit_of d) (emitted d names) (naming d names) (design.keeps_shapes d can.keeps) can.order (cycle_meaning d names can) (follows d names can);
}
