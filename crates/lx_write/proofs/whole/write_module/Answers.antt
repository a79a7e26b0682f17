use Rattle.lx_vtree.specs.Modules.{module_of}
use Rattle.lx_write.proofs.Written.{can_be_emitted, writes}
use Rattle.lx_write.proofs.whole.write_module.Goals as goal

pub emit_design-requires : goal.emit_design-requires
emit_design-requires c = can_be_emitted c.args.design.now c.in_ok-lowered.lowered c.args.names.now c.in_ok-lowered.ensures c.requires

pub returns : goal.returns
returns c = writes c.args.design.now c.in_ok-lowered.lowered c.args.names.now (module_of c.in_ok-module.module) c.in_ok-lowered.ensures c.requires c.in_ok-module.ensures.emits
