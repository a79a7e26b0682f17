use Rattle.std.proofs.Common.{◌≡◌, ◌++◌, drop, map}
use Rattle.lx_describe.specs.Modules.{module_decl, module_decls}
use Rattle.lx_describe.proofs.modules.module_decls.Given as goal

abbrev pub invariant-loop-next : goal.invariant-loop-next
invariant-loop-next l = l.decls ++ map (module_decl l.machine l.all) (drop l.next-index l.all) ≡ module_decls l.machine l.all
