use Rattle.std.specs.Prelude.{map}
use Rattle.std.proofs.Common.{drop}
use Rattle.lx_fsm.specs.Decls.{ongoing_of}
use Rattle.lx_fsm.specs.Driven.{ongoing_driven}
use Rattle.lx_fsm.specs.Lists.{ongoing_list}
use Rattle.lx_fsm.specs.Lowers.{register}
use Rattle.lx_fsm.proofs.Puts.{PutSome}
use Rattle.lx_fsm.proofs.lowering.put_all_ongoing.Given as goal

abbrev pub invariant-loop-asked : goal.invariant-loop-asked
invariant-loop-asked l =
    PutSome l.initial.draft l.draft l.initial.out l.out (ongoing_list (register l.initial.draft l.fsm) (map ongoing_of l.all)) (ongoing_list (register l.initial.draft l.fsm) (map ongoing_of (drop l.asked-index l.all)))
    (λ driver. ongoing_driven driver l.fsm.line l.all) (λ driver. ongoing_driven driver l.fsm.line (drop l.asked-index l.all))
