-- The instances keep what descriptions keep: nothing that is proved of descriptions is empty.
use Rattle.std.proofs.Common.{refl}
use Rattle.lx_arena.specs.Folds.{fold_at}
use Rattle.lx_fhdl.specs.Trees.{term_at}
use Rattle.lx_fhdl.specs.Stmts.{target_at, stmt_at}
use Rattle.lx_fhdl.specs.Designs.{circuit_of}
use Rattle.lx_fhdl.specs.Kept.{is_kept}
use Rattle.lx_description.specs.Fsms.{assigned_at}
use Rattle.lx_description.specs.Wires.{bus_ports}
use Rattle.lx_description.specs.Keeping.{KeepsDescription}
use Rattle.lx_description.specs.Kept.{keeps_description}
use Rattle.lx_description.specs.Instance.{and_description, and_design, fsm_stmts_of, system, system_design, system_signals}
use Rattle.lx_description.proofs.Kept.{keeps_description-is}

pub plain_keeps : KeepsDescription and_description
unfolding and_design circuit_of fold_at term_at target_at stmt_at assigned_at is_kept keeps_description
plain_keeps = keeps_description-is and_description refl

pub system_keeps : KeepsDescription system
unfolding system system_design system_signals fsm_stmts_of bus_ports circuit_of fold_at term_at target_at stmt_at assigned_at is_kept keeps_description
system_keeps = keeps_description-is system refl
