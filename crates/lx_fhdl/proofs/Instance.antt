-- The instance keeps what designs keep: nothing that is proved of designs is empty.
use Rattle.std.proofs.Common.{refl}
use Rattle.lx_fhdl.specs.Trees.{term_at}
use Rattle.lx_fhdl.specs.Stmts.{target_at, stmt_at}
use Rattle.lx_fhdl.specs.Designs.{circuit_of}
use Rattle.lx_fhdl.specs.Keeping.{Keeps}
use Rattle.lx_fhdl.specs.Kept.{is_kept}
use Rattle.lx_fhdl.specs.Instance.{instance_exprs, instance_targets, instance_stmts, instance_signals, instance_memories, instance_ports, instance}
use Rattle.lx_arena.specs.Folds.{fold_at}
use Rattle.lx_fhdl.proofs.Kept.{is_kept-is}

pub keeps : Keeps instance
unfolding instance_exprs instance_targets instance_stmts instance_signals instance_memories instance_ports instance circuit_of fold_at term_at target_at stmt_at is_kept
keeps = is_kept-is instance refl
