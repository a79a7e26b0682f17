use Rattle.std.proofs.Common.{refl}
use Rattle.lx_arena.specs.Folds.{fold_at}
use Rattle.lx_fhdl.specs.Designs.{circuit_of}
use Rattle.lx_fhdl.specs.Stmts.{stmt_at, target_at}
use Rattle.lx_fhdl.specs.Trees.{term_at}
use Rattle.lx_description.specs.Instance.{fsm_stmts_of, system, system_design, system_signals}
use Rattle.lx_fsm.specs.Decls.{act_at}
use Rattle.lx_fsm.specs.WorkedFlat.{AreLaid}
use Rattle.lx_fsm.proofs.laws.descriptions_are_worked.Goals as goal

are_laid : AreLaid
unfolding system system_design system_signals fsm_stmts_of circuit_of fold_at term_at target_at stmt_at act_at
are_laid = record {
  comb = refl;
  sync = refl;
  other = refl;
  both = refl;
  between = refl;
  first = refl;
  stated = refl;
  domain = refl;
}

pub returns : goal.returns
returns c = are_laid
