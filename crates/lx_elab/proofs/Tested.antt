-- What is answered for descriptions whose designs are tested.
use Rattle.std.proofs.Common.{refl}
use Rattle.lx_arena.specs.Folds.{fold_at}
use Rattle.lx_fhdl.specs.Trees.{term_at}
use Rattle.lx_fhdl.specs.Stmts.{target_at, stmt_at}
use Rattle.lx_fhdl.specs.Designs.{circuit_of}
use Rattle.lx_fhdl.specs.Kept.{is_kept}
use Rattle.lx_description.specs.Instance.{and_design}
use Rattle.lx_description.specs.Fsms.{assigned_at}
use Rattle.lx_fsm.specs.Decls.{act_at}
use Rattle.lx_elab.specs.Worked.{AreTested}

pub tested : AreTested
unfolding and_design circuit_of fold_at term_at target_at stmt_at is_kept act_at assigned_at
tested = record { kept_as_it_is = refl; not_built = refl; no_statement = refl; memory_stands = refl; word_too_wide = refl; no_such_memory = refl; no_fsm = refl; all_known = refl; no_states = refl; unknown_state = refl; unknown_start = refl; first_of_all = refl; fsm_stands = refl; no_clock = refl; too_few_bits = refl; parts_stand = refl; no_top = refl }
