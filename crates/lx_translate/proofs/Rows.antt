-- Circuits worked by hand.
use Rattle.std.proofs.Common.{refl, inl}
use Rattle.lx_arena.specs.Folds.{fold_at}
use Rattle.lx_tables.specs.VerilogWords.{verilog_words}
use Rattle.lx_fhdl.specs.Designs.{circuit_of}
use Rattle.lx_fhdl.specs.Stmts.{stmt_at, target_at}
use Rattle.lx_fhdl.specs.Trees.{term_at}
use Rattle.lx_namer.specs.Base.{base_name}
use Rattle.lx_reads.specs.Drivings.{drivings, drivings_at}
use Rattle.lx_memory.specs.Alone.{shows_alone}
use Rattle.lx_check.specs.Faults.{first_fault}
use Rattle.lx_translate.specs.Worked.{AreWorked}

pub worked : AreWorked
unfolding circuit_of stmt_at target_at term_at fold_at base_name drivings drivings_at first_fault shows_alone verilog_words
worked = record { alone = refl; driven = inl (inl refl); two = refl; shared = refl }
