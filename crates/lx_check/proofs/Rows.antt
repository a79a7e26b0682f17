-- Small designs, worked by hand.
use Rattle.std.proofs.Common.{refl}
use Rattle.lx_fhdl.specs.Designs.{circuit_of}
use Rattle.lx_fhdl.specs.Stmts.{stmt_at, target_at}
use Rattle.lx_fhdl.specs.Trees.{term_at}
use Rattle.lx_arena.specs.Folds.{fold_at}
use Rattle.lx_tables.specs.VerilogWords.{verilog_words}
use Rattle.lx_namer.specs.Base.{base_name}
use Rattle.lx_reads.specs.Drivings.{drivings, drivings_at}
use Rattle.lx_check.specs.Faults.{first_fault}
use Rattle.lx_check.specs.Worked.{FaultsAreWorked, ReadsAreWorked}

pub reads_worked : ReadsAreWorked
unfolding circuit_of stmt_at target_at term_at fold_at base_name drivings drivings_at verilog_words
reads_worked = record {
  itself = refl;
  itself_told = refl;
  there = refl;
  back = refl;
  each_other_told = refl;
  index = refl;
  index_of_item = refl;
  condition = refl;
  later = refl;
  own = refl;
  address = refl;
  port_told = refl;
}

pub faults_worked : FaultsAreWorked
unfolding circuit_of stmt_at target_at term_at fold_at base_name drivings drivings_at first_fault verilog_words
faults_worked = record {
  two = refl;
  in_order_of_domains = refl;
  one = refl;
  storage = refl;
  generated = refl;
  port = refl;
  clocks = refl;
  clock = refl;
}
