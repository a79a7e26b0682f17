-- Nodes over a small draft.
use Rattle.std.proofs.Common.{refl}
use Rattle.lx_arena.specs.Folds.{fold_at}
use Rattle.lx_fhdl.specs.Designs.{circuit_of}
use Rattle.lx_fhdl.specs.Stmts.{target_at, stmt_at}
use Rattle.lx_fhdl.specs.Trees.{term_at}
use Rattle.lx_shaped.specs.Making.{make_expr, make_memory, make_signal, make_stmt, make_target, shape_made}
use Rattle.lx_shaped.specs.Worked.{AreMade, AreFaulty, HaveNoPlace, AreAssigned, AreDeclared}

pub made : AreMade
unfolding circuit_of fold_at term_at target_at stmt_at make_expr make_stmt make_target shape_made
made = record {
  first = refl;
  sum = refl;
  sum_shape = refl;
  word = refl;
  third_shape = refl;
  no_shape = refl;
}

pub faulty : AreFaulty
unfolding circuit_of fold_at term_at target_at stmt_at make_expr make_stmt make_target shape_made
faulty = record {
  wide = refl;
  signed_amount = refl;
  past_the_bits = refl;
  no_copies = refl;
}

pub misplaced : HaveNoPlace
unfolding circuit_of fold_at term_at target_at stmt_at make_expr make_stmt make_target shape_made
misplaced = record {
  no_signal = refl;
  no_operand = refl;
  two_operands = refl;
  no_part = refl;
  no_item = refl;
  no_memory = refl;
  other_width = refl;
  signed_index = refl;
}

pub assigned : AreAssigned
unfolding circuit_of fold_at term_at target_at stmt_at make_expr make_stmt make_target shape_made
assigned = record {
  part = refl;
  part_past_the_bits = refl;
  narrow = refl;
  wide = refl;
  chosen = refl;
  signed_index = refl;
  assigned = refl;
  no_target = refl;
  under = refl;
  no_condition = refl;
  no_statement = refl;
}

pub declared : AreDeclared
unfolding make_memory make_signal
declared = record {
  signal = refl;
  no_bits = refl;
  too_many_bits = refl;
  reset_past_the_bits = refl;
  no_identifier = refl;
  words = refl;
  no_words = refl;
  more_contents = refl;
  wide_contents = refl;
}
