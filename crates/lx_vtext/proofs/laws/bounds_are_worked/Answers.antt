use Rattle.std.proofs.Common.{refl, true, arith, ◌≤◌, ◌-◌, ◌^◌}
use Rattle.lx_tables.specs.VerilogWords.{verilog_words}
use Rattle.lx_vtext.specs.Names.{is_name}
use Rattle.lx_vtext.specs.Printed.{number_text, literal_text, range_text, head_text, memory_text, set_text, initial_text, assign_text, always_text, module_text}
use Rattle.lx_vtext.specs.Reading.{after, name_at, number_at, range_at, sign_at, value_at, literal_at, word_of, named_at, unary_of, unary_at, op_at, choose_at, binary_at, joined_at, round_at, more_at, parts_at, count_at, repeat_at, curly_at, to_signed_at, to_unsigned_at, sign_form_at, leaf_at, form_at, expr_at, word_target_of, target_at, sets_at, assign_stmt_at, else_at, end_at, when_at, stmt_at, stmts_at, block_at, many, signed_at, width_at, bits_at, head_at, wire_at, reg_at, net_at, input_at, output_at, port_at, more_port_at, ports_from, ports_at, net_decl_at, memory_head_at, memory_from, reg_decl_at, decl_at, set_at, initial_at, assign_at, clock_at, event_at, always_at, module_at, module_of}
use Rattle.lx_vtext.specs.Tree.{Literal}
use Rattle.lx_vtext.specs.Worked.{assigning}
use Rattle.lx_vtext.proofs.ModuleAgain.{module_of_again}
use Rattle.lx_vtext.proofs.Levels.{nested_fits, nested_most}
use Rattle.lx_vtext.proofs.laws.bounds_are_worked.Goals as goal

pub returns : goal.returns
unfolding verilog_words is_name number_text literal_text range_text head_text memory_text set_text initial_text assign_text always_text module_text after name_at number_at range_at sign_at value_at literal_at word_of named_at unary_of unary_at op_at choose_at binary_at joined_at round_at more_at parts_at count_at repeat_at curly_at to_signed_at to_unsigned_at sign_form_at leaf_at form_at expr_at word_target_of target_at sets_at assign_stmt_at else_at end_at when_at stmt_at stmts_at block_at many signed_at width_at bits_at head_at wire_at reg_at net_at input_at output_at port_at more_port_at ports_from ports_at net_decl_at memory_head_at memory_from reg_decl_at decl_at set_at initial_at assign_at clock_at event_at always_at module_at module_of
returns c = record {
  brackets_32 = refl;
  brackets_33 = refl;
  select_last = refl;
  select_past = refl;
  signed_past = refl;
  word_past = refl;
  replication_last = refl;
  replication_past = refl;
  levels_128 = record { clock = refl; body = nested_fits 128 128 (omega arith) };
  levels_129 = λ h. let le : 129 ≤ 128 = nested_most 129 128 h.body in omega arith;
  one_bit = refl;
  all_bits = module_of_again (assigning (Literal 128 true (2 ^ 128 - 1))) (record { ports = tt; decls = tt; inits = tt; assigns = (record { name = refl; value = refl }, tt); always = tt });
  no_bits = refl;
  bits_129 = refl;
  value_past_its_bits = refl;
  leading_zero = refl;
}
