use Rattle.std.proofs.Common.{refl}
use Rattle.lx_tables.specs.VerilogWords.{verilog_words}
use Rattle.lx_vtext.specs.Printed.{number_text}
use Rattle.lx_fhdl.specs.Designs.{circuit_of}
use Rattle.lx_emission.specs.Emission.{is_port}
use Rattle.lx_emission.specs.Naming.{clock_name}
use Rattle.lx_namer.specs.Base.{base_name}
use Rattle.lx_namer.specs.Names.{all_given, given, memory_wish, names_of, own_memory_name, own_name, port_fault, reserved, signal_wish}
use Rattle.lx_namer.specs.Taken.{first_free, free_name, numbered}
use Rattle.lx_namer.proofs.worked.names_are_worked.Goals as goal

pub returns : goal.returns
unfolding verilog_words number_text circuit_of is_port clock_name base_name all_given given memory_wish names_of own_memory_name own_name port_fault reserved signal_wish first_free free_name numbered
returns c = record {
  joined = refl;
  keyword = refl;
  no_keyword = refl;
  in_module = refl;
  three = refl;
  keywords = refl;
  numbers = refl;
  number_first = refl;
  port_last = refl;
  two_ports = refl;
  one_twice = refl;
  reserved = refl;
  no_reset = refl;
  clock_port = refl;
  reset_port = refl;
  generated = refl;
}
