use Rattle.std.proofs.Common.{refl}
use Rattle.std.specs.Fmt.{digits}
use Rattle.lx_state.specs.Naming.{bind_items, bind_list, bind_name, bind_value, bind_within, mark, name_object}
use Rattle.lx_paths.specs.Paths.{bare, modules_around}
use Rattle.lx_paths.proofs.worked.paths_are_worked.Goals as goal

pub returns : goal.returns
unfolding digits bind_items bind_list bind_name bind_value bind_within mark name_object modules_around bare
returns c = record {
  in_a_loop = refl;
  unnamed = refl;
  unnamed_module = refl;
  by_local = refl;
  by_attribute = refl;
  in_a_list = refl;
  unnamed_crossing = refl;
  given = refl;
  handed = refl;
  in_a_default = refl;
  in_a_spare = refl;
  part = refl;
  nothing = refl;
  of_fsms = refl;
  memory = refl;
  unnamed_memory = refl;
  of_ports = refl;
  of_registers = refl;
  underscores = refl;
  inner_underscore = refl;
  given_underscore = refl;
  constant_underscore = refl;
  manager_underscore = refl;
  kinds = refl;
  kinds_of_sources = refl;
}
