use Rattle.std.proofs.Common.{refl}
use Rattle.std.specs.Fmt.{digits}
use Rattle.lx_shaped.specs.Making.{make_signal, make_stmt}
use Rattle.lx_state.specs.Lists.{list_of}
use Rattle.lx_objects.specs.Exprs.{put_stmt}
use Rattle.lx_objects.specs.Ios.{ios_of, signal_of, signals_of}
use Rattle.lx_objects.specs.Signals.{put_signal}
use Rattle.lx_fragments.specs.Domains.{domain_made, domains_made, some_reset}
use Rattle.lx_fragments.specs.Fragments.{all_comb, all_sync, all_under, fragments_of, lay_parts, under}
use Rattle.lx_fragments.specs.Laying.{lay, lay_all, statement_at}
use Rattle.lx_fragments.specs.Places.{place_among}
use Rattle.lx_fragments.specs.States.{put_fsm_stmt, text_at, act, act_all, act_next, state_of, states_of}
use Rattle.lx_paths.specs.Paths.{bare, modules_around}
use Rattle.lx_describe.specs.Apart.{bits_from, late_apart}
use Rattle.lx_describe.specs.Describing.{described, outline_of, top_ios, top_of}
use Rattle.lx_describe.specs.Fsms.{all_fsms, decl_at, fsm_made, fsms_made}
use Rattle.lx_describe.specs.Managers.{all_have_sources}
use Rattle.lx_describe.specs.Memories.{with_paths}
use Rattle.lx_describe.specs.Order.{all_ordered, ordered}
use Rattle.lx_describe.specs.Signals.{named_signals}
use Rattle.lx_describe.specs.Submodules.{each_once}
use Rattle.lx_describe.proofs.worked.descriptions_are_worked.Goals as goal

pub returns : goal.returns
unfolding make_signal make_stmt list_of put_stmt ios_of signal_of signals_of put_signal domain_made domains_made some_reset all_comb all_sync all_under fragments_of lay_parts under lay lay_all statement_at modules_around described outline_of top_ios top_of all_ordered ordered named_signals each_once bits_from late_apart all_have_sources bare all_fsms decl_at fsm_made fsms_made place_among put_fsm_stmt text_at act act_all act_next state_of states_of digits with_paths
returns c = record {
  submodules_once = refl;
  order = refl;
  everything = refl;
  no_ports = refl;
  ports_of_no_list = refl;
  system = refl;
  plain_wishes = refl;
  interface_given = refl;
  interface_kept = refl;
  given_signals = refl;
  no_module = refl;
  fsm = refl;
  fsm_nowhere = refl;
  state_named = refl;
  state_assigned = refl;
  memories = refl;
  read_without_a_port = refl;
  no_states = refl;
  two_states = refl;
  three_states = refl;
  five_states = refl;
  most_states = refl;
  registers = refl;
  no_source = refl;
  enable_named = refl;
  modules_bound_again = refl;
}
