use Rattle.std.proofs.Common.{refl}
use Rattle.lx_shaped.specs.Making.{make_signal, make_stmt}
use Rattle.lx_objects.specs.Exprs.{put_stmt}
use Rattle.lx_objects.specs.Signals.{put_signal}
use Rattle.lx_fragments.specs.Domains.{domain_made, domains_made, some_reset}
use Rattle.lx_fragments.specs.Fragments.{all_comb, all_sync, all_under, fragments_of, lay_parts, under}
use Rattle.lx_fragments.specs.Laying.{chain, lay, lay_all, lay_arms, lay_branch, lay_branches, lay_case, lay_if, statement_at}
use Rattle.lx_fragments.specs.Places.{place_among}
use Rattle.lx_fragments.specs.States.{put_fsm_stmt, text_at, act, act_all, act_arms, act_branch, act_branches, act_case, act_if, act_next, state_of, states_of}
use Rattle.lx_fragments.proofs.worked.fragments_are_worked.Goals as goal

pub returns : goal.returns
unfolding make_signal put_signal domain_made domains_made some_reset make_stmt put_stmt all_comb all_sync all_under fragments_of lay_parts under chain lay lay_all lay_arms lay_branch lay_branches lay_case lay_if statement_at put_fsm_stmt text_at act act_all act_arms act_branch act_branches act_case act_if act_next state_of states_of place_among
returns c = record {
  all_branches = refl;
  first_branch = refl;
  no_statement = refl;
  case = refl;
  too_deep = refl;
  order = refl;
  statements = refl;
  in_order = refl;
  specials_first = refl;
  special_statements = refl;
  resets = refl;
  bodies = refl;
  states = refl;
  state_statements = refl;
  state_too_deep = refl;
  next_state_elsewhere = refl;
  place_of_first = refl;
  place_of_second = refl;
  place_of_none = refl;
  place_elsewhere = refl;
}
