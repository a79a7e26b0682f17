use Rattle.std.proofs.Common.{refl}
use Rattle.std.specs.Fmt.{digits}
use Rattle.lx_arena.specs.Folds.{fold_at}
use Rattle.lx_fhdl.specs.Designs.{circuit_of}
use Rattle.lx_fhdl.specs.Trees.{term_at}
use Rattle.lx_shaped.specs.Making.{make_expr, make_signal}
use Rattle.lx_state.specs.Naming.{object_made, turn_object}
use Rattle.lx_state.specs.Work.{one_more}
use Rattle.lx_objects.specs.Domains.{clock_domain_made, declare, declare_bound, declare_named, mention, new_domain, note_domain}
use Rattle.lx_objects.specs.Exprs.{put_expr}
use Rattle.lx_objects.specs.Memories.{address_bits_from, extent_of, keep_memory, keep_port, memory_made, mention_some, pin_made, port_made, port_with_pins, spend_words, stores, write_pins_made}
use Rattle.lx_objects.specs.Signals.{keep_owner, new_signal, put_signal}
use Rattle.lx_objects.proofs.worked.memories_are_worked.Goals as goal

pub returns-clause-stored : goal.returns-clause-stored
unfolding object_made one_more keep_memory memory_made spend_words stores
returns-clause-stored c = record {
  memory = refl;
  all_bits = refl;
  object = refl;
  place = refl;
  words = refl;
  last_words = refl;
  too_many_words = refl;
  last_memory = refl;
  too_many_memories = refl;
}

pub returns-clause-ports : goal.returns-clause-ports
unfolding digits fold_at circuit_of term_at make_expr make_signal object_made turn_object one_more clock_domain_made declare declare_bound declare_named mention new_domain note_domain put_expr address_bits_from extent_of keep_port mention_some pin_made port_made port_with_pins write_pins_made keep_owner new_signal put_signal
returns-clause-ports c = record {
  one_word = refl;
  two_words = refl;
  three_words = refl;
  four_words = refl;
  five_words = refl;
  most_words = refl;
  own_signals = refl;
  parts = refl;
  read_signals = refl;
  object = refl;
  writer = refl;
  reader = refl;
  mentions_none = refl;
  reader_mentions = refl;
  writer_mentions = refl;
  too_many_domains = refl;
}
