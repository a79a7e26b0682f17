-- The machine of a description that has not begun.
use Rattle.std.specs.Prelude.{[], None}
use Rattle.lx_fhdl.specs.Drafts.{started}
use Rattle.lx_state.specs.declared.machine.Machine.{Machine}

-- nothing was made, bound or spent
abbrev pub start : Machine
start = record { spent = 0; nodes = 0; classes = []; shaped = started [] []; owners = []; objects = []; modules = []; fsms = []; memories = []; memory_objects = []; words = 0; ports = []; registers = []; fields = []; constants = []; managers = []; sources = []; regions = []; interfaces = []; system = record { base = 0xf0000000; line = 0; regions = []; slaves = []; fixes = []; irqs = []; constants = [] }; texts = []; lists = []; dictionaries = []; made = []; fsm_stmts = []; domains = []; specials = record { fields = []; comb = []; sync = [] }; frame = record { locals = []; this = None; class = 0 } }
