-- The description of a machine in which the top was made.
use Rattle.std.specs.Prelude.{ℕ, Bool, true, false, List, [], map, codes, slice_get, Option, Some, None}
use Rattle.lx_text.specs.declared.faults.Kind.TheVariants as kind
use Rattle.lx_fhdl.specs.declared.design.Design.{Design}
use Rattle.lx_fhdl.specs.declared.design.Domain.{Domain}
use Rattle.lx_fhdl.specs.declared.exprs.SigId.{SigId}
use Rattle.lx_state.specs.declared.values.Value.{Value}
use Rattle.lx_state.specs.declared.machine.Machine.{Machine}
use Rattle.lx_state.specs.declared.machine.Module.{Module}
use Rattle.lx_state.specs.declared.machine.ModuleKind.{ModuleKind}
use Rattle.lx_state.specs.declared.machine.ModuleKind.TheVariants as bases
use Rattle.lx_state.specs.Step.{Step, give, or_fault, reads, ◌>>=◌}
use Rattle.lx_objects.specs.Ios.{ios_of}
use Rattle.lx_objects.specs.Modules.{module_of, some_attribute}
use Rattle.lx_fragments.specs.Domains.{domains_made, mention_of}
use Rattle.lx_fragments.specs.Fragments.{fragments_of}
use Rattle.lx_fragments.specs.declared.fragments.Fragments.{Fragments}
use Rattle.lx_description.specs.declared.description.Description.{Description}
use Rattle.lx_describe.specs.declared.describing.Named.{Named}
use Rattle.lx_describe.specs.declared.describing.Outline.{Outline}
use Rattle.lx_describe.specs.Apart.{late_apart}
use Rattle.lx_describe.specs.Fsms.{all_fsms}
use Rattle.lx_describe.specs.Managers.{all_have_sources}
use Rattle.lx_describe.specs.Memories.{named_memories, ports_of}
use Rattle.lx_describe.specs.Modules.{module_decls, module_text}
use Rattle.lx_describe.specs.Order.{in_order}
use Rattle.lx_describe.specs.Signals.{named_signals}
use Rattle.lx_describe.specs.Systems.{wishes_of}

-- ---- the top

-- the module that is the top
unfoldable pub top_of : Value → Step ℕ
top_of v m = or_fault (module_of m v) 0 kind.WrongKind m

abbrev pub is_soc : ModuleKind → Bool
is_soc bases.Soc = true
is_soc _ = false

-- whether a module is one
abbrev pub is_system : Option Module → Bool
is_system None = false
is_system (Some x) = is_soc x.kind

-- ---- its ports

abbrev pub some_ios : Option Value → Step (List SigId)
some_ios None = give []
some_ios (Some v) = ios_of 0 v

-- the signals of the last list that the top bound to `ios`; no ports where it bound none
unfoldable pub top_ios : ℕ → Step (List SigId)
top_ios top m = some_ios (some_attribute (codes "ios") (slice_get m.modules top)) m

-- ---- the description

-- what makes a design of what stands in the machine; the resets of the domains are the last signals
unfoldable pub outline_of : Value → Step Outline
outline_of v = do
  top ← top_of v
  _ ← all_have_sources
  ios ← top_ios top
  fragments ← fragments_of top
  mentioned ← reads (λ m. map mention_of m.domains)
  domains ← domains_made mentioned
  fsms ← all_fsms top
  give (record { top = top; ios = ios; fragments = fragments; domains = domains; fsms = fsms })

-- the signals and memories with their paths, and the ports of the memories
abbrev pub named_of : Machine → Named
named_of m = record { signals = named_signals m 0 m.shaped.signals; memories = named_memories m; ports = ports_of m }

abbrev pub design_of : Design → Named → Fragments → List Domain → List SigId → Design
design_of d named fragments domains ios = record d {
  signals = named.signals;
  memories = named.memories;
  ports = named.ports;
  comb = fragments.comb;
  sync = fragments.sync;
  domains = domains;
  ios = ios;
}

-- the slaves, the wishes and the constants of a system; a plain top has none
abbrev pub description_of : Machine → Outline → Description
description_of m x = record {
  top = module_text m (slice_get m.modules x.top);
  soc = is_system (slice_get m.modules x.top);
  design = design_of m.shaped (named_of m) x.fragments x.domains x.ios;
  modules = module_decls m (in_order m x.top);
  slaves = m.system.slaves;
  wishes = wishes_of (is_system (slice_get m.modules x.top)) m.system;
  constants = m.system.constants;
  fsm_stmts = m.fsm_stmts;
  fsms = x.fsms;
}

unfoldable pub described : Value → Step Description
described v = do
  x ← outline_of v
  _ ← late_apart
  reads (λ m. description_of m x)
