-- Which descriptions are built: circuits, with memories, and no systems.
use Rattle.std.specs.Prelude.{◌≡◌, Bool, [], ◌∷◌, true, false, ◌&&◌, not, codes, Some, None}
use Rattle.lx_fhdl.specs.Instance.{the_signal}
use Rattle.lx_fhdl.specs.declared.design.Memory.{Memory}
use Rattle.lx_fhdl.specs.declared.design.Port.{Port}
use Rattle.lx_fhdl.specs.declared.design.PortMode.TheVariants as mode
use Rattle.lx_description.specs.Instance.{and_description, and_design, signal_of, slave_of, system}
use Rattle.lx_description.specs.PlainModule.{is_nothing}
use Rattle.lx_description.specs.declared.description.Description.{Description}

-- No system: no FSMs and no slaves.
abbrev pub is_module : Description → Bool
is_module d = not d.soc && (is_nothing d.fsms && is_nothing d.slaves)

-- ---- worked by hand

-- a memory of four words, and a port that reads it at the signal `a` and shows on the signal `b`
abbrev pub four_words : Memory
four_words = record { path = codes "m" ∷ []; width = 4; depth = 4; init = []; line = 5 }

abbrev pub reads_at : Port
reads_at = record { memory = 0; domain = None; adr = the_signal 0; dat_r = Some (the_signal 1); dat_w = None; we = None; part = 4; mode = mode.Async }

-- Which descriptions are built.
pub record AreBuilt : Type 0 where
  pub circuit : is_module and_description ≡ true
  pub memory : is_module (record and_description { design = record and_design { memories = four_words ∷ []; ports = reads_at ∷ [] } }) ≡ true
  pub system : is_module system ≡ false
  pub slave : is_module (record and_description { slaves = slave_of (codes "ram") ∷ [] }) ≡ false
  -- a signal of generated hardware
  pub generated : is_module (record and_description { design = record and_design { signals = signal_of [] 1 false ∷ [] } }) ≡ true
