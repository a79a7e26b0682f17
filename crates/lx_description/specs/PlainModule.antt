-- Which descriptions are a circuit and nothing beside.
use Rattle.std.specs.Prelude.{◌≡◌, Bool, List, [], ◌∷◌, true, false, ◌&&◌, not, codes}
use Rattle.std.specs.List.{list_all}
use Rattle.lx_fhdl.specs.declared.design.Signal.{Signal}
use Rattle.lx_description.specs.Instance.{and_description, and_design, signal_of, slave_of, system}
use Rattle.lx_description.specs.declared.description.Description.{Description}

abbrev pub is_nothing : {T : Type 0} → List T → Bool
is_nothing [] = true
is_nothing (x ∷ xs) = false

-- No system: no memories, no ports of them, no FSMs and no slaves; and each signal has a path.
abbrev pub is_plain : Description → Bool
is_plain d =
    (not d.soc && (is_nothing d.fsms && is_nothing d.slaves))
    && ((is_nothing d.design.memories && is_nothing d.design.ports) && list_all (λ (s : Signal). not (is_nothing s.path)) d.design.signals)

-- Which descriptions are, worked by hand.
pub record ArePlain : Type 0 where
  pub circuit : is_plain and_description ≡ true
  pub system : is_plain system ≡ false
  pub slave : is_plain (record and_description { slaves = slave_of (codes "ram") ∷ [] }) ≡ false
  -- a signal of generated hardware
  pub no_path : is_plain (record and_description { design = record and_design { signals = signal_of [] 1 false ∷ [] } }) ≡ false
