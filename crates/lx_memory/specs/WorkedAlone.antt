-- The test whether ports show alone, worked by hand.
use Rattle.std.specs.Prelude.{◌≡◌, ℕ, true, false, [], ◌∷◌, Option, Some, None}
use Rattle.lx_fhdl.specs.declared.design.Port.{Port}
use Rattle.lx_fhdl.specs.declared.design.PortMode.TheVariants.{ReadFirst}
use Rattle.lx_fhdl.specs.declared.exprs.SigId.{SigId}
use Rattle.lx_reads.specs.Drivings.{Driving}
use Rattle.lx_memory.specs.Alone.{are_alone}

abbrev pub port_with : Option SigId → Port
port_with dat_r = record { memory = 0; domain = Some 0; adr = record { 0 = 0 }; dat_r = dat_r; dat_w = None; we = None; part = 8; mode = ReadFirst }

abbrev pub shows : ℕ → Port
shows x = port_with (Some (record { 0 = x }))

-- a statement of line 0, in comb
abbrev pub drives : ℕ → Driving
drives x = record { signal = x; driver = 0; line = 0 }

-- What these are.
pub record TestIsWorked : Type 0 where
  pub apart : are_alone (shows 1 ∷ shows 2 ∷ []) [] ≡ true
  pub twice : are_alone (shows 1 ∷ shows 2 ∷ shows 1 ∷ []) [] ≡ false
  pub silent : are_alone (port_with None ∷ shows 1 ∷ port_with None ∷ []) (drives 2 ∷ []) ≡ true
  pub driven : are_alone (shows 1 ∷ shows 2 ∷ []) (drives 3 ∷ drives 2 ∷ []) ≡ false
