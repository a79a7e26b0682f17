-- What systems wish for, worked by hand.
use Rattle.std.specs.Prelude.{◌≡◌, ℕ, List, [], ◌∷◌, codes}
use Rattle.lx_description.specs.declared.slaves.SlaveKind.{SlaveKind}
use Rattle.lx_description.specs.declared.slaves.SlaveKind.TheVariants as slave
use Rattle.lx_description.specs.declared.slaves.SlaveDecl.{SlaveDecl}
use Rattle.lx_csr.specs.Worked.{timer_system, wish, wished}
use Rattle.lx_soc.specs.Surveyed.{rams, wishes}

abbrev pub slave_of : List ℕ → SlaveKind → ℕ → SlaveDecl
slave_of name kind line = record { name = name; kind = kind; line = line }

pub record AreWorked : Type 0 where
  -- a timer whose interrupt is wished for, beside LEDs
  pub banks : (wishes timer_system).banks ≡
      record { name = codes "timer0"; words = 8; line = 7 } ∷ record { name = codes "leds"; words = 1; line = 25 } ∷ []
  pub managers : (wishes timer_system).managers ≡ codes "timer0" ∷ []
  pub interrupts : (wishes timer_system).irqs ≡ wish (codes "timer0") 30 ∷ []
  -- without a wish there is no interrupt
  pub unwished : (wishes (record timer_system { wishes = wished [] [] })).irqs ≡ []
  -- a ROM is no RAM, and neither is what the circuit answers for
  pub rams : rams (record timer_system {
    slaves =
        slave_of (codes "rom") (slave.Rom []) 4
        ∷ slave_of (codes "sram") (slave.Ram []) 5
        ∷ slave_of (codes "user") (slave.User []) 6
        ∷ slave_of (codes "main_ram") (slave.Ram []) 7
        ∷ [];
  }) ≡ codes "sram" ∷ codes "main_ram" ∷ []
