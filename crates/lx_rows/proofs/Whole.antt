-- Designs that are lowered already can be written.
use Rattle.std.proofs.Common.{◌≡◌, List, sym, subst}
use Rattle.lx_vtext.specs.Tree.{Name}
use Rattle.lx_fhdl.specs.declared.design.Design.{Design}
use Rattle.lx_emission.specs.Emits.{CanBeEmitted}
use Rattle.lx_emission.specs.Instance.{toggle, toggle_names, swap, swap_names}
use Rattle.lx_write.specs.Writes.{CanBeWritten}
use Rattle.lx_write.proofs.Written.{written_from_emitted}

from_instance : (d e : Design) (names ns : List Name) → d ≡ e → names ≡ ns → CanBeEmitted e ns → CanBeWritten d names
from_instance d e names ns p q can =
    subst (λ (x : Design). CanBeWritten x names) (sym p) (subst (λ (x : List Name). CanBeWritten e x) (sym q) (written_from_emitted e ns can))

pub toggle_written : (d : Design) (names : List Name) → d ≡ toggle → names ≡ toggle_names → CanBeEmitted toggle toggle_names → CanBeWritten d names
toggle_written d names p q can = from_instance d toggle names toggle_names p q can

pub swap_written : (d : Design) (names : List Name) → d ≡ swap → names ≡ swap_names → CanBeEmitted swap swap_names → CanBeWritten d names
swap_written d names p q can = from_instance d swap names swap_names p q can
