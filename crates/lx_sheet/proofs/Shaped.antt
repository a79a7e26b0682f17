-- The shapes of signals.
use Rattle.std.proofs.Common.{◌≡◌, ℕ, sym, ap, ◌∙◌}
use Rattle.std.specs.Prelude.{Some, slice_get}
use Rattle.lx_fhdl.specs.Designs.{shapes}
use Rattle.lx_fhdl.specs.declared.design.Signal.{Signal}
use Rattle.lx_fhdl.specs.declared.design.Design.{Design}
use Rattle.lx_width.specs.Width.{shape_of_one}
use Rattle.lx_width.proofs.Shaped.{signal_is}

pub signal_shape_is : (d : Design) (k : ℕ) (x : Signal) → slice_get d.signals k ≡ Some x → x.shape ≡ shapes d k
signal_shape_is d k x e = sym (ap shape_of_one e) ∙ sym (signal_is d k)
