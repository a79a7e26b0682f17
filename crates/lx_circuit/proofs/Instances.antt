-- A circuit with a memory is one that the laws speak of, and its view after a step is the one worked by hand.
use Rattle.std.proofs.Common.{◌≡◌, ℕ, true, false, ◌<◌, zero, suc, refl, pos, arith}
use Rattle.lx_num.specs.Ints.{Fits}
use Rattle.lx_num.proofs.Ranges.{fits_pos}
use Rattle.lx_circuit.specs.Places.{Place, Values, At, Word, Kept}
use Rattle.lx_circuit.specs.Circuit.{Role, Input, Comb, Sync, Read, Undriven, role, made, shapes, IsView}
use Rattle.lx_circuit.specs.Reads.{HasOrder, role_reads, reads_in}
use Rattle.lx_circuit.specs.Fitting.{IsMade, InputsFit}
use Rattle.lx_circuit.specs.WorkedMemories.{moment}
use Rattle.lx_circuit.specs.Instances.{IsMemoryView, view_circuit, one_step}
use Rattle.lx_circuit.proofs.Settle.{settles_once}
use Rattle.lx_circuit.proofs.Views.{from_once, viewed_once}

-- words and what ports keep stand first
abbrev pub rank : Place → ℕ
rank (At x) = 1
rank (Word m k) = 0
rank (Kept j) = 0

-- no dat_r of the circuit reads a signal
pub no_signal : (z : ℕ) (r : Role) → role_reads view_circuit (At z) r ≡ false
no_signal z Input = refl
no_signal z Comb = refl
no_signal z (Sync d) = refl
no_signal z (Read zero) = refl
no_signal z (Read (suc zero)) = refl
no_signal z (Read (suc (suc j))) = refl
no_signal z Undriven = refl

pub after : (x : ℕ) (y : Place) → reads_in view_circuit x y ≡ true → rank y < rank (At x)
after x (At z) e = absurd (let n = no_signal z (role view_circuit x) in cc)
after x (Word m k) e = omega arith
after x (Kept j) e = omega arith

unfoldable pub order : HasOrder view_circuit
order = record { rank = rank; after = after }

signal_made : (x : ℕ) → IsMade (made view_circuit x)
signal_made zero = record { some = omega arith; fits = fits_pos 2 0 (omega arith) }
signal_made (suc zero) = record { some = omega arith; fits = fits_pos 8 0 (omega arith) }
signal_made (suc (suc zero)) = record { some = omega arith; fits = fits_pos 8 0 (omega arith) }
signal_made (suc (suc (suc zero))) = record { some = omega arith; fits = fits_pos 2 0 (omega arith) }
signal_made (suc (suc (suc (suc zero)))) = record { some = omega arith; fits = fits_pos 2 0 (omega arith) }
signal_made (suc (suc (suc (suc (suc zero))))) = record { some = omega arith; fits = fits_pos 8 0 (omega arith) }
signal_made (suc (suc (suc (suc (suc (suc zero)))))) = record { some = omega arith; fits = fits_pos 1 0 (omega arith) }
signal_made (suc (suc (suc (suc (suc (suc (suc x))))))) = record { some = omega arith; fits = fits_pos 1 0 (omega arith) }

-- an address of two bits and its we
moment_fits : (a w x : ℕ) → a < 4 → w < 4 → Fits (shapes view_circuit x) (moment a w 0 0 (At x))
moment_fits a w zero h k = fits_pos 2 a (omega arith)
moment_fits a w (suc zero) h k = fits_pos 8 0 (omega arith)
moment_fits a w (suc (suc zero)) h k = fits_pos 8 171 (omega arith)
moment_fits a w (suc (suc (suc zero))) h k = fits_pos 2 w (omega arith)
moment_fits a w (suc (suc (suc (suc zero)))) h k = fits_pos 2 0 (omega arith)
moment_fits a w (suc (suc (suc (suc (suc zero))))) h k = fits_pos 8 85 (omega arith)
moment_fits a w (suc (suc (suc (suc (suc (suc zero)))))) h k = fits_pos 1 0 (omega arith)
moment_fits a w (suc (suc (suc (suc (suc (suc (suc x))))))) h k = fits_pos 1 0 (omega arith)

inputs_fit : (a w : ℕ) → a < 4 → w < 4 → InputsFit view_circuit (moment a w 0 0)
inputs_fit a w h k = record { each = λ x e. moment_fits a w x h k }

shown : (v : Values) → IsView view_circuit one_step (moment 0 0 0 0) v → v (At 1) ≡ pos 172
unfolding viewed_once from_once settles_once order
shown v p = (viewed_once view_circuit order one_step (moment 0 0 0 0)).only v p (At 1)

pub memory_view : IsMemoryView
memory_view = record {
  order = order;
  made = record { each = signal_made };
  steps = (inputs_fit 1 2 (omega arith) (omega arith), tt);
  inputs = inputs_fit 0 0 (omega arith) (omega arith);
  shown = shown;
}
