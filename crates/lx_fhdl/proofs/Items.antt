-- Lists of shapes, and of values that fit them.
use Rattle.std.proofs.Common.{◌≡◌, ℕ, ◌<◌, ◌≤◌, Bool, true, List, [], ◌∷◌, length, arith, zero, suc}
use Rattle.std.specs.Prelude.{ℤ}
use Rattle.std.proofs.lemmas.Bool.{or_left, or_right}
use Rattle.lx_num.specs.declared.Shape.{Shape}
use Rattle.lx_num.specs.Ints.{FitsBits, Fits}
use Rattle.lx_num.proofs.Ranges.{fits_wider}
use Rattle.lx_circuit.specs.Shapes.{joined_bits, bits_sum, some_signed, widest}
use Rattle.lx_circuit.specs.Values.{nth_or_last}
use Rattle.lx_fhdl.specs.Keeping.{EachOf}
use Rattle.lx_fhdl.specs.Nodes.{IsSmall}
use Rattle.lx_fhdl.proofs.Fitting.{fits_joined}

-- each number fits the shape of its place
abbrev pub EachFits : List Shape → List ℤ → Type 0
EachFits [] [] = Unit {0}
EachFits (a ∷ as_) (z ∷ zs) = Fits a z × EachFits as_ zs
EachFits _ _ = ⊥

pub sum_some : (as_ : List Shape) → 0 < length as_ → EachOf IsSmall as_ → 1 ≤ bits_sum as_
sum_some [] h s = absurd (omega arith)
sum_some (a ∷ as_) h s = omega (arith, s.0.some)

pub widest_some : (some : Bool) (as_ : List Shape) → 0 < length as_ → EachOf IsSmall as_ → 1 ≤ widest some as_
widest_some some [] h s = absurd (omega arith)
widest_some some (a ∷ as_) h s = omega (arith, s.0.some)

-- the item at a place, or the last one, fits the shape of all items joined
pub items_fit : (some : Bool) (w : ℕ) (as_ : List Shape) (zs : List ℤ) (z : ℤ) (n : ℕ) → FitsBits w some z → widest some as_ ≤ w → (some_signed as_ ≡ true → some ≡ true) → EachFits as_ zs → FitsBits w some (nth_or_last z zs n)
items_fit some w [] [] z n f h g k = f
items_fit some w [] (y ∷ ys) z n f h g k = absurd k
items_fit some w (a ∷ as_) [] z n f h g k = absurd k
items_fit some w (a ∷ as_) (y ∷ ys) z zero f h g k =
    fits_wider (joined_bits some a) w some y (omega arith) (fits_joined a.bits a.signed some y (λ e. g (or_left a.signed (some_signed as_) e)) k.0)
items_fit some w (a ∷ as_) (y ∷ ys) z (suc n) f h g k =
    items_fit some w as_ ys y n
    (fits_wider (joined_bits some a) w some y (omega arith) (fits_joined a.bits a.signed some y (λ e. g (or_left a.signed (some_signed as_) e)) k.0))
    (omega arith)
    (λ e. g (or_right a.signed (some_signed as_) e))
    k.1
