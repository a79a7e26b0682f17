-- The shapes and bits that are kept beside the nodes of a draft.
use Rattle.std.specs.Prelude.{◌≡◌, ℕ, List, [], ◌∷◌, ◌+◌, ◌<◌, max, length, slice_index_or}
use Rattle.lx_num.specs.declared.Shape.{Shape}
use Rattle.lx_circuit.specs.Shapes.{Shapes}
use Rattle.lx_circuit.specs.Statements.{target_bits}
use Rattle.lx_fhdl.specs.Below.{TargetId}
use Rattle.lx_fhdl.specs.Designs as design
use Rattle.lx_fhdl.specs.Designs.{shapes}
use Rattle.lx_fhdl.specs.declared.design.Design.{Design}
use Rattle.lx_fhdl.specs.declared.stmts.Target.{Target}
use Rattle.lx_fhdl.specs.declared.stmts.Target.TheVariants as target
use Rattle.lx_width.specs.Shapes.{AreShapes}

-- the bits of the target at a place
abbrev pub bits_at : List ℕ → ℕ → ℕ
bits_at bs k = slice_index_or bs k 0

abbrev pub sum_at : List ℕ → List TargetId → ℕ
sum_at bs [] = 0
sum_at bs (i ∷ is) = bits_at bs i.place + sum_at bs is

abbrev pub most_at : List ℕ → List TargetId → ℕ
most_at bs [] = 0
most_at bs (i ∷ is) = max (bits_at bs i.place) (most_at bs is)

-- the bits of a target, from those of its parts
abbrev pub node_bits : Shapes → List ℕ → Target → ℕ
node_bits s bs (target.Whole x) = (s x.0).bits
node_bits s bs (target.Part x low len) = len
node_bits s bs (target.Cat parts) = sum_at bs parts
node_bits s bs (target.Pick items index) = most_at bs items

-- these are the bits of a design's targets
pub record HasBits (d : Design) (bs : List ℕ) : Type 0 where
  pub long : length bs ≡ length d.targets
  pub each : (k : ℕ) → k < length d.targets → bits_at bs k ≡ target_bits (shapes d) (design.target d k)

pub record HasSizes (d : Design) (hs : List Shape) (bs : List ℕ) : Type 0 where
  pub exprs : AreShapes d hs
  pub targets : HasBits d bs
