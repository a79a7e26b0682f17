-- The memories of a design.
use Rattle.lx_fhdl.specs.Keeping.{IsMemory, Keeps}
use Rattle.lx_fhdl.proofs.Resets.{each_of_at}
use Rattle.std.proofs.Common.{◌≡◌, ℕ, zero, suc, List, [], ◌∷◌, map, ap, ◌<◌, arith}
use Rattle.std.specs.Prelude.{Some, slice_get, slice_index_or}
use Rattle.lx_circuit.specs.Circuit.{no_memory}
use Rattle.lx_fhdl.specs.Designs.{circuit_of, memory_at, memory_of}
use Rattle.lx_fhdl.specs.declared.design.Memory.{Memory}
use Rattle.lx_fhdl.specs.declared.design.Design.{Design}

memory_in_list : (ms : List Memory) (k : ℕ) (m : Memory) → slice_get ms k ≡ Some m → slice_index_or (map memory_of ms) k no_memory ≡ memory_of m
memory_in_list [] k m e = absurd (cc)
memory_in_list (x ∷ xs) zero m e = let same : x ≡ m = cc in ap memory_of same
memory_in_list (x ∷ xs) (suc k) m e = memory_in_list xs k m e

-- the memory of a number
pub memory_is : (d : Design) (k : ℕ) (m : Memory) → slice_get d.memories k ≡ Some m → memory_at d k ≡ memory_of m
unfolding circuit_of
memory_is d k m e = memory_in_list d.memories k m e

pub memory_keeps : (d : Design) (k : ℕ) (m : Memory) → Keeps d → slice_get d.memories k ≡ Some m → IsMemory m
memory_keeps d k m keeps e = each_of_at IsMemory d.memories keeps.memories k m e

pub narrow : (d : Design) (k : ℕ) (m : Memory) → Keeps d → slice_get d.memories k ≡ Some m → m.width < 128
narrow d k m keeps e = let h = memory_keeps d k m keeps e in omega (arith, h.width_most)
