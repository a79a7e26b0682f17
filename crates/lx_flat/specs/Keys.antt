-- Keys of arms, and the conditions that an expression is one of them or none.
use Rattle.std.specs.Prelude.{◌≡◌, ℕ, ℤ, pos, Bool, false, not, ◌&&◌, List, [], ◌∷◌, Option, Some, None, ◌<◌, length, slice_index_or, take}
use Rattle.std.specs.Ordering.{int_eq}
use Rattle.lx_num.specs.declared.Shape.{Shape}
use Rattle.lx_num.specs.Ints.{wrapped}
use Rattle.lx_circuit.specs.Shapes.{Shapes}
use Rattle.lx_circuit.specs.Statements as tree
use Rattle.lx_circuit.specs.Terms.{Term}
use Rattle.lx_fhdl.specs.Below.{ExprId}
use Rattle.lx_fhdl.specs.Designs.{term}
use Rattle.lx_fhdl.specs.Stmts.{block_at}
use Rattle.lx_fhdl.specs.declared.design.Design.{Design}
use Rattle.lx_fhdl.specs.declared.stmts.Arm.{Arm}
use Rattle.lx_lowering.specs.Flat.{append, is_among_keys, some_when, is_key, no_key, flat_block}
use Rattle.lx_plain.specs.Plain.{Grows, IsBit}

-- the keys of arms, the last one first, before others
abbrev pub keys_onto : List ℤ → List Arm → List ℤ
keys_onto seen [] = seen
keys_onto seen (a ∷ more) = keys_onto (a.key ∷ seen) more

abbrev pub seen_keys : List Arm → List ℤ
seen_keys arms = keys_onto [] arms

-- the key of arm k
abbrev pub key_at : List Arm → ℕ → ℤ
key_at arms k = (slice_index_or arms k (record { key = pos 0; body = [] })).key

-- it is a value of the shape, and stands in no arm before
abbrev pub is_fresh : Shape → List Arm → ℕ → Bool
is_fresh a arms k = int_eq (wrapped a (key_at arms k)) (key_at arms k) && not (is_among_keys (key_at arms k) (seen_keys (take k arms)))

abbrev pub fresh_at : List Bool → ℕ → Bool
fresh_at fresh k = slice_index_or fresh k false

-- for the first n arms, whether their keys are fresh
pub record AreFresh (a : Shape) (arms : List Arm) (n : ℕ) (fresh : List Bool) : Type 0 where
  pub long : length fresh ≡ n
  pub each : (k : ℕ) → k < n → fresh_at fresh k ≡ is_fresh a arms k

-- a condition of one bit, where there is one
abbrev pub AreBits : Design → Option ExprId → Type 0
AreBits d None = Unit {0}
AreBits d (Some i) = IsBit d i.place

abbrev pub none_of : Design → Option ExprId → Option Term
none_of d None = None
none_of d (Some i) = Some (term d i.place)

-- a condition that stands for no arm's key
pub record NonePut (old new : Design) (none : Option ExprId) (t : Option Term) : Type 0 where
  pub grows : Grows old new
  pub bit : AreBits new none
  pub tree : none_of new none ≡ t

-- the condition that an expression is no key of arms
abbrev pub none_after : Shapes → Term → List ℤ → Option Term → List Arm → Option Term
none_after s on seen none [] = none
none_after s on seen none (a ∷ more) = none_after s on (a.key ∷ seen) (no_key s on seen none a.key) more

-- the statements of arms, each under its condition
abbrev pub arms_block : Shapes → (ℕ → tree.Stmt) → Term → List ℤ → List Arm → tree.Block
arms_block s h on seen [] = tree.Done
arms_block s h on seen (a ∷ more) = append (some_when (is_key s on seen a.key) (flat_block s (block_at h a.body))) (arms_block s h on (a.key ∷ seen) more)
