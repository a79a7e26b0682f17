-- A small circuit of two domains, worked by hand: roles, settled values, and steps.
use Rattle.std.specs.Prelude.{◌≡◌, ℕ, ℤ, pos, Bool, true, false, List, [], ◌∷◌, Some, nat_eq, slice_index_or, codes}
use Rattle.lx_num.specs.declared.Shape.{Shape}
use Rattle.lx_num.specs.Ints.{unsigned}
use Rattle.lx_circuit.specs.Places.{Values, At}
use Rattle.lx_circuit.specs.Terms.{Constant, Signal}
use Rattle.lx_circuit.specs.Statements.{Block, Done, Then, Assign, Whole, Part}
use Rattle.lx_circuit.specs.Circuit.{Made, Circuit, Input, Comb, Sync, Undriven, role, by_place, next_state, first_state}

abbrev pub signal_of : Shape → ℤ → Made
signal_of a reset = record { shape = a; reset = reset; reset_less = false; given = false }

-- a is an input, b is 165 at first; p is 3 and q is 5 at first, and q has no reset; then the resets of both domains;
-- g is given, and nothing drives i
abbrev pub small_signals : List Made
small_signals =
    signal_of (unsigned 4) (pos 0)
    ∷ signal_of (unsigned 8) (pos 165)
    ∷ signal_of (unsigned 4) (pos 3)
    ∷ record { shape = unsigned 4; reset = pos 5; reset_less = true; given = false }
    ∷ signal_of (unsigned 1) (pos 0)
    ∷ signal_of (unsigned 1) (pos 0)
    ∷ record { shape = unsigned 4; reset = pos 8; reset_less = false; given = true }
    ∷ signal_of (unsigned 4) (pos 7)
    ∷ []

-- b[0:4].eq(a)
abbrev pub small_comb : Block
small_comb = Then (Assign (Part 1 0 4) (Signal 0)) Done

-- p.eq(q), and b.eq(1), of which nothing comes
abbrev pub first_sync : Block
first_sync = Then (Assign (Whole 2) (Signal 3)) (Then (Assign (Whole 1) (Constant (pos 1) (unsigned 1))) Done)

-- q.eq(p)
abbrev pub second_sync : Block
second_sync = Then (Assign (Whole 3) (Signal 2)) Done

-- a, b, p and g are its ports
abbrev pub small : Circuit
small = record {
  signals = small_signals;
  comb = small_comb;
  domains = record { name = codes "sys"; reset = Some 4; stmts = first_sync } ∷ record { name = codes "pix"; reset = Some 5; stmts = second_sync } ∷ [];
  memories = [];
  ports = [];
  ios = 0 ∷ 1 ∷ 2 ∷ 6 ∷ [];
}

-- a is 9, p is 12 and q is 10, and the resets are these
abbrev pub moment : ℕ → ℕ → Values
moment r s (At x) = pos (slice_index_or (9 ∷ 169 ∷ 12 ∷ 10 ∷ r ∷ s ∷ 8 ∷ 7 ∷ []) x 0)
moment r s _ = pos 0

abbrev pub ones : Values
ones p = pos 1

-- what a signal is where all inputs are 1
abbrev pub settled : ℕ → ℤ
settled x = by_place small (moment 0 0) ones (moment 0 0) (At x)

abbrev pub both : ℕ → Bool
both d = true

abbrev pub only : ℕ → ℕ → Bool
only k d = nat_eq k d

-- the state of a signal after a step from that moment
abbrev pub after : ℕ → ℕ → (ℕ → Bool) → ℕ → ℤ
after r s rises x = next_state small (moment r s) (moment r s) rises (At x)

-- What these are.
pub record AreStepped : Type 0 where
  pub input : role small 0 ≡ Input
  -- statements drive it, though it is a port, and it is assigned in a domain too
  pub combinatorial : role small 1 ≡ Comb
  pub registered : role small 2 ≡ Sync 0
  pub other_domain : role small 3 ≡ Sync 1
  pub reset_input : role small 4 ≡ Input
  pub other_reset_input : role small 5 ≡ Input
  -- a port, but given
  pub given : role small 6 ≡ Undriven
  pub undriven : role small 7 ≡ Undriven
  pub unknown : role small 8 ≡ Undriven
  pub first_value : first_state small (At 3) ≡ pos 5
  pub input_value : settled 0 ≡ pos 1
  -- the upper bits are those of its reset value
  pub combinatorial_value : settled 1 ≡ pos 169
  pub registered_value : settled 2 ≡ pos 12
  pub reset_value : settled 4 ≡ pos 1
  pub given_value : settled 6 ≡ pos 8
  pub undriven_value : settled 7 ≡ pos 7
  -- p and q swap
  pub first_swapped : after 0 0 both 2 ≡ pos 10
  pub second_swapped : after 0 0 both 3 ≡ pos 12
  pub first_holds : after 0 0 (only 1) 2 ≡ pos 12
  pub second_takes : after 0 0 (only 1) 3 ≡ pos 12
  pub second_holds : after 0 0 (only 0) 3 ≡ pos 10
  pub first_reset : after 1 0 both 2 ≡ pos 3
  pub other_reset : after 0 1 both 2 ≡ pos 10
  pub no_rise : after 1 1 (only 2) 2 ≡ pos 12
  pub without_reset : after 0 1 both 3 ≡ pos 12
