-- A circuit, and the values of its places after any list of steps.
use Rattle.std.specs.Prelude.{◌≡◌, ℕ, ℤ, pos, Bool, false, List, [], ◌∷◌, Option, Some, None, ◌+◌, ◌^◌, ◌%◌, nat_eq, nat_lt, not, ◌&&◌, ◌||◌, if◌then◌else◌, slice_index_or}
use Rattle.lx_num.specs.declared.Shape.{Shape}
use Rattle.lx_num.specs.Ints.{unsigned, modulo, wrapped}
use Rattle.lx_circuit.specs.Places.{Place, Values, At, Word, Kept}
use Rattle.lx_circuit.specs.Shapes.{Shapes}
use Rattle.lx_circuit.specs.Values.{is_zero}
use Rattle.lx_circuit.specs.Statements.{Block, Done, taken_block, result, drives_block}
use Rattle.lx_circuit.specs.Memories.{Memory, Port, ReadFirst, shown, keeps, written, rises_in}

-- ---- what a circuit is made of

-- a signal as it was made; one that is given has its value from outside the circuit's statements, and is no input
pub record Made : Type 0 where
  pub shape : Shape
  pub reset : ℤ
  pub reset_less : Bool
  pub given : Bool

-- a clock domain: its name, its reset input where it has one, and its statements
pub record Domain : Type 0 where
  pub name : List ℕ
  pub reset : Option ℕ
  pub stmts : Block

pub record Circuit : Type 0 where
  pub signals : List Made
  pub comb : Block
  pub domains : List Domain
  pub memories : List Memory
  pub ports : List Port
  pub ios : List ℕ

-- a signal that the circuit doesn't have stands for one unsigned bit that nothing drives
abbrev pub nothing : Made
nothing = record { shape = unsigned 1; reset = pos 0; reset_less = false; given = false }

abbrev pub made : Circuit → ℕ → Made
made c x = slice_index_or c.signals x nothing

abbrev pub shapes : Circuit → Shapes
shapes c x = (made c x).shape

abbrev pub no_domain : Domain
no_domain = record { name = []; reset = None; stmts = Done }

abbrev pub domain_at : Circuit → ℕ → Domain
domain_at c d = slice_index_or c.domains d no_domain

abbrev pub no_memory : Memory
no_memory = record { width = 1; depth = 0; init = [] }

abbrev pub memory_at : Circuit → ℕ → Memory
memory_at c m = slice_index_or c.memories m no_memory

abbrev pub no_port : Port
no_port = record { memory = 0; adr = 0; domain = None; reader = None; writer = None; mode = ReadFirst }

abbrev pub port_at : Circuit → ℕ → Port
port_at c j = slice_index_or c.ports j no_port

-- ---- roles

-- where the value of a signal comes from
pub data Role : Type 0 where
  Input : Role
  Comb : Role
  Sync : (domain : ℕ) → Role
  -- it is dat_r of the port
  Read : (port : ℕ) → Role
  Undriven : Role

abbrev pub is_among : ℕ → List ℕ → Bool
is_among x [] = false
is_among x (y ∷ ys) = nat_eq y x || is_among x ys

-- the signal is the one that is named, where one is
abbrev pub is_named : ℕ → Option ℕ → Bool
is_named x None = false
is_named x (Some r) = nat_eq r x

abbrev pub is_some_reset : ℕ → List Domain → Bool
is_some_reset x [] = false
is_some_reset x (d ∷ ds) = is_named x d.reset || is_some_reset x ds

-- the first domain whose statements assign the signal; k is the number of the first of these domains
abbrev pub sync_role : ℕ → ℕ → List Domain → Role → Role
sync_role x k [] other = other
sync_role x k (d ∷ ds) other = if drives_block x d.stmts then Sync k else sync_role x (k + 1) ds other

-- the first port whose dat_r the signal is; k is the number of the first of these ports
abbrev pub read_role : ℕ → ℕ → List Port → Role → Role
read_role x k [] other = other
read_role x k (q ∷ qs) other = if is_named x q.reader then Read k else read_role x (k + 1) qs other

-- a signal that nothing in the circuit drives is an input where it is a port of the circuit or a reset, and isn't given
abbrev pub idle_role : Circuit → ℕ → Role
idle_role c x =
    if (made c x).given then Undriven
    else (if is_among x c.ios || is_some_reset x c.domains then Input else Undriven)

abbrev pub role : Circuit → ℕ → Role
role c x = if drives_block x c.comb then Comb else sync_role x 0 c.domains (read_role x 0 c.ports (idle_role c x))

-- ---- settled values

-- what the value of a signal is, under a state, inputs, and the values of all places
abbrev pub by_role : Circuit → Values → Values → Values → ℕ → Role → ℤ
by_role c state inputs v x Input = inputs (At x)
by_role c state inputs v x Comb = result (shapes c) x (made c x).reset (taken_block (shapes c) v c.comb)
by_role c state inputs v x (Sync d) = state (At x)
by_role c state inputs v x (Read j) = wrapped (shapes c x) (shown v j (port_at c j) (port_at c j).mode)
by_role c state inputs v x Undriven = (made c x).reset

-- words and what ports keep are those of the state; a word past the depth is 0
abbrev pub by_place : Circuit → Values → Values → Values → Place → ℤ
by_place c state inputs v (At x) = by_role c state inputs v x (role c x)
by_place c state inputs v (Word m k) = if nat_lt k (memory_at c m).depth then state (Word m k) else pos 0
by_place c state inputs v (Kept j) = state (Kept j)

-- Settled: each signal is what its role says, and each word and kept value that of the state, all under the same values.
pub record IsSettled (c : Circuit) (state inputs v : Values) : Type 0 where
  pub each : (p : Place) → v p ≡ by_place c state inputs v p

-- ---- steps

-- A step: the values of the inputs, and the domains that rise together.
pub record Step : Type 0 where
  pub inputs : Values
  pub rises : ℕ → Bool

abbrev pub is_reset : Values → Option ℕ → Bool
is_reset v None = false
is_reset v (Some r) = not (is_zero (v (At r)))

-- the value of a signal after a rise of its domain, on the settled values
abbrev pub risen : Circuit → Values → Domain → ℕ → ℤ
risen c v d x =
    if is_reset v d.reset && not (made c x).reset_less
    then (made c x).reset
    else result (shapes c) x (v (At x)) (taken_block (shapes c) v d.stmts)

abbrev pub next : Circuit → Values → Values → (ℕ → Bool) → ℕ → Role → ℤ
next c state v rises x (Sync d) = if rises d then risen c v (domain_at c d) x else state (At x)
next c state v rises x _ = state (At x)

-- the word after the step's writes, as a pattern
abbrev pub next_word : Circuit → Values → (ℕ → Bool) → ℕ → ℕ → ℕ
next_word c v rises m k =
    let n = (memory_at c m).width in
    written v rises m n k c.ports (modulo (v (Word m k)) (2 ^ n))

abbrev pub next_kept : Values → Values → (ℕ → Bool) → ℕ → Port → ℤ
next_kept state v rises j q = if rises_in rises q.domain then keeps v (state (Kept j)) q q.mode else state (Kept j)

-- the state after a step: all domains that rise act at once
abbrev pub next_state : Circuit → Values → Values → (ℕ → Bool) → Values
next_state c state v rises (At x) = next c state v rises x (role c x)
next_state c state v rises (Word m k) = pos (next_word c v rises m k)
next_state c state v rises (Kept j) = next_kept state v rises j (port_at c j)

-- each content is taken modulo 2 to the width; what is missing, and what ports keep, is 0
abbrev pub first_word : Memory → ℕ → ℕ
first_word m k = slice_index_or m.init k 0 % 2 ^ m.width

abbrev pub first_state : Circuit → Values
first_state c (At x) = (made c x).reset
first_state c (Word m k) = pos (first_word (memory_at c m) k)
first_state c (Kept j) = pos 0

-- the values of all places after these steps, under final inputs, from a state
abbrev pub ViewFrom : Circuit → Values → List Step → Values → Values → Type 0
ViewFrom c state [] inputs v = IsSettled c state inputs v
ViewFrom c state (t ∷ ts) inputs v =
    (w : Values) × IsSettled c state t.inputs w × ViewFrom c (next_state c state w t.rises) ts inputs v

-- The view: the settled values after a list of steps, under final inputs.
abbrev pub IsView : Circuit → List Step → Values → Values → Type 0
IsView c steps inputs v = ViewFrom c (first_state c) steps inputs v
