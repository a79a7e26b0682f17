-- What a system keeps to, so that its accessors reach their registers.
use Rattle.std.specs.Prelude.{◌≡◌, ℕ, Bool, true, List, [], ◌∷◌, Option, Some, None, ◌+◌, ◌*◌, ◌/◌, ◌≤◌, ◌⊎◌, not, ◌&&◌, ◌++◌}
use Rattle.lx_circuit.specs.Circuit.{role, Input, is_among, domain_at}
use Rattle.lx_machine.specs.Map.{CsrWord, Register}
use Rattle.lx_machine.specs.System.{System, Csr}
use Rattle.lx_machine.specs.Bus.{target_of}
use Rattle.lx_machine.specs.Gives.{Given, given_at, all_given}
use Rattle.lx_machine.specs.Access.{Each}

-- an input of the design that the bus doesn't give
pub record IsInput (y : System) (x : ℕ) : Type 0 where
  pub input : role y.circuit x ≡ Input
  pub free : given_at x (all_given y) ≡ None

abbrev pub signals_of : List Given → List ℕ
signals_of [] = []
signals_of (g ∷ gs) = g.signal ∷ signals_of gs

abbrev pub is_distinct : List ℕ → Bool
is_distinct [] = true
is_distinct (x ∷ xs) = not (is_among x xs) && is_distinct xs

-- a word of a register of this size: it has a whole word's address in the region of the registers
pub record IsWord (y : System) (size : ℕ) (w : CsrWord) : Type 0 where
  pub aligned : w.addr ≡ 4 * (w.addr / 4)
  pub csr : target_of y w.addr ≡ Csr
  pub inside : w.low + w.len ≤ size
  pub short : w.len ≤ 32

-- the signal is such an input, where there is one
abbrev pub AreInputs : System → Option ℕ → Type 0
AreInputs y None = Unit {0}
AreInputs y (Some x) = IsInput y x

-- words without gaps from the top bit down to bit 0, as with the ordering big
abbrev pub Down : ℕ → List CsrWord → Type 0
Down top [] = top ≡ 0
Down top (w ∷ ws) = (w.low + w.len ≡ top) × Down w.low ws

-- words without gaps from this bit up to the top, as with the ordering little
abbrev pub Up : ℕ → ℕ → List CsrWord → Type 0
Up top low [] = low ≡ top
Up top low (w ∷ ws) = (w.low ≡ low) × Up top (low + w.len) ws

-- the addresses rise, from this one on
abbrev pub Ascend : ℕ → List CsrWord → Type 0
Ascend a [] = Unit {0}
Ascend a (w ∷ ws) = (a ≤ w.addr) × Ascend (w.addr + 1) ws

pub record IsRegister (y : System) (r : Register) : Type 0 where
  pub some : 1 ≤ r.size
  pub words : Each (λ w. IsWord y r.size w) r.words
  pub tiled : Down r.size r.words ⊎ Up r.size 0 r.words
  pub ascend : Ascend 0 r.words

abbrev pub word_addresses : List CsrWord → List ℕ
word_addresses [] = []
word_addresses (w ∷ ws) = w.addr ∷ word_addresses ws

abbrev pub addresses_of : List Register → List ℕ
addresses_of [] = []
addresses_of (r ∷ rs) = word_addresses r.words ++ addresses_of rs

pub record IsSound (y : System) : Type 0 where
  -- the port's inputs, and the reset of the bus's domain where it has one, are inputs
  pub adr : IsInput y y.port.adr
  pub dat_w : IsInput y y.port.dat_w
  pub sel : IsInput y y.port.sel
  pub cyc : IsInput y y.port.cyc
  pub stb : IsInput y y.port.stb
  pub we : IsInput y y.port.we
  pub reset : AreInputs y (domain_at y.circuit y.sys).reset
  -- no signal is given twice
  pub distinct : is_distinct (signals_of (all_given y)) ≡ true
  pub registers : Each (IsRegister y) y.registers
  -- no two words have one address
  pub addresses : is_distinct (addresses_of y.registers) ≡ true
