-- Graphs that have the rows of a net.
use Rattle.std.specs.Prelude.{◌≡◌, ℕ, Bool, true, false, ◌<◌, ◌≤◌, List, [], ◌∷◌, ◌++◌, Option, Some, None, drop, length, replicate, take, slice_set, if◌then◌else◌}
use Rattle.std.specs.Option.{is_some}
use Rattle.lx_arena.specs.Lower.{EachLower}
use Rattle.lx_circuit.specs.Places.{At}
use Rattle.lx_circuit.specs.Reads.{reads_block, reads_in}
use Rattle.lx_fhdl.specs.Designs.{block, circuit_of}
use Rattle.lx_fhdl.specs.declared.design.Design.{Design}
use Rattle.lx_fhdl.specs.declared.design.Port.{Port}
use Rattle.lx_fhdl.specs.declared.design.PortMode.{PortMode}
use Rattle.lx_fhdl.specs.declared.design.PortMode.TheVariants as mode
use Rattle.lx_graph.specs.Graph.{Nodes, row}
use Rattle.lx_reads.specs.Net.{hits, row_below, row_hits, signals_of}
use Rattle.lx_reads.specs.declared.net.Net.{Net}
use Rattle.lx_check.specs.declared.marks.Mark.{Mark}

-- the first k rows of a net after signals that read nothing
abbrev pub HasRows : Design → Net → ℕ → Nodes → Type 0
HasRows d net k g = g ≡ record { plain = signals_of d; rows = replicate (signals_of d) [] ++ take k net.rows }

-- these rows, after signals that read what the test says
pub record HasReads (d : Design) (rows : List (List ℕ)) (test : ℕ → ℕ → Bool) (g : Nodes) : Type 0 where
  pub plain : g.plain ≡ signals_of d
  pub long : signals_of d ≤ length g.rows
  pub inner : drop (signals_of d) g.rows ≡ rows
  pub reads : (x y : ℕ) → x < signals_of d → row_hits (signals_of d) y (hits (signals_of d) rows y) (row g x) ≡ test x y

-- the signals of a design with inner nodes, by which they read what the test says
pub record IsReadGraph (d : Design) (test : ℕ → ℕ → Bool) (g : Nodes) : Type 0 where
  pub rows : List (List ℕ)
  pub lower : EachLower (row_below (signals_of d)) rows
  pub has : HasReads d rows test g
  pub within : (x y : ℕ) → test x y ≡ true → x < signals_of d

-- what the combinatorial statements read
abbrev pub comb_reads : Design → ℕ → ℕ → Bool
comb_reads d x y = reads_block x (At y) (block d d.comb)

-- all that is read
abbrev pub all_reads : Design → ℕ → ℕ → Bool
all_reads d x y = reads_in (circuit_of d) x (At y)

-- ---- ports

abbrev pub is_async : PortMode → Bool
is_async mode.Async = true
is_async mode.WriteFirst = false
is_async mode.ReadFirst = false
is_async mode.NoChange = false

-- the address that is read through a port
abbrev pub address_of : Option Port → Option ℕ
address_of None = None
address_of (Some q) = if is_async q.mode then Some q.adr.0 else None

-- of a signal that nothing drives
abbrev pub shown_address : Mark → Option Port → Option ℕ
shown_address m o = if is_some m.first then None else address_of o

abbrev pub with_address : Nodes → ℕ → Option ℕ → Nodes
with_address g x None = g
with_address g x (Some a) = record { plain = g.plain; rows = slice_set g.rows x (row g x ++ a ∷ []) }
