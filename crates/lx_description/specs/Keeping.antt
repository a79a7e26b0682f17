-- What a description keeps.
use Rattle.std.specs.Prelude.{◌≡◌, ℕ, pos, negsuc, Bool, true, false, List, [], ◌∷◌, Some, ◌+◌, ◌-◌, ◌/◌, ◌^◌, ◌<◌, ◌≤◌, int_le, int_lt, nat_eq, not, is_none, ◌&&◌, ◌||◌, codes, map, flat_map, if◌then◌else◌, sum, length, slice_get, IsTrue, IfSome, IsSomeAnd}
use Rattle.std.specs.List.{list_all, list_any}
use Rattle.std.specs.Str.{bytes_eq}
use Rattle.lx_arena.specs.Lower.{EachLower}
use Rattle.lx_circuit.specs.Statements.{drives_block}
use Rattle.lx_circuit.specs.Circuit as circuit
use Rattle.lx_circuit.specs.Circuit.{is_among}
use Rattle.lx_fhdl.specs.Designs.{circuit_of}
use Rattle.lx_fhdl.specs.Keeping.{EachOf, IsAddress, IsUnsigned, Keeps, block_depth, is_between, is_distinct, is_identifier}
use Rattle.lx_fhdl.specs.Nodes.{is_fetch}
use Rattle.lx_fhdl.specs.declared.exprs.Expr.{Expr}
use Rattle.lx_fhdl.specs.declared.stmts.Stmt.{Stmt}
use Rattle.lx_fhdl.specs.declared.stmts.Stmt.TheVariants as stmt
use Rattle.lx_fhdl.specs.declared.design.Signal.{Signal}
use Rattle.lx_fhdl.specs.declared.design.Domain.{Domain}
use Rattle.lx_fhdl.specs.declared.design.Design.{Design}
use Rattle.lx_fhdl.specs.declared.places.RegionWish.{RegionWish}
use Rattle.lx_fhdl.specs.declared.places.Fix.{Fix}
use Rattle.lx_description.specs.Below.{all_fsm_below, fsm_below}
use Rattle.lx_description.specs.Fsms.{assigned}
use Rattle.lx_description.specs.Wires.{AreBusPorts, HasWire, HasWires, bus_ports, bus_signals, given, interface_wires, left, placed, register_wires, resets, source_wires}
use Rattle.lx_description.specs.declared.registers.Field.{Field}
use Rattle.lx_description.specs.declared.registers.RegKind.{RegKind}
use Rattle.lx_description.specs.declared.registers.RegKind.TheVariants as kind
use Rattle.lx_description.specs.declared.registers.RegDecl.{RegDecl}
use Rattle.lx_description.specs.declared.registers.SourceDecl.{SourceDecl}
use Rattle.lx_description.specs.declared.registers.ManagerDecl.{ManagerDecl}
use Rattle.lx_description.specs.declared.modules.Part.{Part}
use Rattle.lx_description.specs.declared.modules.Part.TheVariants as part
use Rattle.lx_description.specs.declared.modules.ModuleDecl.{ModuleDecl}
use Rattle.lx_description.specs.declared.modules.ConstValue.{ConstValue}
use Rattle.lx_description.specs.declared.modules.ConstValue.TheVariants as value
use Rattle.lx_description.specs.declared.modules.ConstDecl.{ConstDecl}
use Rattle.lx_description.specs.declared.slaves.SlaveKind.{SlaveKind}
use Rattle.lx_description.specs.declared.slaves.SlaveKind.TheVariants as slave
use Rattle.lx_description.specs.declared.slaves.SlaveDecl.{SlaveDecl}
use Rattle.lx_description.specs.declared.fsms.FsmStmt.{FsmStmt}
use Rattle.lx_description.specs.declared.fsms.FsmStmt.TheVariants as fsm
use Rattle.lx_description.specs.declared.fsms.FsmBranch.{FsmBranch}
use Rattle.lx_description.specs.declared.fsms.Asked.{Asked}
use Rattle.lx_description.specs.declared.fsms.StateDecl.{StateDecl}
use Rattle.lx_description.specs.declared.fsms.FsmPlace.{FsmPlace}
use Rattle.lx_description.specs.declared.fsms.FsmDecl.{FsmDecl}
use Rattle.lx_description.specs.declared.description.Description.{Description}

-- no number stands twice
abbrev pub are_apart : List ℕ → Bool
are_apart [] = true
are_apart (x ∷ xs) = not (is_among x xs) && are_apart xs

-- how often a number stands there
abbrev pub times : ℕ → List ℕ → ℕ
times x [] = 0
times x (y ∷ ys) = if nat_eq y x then 1 + times x ys else times x ys

-- ---- registers and event managers

-- a field has a bit, and lies inside its register of so many bits
pub record IsField (size : ℕ) (f : Field) : Type 0 where
  pub name : IsTrue (is_identifier f.name)
  pub some : 1 ≤ f.size
  pub inside : f.offset + f.size ≤ size

-- the most bits of a register; none is declared as pending
abbrev pub most_size : RegKind → ℕ
most_size kind.Raw = 32
most_size kind.Pending = 0
most_size _ = 64

-- a storage alone is atomic or written by the circuit, and a raw register has no fields
abbrev pub takes_options : RegDecl → RegKind → Bool
takes_options r kind.Storage = true
takes_options r kind.Raw = not r.atomic && (not r.from_dev && nat_eq (length r.fields) 0)
takes_options r _ = not r.atomic && not r.from_dev

pub record IsRegister (d : Design) (r : RegDecl) : Type 0 where
  pub name : IsTrue (is_identifier r.name)
  pub some : 1 ≤ r.size
  pub most : r.size ≤ most_size r.kind
  pub options : IsTrue (takes_options r r.kind)
  pub fields : EachOf (IsField r.size) r.fields
  pub signals : HasWires d r.signals (register_wires r r.kind)

pub record IsSource (d : Design) (s : SourceDecl) : Type 0 where
  pub name : IsTrue (is_identifier s.name)
  pub signals : HasWires d s.signals source_wires

-- a signal of generated hardware has no name, and isn't given
abbrev pub is_generated : Signal → Bool
is_generated s = nat_eq (length s.path) 0 && not s.by_bus

-- a manager has 1 to 32 sources, and one bit of `enable` for each
pub record IsManager (d : Design) (m : ManagerDecl) : Type 0 where
  pub some : 1 ≤ length m.sources
  pub most : length m.sources ≤ 32
  pub sources : EachOf (IsSource d) m.sources
  pub irq : HasWire d m.irq (given 1 (pos 0))
  pub enable : HasWire d m.enable (left (length m.sources) (pos 0))
  pub generated : IsSomeAnd (slice_get d.signals m.enable.0) (λ s. IsTrue (is_generated s))

-- ---- constants

-- printable, and neither quote, backslash nor comma
abbrev pub is_plain : ℕ → Bool
is_plain b = is_between 32 126 b && (not (nat_eq b 34) && (not (nat_eq b 92) && not (nat_eq b 44)))

-- a number from -2 ^ 63 to 2 ^ 64 - 1
abbrev pub is_value : ConstValue → Bool
is_value (value.Number z) = int_le (negsuc (2 ^ 63 - 1)) z && int_lt z (pos (2 ^ 64))
is_value (value.Text bytes) = list_all is_plain bytes
is_value value.Nothing = true

pub record IsConstant (c : ConstDecl) : Type 0 where
  pub name : IsTrue (is_identifier c.name)
  pub value : IsTrue (is_value c.value)

-- ---- modules

abbrev pub IsPart : Design → Part → Type 0
IsPart d (part.Reg r) = IsRegister d r
IsPart d (part.Constant c) = IsConstant c
IsPart d (part.Manager name m) = IsTrue (is_identifier name) × IsManager d m
IsPart d (part.Module k) = Unit {0}

-- the module that a part is
abbrev pub submodule : Part → List ℕ
submodule (part.Module k) = k ∷ []
submodule _ = []

abbrev pub submodules : ModuleDecl → List ℕ
submodules m = flat_map submodule m.parts

-- the module at the place k stands before its submodules
pub record IsModule (d : Description) (k : ℕ) (m : ModuleDecl) : Type 0 where
  pub name : IsTrue (is_identifier m.name)
  pub parts : EachOf (IsPart d.design) m.parts
  pub later : EachOf (λ j. (k < j) × (j < length d.modules)) (submodules m)

-- a manager has the registers `status`, `pending` and `enable`
abbrev pub part_registers : Part → ℕ
part_registers (part.Reg r) = 1
part_registers (part.Manager name m) = 3
part_registers _ = 0

abbrev pub registers : List ModuleDecl → ℕ
registers ms = sum (map (λ (m : ModuleDecl). sum (map part_registers m.parts)) ms)

-- the first is the top, and each other is a submodule exactly once
pub record ModulesKeep (d : Description) : Type 0 where
  pub top : IsSomeAnd (slice_get d.modules 0) (λ m. m.name ≡ d.top)
  pub each : (k : ℕ) (m : ModuleDecl) → slice_get d.modules k ≡ Some m → IsModule d k m
  pub once : (k : ℕ) → 0 < k → k < length d.modules → times k (flat_map submodules d.modules) ≡ 1
  pub registers : registers d.modules ≤ 1000000

-- ---- FSMs

abbrev pub FsmBranchesStand : ℕ → List FsmBranch → Type 0
FsmBranchesStand n [] = Unit {0}
FsmBranchesStand n (b ∷ bs) = (b.cond.place < n) × FsmBranchesStand n bs

-- its expressions and its target are there, of so many
abbrev pub FsmStmtStands : ℕ → ℕ → FsmStmt → Type 0
FsmStmtStands n m (fsm.Assign target value line) = (target.place < m) × (value.place < n)
FsmStmtStands n m (fsm.If branches rest line) = FsmBranchesStand n branches
FsmStmtStands n m (fsm.Case on arms rest line) = on.place < n
FsmStmtStands n m (fsm.NextState name line) = Unit {0}
FsmStmtStands n m (fsm.NextValue target value line) = (target.place < m) × (value.place < n)

-- statements that are there, at most 64 deep
pub record IsBody (d : Description) (s : StateDecl) : Type 0 where
  pub there : IsTrue (all_fsm_below (length d.fsm_stmts) s.body)
  pub depth : block_depth (assigned d s.body) ≤ 64

pub record IsPlace (d : Design) (p : FsmPlace) : Type 0 where
  pub comb : p.comb ≤ length d.comb
  pub sync : p.sync ≤ length d.sync

-- the signal `state` has the fewest unsigned bits that hold the number of every state
pub record IsFsm (d : Description) (f : FsmDecl) : Type 0 where
  pub most : length f.states ≤ 256
  pub distinct : IsTrue (is_distinct (map (λ (s : StateDecl). s.name) f.states))
  pub bodies : EachOf (IsBody d) f.states
  pub state : 0 < length f.states → IsAddress d.design (length f.states) f.state
  pub asked : EachOf (λ (a : Asked). IsUnsigned d.design 1 a.signal) f.asked
  pub asked_once : IsTrue (is_distinct (map (λ (a : Asked). a.name) f.asked))
  pub place : IfSome f.place (IsPlace d.design)

abbrev pub is_sys : Domain → Bool
is_sys x = bytes_eq x.name (codes "sys")

-- FSMs run in `sys`
abbrev pub have_clock : Description → Bool
have_clock d = nat_eq (length d.fsms) 0 || list_any is_sys d.design.domains

pub record FsmsKeep (d : Description) : Type 0 where
  pub lower : EachLower fsm_below d.fsm_stmts
  pub stmts : EachOf (FsmStmtStands (length d.design.exprs) (length d.design.targets)) d.fsm_stmts
  pub fsms : EachOf (IsFsm d) d.fsms
  pub clock : IsTrue (have_clock d)

-- ---- statements

abbrev pub line_of : Stmt → ℕ
line_of (stmt.Assign target value line) = line
line_of (stmt.If branches rest line) = line
line_of (stmt.Case on arms rest line) = line

abbrev pub fsm_line : FsmStmt → ℕ
fsm_line (fsm.Assign target value line) = line
fsm_line (fsm.If branches rest line) = line
fsm_line (fsm.Case on arms rest line) = line
fsm_line (fsm.NextState name line) = line
fsm_line (fsm.NextValue target value line) = line

-- some statement of an FSM assigns the signal
abbrev pub fsms_drive : Description → ℕ → Bool
fsms_drive d x = list_any (λ (f : FsmDecl). list_any (λ (s : StateDecl). drives_block x (assigned d s.body)) f.states) d.fsms

-- some statement assigns the signal
abbrev pub is_driven : Description → ℕ → Bool
is_driven d x =
    let c = circuit_of d.design in
    drives_block x c.comb || (list_any (λ (y : circuit.Domain). drives_block x y.stmts) c.domains || fsms_drive d x)

-- the signal s at the place x is a reset, a port of the bus, or one of generated hardware
abbrev pub is_reserved : Description → Signal → ℕ → Bool
is_reserved d s x = is_generated s || (is_among x (resets d.design.domains) || is_among x (bus_signals d.soc))

-- ---- the system

abbrev pub IsRegion : RegionWish → Type 0
IsRegion w = IsTrue (is_identifier w.name) × (1 ≤ w.size) × (w.size ≤ 4294967296)

-- the region of the registers: its place is stated
pub record IsFirstRegion (w : RegionWish) : Type 0 where
  pub name : w.name ≡ codes "csr"
  pub origin : is_none w.origin ≡ false
  pub size : w.size ≡ 65536
  pub uncached : w.cached ≡ false

-- a memory of 1 to 262,144 bytes in the cached window; its contents are words of 32 bits, no more than its own
pub record IsMemoryRegion (w : RegionWish) (contents : List ℕ) : Type 0 where
  pub size : w.size ≤ 262144
  pub cached : w.cached ≡ true
  pub words : EachOf (λ z. z < 2 ^ 32) contents
  pub most : length contents ≤ (w.size + 3) / 4

abbrev pub Answers : Design → RegionWish → SlaveKind → Type 0
Answers d w (slave.Ram contents) = IsMemoryRegion w contents
Answers d w (slave.Rom contents) = IsMemoryRegion w contents
Answers d w (slave.User xs) = HasWires d xs interface_wires

-- each region has the slave of its name, and there are no others
abbrev pub HaveSlaves : Design → List RegionWish → List SlaveDecl → Type 0
HaveSlaves d [] [] = Unit {0}
HaveSlaves d (w ∷ ws) (s ∷ ss) = ((s.name ≡ w.name) × Answers d w s.kind) × HaveSlaves d ws ss
HaveSlaves d _ _ = ⊥

-- the first region is that of the registers
abbrev pub RegionsStand : Design → List RegionWish → List SlaveDecl → Type 0
RegionsStand d [] ss = ⊥
RegionsStand d (w ∷ ws) ss = IsFirstRegion w × HaveSlaves d ws ss

abbrev pub has_name : Fix → Bool
has_name f = is_identifier f.name

-- a domain `sys` with a reset
abbrev pub IsClocked : Domain → Type 0
IsClocked x = (x.name ≡ codes "sys") × (is_none x.reset ≡ false)

pub record IsSystem (d : Description) : Type 0 where
  pub ports : AreBusPorts d.design.signals bus_ports
  pub sys : IsSomeAnd (slice_get d.design.domains 0) IsClocked
  pub regions : EachOf IsRegion d.wishes.regions
  pub regions_most : length d.wishes.regions ≤ 64
  pub slaves : RegionsStand d.design d.wishes.regions d.slaves
  pub fixes : IsTrue (list_all has_name d.wishes.fixes)
  pub irqs : IsTrue (list_all has_name d.wishes.irqs)

-- nothing stands on a bus
pub record IsAlone (d : Description) : Type 0 where
  pub regions : d.wishes.regions ≡ []
  pub slaves : d.slaves ≡ []
  pub fixes : d.wishes.fixes ≡ []
  pub irqs : d.wishes.irqs ≡ []

abbrev pub TopKeeps : Description → Bool → Type 0
TopKeeps d true = IsSystem d
TopKeeps d false = IsAlone d

-- What a description keeps.
pub record KeepsDescription (d : Description) : Type 0 where
  pub design : Keeps d.design
  pub no_fetch : EachOf (λ (x : Expr). is_fetch x ≡ false) d.design.exprs
  pub modules : ModulesKeep d
  pub constants : EachOf IsConstant d.constants
  pub fsms : FsmsKeep d
  -- every statement has a line
  pub lines : EachOf (λ (s : Stmt). 1 ≤ line_of s) d.design.stmts
  pub fsm_lines : EachOf (λ (s : FsmStmt). 1 ≤ fsm_line s) d.fsm_stmts
  -- no statement drives a reset, a port of the bus or a signal of generated hardware
  pub undriven : (x : ℕ) (s : Signal) → slice_get d.design.signals x ≡ Some s → is_reserved d s x ≡ true → is_driven d x ≡ false
  -- no signal has two places
  pub apart : IsTrue (are_apart (placed d))
  -- banks and event managers are told by the modules
  pub banks : d.wishes.banks ≡ []
  pub managers : d.wishes.managers ≡ []
  pub top : TopKeeps d d.soc
