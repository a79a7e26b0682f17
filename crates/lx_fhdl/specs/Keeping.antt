-- What a design keeps.
use Rattle.std.specs.Prelude.{◌≡◌, ℕ, Bool, true, false, List, [], ◌∷◌, ◌++◌, Option, Some, None, ◌+◌, ◌-◌, ◌/◌, ◌%◌, ◌^◌, ◌<◌, ◌≤◌, pos, max, nat_le, nat_eq, not, ◌&&◌, ◌||◌, codes, map, length, slice_get, IsTrue, IfSome, IsSomeAnd}
use Rattle.std.specs.List.{list_all, list_any}
use Rattle.std.specs.Str.{bytes_eq}
use Rattle.lx_num.specs.Ints.{Fits, unsigned}
use Rattle.lx_num.specs.Fewest.{IsFewestBits}
use Rattle.lx_arena.specs.Lower.{EachLower}
use Rattle.lx_circuit.specs.Operands.{is_unary, is_binary}
use Rattle.lx_circuit.specs.Shapes.{Shapes, shape_of, fault_of}
use Rattle.lx_circuit.specs.Statements as tree
use Rattle.lx_circuit.specs.Circuit.{Input, role}
use Rattle.lx_fhdl.specs.Below.{StmtId, expr_below, target_below, stmt_below, all_stmts_below}
use Rattle.lx_fhdl.specs.Nodes.{HasParts}
use Rattle.lx_fhdl.specs.Trees.{term_at}
use Rattle.lx_fhdl.specs.Stmts.{target_at}
use Rattle.lx_fhdl.specs.Designs as design
use Rattle.lx_fhdl.specs.Designs.{circuit_of, shapes, memory_at}
use Rattle.lx_fhdl.specs.declared.exprs.SigId.{SigId}
use Rattle.lx_fhdl.specs.declared.exprs.Expr.{Expr}
use Rattle.lx_fhdl.specs.declared.exprs.Expr.TheVariants.{Sig, Unary, Binary, Fetch}
use Rattle.lx_fhdl.specs.declared.stmts.Target.{Target}
use Rattle.lx_fhdl.specs.declared.stmts.Target.TheVariants as target
use Rattle.lx_fhdl.specs.declared.stmts.Branch.{Branch}
use Rattle.lx_fhdl.specs.declared.stmts.Stmt.{Stmt}
use Rattle.lx_fhdl.specs.declared.stmts.Stmt.TheVariants as stmt
use Rattle.lx_fhdl.specs.declared.design.Signal.{Signal}
use Rattle.lx_fhdl.specs.declared.design.Memory.{Memory}
use Rattle.lx_fhdl.specs.declared.design.PortMode.{PortMode}
use Rattle.lx_fhdl.specs.declared.design.PortMode.TheVariants as mode
use Rattle.lx_fhdl.specs.declared.design.Port.{Port}
use Rattle.lx_fhdl.specs.declared.design.Domain.{Domain}
use Rattle.lx_fhdl.specs.declared.design.SyncPart.{SyncPart}
use Rattle.lx_fhdl.specs.declared.design.Design.{Design}

-- ---- names

abbrev pub is_between : ℕ → ℕ → ℕ → Bool
is_between low high b = nat_le low b && nat_le b high

-- a letter or `_`
abbrev pub is_first : ℕ → Bool
is_first b = is_between 97 122 b || (is_between 65 90 b || nat_eq b 95)

-- a letter, `_` or a digit
abbrev pub is_later : ℕ → Bool
is_later b = is_first b || is_between 48 57 b

-- an identifier by its spelling; a word of Python is one too
abbrev pub is_identifier : List ℕ → Bool
is_identifier [] = false
is_identifier (b ∷ bs) = is_first b && list_all is_later bs

abbrev pub is_distinct : List (List ℕ) → Bool
is_distinct [] = true
is_distinct (n ∷ ns) = not (list_any (bytes_eq n) ns) && is_distinct ns

abbrev pub EachOf : {T : Type 0} → (T → Type 0) → List T → Type 0
EachOf P [] = Unit {0}
EachOf P (x ∷ xs) = P x × EachOf P xs

-- ---- expressions

-- what a node names is there: one of the first n signals, or a memory, whose width it has
abbrev pub NamesThere : ℕ → List Memory → Expr → Type 0
NamesThere n memories (Sig x) = x.0 < n
NamesThere n memories (Fetch memory width at) = IsSomeAnd (slice_get memories memory) (λ m. width ≡ m.width)
NamesThere n memories _ = Unit {0}

-- the index of a word that is read is unsigned
abbrev pub HasPlainIndex : Shapes → List Expr → Expr → Type 0
HasPlainIndex s xs (Fetch memory width at) = (shape_of s (term_at xs at.place)).signed ≡ false
HasPlainIndex s xs _ = Unit {0}

-- an operator stands with the number of operands that it takes
abbrev pub TakesOperands : Expr → Type 0
TakesOperands (Unary op of) = is_unary op ≡ true
TakesOperands (Binary op left right) = is_binary op ≡ true
TakesOperands _ = Unit {0}

-- ---- targets

-- a whole signal or a slice inside it, parts that are there, and an unsigned index; of n signals with these shapes,
-- over these expressions
abbrev pub TargetStands : Shapes → ℕ → List Expr → Target → Type 0
TargetStands s n xs (target.Whole x) = x.0 < n
TargetStands s n xs (target.Part x low len) = (x.0 < n) × (1 ≤ len) × (low + len ≤ (s x.0).bits)
TargetStands s n xs (target.Cat parts) = 0 < length parts
TargetStands s n xs (target.Pick items index) = (0 < length items) × (index.place < length xs) × ((shape_of s (term_at xs index.place)).signed ≡ false)

-- ---- statements

abbrev pub BranchesStand : ℕ → List Branch → Type 0
BranchesStand n [] = Unit {0}
BranchesStand n (b ∷ bs) = (b.cond.place < n) × BranchesStand n bs

-- its expressions and its target are there, of so many
abbrev pub StmtStands : ℕ → ℕ → Stmt → Type 0
StmtStands n m (stmt.Assign target value line) = (target.place < m) × (value.place < n)
StmtStands n m (stmt.If branches rest line) = BranchesStand n branches
StmtStands n m (stmt.Case on arms rest line) = on.place < n

-- What the arenas keep, of n signals with these shapes and of these memories.
pub record ArenasKeep (s : Shapes) (n : ℕ) (memories : List Memory) (xs : List Expr) (ts : List Target) (ss : List Stmt) : Type 0 where
  -- each node stands after its parts
  pub exprs_lower : EachLower expr_below xs
  pub targets_lower : EachLower target_below ts
  pub stmts_lower : EachLower stmt_below ss
  -- every expression has a shape without a fault
  pub shaped : (k : ℕ) → k < length xs → fault_of s (term_at xs k) ≡ None
  pub operands : (k : ℕ) (x : Expr) → slice_get xs k ≡ Some x → TakesOperands x
  pub parts : (k : ℕ) (x : Expr) → slice_get xs k ≡ Some x → HasParts x
  pub named : (k : ℕ) (x : Expr) → slice_get xs k ≡ Some x → NamesThere n memories x
  pub indices : (k : ℕ) (x : Expr) → slice_get xs k ≡ Some x → HasPlainIndex s xs x
  pub targets : (k : ℕ) (x : Target) → slice_get ts k ≡ Some x → TargetStands s n xs x
  -- a target has at most 127 bits
  pub target_bits : (k : ℕ) → k < length ts → tree.target_bits s (target_at (term_at xs) ts k) ≤ 127
  pub stmts : (k : ℕ) (x : Stmt) → slice_get ss k ≡ Some x → StmtStands (length xs) (length ts) x

-- ---- lists of statements

-- how many Arrays of a target stand in one another
abbrev mutual
  pub target_depth : tree.Target → ℕ
  target_depth (tree.Whole x) = 0
  target_depth (tree.Part x low len) = 0
  target_depth (tree.CatTarget parts) = targets_depth parts
  target_depth (tree.PickTarget items index) = 1 + targets_depth items

  pub targets_depth : tree.Targets → ℕ
  targets_depth tree.NoTarget = 0
  targets_depth (tree.MoreTargets t ts) = max (target_depth t) (targets_depth ts)

-- how deep statements nest, Arrays in targets counted
abbrev mutual
  pub stmt_depth : tree.Stmt → ℕ
  stmt_depth (tree.Assign t e) = 1 + target_depth t
  stmt_depth (tree.If bs rest) = 1 + max (branches_depth bs) (block_depth rest)
  stmt_depth (tree.Case on arms rest) = 1 + max (arms_depth arms) (block_depth rest)

  pub branches_depth : tree.Branches → ℕ
  branches_depth tree.NoBranch = 0
  branches_depth (tree.Branch c b more) = max (block_depth b) (branches_depth more)

  pub arms_depth : tree.Arms → ℕ
  arms_depth tree.NoArm = 0
  arms_depth (tree.Arm key b more) = max (block_depth b) (arms_depth more)

  pub block_depth : tree.Block → ℕ
  block_depth tree.Done = 0
  block_depth (tree.Then s ss) = max (stmt_depth s) (block_depth ss)

-- statements that are there, at most 128 deep
pub record ListStands (d : Design) (ids : List StmtId) : Type 0 where
  pub there : IsTrue (all_stmts_below (length d.stmts) ids)
  pub depth : block_depth (design.block d ids) ≤ 128

pub record PartStands (d : Design) (p : SyncPart) : Type 0 where
  pub domain : p.domain < length d.domains
  pub stmts : ListStands d p.stmts

-- ---- signals

-- a signal has 1 to 64 bits, its reset value is one of its shape, and its path is empty or made of identifiers
pub record IsSignal (s : Signal) : Type 0 where
  pub some : 1 ≤ s.shape.bits
  pub most : s.shape.bits ≤ 64
  pub reset : Fits s.shape s.reset
  pub path : IsTrue (list_all is_identifier s.path)

-- a signal of the design, of so many unsigned bits
pub record IsUnsigned (d : Design) (n : ℕ) (x : SigId) : Type 0 where
  pub there : x.0 < length d.signals
  pub shape : shapes d x.0 ≡ unsigned n

-- ---- memories

-- a memory has words of 1 to 64 bits and 1 to 65,536 of them; its contents fit, and are no more than its words
pub record IsMemory (m : Memory) : Type 0 where
  pub width_some : 1 ≤ m.width
  pub width_most : m.width ≤ 64
  pub depth_some : 1 ≤ m.depth
  pub depth_most : m.depth ≤ 65536
  pub contents : EachOf (λ z. z < 2 ^ m.width) m.init
  pub contents_most : length m.init ≤ m.depth
  pub path : IsTrue (list_all is_identifier m.path)

-- ---- ports

-- an unsigned signal with the fewest bits that hold every address below the depth
pub record IsAddress (d : Design) (depth : ℕ) (x : SigId) : Type 0 where
  pub there : x.0 < length d.signals
  pub plain : (shapes d x.0).signed ≡ false
  pub fewest : IsFewestBits (pos (depth - 1)) (shapes d x.0).bits

-- dat_w, which has the word's bits, and we, which has one for each part, stand together or not at all
abbrev pub WriterStands : Design → (width part : ℕ) → Option SigId → Option SigId → Type 0
WriterStands d width part (Some dat_w) (Some we) = IsUnsigned d width dat_w × IsUnsigned d (width / part) we
WriterStands d width part None None = Unit {0}
WriterStands d width part _ _ = ⊥

-- a port that writes, or keeps what it reads, needs a clock
abbrev pub is_clocked : PortMode → Option SigId → Bool
is_clocked mode.Async None = false
is_clocked _ _ = true

-- one of n domains where it needs a clock, else none
abbrev pub HasDomain : ℕ → Bool → Option ℕ → Type 0
HasDomain n true o = IsSomeAnd o (λ k. k < n)
HasDomain n false o = o ≡ None

-- a port of one of the design's memories, whose signals have the shapes that the memory asks for, with n domains
pub record PortStands (n : ℕ) (d : Design) (q : Port) : Type 0 where
  pub memory : q.memory < length d.memories
  pub domain : HasDomain n (is_clocked q.mode q.we) q.domain
  pub adr : IsAddress d (memory_at d q.memory).depth q.adr
  pub dat_r : IfSome q.dat_r (IsUnsigned d (memory_at d q.memory).width)
  pub writer : WriterStands d (memory_at d q.memory).width q.part q.dat_w q.we
  -- its parts divide the word
  pub part_some : 1 ≤ q.part
  pub parts : (memory_at d q.memory).width % q.part ≡ 0

-- with the design's own domains
abbrev pub IsPort : Design → Port → Type 0
IsPort d q = PortStands (length d.domains) d q

-- ---- domains

-- `<name>_rst`
abbrev pub reset_name : List ℕ → List ℕ
reset_name n = n ++ codes "_rst"

abbrev pub HasResetPath : Domain → Option Signal → Type 0
HasResetPath x None = ⊥
HasResetPath x (Some s) = s.path ≡ reset_name x.name ∷ []

-- the reset of a domain has the path `<name>_rst`, and is an input: nothing drives it
pub record IsReset (d : Design) (x : Domain) (r : SigId) : Type 0 where
  pub path : HasResetPath x (slice_get d.signals r.0)
  pub input : role (circuit_of d) r.0 ≡ Input

-- a domain's name is an identifier
pub record IsDomain (d : Design) (x : Domain) : Type 0 where
  pub name : IsTrue (is_identifier x.name)
  pub reset : IfSome x.reset (IsReset d x)

-- What a design keeps.
pub record Keeps (d : Design) : Type 0 where
  pub arenas : ArenasKeep (shapes d) (length d.signals) d.memories d.exprs d.targets d.stmts
  pub signals : EachOf IsSignal d.signals
  pub memories : EachOf IsMemory d.memories
  pub ports : EachOf (IsPort d) d.ports
  pub comb : ListStands d d.comb
  pub sync : EachOf (PartStands d) d.sync
  -- at most 16 domains, with distinct names; so their resets, which are named after them, are distinct
  pub domains : EachOf (IsDomain d) d.domains
  pub domains_most : length d.domains ≤ 16
  pub domains_distinct : IsTrue (is_distinct (map (λ (x : Domain). x.name) d.domains))
  pub ios : EachOf (λ (x : SigId). x.0 < length d.signals) d.ios
