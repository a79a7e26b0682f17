-- What the nets and memories of a module are, after any list of steps.
use Rattle.std.specs.Prelude.{◌≡◌, ℕ, Bool, false, List, [], ◌∷◌, ◌++◌, Option, Some, None, ◌+◌, ◌-◌, ◌*◌, ◌/◌, ◌%◌, ◌^◌, nat_eq, nat_lt, ◌&&◌, ◌||◌, map, if◌then◌else◌}
use Rattle.std.specs.Str.{bytes_eq}
use Rattle.lx_vtext.specs.Tree.{Name, VExpr, Literal, VTarget, Whole, Part, WholeWord, PartWord, VStmt, Assign, When, VElse, NoElse, Else, VBlock, EndBlock, InBlock, VLiteral, VNet, VPort, VMemory, VDecl, NetDecl, MemoryDecl, VSet, VAssign, VAlways, VModule}
use Rattle.lx_vmeaning.specs.Meaning.{Declared, Sizes, Valuation, meaning, own, assigned, holds}

abbrev pub decl_nets : List VDecl → List VNet
decl_nets [] = []
decl_nets (NetDecl x ∷ ds) = x ∷ decl_nets ds
decl_nets (MemoryDecl x ∷ ds) = decl_nets ds

abbrev pub decl_memories : List VDecl → List VMemory
decl_memories [] = []
decl_memories (NetDecl x ∷ ds) = decl_memories ds
decl_memories (MemoryDecl x ∷ ds) = x ∷ decl_memories ds

-- the ports and the other nets
abbrev pub all_nets : VModule → List VNet
all_nets m = map (λ p. p.net) m.ports ++ decl_nets m.decls

abbrev pub net_named : Name → List VNet → Option VNet
net_named n [] = None
net_named n (x ∷ xs) = if bytes_eq x.name n then Some x else net_named n xs

abbrev pub memory_named : Name → List VMemory → Option VMemory
memory_named n [] = None
memory_named n (x ∷ xs) = if bytes_eq x.name n then Some x else memory_named n xs

abbrev pub net_declared : Option VNet → Declared → Declared
net_declared None other = other
net_declared (Some x) other = record { bits = x.bits; signed = x.signed; depth = 0 }

abbrev pub memory_declared : Option VMemory → Declared
memory_declared None = record { bits = 1; signed = false; depth = 0 }
memory_declared (Some x) = record { bits = x.bits; signed = false; depth = x.depth }

-- how the names of a module are declared
abbrev pub sizes : VModule → Sizes
sizes m n = net_declared (net_named n (all_nets m)) (memory_declared (memory_named n (decl_memories m.decls)))

-- bits hi to lo of a pattern become p
abbrev pub set_bits : ℕ → ℕ → ℕ → ℕ → ℕ
set_bits old hi lo p = old % 2 ^ lo + 2 ^ lo * p + 2 ^ (hi + 1) * (old / 2 ^ (hi + 1))

abbrev pub set_word : (ℕ → ℕ) → ℕ → ℕ → ℕ → ℕ
set_word words k p j = if nat_eq j k then p else words j

-- a net after an assignment; right sides and indices are taken under v
abbrev pub new_pattern : Sizes → Valuation → VTarget → VExpr → ℕ → ℕ
new_pattern d v (Whole n) e old = assigned d v (d n).bits e
new_pattern d v (Part n hi lo) e old = set_bits old hi lo (assigned d v (hi - lo + 1) e)
new_pattern d v (WholeWord n index) e old = old
new_pattern d v (PartWord n index hi lo) e old = old

-- a memory after an assignment; a word past its end is none of its words
abbrev pub write_word : ℕ → (ℕ → ℕ) → ℕ → ℕ → ℕ → ℕ
write_word depth words k p = if nat_lt k depth then set_word words k p else words

abbrev pub new_words : Sizes → Valuation → VTarget → VExpr → (ℕ → ℕ) → ℕ → ℕ
new_words d v (WholeWord n index) e words = write_word (d n).depth words (own (meaning d index) v) (assigned d v (d n).bits e)
new_words d v (PartWord n index hi lo) e words =
    let k = own (meaning d index) v in
    write_word (d n).depth words k (set_bits (words k) hi lo (assigned d v (hi - lo + 1) e))
new_words d v _ e words = words

-- the pattern of a block's target after its statements
abbrev mutual
  pub run_stmt : Sizes → Valuation → VStmt → ℕ → ℕ
  run_stmt d v (Assign t blocking e) old = new_pattern d v t e old
  run_stmt d v (When c so other) old = if holds d v c then run_block d v so old else run_else d v other old

  pub run_else : Sizes → Valuation → VElse → ℕ → ℕ
  run_else d v NoElse old = old
  run_else d v (Else b) old = run_block d v b old

  pub run_block : Sizes → Valuation → VBlock → ℕ → ℕ
  run_block d v EndBlock old = old
  run_block d v (InBlock s ss) old = run_block d v ss (run_stmt d v s old)

-- the words of a block's memory after its statements
abbrev mutual
  pub run_stmt_words : Sizes → Valuation → VStmt → (ℕ → ℕ) → ℕ → ℕ
  run_stmt_words d v (Assign t blocking e) words = new_words d v t e words
  run_stmt_words d v (When c so other) words = if holds d v c then run_block_words d v so words else run_else_words d v other words

  pub run_else_words : Sizes → Valuation → VElse → (ℕ → ℕ) → ℕ → ℕ
  run_else_words d v NoElse words = words
  run_else_words d v (Else b) words = run_block_words d v b words

  pub run_block_words : Sizes → Valuation → VBlock → (ℕ → ℕ) → ℕ → ℕ
  run_block_words d v EndBlock words = words
  run_block_words d v (InBlock s ss) words = run_block_words d v ss (run_stmt_words d v s words)

abbrev pub target_name : VTarget → Name
target_name (Whole n) = n
target_name (Part n hi lo) = n
target_name (WholeWord n index) = n
target_name (PartWord n index hi lo) = n

-- some statement assigns the name
abbrev mutual
  pub sets_stmt : Name → VStmt → Bool
  sets_stmt n (Assign t blocking e) = bytes_eq (target_name t) n
  sets_stmt n (When c so other) = sets_block n so || sets_else n other

  pub sets_else : Name → VElse → Bool
  sets_else n NoElse = false
  sets_else n (Else b) = sets_block n b

  pub sets_block : Name → VBlock → Bool
  sets_block n EndBlock = false
  sets_block n (InBlock s ss) = sets_stmt n s || sets_block n ss

-- what drives a net, or writes a memory
pub data Driver : Type 0 where
  Outside : Driver
  ByAssign : (value : VExpr) → Driver
  ByBlock : (body : VBlock) → Driver
  Clocked : (clock : Name) (body : VBlock) → Driver
  Nothing : Driver

abbrev pub always_driver : Option Name → VBlock → Driver
always_driver None b = ByBlock b
always_driver (Some c) b = Clocked c b

abbrev pub outside_drivers : Name → List VPort → List Driver
outside_drivers n [] = []
outside_drivers n (p ∷ ps) = if p.is_input && bytes_eq p.net.name n then Outside ∷ outside_drivers n ps else outside_drivers n ps

abbrev pub assign_drivers : Name → List VAssign → List Driver
assign_drivers n [] = []
assign_drivers n (a ∷ as_) = if bytes_eq a.name n then ByAssign a.value ∷ assign_drivers n as_ else assign_drivers n as_

abbrev pub block_drivers : Name → List VAlways → List Driver
block_drivers n [] = []
block_drivers n (a ∷ as_) = if sets_block n a.body then always_driver a.clock a.body ∷ block_drivers n as_ else block_drivers n as_

-- all that drive a name
abbrev pub drivers : VModule → Name → List Driver
drivers m n = outside_drivers n m.ports ++ (assign_drivers n m.assigns ++ block_drivers n m.always)

abbrev pub first_driver : List Driver → Driver
first_driver [] = Nothing
first_driver (x ∷ xs) = x

abbrev pub driver : VModule → Name → Driver
driver m n = first_driver (drivers m n)

-- what a net is, by its driver; a block of `always @(*)` begins with its whole target
abbrev pub by_driver : VModule → Valuation → (Name → ℕ) → Valuation → Name → Driver → ℕ
by_driver m state inputs v n Outside = inputs n
by_driver m state inputs v n (ByAssign e) = assigned (sizes m) v (sizes m n).bits e
by_driver m state inputs v n (ByBlock b) = run_block (sizes m) v b 0
by_driver m state inputs v n (Clocked c b) = state.nets n
by_driver m state inputs v n Nothing = 0

-- Settled: each net equals its driver, all under one valuation, and the memories are those of the state.
pub record IsVSettled (m : VModule) (state : Valuation) (inputs : Name → ℕ) (v : Valuation) : Type 0 where
  pub nets : (n : Name) → v.nets n ≡ by_driver m state inputs v n (driver m n)
  pub words : (n : Name) (k : ℕ) → v.words n k ≡ state.words n k

-- A step: the patterns of the inputs, and the clocks that rise together.
pub record VStep : Type 0 where
  pub inputs : Name → ℕ
  pub rises : Name → Bool

-- after a step: all blocks whose clocks rise act at once on the settled values
abbrev pub next_net : VModule → Valuation → Valuation → (Name → Bool) → Name → Driver → ℕ
next_net m state v rises n (Clocked c b) = if rises c then run_block (sizes m) v b (state.nets n) else state.nets n
next_net m state v rises n _ = state.nets n

abbrev pub next_words : VModule → Valuation → Valuation → (Name → Bool) → Name → Driver → ℕ → ℕ
next_words m state v rises n (Clocked c b) = if rises c then run_block_words (sizes m) v b (state.words n) else state.words n
next_words m state v rises n _ = state.words n

abbrev pub v_next : VModule → Valuation → Valuation → (Name → Bool) → Valuation
v_next m state v rises = record { nets = λ n. next_net m state v rises n (driver m n); words = λ n. next_words m state v rises n (driver m n) }

abbrev pub zeros : Valuation
zeros = record { nets = λ n. 0; words = λ n k. 0 }

-- a literal is taken as a right side
abbrev pub literal_value : ℕ → VLiteral → ℕ
literal_value n x = assigned (λ name. memory_declared None) zeros n (Literal x.bits x.signed x.value)

abbrev pub first_value : ℕ → Option VLiteral → ℕ
first_value n None = 0
first_value n (Some x) = literal_value n x

abbrev pub first_net : Option VNet → ℕ
first_net None = 0
first_net (Some x) = first_value x.bits x.init

-- the word that the lines of an initial block set
abbrev pub set_value : Name → ℕ → ℕ → List VSet → ℕ → ℕ
set_value n bits k [] other = other
set_value n bits k (x ∷ xs) other = if bytes_eq x.name n && nat_eq x.index k then literal_value bits x.value else set_value n bits k xs other

abbrev pub first_word : Name → ℕ → ℕ → List (List VSet) → ℕ
first_word n bits k [] = 0
first_word n bits k (b ∷ bs) = set_value n bits k b (first_word n bits k bs)

-- the declared values
abbrev pub v_first : VModule → Valuation
v_first m = record { nets = λ n. first_net (net_named n (all_nets m)); words = λ n k. first_word n (sizes m n).bits k m.inits }

abbrev pub VViewFrom : VModule → Valuation → List VStep → (Name → ℕ) → Valuation → Type 0
VViewFrom m state [] inputs v = IsVSettled m state inputs v
VViewFrom m state (t ∷ ts) inputs v = (w : Valuation) × IsVSettled m state t.inputs w × VViewFrom m (v_next m state w t.rises) ts inputs v

-- The view: the settled values after a list of steps, under final inputs.
abbrev pub IsVView : VModule → List VStep → (Name → ℕ) → Valuation → Type 0
IsVView m steps inputs v = VViewFrom m (v_first m) steps inputs v
