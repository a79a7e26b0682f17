-- The names of a module: each is declared once and used as declared, each select lies inside its name, and no clock is read.
-- Names are tested where they stand in the text, so the first fault is the first test that fails.
use Rattle.std.specs.Prelude.{ℕ, Bool, true, false, List, [], ◌∷◌, ◌++◌, Option, Some, None, nat_le, nat_lt, not, ◌&&◌, map, is_some, IsTrue}
use Rattle.std.specs.List.{list_all, list_any}
use Rattle.std.specs.Str.{bytes_eq}
use Rattle.lx_vtext.specs.Tree.{Name, VExpr, VExprs, Net, Literal, PartSelect, Word, Unary, Binary, Conditional, Concatenation, Replication, ToSigned, ToUnsigned, NoMore, More, VTarget, Whole, Part, WholeWord, PartWord, VStmt, Assign, When, VElse, NoElse, Else, VBlock, EndBlock, InBlock, VNet, VPort, VDecl, NetDecl, MemoryDecl, VSet, VAssign, VAlways, VModule}
use Rattle.lx_vmeaning.specs.Runs.{all_nets, decl_memories, net_named, memory_named, sizes}

abbrev pub is_net : VModule → Name → Bool
is_net m n = is_some (net_named n (all_nets m))

abbrev pub is_memory : VModule → Name → Bool
is_memory m n = is_some (memory_named n (decl_memories m.decls))

-- a net with a first value
abbrev pub is_register_net : Option VNet → Bool
is_register_net None = false
is_register_net (Some x) = is_some x.init

abbrev pub is_register : VModule → Name → Bool
is_register m n = is_register_net (net_named n (all_nets m))

abbrev pub is_input : Name → List VPort → Bool
is_input n ports = list_any (λ p. p.is_input && bytes_eq p.net.name n) ports

abbrev pub names_clock : Name → Option Name → Bool
names_clock n None = false
names_clock n (Some c) = bytes_eq c n

-- a clock: an input at whose rise some block acts
abbrev pub is_clock : VModule → Name → Bool
is_clock m n = list_any (λ a. names_clock n a.clock) m.always && is_input n m.ports

abbrev pub is_readable : VModule → Name → Bool
is_readable m n = is_net m n && not (is_clock m n)

-- hi isn't below lo, and lies inside the name
abbrev pub is_within : VModule → Name → ℕ → ℕ → Bool
is_within m n hi lo = nat_le lo hi && nat_lt hi (sizes m n).bits

-- the names that an expression reads
abbrev mutual
  pub names_fit : VModule → VExpr → Bool
  names_fit m (Net n) = is_readable m n
  names_fit m (Literal bits signed value) = true
  names_fit m (PartSelect n hi lo) = is_readable m n && is_within m n hi lo
  names_fit m (Word n index) = is_memory m n && names_fit m index
  names_fit m (Unary o a) = names_fit m a
  names_fit m (Binary a o b) = names_fit m a && names_fit m b
  names_fit m (Conditional c a b) = names_fit m c && (names_fit m a && names_fit m b)
  names_fit m (Concatenation a as_) = names_fit m a && all_names_fit m as_
  names_fit m (Replication k a) = names_fit m a
  names_fit m (ToSigned a) = names_fit m a
  names_fit m (ToUnsigned a) = names_fit m a

  pub all_names_fit : VModule → VExprs → Bool
  all_names_fit m NoMore = true
  all_names_fit m (More a as_) = names_fit m a && all_names_fit m as_

-- a block assigns registers and words of memories
abbrev pub target_names : VModule → VTarget → Bool
target_names m (Whole n) = is_register m n
target_names m (Part n hi lo) = is_register m n && is_within m n hi lo
target_names m (WholeWord n index) = is_memory m n && names_fit m index
target_names m (PartWord n index hi lo) = is_memory m n && (is_within m n hi lo && names_fit m index)

abbrev mutual
  pub stmt_names : VModule → VStmt → Bool
  stmt_names m (Assign t blocking e) = target_names m t && names_fit m e
  stmt_names m (When c so other) = names_fit m c && (block_names m so && else_names m other)

  pub else_names : VModule → VElse → Bool
  else_names m NoElse = true
  else_names m (Else b) = block_names m b

  pub block_names : VModule → VBlock → Bool
  block_names m EndBlock = true
  block_names m (InBlock s ss) = stmt_names m s && block_names m ss

-- an input alone may be a clock
abbrev pub clock_names : VModule → Option Name → Bool
clock_names m None = true
clock_names m (Some c) = is_input c m.ports

abbrev pub always_names : VModule → VAlways → Bool
always_names m a = clock_names m a.clock && block_names m a.body

-- an assign drives a wire
abbrev pub assign_names : VModule → VAssign → Bool
assign_names m a = (is_net m a.name && not (is_register m a.name)) && names_fit m a.value

-- an initial block sets words of memories
abbrev pub init_names : VModule → List VSet → Bool
init_names m sets = list_all (λ x. is_memory m x.name) sets

abbrev pub decl_name : VDecl → Name
decl_name (NetDecl x) = x.name
decl_name (MemoryDecl x) = x.name

-- the ports, then the other nets and the memories
abbrev pub declared_names : VModule → List Name
declared_names m = map (λ p. p.net.name) m.ports ++ map decl_name m.decls

-- none of these names is among those before it, the nearest first
abbrev pub are_new : List Name → List Name → Bool
are_new before [] = true
are_new before (n ∷ ns) = not (list_any (λ k. bytes_eq k n) before) && are_new (n ∷ before) ns

pub record HasNames (m : VModule) : Type 0 where
  pub declared_once : IsTrue (are_new [] (declared_names m))
  pub inits : IsTrue (list_all (λ b. init_names m b) m.inits)
  pub assigns : IsTrue (list_all (λ a. assign_names m a) m.assigns)
  pub blocks : IsTrue (list_all (λ a. always_names m a) m.always)
