-- The drivers of a module: a net has exactly one, an input's being the outside, and a memory is written by at most one clocked block.
-- Nets and memories are tested in the order of their declaration, ports first.
use Rattle.std.specs.Prelude.{Bool, true, false, length, nat_le, nat_eq, count_by, IsTrue}
use Rattle.std.specs.List.{list_all}
use Rattle.lx_vtext.specs.Tree.{VNet, VMemory, VDecl, NetDecl, MemoryDecl, VModule}
use Rattle.lx_vmeaning.specs.Runs.{Driver, Outside, ByAssign, ByBlock, Clocked, Nothing, drivers}

abbrev pub is_clocked : Driver → Bool
is_clocked Outside = false
is_clocked (ByAssign e) = false
is_clocked (ByBlock b) = false
is_clocked (Clocked c b) = true
is_clocked Nothing = false

abbrev pub net_driven : VModule → VNet → Bool
net_driven m x = nat_eq (length (drivers m x.name)) 1

abbrev pub memory_driven : VModule → VMemory → Bool
memory_driven m x = nat_le (count_by is_clocked (drivers m x.name)) 1

abbrev pub decl_driven : VModule → VDecl → Bool
decl_driven m (NetDecl x) = net_driven m x
decl_driven m (MemoryDecl x) = memory_driven m x

pub record HasDrivers (m : VModule) : Type 0 where
  pub ports : IsTrue (list_all (λ p. net_driven m p.net) m.ports)
  pub decls : IsTrue (list_all (λ x. decl_driven m x) m.decls)
