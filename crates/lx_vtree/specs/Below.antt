-- Which nodes stand after their children.
use Rattle.std.specs.Prelude.{ℕ, Bool, true, ◌&&◌, List, [], ◌∷◌, nat_lt}
use Rattle.lx_arena.specs.declared.Id.{Id}
use Rattle.lx_vtree.specs.declared.nodes.InExprs.{InExprs}
use Rattle.lx_vtree.specs.declared.nodes.VExpr.{VExpr}
use Rattle.lx_vtree.specs.declared.nodes.VExpr.TheVariants as node

abbrev pub Ref : Type 0
Ref = Id InExprs

abbrev pub are_below : List Ref → ℕ → Bool
are_below [] n = true
are_below (id ∷ ids) n = nat_lt id.place n && are_below ids n

-- all children stand at places lower than n
abbrev pub is_below : VExpr → ℕ → Bool
is_below (node.Net name) n = true
is_below (node.Literal l) n = true
is_below (node.PartSelect name hi lo) n = true
is_below (node.Word name index) n = nat_lt index.place n
is_below (node.Unary op of) n = nat_lt of.place n
is_below (node.Binary left op right) n = nat_lt left.place n && nat_lt right.place n
is_below (node.Conditional c so other) n = nat_lt c.place n && nat_lt so.place n && nat_lt other.place n
is_below (node.Concatenation first more) n = nat_lt first.place n && are_below more n
is_below (node.Replication count of) n = nat_lt of.place n
is_below (node.ToSigned of) n = nat_lt of.place n
is_below (node.ToUnsigned of) n = nat_lt of.place n
