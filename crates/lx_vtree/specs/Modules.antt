-- The tree of a module whose expressions and statements stand in arenas.
use Rattle.std.specs.Prelude.{ℕ, Bool, ◌&&◌, List, map, option_map, length, nat_lt, IsTrue}
use Rattle.std.specs.List.{list_all}
use Rattle.lx_vtext.specs.Tree as tree
use Rattle.lx_vtext.specs.Fits.{IsModule}
use Rattle.lx_vtree.specs.declared.nodes.Literal.{Literal}
use Rattle.lx_vtree.specs.declared.modules.Net.{Net}
use Rattle.lx_vtree.specs.declared.modules.Port.{Port}
use Rattle.lx_vtree.specs.declared.modules.Memory.{Memory}
use Rattle.lx_vtree.specs.declared.modules.Decl.{Decl}
use Rattle.lx_vtree.specs.declared.modules.Decl.TheVariants as decl
use Rattle.lx_vtree.specs.declared.modules.WordInit.{WordInit}
use Rattle.lx_vtree.specs.declared.modules.Initial.{Initial}
use Rattle.lx_vtree.specs.declared.modules.Assign.{Assign}
use Rattle.lx_vtree.specs.declared.modules.Always.{Always}
use Rattle.lx_vtree.specs.declared.modules.Parts.{Parts}
use Rattle.lx_vtree.specs.NodeLists.{expr_tree, stmt_tree}
use Rattle.lx_vtree.specs.Stmts.{plant_block, are_stmts_below}

abbrev pub literal_of : Literal → tree.VLiteral
literal_of l = record { bits = l.bits; signed = l.signed; value = l.value }

abbrev pub net_of : Net → tree.VNet
net_of n = record { signed = n.signed; bits = n.bits; name = n.name; init = option_map literal_of n.init }

abbrev pub port_of : Port → tree.VPort
port_of p = record { is_input = p.is_input; net = net_of p.net }

abbrev pub memory_of : Memory → tree.VMemory
memory_of m = record { bits = m.bits; name = m.name; depth = m.depth }

abbrev pub decl_of : Decl → tree.VDecl
decl_of (decl.Net n) = tree.NetDecl (net_of n)
decl_of (decl.Memory m) = tree.MemoryDecl (memory_of m)

unfoldable pub set_of : WordInit → tree.VSet
set_of s = record { name = s.name; index = s.index; value = literal_of s.value }

abbrev pub sets_of : Initial → List tree.VSet
sets_of i = map set_of i.words

abbrev pub assign_of : (ℕ → tree.VExpr) → Assign → tree.VAssign
assign_of f a = record { name = a.name; value = f a.value.place }

abbrev pub always_of : (ℕ → tree.VStmt) → Always → tree.VAlways
always_of g a = record { clock = a.clock; body = plant_block g a.body }

-- the tree of the parts
unfoldable pub module_of : Parts → tree.VModule
module_of p = record {
  ports = map port_of p.ports;
  decls = map decl_of p.decls;
  inits = map sets_of p.inits;
  assigns = map (assign_of (expr_tree p.nodes)) p.assigns;
  always = map (always_of (stmt_tree p.nodes)) p.always;
}

abbrev pub are_assigns_placed : ℕ → List Assign → Bool
are_assigns_placed n assigns = list_all (λ a. nat_lt a.value.place n) assigns

abbrev pub are_blocks_placed : ℕ → List Always → Bool
are_blocks_placed n blocks = list_all (λ a. are_stmts_below a.body n) blocks

-- every place that the parts name is one of their nodes
pub record ArePlaced (p : Parts) : Type 0 where
  pub assigns : IsTrue (are_assigns_placed (length p.nodes.exprs) p.assigns)
  pub always : IsTrue (are_blocks_placed (length p.nodes.stmts) p.always)

-- the same as a test
abbrev pub are_parts_placed : Parts → Bool
are_parts_placed p = are_assigns_placed (length p.nodes.exprs) p.assigns && are_blocks_placed (length p.nodes.stmts) p.always

-- the parts of a module that has a text
pub record HaveText (p : Parts) : Type 0 where
  pub placed : ArePlaced p
  pub fits : IsModule (module_of p)
