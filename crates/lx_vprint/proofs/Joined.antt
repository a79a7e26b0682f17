-- Texts that were appended one after the other.
use Rattle.std.proofs.Common.{◌≡◌, ℕ, List, ◌++◌, map, flat_map, codes, refl, append_assoc}
use Rattle.lx_vtext.specs.Printed.{ports_text, decl_text, set_text, initial_text, assign_text, always_text, module_text}
use Rattle.lx_vtree.specs.declared.modules.WordInit.{WordInit}
use Rattle.lx_vtree.specs.declared.modules.Initial.{Initial}
use Rattle.lx_vtree.specs.declared.modules.Port.{Port}
use Rattle.lx_vtree.specs.declared.modules.Decl.{Decl}
use Rattle.lx_vtree.specs.declared.modules.Assign.{Assign}
use Rattle.lx_vtree.specs.declared.modules.Always.{Always}
use Rattle.lx_vtree.specs.declared.modules.Parts.{Parts}
use Rattle.lx_vtree.specs.NodeLists.{expr_tree, stmt_tree}
use Rattle.lx_vtree.specs.Modules.{port_of, decl_of, set_of, sets_of, assign_of, always_of, module_of}

pub initial_joined : (out o1 o2 o3 : List ℕ) (words s : List WordInit) → s ≡ words → o1 ≡ out ++ codes "initial begin\n" → o2 ≡ o1 ++ flat_map set_text (map set_of s) → o3 ≡ o2 ++ codes "end\n" → o3 ≡ out ++ initial_text (map set_of words)
unfolding initial_text
initial_joined out o1 o2 o3 words s e a b d = rw (d, b, a, e) (simp append_assoc refl)

pub module_joined : (p : Parts) (out o1 o2 o3 o4 o5 o6 o7 o8 : List ℕ) (ports : List Port) (decls : List Decl) (inits : List Initial) (assigns : List Assign) (always : List Always)
    → ports ≡ p.ports → decls ≡ p.decls → inits ≡ p.inits → assigns ≡ p.assigns → always ≡ p.always
    → o1 ≡ out ++ codes "module top (\n" → o2 ≡ o1 ++ ports_text (map port_of ports) → o3 ≡ o2 ++ codes ");\n" → o4 ≡ o3 ++ flat_map decl_text (map decl_of decls) → o5 ≡ o4 ++ flat_map initial_text (map sets_of inits)
    → o6 ≡ o5 ++ flat_map assign_text (map (assign_of (expr_tree p.nodes)) assigns) → o7 ≡ o6 ++ flat_map always_text (map (always_of (stmt_tree p.nodes)) always) → o8 ≡ o7 ++ codes "endmodule\n" → o8 ≡ out ++ module_text (module_of p)
unfolding module_text module_of
module_joined p out o1 o2 o3 o4 o5 o6 o7 o8 ports decls inits assigns always f g h i j e1 e2 e3 e4 e5 e6 e7 e8 = rw (e8, e7, e6, e5, e4, e3, e2, e1, f, g, h, i, j) (simp append_assoc refl)
