-- The test of places, and what it says.
use Rattle.std.proofs.Common.{◌≡◌, ◌↔◌, Bool, true, [], length, IsTrue, refl, sym, ◌∙◌}
use Rattle.std.proofs.lemmas.Bool.{and_from, and_parts}
use Rattle.lx_vtree.specs.declared.modules.Parts.{Parts}
use Rattle.lx_vtree.specs.Modules.{module_of, HaveText, ArePlaced, are_assigns_placed, are_blocks_placed, are_parts_placed}

from_test : (p : Parts) → are_parts_placed p ≡ true → ArePlaced p
from_test p h = let x = and_parts _ _ h in record { assigns = x.0; always = x.1 }

to_test : (p : Parts) → ArePlaced p → are_parts_placed p ≡ true
to_test p h = and_from (are_assigns_placed (length p.nodes.exprs) p.assigns) (are_blocks_placed (length p.nodes.stmts) p.always) h.assigns h.always

-- the test says it
pub exact_test : (p : Parts) (b : Bool) → b ≡ are_parts_placed p → IsTrue b ↔ ArePlaced p
exact_test p b e = (λ t. from_test p (sym e ∙ t), λ h. e ∙ to_test p h)

-- the module without parts has a text
pub bare_has_text : (p : Parts) → p.ports ≡ [] → p.decls ≡ [] → p.inits ≡ [] → p.assigns ≡ [] → p.always ≡ [] → HaveText p
unfolding module_of
bare_has_text p o d i a w = record {
  placed = record { assigns = rw a refl; always = rw w refl };
  fits = record { ports = rw o tt; decls = rw d tt; inits = rw i tt; assigns = rw a tt; always = rw w tt };
}
