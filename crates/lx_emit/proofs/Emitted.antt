-- The parts of the module of a design.
use Rattle.std.proofs.Common.{◌≡◌, List, [], ◌++◌, map, flat_map, sym, subst, ◌∙◌}
use Rattle.lx_vtext.specs.Fits.{IsModule}
use Rattle.lx_vtext.specs.Tree.{Name, VAssign, VAlways}
use Rattle.lx_vtree.specs.declared.modules.Port.{Port}
use Rattle.lx_vtree.specs.declared.modules.Decl.{Decl}
use Rattle.lx_vtree.specs.declared.modules.Initial.{Initial}
use Rattle.lx_vtree.specs.declared.modules.Assign.{Assign}
use Rattle.lx_vtree.specs.declared.modules.Always.{Always}
use Rattle.lx_vtree.specs.declared.modules.Parts.{Parts}
use Rattle.lx_vtree.specs.NodeLists.{NodeLists}
use Rattle.lx_vtree.specs.Modules.{sets_of, port_of, decl_of, HaveText, module_of}
use Rattle.lx_fhdl.specs.declared.design.Design.{Design}
use Rattle.lx_emission.specs.Emission.{ports_of, decls_of, node_assign, places_from, emitted}
use Rattle.lx_emission.specs.Signals.{signal_assign}
use Rattle.lx_emission.specs.Emits.{CanBeEmitted, Emits}
use Rattle.lx_emission.proofs.Law.{emits}
use Rattle.lx_nets.specs.Lines.{PutAssigns}
use Rattle.lx_blocks.specs.Lines.{PutAlways, all_signals_in}
use Rattle.lx_nets.specs.Memories.{inits_in}
use Rattle.lx_sheet.specs.Plans.{plan}
use Rattle.lx_blocks.specs.Writes.{all_writes_in}
use Rattle.lx_emit.specs.Whole.{ArePartsOf}
use Rattle.lx_nets.proofs.Assigned.{assigns_placed, assigns_stay}

abbrev assigns_of : Design → List Name → List VAssign
assigns_of d names = flat_map (node_assign d names) (places_from 0 d.exprs) ++ flat_map (signal_assign d names) (places_from 0 d.signals)

abbrev always_of : Design → List Name → List VAlways
always_of d names = all_signals_in (plan d names) ++ all_writes_in (plan d names)

-- the lists and nodes that were made one after the other
pub parts_are : (d : Design) (names : List Name) (n0 n1 n2 : NodeLists) (ports : List Port) (decls : List Decl) (inits : List Initial) (assigns : List Assign) (always : List Always)
    → map port_of ports ≡ ports_of d names → map decl_of decls ≡ decls_of d names → map sets_of inits ≡ inits_in (plan d names) → PutAssigns n0 n1 [] assigns (assigns_of d names) → PutAlways n1 n2 [] always (always_of d names)
    → ArePartsOf d names (record { nodes = n2; ports = ports; decls = decls; inits = inits; assigns = assigns; always = always })
unfolding module_of emitted
parts_are d names n0 n1 n2 ports decls inits assigns always p q n a b =
    let kept = assigns_stay n1 n2 assigns b.grows a.placed ∙ a.trees in
    record {
      placed = record { assigns = assigns_placed n1 n2 assigns b.grows a.placed; always = b.placed };
      tree = λ i. record { ports = p i; decls = q i; inits = n i; assigns = kept i; always = b.trees i };
    }

-- have a text
pub have_text : (d : Design) (names : List Name) (p : Parts) → CanBeEmitted d names → ArePartsOf d names p → HaveText p
have_text d names p can h = record { placed = h.placed; fits = subst IsModule (sym h.tree) (emits d names can).lawful }

-- and are a module that does what the design means
pub parts_emit : (d : Design) (names : List Name) (p : Parts) → CanBeEmitted d names → ArePartsOf d names p → Emits d names (module_of p)
parts_emit d names p can h = subst (Emits d names) (sym h.tree) (emits d names can)
