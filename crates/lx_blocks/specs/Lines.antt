-- Always blocks that are added to those of a module.
use Rattle.std.specs.Prelude.{◌≡◌, List, ◌++◌, flat_map, length, map, IsTrue}
use Rattle.lx_vtext.specs.Tree.{VAlways}
use Rattle.lx_vtree.specs.declared.modules.Always.{Always}
use Rattle.lx_vtree.specs.NodeLists.{NodeLists, stmt_tree}
use Rattle.lx_vtree.specs.Modules.{always_of, are_blocks_placed}
use Rattle.lx_vtree.specs.Growth.{Grows}
use Rattle.lx_emission.specs.Emission.{places_from}
use Rattle.lx_emission.specs.Signals.{signal_always}
use Rattle.lx_sheet.specs.Plans.{Plan}

-- always blocks more, whose statements hang there
pub record PutAlways (old new : NodeLists) (before after : List Always) (ts : List VAlways) : Type 0 where
  pub grows : Grows old new
  pub placed : IsTrue (are_blocks_placed (length new.stmts) after)
  pub trees : map (always_of (stmt_tree new)) after ≡ map (always_of (stmt_tree old)) before ++ ts

-- the blocks that drive signals' nets
abbrev pub all_signals_in : Plan → List VAlways
all_signals_in p = flat_map (signal_always p.design p.names) (places_from 0 p.design.signals)
