-- Descriptions that pass the test of parts, and such as don't, worked by hand.
use Rattle.std.specs.Prelude.{◌≡◌, true, false, [], ◌∷◌, codes}
use Rattle.lx_fhdl.specs.Instance.{the_expr, the_signal, the_target}
use Rattle.lx_fhdl.specs.declared.stmts.Stmt.TheVariants as stmt
use Rattle.lx_fhdl.specs.declared.stmts.Target.TheVariants as target
use Rattle.lx_description.specs.Instance.{and_description, and_design, fsm_of, slave_of, system}
use Rattle.lx_description.specs.Laws.{no_wishes}
use Rattle.lx_description.specs.Rows.{with_parts, with_register}
use Rattle.lx_description.specs.declared.modules.Part.TheVariants as part
use Rattle.lx_parts_kept.specs.Parts.{are_places, names_open, parts_keep}

-- What is answered for them.
pub record AreTested : Type 0 where
  pub circuit : parts_keep and_description ≡ true
  pub whole_system : parts_keep system ≡ true
  -- its registers, events and constants in a plain module
  pub plain : parts_keep (record system { soc = false; slaves = []; wishes = no_wishes }) ≡ true
  -- bits 5 to 8 of a register of eight bits
  pub field_outside : parts_keep (with_register 5 (the_signal 10 ∷ the_signal 11 ∷ the_signal 12 ∷ [])) ≡ false
  -- `re` before `storage`
  pub parts_swapped : parts_keep (with_register 0 (the_signal 11 ∷ the_signal 10 ∷ the_signal 12 ∷ [])) ≡ false
  -- a submodule of two attributes
  pub module_twice : parts_keep (with_parts (part.Module 1 ∷ part.Module 1 ∷ [])) ≡ false
  -- `irq` of the event manager as `ongoing` of the FSM
  pub two_places : parts_keep (record system { fsms = fsm_of 17 ∷ [] }) ≡ false
  -- a slave of another name than its region
  pub other_name : parts_keep (record system { slaves = slave_of (codes "rom") ∷ [] }) ≡ false
  -- y := a & b without a line
  pub no_line : parts_keep (record and_description { design = record and_design { stmts = stmt.Assign (the_target 0) (the_expr 2) 0 ∷ [] } }) ≡ false
  -- a port of the bus, the first signal behind them, and one of generated hardware
  pub bus_port : names_open system (target.Whole (the_signal 9)) ≡ false
  pub register : names_open system (target.Whole (the_signal 10)) ≡ true
  pub generated : names_open system (target.Part (the_signal 18) 0 1) ≡ false
  -- places
  pub apart : are_places 3 (2 ∷ 0 ∷ []) ≡ true
  pub twice : are_places 3 (2 ∷ 0 ∷ 2 ∷ []) ≡ false
  pub not_there : are_places 3 (2 ∷ 3 ∷ []) ≡ false
