-- Descriptions that keep all but one fact.
use Rattle.std.specs.Prelude.{ℕ, List, [], ◌∷◌, None, codes}
use Rattle.lx_fhdl.specs.Instance.{the_expr, the_signal, the_target}
use Rattle.lx_fhdl.specs.declared.exprs.SigId.{SigId}
use Rattle.lx_fhdl.specs.declared.stmts.Stmt.TheVariants as stmt
use Rattle.lx_description.specs.Instance.{and_description, and_design, fsm_of, fsm_stmts_of, modules_of, register_of, slave_of, system, system_design}
use Rattle.lx_description.specs.Keeping.{KeepsDescription}
use Rattle.lx_description.specs.declared.modules.ConstValue.TheVariants as value
use Rattle.lx_description.specs.declared.modules.Part.{Part}
use Rattle.lx_description.specs.declared.modules.Part.TheVariants as part
use Rattle.lx_description.specs.declared.description.Description.{Description}

-- the register with this lowest bit of its field, and these signals
abbrev pub with_register : ℕ → List SigId → Description
with_register offset signals = record system { modules = modules_of (part.Module 1 ∷ []) (register_of offset signals) }

-- the top with these parts
abbrev pub with_parts : List Part → Description
with_parts parts = record system { modules = modules_of parts (register_of 0 (the_signal 10 ∷ the_signal 11 ∷ the_signal 12 ∷ [])) }

-- None of them keeps what descriptions keep.
pub record AreRefused : Type 0 where
  -- bits 5 to 8 of a register of eight bits
  pub field_outside : KeepsDescription (with_register 5 (the_signal 10 ∷ the_signal 11 ∷ the_signal 12 ∷ [])) → ⊥
  -- `re` before `storage`
  pub parts_swapped : KeepsDescription (with_register 0 (the_signal 11 ∷ the_signal 10 ∷ the_signal 12 ∷ [])) → ⊥
  -- a submodule of two attributes, of none, and of itself
  pub module_twice : KeepsDescription (with_parts (part.Module 1 ∷ part.Module 1 ∷ [])) → ⊥
  pub module_nowhere : KeepsDescription (with_parts []) → ⊥
  pub module_in_itself : KeepsDescription (with_parts (part.Module 0 ∷ part.Module 1 ∷ [])) → ⊥
  -- `irq` of the event manager as `ongoing` of the FSM
  pub two_places : KeepsDescription (record system { fsms = fsm_of 17 ∷ [] }) → ⊥
  -- a NextValue of `sys_rst`
  pub driven_reset : KeepsDescription (record system { fsm_stmts = fsm_stmts_of 3 }) → ⊥
  -- a slave of another name than its region
  pub other_name : KeepsDescription (record system { slaves = slave_of (codes "rom") ∷ [] }) → ⊥
  -- a plain module with a slave
  pub slave_alone : KeepsDescription (record and_description { slaves = slave_of (codes "ram") ∷ [] }) → ⊥
  -- a constant with a quote in its text
  pub quoted : KeepsDescription (record system { constants = record { name = codes "limit"; value = value.Text (codes "a\"b"); line = 43 } ∷ [] }) → ⊥
  -- `sys` without a reset
  pub no_reset : KeepsDescription (record system { design = record system_design { domains = record { name = codes "sys"; reset = None } ∷ [] } }) → ⊥
  -- y := a & b without a line
  pub no_line : KeepsDescription (record and_description { design = record and_design { stmts = stmt.Assign (the_target 0) (the_expr 2) 0 ∷ [] } }) → ⊥
