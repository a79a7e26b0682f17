-- Where texts end: open brackets, levels of statements, bits of literals, each at its bound and one past it.
use Rattle.std.specs.Prelude.{◌≡◌, ℕ, zero, suc, true, false, ◌-◌, ◌^◌, List, [], ◌∷◌, ◌++◌, Some, None, codes}
use Rattle.lx_vtext.specs.declared.operators.UnOp.TheVariants.{Invert}
use Rattle.lx_vtext.specs.Tree.{VExpr, Net, Literal, PartSelect, Word, Unary, Replication, ToSigned, When, NoElse, VBlock, EndBlock, InBlock, VAlways, VModule}
use Rattle.lx_vtext.specs.Fits.{IsAlways}
use Rattle.lx_vtext.specs.Printed.{module_text}
use Rattle.lx_vtext.specs.Reading.{module_of}

abbrev pub a : VExpr
a = Net (codes "a")

-- (~(~ .. e))
abbrev pub bracketed : ℕ → VExpr → VExpr
bracketed zero e = e
bracketed (suc n) e = Unary Invert (bracketed n e)

-- `assign y = ..;` alone
abbrev pub assigning : VExpr → VModule
assigning e = record { ports = []; decls = []; inits = []; assigns = record { name = codes "y"; value = e } ∷ []; always = [] }

-- the text is a module's, and is read as that module
abbrev pub IsRead : VModule → Type 0
IsRead m = module_of (module_text m) ≡ Some m

-- no module has these bytes
abbrev pub HasNoTree : List ℕ → Type 0
HasNoTree bytes = module_of bytes ≡ None

-- `assign y = ..;` with this right side
abbrev pub with_right_side : List ℕ → List ℕ
with_right_side text = codes "module top (\n);\nassign y = " ++ text ++ codes ";\nendmodule\n"

-- a statement at each of so many levels
abbrev pub nested : ℕ → VBlock
nested zero = EndBlock
nested (suc n) = InBlock (When a (nested n) NoElse) EndBlock

abbrev pub at_clock : VBlock → VAlways
at_clock b = record { clock = Some (codes "c"); body = b }

pub record BoundsAreWorked : Type 0 where
  pub brackets_32 : IsRead (assigning (bracketed 32 a))
  pub brackets_33 : HasNoTree (module_text (assigning (bracketed 33 a)))
  -- those of a select and of `$signed(` count as any, and a replication opens two
  pub select_last : IsRead (assigning (bracketed 31 (PartSelect (codes "a") 0 0)))
  pub select_past : HasNoTree (module_text (assigning (bracketed 32 (PartSelect (codes "a") 0 0))))
  pub signed_past : HasNoTree (module_text (assigning (bracketed 32 (ToSigned a))))
  pub word_past : HasNoTree (module_text (assigning (bracketed 32 (Word (codes "a") a))))
  pub replication_last : IsRead (assigning (bracketed 30 (Replication 2 a)))
  pub replication_past : HasNoTree (module_text (assigning (bracketed 31 (Replication 2 a))))
  pub levels_128 : IsAlways (at_clock (nested 128))
  pub levels_129 : IsAlways (at_clock (nested 129)) → ⊥
  pub one_bit : IsRead (assigning (Literal 1 false 1))
  pub all_bits : IsRead (assigning (Literal 128 true (2 ^ 128 - 1)))
  pub no_bits : HasNoTree (with_right_side (codes "0'd0"))
  pub bits_129 : HasNoTree (with_right_side (codes "129'd1"))
  pub value_past_its_bits : HasNoTree (with_right_side (codes "1'd2"))
  pub leading_zero : HasNoTree (with_right_side (codes "4'd01"))
