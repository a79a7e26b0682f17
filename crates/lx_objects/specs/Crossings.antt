-- `MultiReg`: a value that goes into a clock domain through registers, one behind the other.
use Rattle.std.specs.Prelude.{ℕ, zero, suc, pos, true, false, List, [], ◌∷◌, ◌++◌, length, codes, Some, None}
use Rattle.std.specs.Fmt.{decimal}
use Rattle.lx_text.specs.declared.faults.LimitKind.TheVariants as limit
use Rattle.lx_num.specs.declared.Shape.{Shape}
use Rattle.lx_fhdl.specs.Below.{ExprId}
use Rattle.lx_fhdl.specs.declared.design.Signal.{Signal}
use Rattle.lx_fhdl.specs.declared.exprs.SigId.{SigId}
use Rattle.lx_fhdl.specs.declared.exprs.Expr.TheVariants as expr
use Rattle.lx_fhdl.specs.declared.stmts.Target.TheVariants as target
use Rattle.lx_state.specs.declared.machine.Form.TheVariants as form
use Rattle.lx_state.specs.declared.machine.What.TheVariants as what
use Rattle.lx_state.specs.declared.values.Value.{Value}
use Rattle.lx_state.specs.declared.values.Value.TheVariants as value
use Rattle.lx_state.specs.Naming.{object_made}
use Rattle.lx_state.specs.Step.{Step, give, reads, ◌>>=◌}
use Rattle.lx_state.specs.Work.{within}
use Rattle.lx_objects.specs.Domains.{mention}
use Rattle.lx_objects.specs.Exprs.{put_expr, put_target}
use Rattle.lx_objects.specs.Modules.{sync_items}
use Rattle.lx_objects.specs.Signals.{new_signal}
use Rattle.lx_objects.specs.Statements.{keep_made}
use Rattle.lx_objects.specs.declared.crossings.Chain.{Chain}

-- an assignment to a whole signal that counts no node, since the text has none there
unfoldable pub pass_on : ℕ → SigId → ExprId → Step ℕ
pass_on line to source = do
  aim ← put_target line (target.Whole to)
  place ← reads (λ m. length m.made)
  _ ← keep_made (record { form = form.Assign aim source; line = line; size = 1; depth = 1; in_state = false })
  give place

-- ---- registers

-- a register has the reset value 0 and takes no reset
abbrev pub register : ℕ → Shape → Signal
register line s = record { path = []; shape = s; reset = pos 0; reset_less = true; by_bus = false; line = line }

-- `regs<k>`
abbrev pub register_name : ℕ → List ℕ
register_name k = codes "regs" ++ decimal k

-- a further register, which takes the value at the end of the chain
unfoldable pub lengthen : ℕ → ℕ → Shape → Chain → Step Chain
lengthen line object s chain = do
  id ← new_signal line (register line s) object (Some (register_name (length chain.made)))
  place ← pass_on line id chain.end
  end ← put_expr line (expr.Sig id)
  give (record { end = end; made = chain.made ++ place ∷ [] })

-- so many further ones
unfoldable pub lengthen_by : ℕ → ℕ → Shape → ℕ → Chain → Step Chain
lengthen_by line object s zero chain = give chain
lengthen_by line object s (suc n) chain = do
  longer ← lengthen line object s chain
  lengthen_by line object s n longer

-- ---- the whole

-- the statements of the registers stand in the domain, and that of the signal behind them in comb
unfoldable pub keep_crossing : ℕ → List ℕ → ℕ → Step (Unit {0})
keep_crossing domain registers last m = give tt (record m { specials = record m.specials { comb = m.specials.comb ++ last ∷ []; sync = m.specials.sync ++ sync_items domain registers } })

-- no more registers than a design may have signals
unfoldable pub registers_within : ℕ → ℕ → Step ℕ
registers_within line count = do
  _ ← within line limit.Signals count
  give count

-- A value of this shape goes into a domain through so many registers, and then to the signal.
unfoldable pub multireg_made : ℕ → ExprId → Shape → SigId → List ℕ → ℕ → Step Value
multireg_made line source s to name count = do
  registers ← registers_within line count
  object ← object_made what.MultiReg line None
  chain ← lengthen_by line object s registers (record { end = source; made = [] })
  domain ← mention line name
  last ← pass_on line to chain.end
  _ ← keep_crossing domain chain.made last
  give (value.Object object)
