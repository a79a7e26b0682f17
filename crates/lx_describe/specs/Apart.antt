-- The signals whose bits are known once all is made, the `state` of an FSM and the `enable` of an event manager: no expression
-- and no target names one. No expression reads a memory by itself either: ports alone do.
use Rattle.std.specs.Prelude.{ℕ, zero, suc, Bool, true, false, ◌+◌, ◌^◌, nat_le, min, not, ◌&&◌, if◌then◌else◌, is_some, List, length, slice_get, Option, Some, None}
use Rattle.std.specs.List.{list_all}
use Rattle.lx_text.specs.declared.faults.Kind.TheVariants as kind
use Rattle.lx_fhdl.specs.declared.exprs.Expr.{Expr}
use Rattle.lx_fhdl.specs.declared.exprs.Expr.TheVariants as expr
use Rattle.lx_fhdl.specs.declared.stmts.Target.{Target}
use Rattle.lx_fhdl.specs.declared.stmts.Target.TheVariants as target
use Rattle.lx_state.specs.declared.machine.Fsm.{Fsm}
use Rattle.lx_state.specs.declared.machine.Machine.{Machine}
use Rattle.lx_state.specs.declared.machine.ManagerState.{ManagerState}
use Rattle.lx_state.specs.declared.machine.Owner.{Owner}
use Rattle.lx_state.specs.Frames.{or_else}
use Rattle.lx_state.specs.Step.{Step, give, fault}
use Rattle.lx_paths.specs.Paths.{object_fsm, owner_manager}

-- ---- their bits

-- the least of so many numbers of bits, from b on, that hold n numbers
unfoldable pub bits_from : ℕ → ℕ → ℕ → ℕ
bits_from n zero b = b
bits_from n (suc more) b = if nat_le n (2 ^ b) then b else bits_from n more (b + 1)

-- the fewest bits, at least 1, that hold the numbers of n states; an FSM has at most 256
abbrev pub state_bits : ℕ → ℕ
state_bits n = bits_from n 8 1

-- ---- which they are

abbrev pub own_fsm : Option (List ℕ) → Option Fsm → Option Fsm
own_fsm None f = f
own_fsm (Some part) f = None

-- the FSM whose own signal it is
abbrev pub owner_fsm : Machine → Option Owner → Option Fsm
owner_fsm m None = None
owner_fsm m (Some x) = own_fsm x.part (object_fsm m (slice_get m.objects x.object))

abbrev pub fsm_bits : Option Fsm → Option ℕ
fsm_bits None = None
fsm_bits (Some f) = Some (state_bits (length f.names))

-- one for each source of an event manager, which has at most 32
abbrev pub manager_bits : Option ManagerState → Option ℕ
manager_bits None = None
manager_bits (Some x) = Some (min (length x.sources) 32)

-- the bits of such a signal
abbrev pub late_bits : Machine → Option Owner → Option ℕ
late_bits m owner = or_else (fsm_bits (owner_fsm m owner)) (manager_bits (owner_manager m owner))

abbrev pub is_late : Machine → ℕ → Bool
is_late m x = is_some (late_bits m (slice_get m.owners x))

-- ---- nothing names one, and ports alone read memories

abbrev pub expr_passes : Machine → Expr → Bool
expr_passes m (expr.Sig x) = not (is_late m x.0)
expr_passes m (expr.Fetch memory width at) = false
expr_passes m _ = true

abbrev pub target_passes : Machine → Target → Bool
target_passes m (target.Whole x) = not (is_late m x.0)
target_passes m (target.Part x low len) = not (is_late m x.0)
target_passes m _ = true

abbrev pub all_apart : Machine → Bool
all_apart m = list_all (expr_passes m) m.shaped.exprs && list_all (target_passes m) m.shaped.targets

-- another machine is not built; none is known
unfoldable pub late_apart : Step (Unit {0})
late_apart m = if all_apart m then give tt m else fault 0 kind.NotYetBuilt m
