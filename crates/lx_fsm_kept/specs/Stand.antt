-- A test of what a description keeps of its FSMs.
use Rattle.std.specs.Prelude.{◌≡◌, ℕ, Bool, true, false, ◌&&◌, ◌||◌, nat_eq, not, flat_map, length, Option, Some, None}
use Rattle.std.specs.List.{list_all, list_any}
use Rattle.lx_circuit.specs.Circuit.{is_among}
use Rattle.lx_fhdl.specs.declared.design.Domain.{Domain}
use Rattle.lx_fhdl.specs.declared.exprs.SigId.{SigId}
use Rattle.lx_fhdl.specs.declared.stmts.Target.{Target}
use Rattle.lx_fhdl.specs.declared.stmts.Target.TheVariants as target
use Rattle.lx_description.specs.Keeping.{FsmsKeep, fsms_drive, have_clock}
use Rattle.lx_description.specs.Kept.{fsm_stmt_stands, is_fsm}
use Rattle.lx_description.specs.Wires.{fsm_signals, resets}
use Rattle.lx_description.specs.declared.description.Description.{Description}
use Rattle.lx_description.specs.declared.fsms.Asked.{Asked}
use Rattle.lx_description.specs.declared.fsms.FsmDecl.{FsmDecl}

-- ---- resets

-- a target doesn't name a signal itself
abbrev pub passes : ℕ → Target → Bool
passes x (target.Whole y) = not (nat_eq y.0 x)
passes x (target.Part y low len) = not (nat_eq y.0 x)
passes x _ = true

-- an FSM has a signal
abbrev pub has_signal : ℕ → FsmDecl → Bool
has_signal x f = nat_eq f.state.0 x || list_any (λ (a : Asked). nat_eq a.signal.0 x) f.asked

-- no target names the signal, and it is none of the FSMs'
abbrev pub is_left : Description → ℕ → Bool
is_left d x = list_all (passes x) d.design.targets && not (list_any (has_signal x) d.fsms)

abbrev pub some_left : Description → Option SigId → Bool
some_left d None = true
some_left d (Some x) = is_left d x.0

-- ---- the whole

-- Each statement names what is there, each FSM is one, and the resets of the clock domains are left alone. (That each
-- statement stands behind those inside it is kept by the arena.)
abbrev pub fsms_stand : Description → Bool
fsms_stand d =
    list_all (fsm_stmt_stands (length d.design.exprs) (length d.design.targets)) d.fsm_stmts
    && (list_all (is_fsm d) d.fsms && (have_clock d && list_all (λ (x : Domain). some_left d x.reset) d.design.domains))

-- What it says where it is true.
pub record FsmsStand (d : Description) : Type 0 where
  pub keep : FsmsKeep d
  -- no statement of an FSM drives the reset of a clock domain, and no FSM has one
  pub driven : (x : ℕ) → is_among x (resets d.design.domains) ≡ true → fsms_drive d x ≡ false
  pub apart : (x : ℕ) → is_among x (resets d.design.domains) ≡ true → is_among x (flat_map fsm_signals d.fsms) ≡ false
