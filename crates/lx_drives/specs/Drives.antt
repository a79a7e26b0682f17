-- How blocks are filled, statement by statement.
use Rattle.std.specs.Prelude.{◌≡◌, ℕ, Bool, true, false, ◌+◌, ◌<◌, ◌≤◌, ◌&&◌, List, [], ◌∷◌, ◌++◌, Option, Some, None, drop, length, nat_eq, not, slice_index_or, if◌then◌else◌}
use Rattle.lx_circuit.specs.Circuit.{made}
use Rattle.lx_fhdl.specs.Below.{ExprId, StmtId}
use Rattle.lx_fhdl.specs.Designs.{circuit_of, stmts_of}
use Rattle.lx_fhdl.specs.declared.stmts.Branch.{Branch}
use Rattle.lx_fhdl.specs.declared.design.Domain.{Domain}
use Rattle.lx_fhdl.specs.declared.design.Design.{Design}
use Rattle.lx_emission.specs.Emission.{is_port}
use Rattle.lx_emission.specs.Signals.{own, single}
use Rattle.lx_sheet.specs.declared.drive.Drive.{Drive}
use Rattle.lx_sheet.specs.declared.drive.Drive.TheVariants.{Undriven}
use Rattle.lx_emission.specs.Signals as signals
use Rattle.lx_sheet.specs.Drives.{drive_of, IsThere}

-- ---- the signal of a statement

-- the first statement of a list, and then of the rest
abbrev pub first_of : List StmtId → List StmtId → Option StmtId
first_of (i ∷ is) rest = Some i
first_of [] [] = None
first_of [] (i ∷ is) = Some i

-- the first statement inside an `If` of at most one branch
abbrev pub first_inside : List Branch → List StmtId → Option StmtId
first_inside [] rest = first_of [] rest
first_inside (b ∷ bs) rest = first_of b.body rest

-- ---- how a net is driven

-- that of a signal
abbrev pub drive_at : List Drive → ℕ → signals.Drive
drive_at drives x = drive_of (slice_index_or drives x Undriven)

-- ---- blocks that are filled statement by statement

-- a statement more in a block of `always @(*)`, which is made where there is none
abbrev pub with_comb : StmtId → signals.Drive → signals.Drive
with_comb i (signals.CombBlock body) = signals.CombBlock (body ++ i ∷ [])
with_comb i _ = signals.CombBlock (i ∷ [])

-- the same in a block at the rise of a domain's clock
abbrev pub with_clocked : ℕ → StmtId → signals.Drive → signals.Drive
with_clocked k i (signals.Sync m body) = if nat_eq m k then signals.Sync m (body ++ i ∷ []) else signals.Sync k (i ∷ [])
with_clocked k i _ = signals.Sync k (i ∷ [])

-- in a block with this clock, where there is one
abbrev pub with_stmt : Option ℕ → StmtId → signals.Drive → signals.Drive
with_stmt None i r = with_comb i r
with_stmt (Some k) i r = with_clocked k i r

-- a block with this clock, where there is one
abbrev pub block_of : Option ℕ → List StmtId → signals.Drive
block_of None ids = signals.CombBlock ids
block_of (Some k) ids = signals.Sync k ids

-- statements drive by their block, and without statements the net is driven otherwise
abbrev pub block_or : Option ℕ → List StmtId → signals.Drive → signals.Drive
block_or clock [] other = other
block_or clock (i ∷ is) other = block_of clock (i ∷ is)

-- it is a block with this clock
abbrev pub is_block : Option ℕ → signals.Drive → Bool
is_block None (signals.CombBlock body) = true
is_block (Some k) (signals.Sync m body) = nat_eq m k
is_block _ _ = false

abbrev pub HaveNoBlock : Option ℕ → List Drive → Type 0
HaveNoBlock clock drives = (x : ℕ) → x < length drives → is_block clock (drive_at drives x) ≡ false

-- each signal is driven by the statements of the list that assign it, where there are some
pub record AreFilled (d : Design) (clock : Option ℕ) (ids : List StmtId) (old new : List Drive) : Type 0 where
  pub long : length new ≡ length old
  pub each : (x : ℕ) → x < length old → drive_at new x ≡ block_or clock (own d x ids) (drive_at old x)

-- ---- all signals

-- without statements
abbrev pub idle_drive : Bool → signals.Drive
idle_drive is_input = if is_input then signals.Input else signals.Undriven

-- a port that nothing else gives
abbrev pub is_input : Design → ℕ → Bool
is_input d x = is_port d x && not (made (circuit_of d) x).given

pub record AreIdle (d : Design) (n : ℕ) (drives : List Drive) : Type 0 where
  pub long : length drives ≡ n
  pub each : (x : ℕ) → x < n → drive_at drives x ≡ idle_drive (is_input d x)

-- the first of these domains with statements for the signal; k is the number of the first of them
abbrev pub clocked_or : Design → ℕ → ℕ → List Domain → signals.Drive → signals.Drive
clocked_or d x k [] other = other
clocked_or d x k (a ∷ as_) other = block_or (Some k) (own d x (stmts_of k d.sync)) (clocked_or d x (k + 1) as_ other)

-- by the domains from number k on
abbrev pub clocked_from : Design → ℕ → ℕ → signals.Drive
clocked_from d k x = clocked_or d x k (drop k d.domains) (idle_drive (is_input d x))

pub record AreClocked (d : Design) (k : ℕ) (drives : List Drive) : Type 0 where
  pub long : length drives ≡ length d.signals
  pub each : (x : ℕ) → x < length d.signals → drive_at drives x ≡ clocked_from d k x

-- the right side of a block that is one unconditional whole assignment
abbrev pub whole_of : Design → signals.Drive → Option ExprId
whole_of d (signals.CombBlock body) = single d body
whole_of d _ = None

abbrev pub equal_or : Option ExprId → signals.Drive → signals.Drive
equal_or None r = r
equal_or (Some value) r = signals.CombAssign value

abbrev pub closed : Design → signals.Drive → signals.Drive
closed d r = equal_or (whole_of d r) r

pub record AllAreThere (d : Design) (drives : List Drive) : Type 0 where
  pub each : (x : ℕ) → x < length drives → IsThere d (drive_at drives x)

pub record AreClosed (d : Design) (old new : List Drive) : Type 0 where
  pub long : length new ≡ length old
  pub each : (x : ℕ) → x < length old → drive_at new x ≡ closed d (drive_at old x)

-- the same for the first n
pub record AreClosedTo (d : Design) (n : ℕ) (old new : List Drive) : Type 0 where
  pub long : length new ≡ length old
  pub done : (x : ℕ) → x < n → drive_at new x ≡ closed d (drive_at old x)
  pub left : (x : ℕ) → n ≤ x → drive_at new x ≡ drive_at old x
