-- The signals that the bus gives, each with its value and the signals that it reads in the same moment.
use Rattle.std.specs.Prelude.{ℕ, ℤ, pos, Bool, false, List, [], ◌∷◌, ◌++◌, Option, Some, None, ◌+◌, ◌^◌, nat_eq, ◌&&◌, ◌||◌, if◌then◌else◌, is_some}
use Rattle.lx_num.specs.Ints.{modulo, field_of}
use Rattle.lx_circuit.specs.Values.{flag}
use Rattle.lx_circuit.specs.Circuit.{domain_at}
use Rattle.lx_circuit.specs.Places.{Values, At}
use Rattle.lx_machine.specs.Map.{FieldSignal, Shown, Kind, Storage, Status, Raw, Register}
use Rattle.lx_machine.specs.System.{System, Source, SourceKind, Pulse, Level, Manager, Slave, Target, User, Null, Region}
use Rattle.lx_machine.specs.Bus.{Bus, Phase, Idle, Answering, is_on, bit_of, number_of, address, selected, target, word_at, answers, csr_writes, csr_reads, clears, status_of, pending_of}

-- a signal, its value under the state of the bus and the values of all places, and the signals that it reads
pub record Given : Type 0 where
  pub signal : ℕ
  pub value : Bus → Values → ℤ
  pub reads : List ℕ

abbrev pub gives : ℕ → (Bus → Values → ℤ) → List ℕ → Given
gives x f from = record { signal = x; value = f; reads = from }

-- ---- what an offer reads

abbrev pub reset_signal : Option ℕ → List ℕ
reset_signal None = []
reset_signal (Some x) = x ∷ []

abbrev pub offer_reads : System → List ℕ
offer_reads y = y.port.adr ∷ y.port.cyc ∷ y.port.stb ∷ y.port.we ∷ reset_signal (domain_at y.circuit y.sys).reset

-- ---- registers

abbrev pub gives_field : ℕ → FieldSignal → Given
gives_field k f = gives f.signal (λ b v. pos (field_of (pos (b.storage k)) f.low f.len)) []

abbrev pub gives_fields : ℕ → List FieldSignal → List Given
gives_fields k [] = []
gives_fields k (f ∷ fs) = gives_field k f ∷ gives_fields k fs

abbrev pub gives_shown : ℕ → Option Shown → List Given
gives_shown k None = []
gives_shown k (Some s) =
    gives s.storage (λ b v. pos (b.storage k)) [] ∷ gives s.re (λ b v. flag (b.strobe k)) [] ∷ gives_fields k s.fields

-- a write, or a read, of a register is offered
abbrev pub is_written : System → Bus → Values → Register → Bool
is_written y b v r = csr_writes y b v && is_some (word_at r.words (address y v))

abbrev pub is_read : System → Bus → Values → Register → Bool
is_read y b v r = csr_reads y b v && is_some (word_at r.words (address y v))

abbrev pub gives_kind : System → ℕ → Register → Kind → List Given
gives_kind y k r (Storage s) = gives_shown k s.shown
gives_kind y k r (Status status we) = gives we (λ b v. flag (b.strobe k)) [] ∷ []
gives_kind y k r (Raw to re we w) =
    gives to (λ b v. pos (modulo (v (At y.port.dat_w)) (2 ^ r.size))) (y.port.dat_w ∷ [])
    ∷ gives re (λ b v. flag (is_written y b v r)) (offer_reads y)
    ∷ gives we (λ b v. flag (is_read y b v r)) (offer_reads y)
    ∷ []
gives_kind y k r _ = []

abbrev pub gives_registers : System → ℕ → List Register → List Given
gives_registers y k [] = []
gives_registers y k (r ∷ rs) = gives_kind y k r r.kind ++ gives_registers y (k + 1) rs

-- ---- sources and managers

abbrev pub status_reads : Source → SourceKind → List ℕ
status_reads s Pulse = []
status_reads s _ = s.trigger ∷ []

abbrev pub pending_reads : Source → SourceKind → List ℕ
pending_reads s Level = s.trigger ∷ []
pending_reads s _ = []

-- source i of manager m
abbrev pub gives_source : System → ℕ → ℕ → Source → List Given
gives_source y m i s =
    gives s.status (λ b v. flag (status_of s.kind (is_on v s.trigger))) (status_reads s s.kind)
    ∷ gives s.pending (λ b v. flag (pending_of s.kind (is_on v s.trigger) (b.pend m i))) (pending_reads s s.kind)
    ∷ gives s.clear (λ b v. flag (clears y b v m i)) (y.port.dat_w ∷ offer_reads y)
    ∷ []

abbrev pub gives_sources : System → ℕ → ℕ → List Source → List Given
gives_sources y m i [] = []
gives_sources y m i (s ∷ ss) = gives_source y m i s ++ gives_sources y m (i + 1) ss

-- some source from number i on is pending and enabled
abbrev pub interrupts : Values → ℕ → ℕ → List Source → Bool
interrupts v enable i [] = false
interrupts v enable i (s ∷ ss) = (is_on v s.pending && bit_of (pos enable) i) || interrupts v enable (i + 1) ss

abbrev pub pendings : List Source → List ℕ
pendings [] = []
pendings (s ∷ ss) = s.pending ∷ pendings ss

abbrev pub gives_manager : System → ℕ → Manager → List Given
gives_manager y m g =
    gives g.irq (λ b v. flag (interrupts v (b.storage g.enable) 0 g.sources)) (pendings g.sources) ∷ gives_sources y m 0 g.sources

abbrev pub gives_managers : System → ℕ → List Manager → List Given
gives_managers y m [] = []
gives_managers y m (g ∷ gs) = gives_manager y m g ++ gives_managers y (m + 1) gs

-- ---- slaves

-- a slave sees the bus as it is, but `cyc` only where it is selected
abbrev pub gives_target : System → ℕ → Target → List Given
gives_target y t (User s) =
    gives s.adr (λ b v. v (At y.port.adr)) (y.port.adr ∷ [])
    ∷ gives s.dat_w (λ b v. v (At y.port.dat_w)) (y.port.dat_w ∷ [])
    ∷ gives s.sel (λ b v. v (At y.port.sel)) (y.port.sel ∷ [])
    ∷ gives s.cyc (λ b v. if nat_eq (selected y v) t then v (At y.port.cyc) else pos 0) (y.port.adr ∷ y.port.cyc ∷ [])
    ∷ gives s.stb (λ b v. v (At y.port.stb)) (y.port.stb ∷ [])
    ∷ gives s.we (λ b v. v (At y.port.we)) (y.port.we ∷ [])
    ∷ []
gives_target y t _ = []

abbrev pub gives_targets : System → ℕ → List Region → List Given
gives_targets y t [] = []
gives_targets y t (r ∷ rs) = gives_target y t r.target ++ gives_targets y (t + 1) rs

-- ---- the port's outputs

abbrev pub answered : Phase → ℕ → ℕ
answered Idle t = 0
answered (Answering t' w) t = if nat_eq t' t then w else 0

-- `ack`, `err` and `dat_r` while the target at place t is selected: they look at neither `cyc` nor `stb`
abbrev pub ack_of : Phase → Values → ℕ → Target → ℤ
ack_of p v t (User s) = v (At s.ack)
ack_of p v t Null = pos 0
ack_of p v t _ = flag (answers p t)

abbrev pub err_of : Phase → Values → ℕ → Target → ℤ
err_of p v t (User s) = v (At s.err)
err_of p v t Null = flag (answers p t)
err_of p v t _ = pos 0

abbrev pub dat_r_of : Phase → Values → ℕ → Target → ℤ
dat_r_of p v t (User s) = v (At s.dat_r)
dat_r_of p v t _ = pos (answered p t)

-- a signal of each user slave
abbrev pub of_user : (Slave → ℕ) → Target → List ℕ
of_user f (User s) = f s ∷ []
of_user f _ = []

abbrev pub of_users : (Slave → ℕ) → List Region → List ℕ
of_users f [] = []
of_users f (r ∷ rs) = of_user f r.target ++ of_users f rs

abbrev pub is_number : Option ℕ → ℕ → Bool
is_number None n = false
is_number (Some k) n = nat_eq k n

-- bit n of the port `irq`: the `irq` of the manager whose interrupt has the number n
abbrev pub line : Values → List Manager → ℕ → Bool
line v [] n = false
line v (g ∷ gs) n = if is_number g.interrupt n then is_on v g.irq else line v gs n

abbrev pub lines_read : List Manager → List ℕ
lines_read [] = []
lines_read (g ∷ gs) = g.irq ∷ lines_read gs

abbrev pub gives_port : System → List Given
gives_port y =
    gives y.port.ack (λ b v. ack_of b.phase v (selected y v) (target y v)) (y.port.adr ∷ of_users (λ s. s.ack) y.regions)
    ∷ gives y.port.err (λ b v. err_of b.phase v (selected y v) (target y v)) (y.port.adr ∷ of_users (λ s. s.err) y.regions)
    ∷ gives y.port.dat_r (λ b v. dat_r_of b.phase v (selected y v) (target y v)) (y.port.adr ∷ of_users (λ s. s.dat_r) y.regions)
    ∷ gives y.port.irq (λ b v. pos (number_of (λ n. line v y.managers n) 32)) (lines_read y.managers)
    ∷ []

-- ---- all of them

abbrev pub all_given : System → List Given
all_given y = gives_port y ++ (gives_registers y 0 y.registers ++ (gives_managers y 0 y.managers ++ gives_targets y 0 y.regions))

-- the first of these for a signal
abbrev pub given_at : ℕ → List Given → Option Given
given_at x [] = None
given_at x (g ∷ gs) = if nat_eq g.signal x then Some g else given_at x gs
