-- The design of a description in which the statements of all its FSMs stand: what an FSM stands for is part of the design.
use Rattle.std.specs.Prelude.{◌≡◌, ℕ, zero, suc, ℤ, pos, Bool, true, false, List, [], ◌∷◌, ◌++◌, ◌+◌, Option, Some, None, Result, Ok, Err, flat_map, map, nat_eq, option_map, if◌then◌else◌}
use Rattle.lx_text.specs.declared.faults.Fault.{Fault}
use Rattle.lx_text.specs.declared.faults.Refusal.{Refusal}
use Rattle.lx_alloc.specs.Judged.{Refused}
use Rattle.lx_circuit.specs.Circuit.{is_among}
use Rattle.lx_circuit.specs.Statements as tree
use Rattle.lx_fhdl.specs.Below.{StmtId}
use Rattle.lx_fhdl.specs.Designs as design
use Rattle.lx_fhdl.specs.Designs.{block, shapes, stmts_of}
use Rattle.lx_fhdl.specs.Keeping.{Keeps}
use Rattle.lx_fhdl.specs.declared.design.Design.{Design}
use Rattle.lx_fhdl.specs.declared.design.Domain.{Domain}
use Rattle.lx_fhdl.specs.declared.design.Signal.{Signal}
use Rattle.lx_fhdl.specs.declared.design.SyncPart.{SyncPart}
use Rattle.lx_description.specs.Keeping.{FsmsKeep, fsms_drive, is_sys}
use Rattle.lx_description.specs.Wires.{fsm_signals, resets}
use Rattle.lx_description.specs.declared.description.Description.{Description}
use Rattle.lx_description.specs.declared.fsms.FsmDecl.{FsmDecl}
use Rattle.lx_description.specs.declared.fsms.FsmPlace.{FsmPlace}
use Rattle.lx_description.specs.declared.fsms.FsmStmt.{FsmStmt}
use Rattle.lx_reads.specs.Drivings.{Driving, drivings, drivings_at, drivings_of}
use Rattle.lx_lowering.specs.Flat.{append, one}
use Rattle.lx_fsm.specs.Driven.{comb_driven, sync_driven}
use Rattle.lx_fsm.specs.Decls.{fsm_of, names_of}
use Rattle.lx_fsm.specs.Lists.{comb_list, sync_list}
use Rattle.lx_fsm.specs.Machine.{faults, start_among}

-- the two lists of a declaration, over a design and the statements of all FSMs
abbrev pub comb_of : Design → List FsmStmt → FsmDecl → tree.Block
comb_of d xs f = comb_list (shapes d) (fsm_of d xs f)

abbrev pub sync_of : Design → List FsmStmt → FsmDecl → tree.Block
sync_of d xs f = sync_list (shapes d) (fsm_of d xs f)

-- ---- where FSMs stand

abbrev pub comb_place : FsmDecl → Option ℕ
comb_place f = option_map (λ (p : FsmPlace). p.comb) f.place

abbrev pub sync_place : FsmDecl → Option ℕ
sync_place f = option_map (λ (p : FsmPlace). p.sync) f.place

-- one that was never added stands nowhere
abbrev pub is_at : ℕ → Option ℕ → Bool
is_at k None = false
is_at k (Some p) = nat_eq p k

-- the lists of those at the place k, in order of creation
abbrev pub given_at : (FsmDecl → Option ℕ) → (FsmDecl → tree.Block) → ℕ → List FsmDecl → tree.Block
given_at place list k [] = tree.Done
given_at place list k (f ∷ fs) = if is_at k (place f) then append (list f) (given_at place list k fs) else given_at place list k fs

-- blocks from number k on, each after what stands at its number; and what stands after the last
abbrev pub woven : (ℕ → tree.Block) → ℕ → List tree.Block → tree.Block
woven at k [] = at k
woven at k (b ∷ bs) = append (at k) (append b (woven at (k + 1) bs))

-- ---- statements

abbrev pub comb_at : Description → ℕ → tree.Block
comb_at d k = given_at comb_place (comb_of d.design d.fsm_stmts) k d.fsms

-- In comb each list stands before the statement of its number.
abbrev pub flat_comb : Description → tree.Block
flat_comb d = woven (comb_at d) 0 (map (λ (i : StmtId). one (design.stmt d.design i.place)) d.design.comb)

-- the number of the domain `sys`
abbrev pub sys_number : List Domain → ℕ
sys_number [] = 0
sys_number (x ∷ xs) = if is_sys x then 0 else sys_number xs + 1

-- the lists of `sys`, and none of another domain
abbrev pub sync_at : Description → ℕ → ℕ → tree.Block
sync_at d m k = if nat_eq (sys_number d.design.domains) m then given_at sync_place (sync_of d.design d.fsm_stmts) k d.fsms else tree.Done

-- what a part is of the domain m
abbrev pub part_of : Design → ℕ → SyncPart → tree.Block
part_of d m p = if nat_eq p.domain m then block d p.stmts else tree.Done

-- In the domain m each list stands before the part of its number.
abbrev pub flat_sync : Description → ℕ → tree.Block
flat_sync d m = woven (sync_at d m) 0 (map (part_of d.design m) d.design.sync)

-- ---- what they drive

-- what the lists of those at the place k drive, in order of creation
abbrev pub given_driven : (FsmDecl → Option ℕ) → (FsmDecl → List Driving) → ℕ → List FsmDecl → List Driving
given_driven place list k [] = []
given_driven place list k (f ∷ fs) = if is_at k (place f) then list f ++ given_driven place list k fs else given_driven place list k fs

-- lists from number k on, each after what stands at its number; and what stands after the last
abbrev pub woven_driven : (ℕ → List Driving) → ℕ → List (List Driving) → List Driving
woven_driven at k [] = at k
woven_driven at k (b ∷ bs) = at k ++ (b ++ woven_driven at (k + 1) bs)

-- in comb, whose driver is 0
abbrev pub flat_comb_driven : Description → List Driving
flat_comb_driven d =
    woven_driven (λ k. given_driven comb_place (λ f. comb_driven d.design d.fsm_stmts f 0) k d.fsms) 0
    (map (λ (i : StmtId). drivings_at d.design 0 i.place) d.design.comb)

-- what the lists of `sys` drive, and none of another domain
abbrev pub sync_at_driven : Description → ℕ → ℕ → List Driving
sync_at_driven d m k = if nat_eq (sys_number d.design.domains) m then given_driven sync_place (λ f. sync_driven d.design d.fsm_stmts f (m + 1)) k d.fsms else []

-- what a part drives of the domain m
abbrev pub part_driven : Design → ℕ → SyncPart → List Driving
part_driven d m p = if nat_eq p.domain m then drivings_of d (m + 1) p.stmts else []

-- in the domain m, whose driver is m + 1
abbrev pub flat_sync_driven : Description → ℕ → List Driving
flat_sync_driven d m = woven_driven (sync_at_driven d m) 0 (map (part_driven d.design m) d.design.sync)

abbrev pub flat_domains_driven : Description → ℕ → List Domain → List Driving
flat_domains_driven d k [] = []
flat_domains_driven d k (x ∷ xs) = flat_sync_driven d k ++ flat_domains_driven d (k + 1) xs

-- All that it drives: in comb, then in the domains in their order.
abbrev pub flat_drivings : Description → List Driving
flat_drivings d = flat_comb_driven d ++ flat_domains_driven d 0 d.design.domains

-- ---- reset values

-- the signal of number x has this reset value
abbrev pub with_reset : ℤ → ℕ → List Signal → List Signal
with_reset z x [] = []
with_reset z zero (s ∷ ss) = record s { reset = z } ∷ ss
with_reset z (suc x) (s ∷ ss) = s ∷ with_reset z x ss

abbrev pub start_of : FsmDecl → ℕ
start_of f = start_among (names_of f.states) f.start

-- each signal `state` has the number of the reset state
abbrev pub with_starts : List FsmDecl → List Signal → List Signal
with_starts [] ss = ss
with_starts (f ∷ fs) ss = with_starts fs (with_reset (pos (start_of f)) f.state.0 ss)

-- ---- the design

-- The design with the statements of all FSMs, in which each starts in its reset state.
pub record IsFlat (d : Description) (e : Design) : Type 0 where
  pub signals : e.signals ≡ with_starts d.fsms d.design.signals
  pub comb : block e e.comb ≡ flat_comb d
  pub sync : (m : ℕ) → block e (stmts_of m e.sync) ≡ flat_sync d m
  -- what its statements drive, and on which lines
  pub drivings : drivings e ≡ flat_drivings d
  pub domains : e.domains ≡ d.design.domains
  pub memories : e.memories ≡ d.design.memories
  pub ports : e.ports ≡ d.design.ports
  pub ios : e.ios ≡ d.design.ios

-- what is needed: a design and FSMs as descriptions keep them; and no FSM drives the reset of a domain
pub record CanFlatten (d : Description) : Type 0 where
  pub design : Keeps d.design
  pub fsms : FsmsKeep d
  pub driven : (x : ℕ) → is_among x (resets d.design.domains) ≡ true → fsms_drive d x ≡ false
  pub apart : (x : ℕ) → is_among x (resets d.design.domains) ≡ true → is_among x (flat_map fsm_signals d.fsms) ≡ false

-- the faults of all FSMs, in order of creation
abbrev pub faults_of : Design → List FsmStmt → FsmDecl → List Fault
faults_of d xs f = faults (fsm_of d xs f) f.line

abbrev pub fsm_faults : Description → List Fault
fsm_faults d = flat_map (faults_of d.design d.fsm_stmts) d.fsms

-- the description without its FSMs: nothing but its design is another
pub record IsWithout (d e : Description) : Type 0 where
  pub none : fsm_faults d ≡ []
  pub flat : IsFlat d e.design
  pub keeps : Keeps e.design
  pub rest : e ≡ record d { design = e.design; fsm_stmts = []; fsms = [] }

-- All FSMs are sound, and stand in the design; or the first fault is told; or memory ran out.
abbrev pub Flattens : Description → Result Description Refusal → Type 0
Flattens d (Ok e) = IsWithout d e
Flattens d (Err r) = Refused (fsm_faults d) r
