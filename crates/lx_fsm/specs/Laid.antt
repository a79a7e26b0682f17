-- Lists of statements that are laid among others.
use Rattle.std.specs.Prelude.{◌≡◌, ℕ, pos, List, [], ◌∷◌, ◌++◌, ◌<◌, Option, Some, None, Result, Ok, Err, flat_map, length, slice_index_or, slice_set, ⊤}
use Rattle.lx_text.specs.declared.faults.Refusal.{Refusal}
use Rattle.lx_alloc.specs.Judged.{Refused}
use Rattle.lx_num.specs.Ints.{Fits}
use Rattle.lx_circuit.specs.Statements as tree
use Rattle.lx_fhdl.specs.Below.{StmtId}
use Rattle.lx_fhdl.specs.Designs.{shapes}
use Rattle.lx_fhdl.specs.Keeping.{EachOf}
use Rattle.lx_fhdl.specs.declared.design.Design.{Design}
use Rattle.lx_fhdl.specs.declared.design.SyncPart.{SyncPart}
use Rattle.lx_description.specs.declared.fsms.FsmDecl.{FsmDecl}
use Rattle.lx_description.specs.declared.fsms.FsmStmt.{FsmStmt}
use Rattle.lx_reads.specs.Drivings.{Driving, drivings_of}
use Rattle.lx_fsm.specs.Driven.{comb_driven, sync_driven}
use Rattle.lx_fsm.specs.Flattened.{comb_of, comb_place, faults_of, given_at, given_driven, start_of, sync_of, sync_place}
use Rattle.lx_fsm.specs.Lowers.{CanLower, Grows, StmtsAre}

-- the list of each number makes up the block of this number
abbrev pub AreGiven : Design → (ℕ → tree.Block) → List (List StmtId) → Type 0
AreGiven d at lists = (k : ℕ) → k < length lists → StmtsAre d (slice_index_or lists k []) (at k)

-- the list of each number drives this
abbrev pub AreDriven : Design → ℕ → (ℕ → List Driving) → List (List StmtId) → Type 0
AreDriven d driver at lists = (k : ℕ) → k < length lists → drivings_of d driver (slice_index_or lists k []) ≡ at k

-- no list has statements
abbrev pub AreNone : List (List StmtId) → Type 0
AreNone lists = EachOf (λ (ids : List StmtId). ids ≡ []) lists

-- statements are added to the list of a number, where there is one
abbrev pub put_where : Option ℕ → List StmtId → List (List StmtId) → List (List StmtId)
put_where None ids lists = lists
put_where (Some k) ids lists = slice_set lists k (slice_index_or lists k [] ++ ids)

abbrev pub IsWithin : ℕ → Option ℕ → Type 0
IsWithin n None = ⊤
IsWithin n (Some k) = k < n

-- an FSM that can be lowered, and stands at one of these numbers
pub record CanPut (d : Design) (xs : List FsmStmt) (n m : ℕ) (f : FsmDecl) : Type 0 where
  pub lower : CanLower d xs f
  pub comb : IsWithin n (comb_place f)
  pub sync : IsWithin m (sync_place f)

-- the lists of these FSMs stand at their numbers
pub record ArePut (old new : Design) (xs : List FsmStmt) (fs : List FsmDecl) (n m : ℕ) (in_comb in_sync : List (List StmtId)) : Type 0 where
  pub sound : flat_map (faults_of old xs) fs ≡ []
  pub grows : Grows old new
  pub comb_long : length in_comb ≡ n
  pub sync_long : length in_sync ≡ m
  pub comb : AreGiven new (λ k. given_at comb_place (comb_of old xs) k fs) in_comb
  pub sync : AreGiven new (λ k. given_at sync_place (sync_of old xs) k fs) in_sync
  pub comb_drives : (driver : ℕ) → AreDriven new driver (λ k. given_driven comb_place (λ f. comb_driven old xs f driver) k fs) in_comb
  pub sync_drives : (driver : ℕ) → AreDriven new driver (λ k. given_driven sync_place (λ f. sync_driven old xs f driver) k fs) in_sync

-- or the first fault of one is told
abbrev pub Puts : Design → Design → List FsmStmt → List FsmDecl → (n m : ℕ) → List (List StmtId) → List (List StmtId) → {T : Type 0} → Result T Refusal → Type 0
Puts old new xs fs n m comb sync (Ok _) = ArePut old new xs fs n m comb sync
Puts old new xs fs n m comb sync (Err e) = Refused (flat_map (faults_of old xs) fs) e

-- its reset state is a number that `state` can have
pub record HasStart (d : Design) (f : FsmDecl) : Type 0 where
  pub there : f.state.0 < length d.signals
  pub fits : Fits (shapes d f.state.0) (pos (start_of f))

-- ---- lists among statements

-- each list stands before the statement of its number
abbrev pub woven_ids : List (List StmtId) → List StmtId → List StmtId
woven_ids [] is = is
woven_ids (a ∷ as_) [] = a
woven_ids (a ∷ as_) (i ∷ is) = a ++ i ∷ woven_ids as_ is

-- a part of the domain m, where there are statements
abbrev pub some_part : ℕ → List StmtId → List SyncPart
some_part m [] = []
some_part m (i ∷ is) = record { domain = m; stmts = i ∷ is } ∷ []

abbrev pub woven_parts : ℕ → List (List StmtId) → List SyncPart → List SyncPart
woven_parts m [] ps = ps
woven_parts m (a ∷ as_) [] = some_part m a
woven_parts m (a ∷ as_) (p ∷ ps) = some_part m a ++ p ∷ woven_parts m as_ ps
