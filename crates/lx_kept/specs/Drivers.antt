-- Which statements of a design assign one signal, and whether the signal is an input.
use Rattle.std.specs.Prelude.{ℕ, Bool, false, List, [], ◌∷◌, ◌&&◌, ◌||◌, not, nat_eq, map, option_map, slice_index_or}
use Rattle.lx_circuit.specs.Circuit.{is_among, is_named}
use Rattle.lx_circuit.specs.Statements.{drives, is_target}
use Rattle.lx_fhdl.specs.Below.{StmtId, TargetId}
use Rattle.lx_fhdl.specs.Designs as design
use Rattle.lx_fhdl.specs.Designs.{signal_number}
use Rattle.lx_fhdl.specs.declared.design.Design.{Design}
use Rattle.lx_fhdl.specs.declared.design.Domain.{Domain}
use Rattle.lx_fhdl.specs.declared.design.Port.{Port}
use Rattle.lx_fhdl.specs.declared.design.SyncPart.{SyncPart}
use Rattle.lx_fhdl.specs.declared.stmts.Arm.{Arm}
use Rattle.lx_fhdl.specs.declared.stmts.Branch.{Branch}
use Rattle.lx_fhdl.specs.declared.stmts.Stmt.{Stmt}
use Rattle.lx_fhdl.specs.declared.stmts.Stmt.TheVariants as stmt
use Rattle.lx_fhdl.specs.declared.stmts.Target.{Target}
use Rattle.lx_fhdl.specs.declared.stmts.Target.TheVariants as target
use Rattle.lx_kept.specs.Tables.{IsTable}

abbrev pub mark_at : List Bool → ℕ → Bool
mark_at marks k = slice_index_or marks k false

-- ---- targets

-- some of these targets is marked
abbrev pub some_target_marked : List Bool → List TargetId → Bool
some_target_marked marks [] = false
some_target_marked marks (i ∷ is) = mark_at marks i.place || some_target_marked marks is

-- a target has the signal x, from its parts
abbrev pub target_has : ℕ → List Bool → Target → Bool
target_has x marks (target.Whole y) = nat_eq y.0 x
target_has x marks (target.Part y low len) = nat_eq y.0 x
target_has x marks (target.Cat parts) = some_target_marked marks parts
target_has x marks (target.Pick items index) = some_target_marked marks items

-- ---- statements

abbrev pub some_marked : List Bool → List StmtId → Bool
some_marked marks [] = false
some_marked marks (i ∷ is) = mark_at marks i.place || some_marked marks is

abbrev pub some_branch_marked : List Bool → List Branch → Bool
some_branch_marked marks [] = false
some_branch_marked marks (b ∷ bs) = some_marked marks b.body || some_branch_marked marks bs

abbrev pub some_arm_marked : List Bool → List Arm → Bool
some_arm_marked marks [] = false
some_arm_marked marks (a ∷ as_) = some_marked marks a.body || some_arm_marked marks as_

-- a statement assigns the signal, from its target and the statements inside
abbrev pub stmt_assigns : (targets stmts : List Bool) → Stmt → Bool
stmt_assigns targets stmts (stmt.Assign target value line) = mark_at targets target.place
stmt_assigns targets stmts (stmt.If branches rest line) = some_branch_marked stmts branches || some_marked stmts rest
stmt_assigns targets stmts (stmt.Case on arms rest line) = some_arm_marked stmts arms || some_marked stmts rest

-- ---- tables

-- of the first n targets, those that have the signal x
abbrev pub AreTargetMarks : Design → ℕ → ℕ → List Bool → Type 0
AreTargetMarks d x n marks = IsTable false (λ k. is_target x (design.target d k)) n marks

-- of the first n statements, those that assign it
abbrev pub AreMarks : Design → ℕ → ℕ → List Bool → Type 0
AreMarks d x n marks = IsTable false (λ k. drives x (design.stmt d k)) n marks

-- ---- the role

-- some part of a domain assigns the signal
abbrev pub some_part_marked : List Bool → List SyncPart → Bool
some_part_marked marks [] = false
some_part_marked marks (p ∷ ps) = some_marked marks p.stmts || some_part_marked marks ps

-- some port of a memory reads into it
abbrev pub is_read : ℕ → List Port → Bool
is_read x [] = false
is_read x (q ∷ qs) = is_named x (option_map signal_number q.dat_r) || is_read x qs

-- it is the reset of some domain
abbrev pub is_reset_of : ℕ → List Domain → Bool
is_reset_of x [] = false
is_reset_of x (a ∷ as_) = is_named x (option_map signal_number a.reset) || is_reset_of x as_

-- it is a port or a reset, and is not given
abbrev pub is_from_outside : Design → ℕ → Bool → Bool
is_from_outside d x given = not given && (is_among x (map signal_number d.ios) || is_reset_of x d.domains)

-- no statement assigns it, and no port reads into it
abbrev pub is_undriven : Design → ℕ → List Bool → Bool
is_undriven d x marks = not (some_marked marks d.comb) && (not (some_part_marked marks d.sync) && not (is_read x d.ports))
