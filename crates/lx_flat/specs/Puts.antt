-- What is put for targets and statements of the design that is read, as flat statements with their lines.
use Rattle.std.specs.Prelude.{ℕ, Bool, true, List, [], None}
use Rattle.lx_circuit.specs.Statements as tree
use Rattle.lx_circuit.specs.Terms.{Term}
use Rattle.lx_fhdl.specs.Below.{StmtId, TargetId}
use Rattle.lx_fhdl.specs.Designs as design
use Rattle.lx_fhdl.specs.Designs.{shapes, term}
use Rattle.lx_fhdl.specs.Stmts.{arms_at, branches_at, targets_at}
use Rattle.lx_fhdl.specs.declared.design.Design.{Design}
use Rattle.lx_fhdl.specs.declared.stmts.Arm.{Arm}
use Rattle.lx_fhdl.specs.declared.stmts.Branch.{Branch}
use Rattle.lx_lowering.specs.Flat.{assigns, first_branch, flat, flat_arms, flat_block, flat_chain, flat_if, items_assigns, otherwise, parts_assigns, some_when}
use Rattle.lx_lowering.specs.Terms.{lower_term}
use Rattle.lx_flat.specs.Keys.{arms_block, none_after}
use Rattle.lx_plain.specs.Lines.{Assigned, arm_lines, both_lines, branch_lines, expr_shape, has_branch, has_key, inside, lines, lines_at, lines_in, picked, target_lines, targets_lines}
use Rattle.lx_plain.specs.Owned.{Put}
use Rattle.lx_plain.specs.Sources.{Read}
use Rattle.lx_plain.specs.declared.owned.Own.{Own}

-- the flat statements of some statements
abbrev pub flat_of : Design → List StmtId → tree.Block
flat_of d ids = flat_block (shapes d) (design.block d ids)

-- and their lines
abbrev pub lines_for : Design → List StmtId → ℕ → List Assigned
lines_for d ids x = lines d x ids

-- the lines of statements, branches and arms, under a condition from a line where there is one
abbrev pub lines_inside : Design → Bool → ℕ → List StmtId → ℕ → List Assigned
lines_inside d some line ids x = lines_in (inside some line (lines_at d x)) ids

abbrev pub branches_inside : Design → Bool → ℕ → List Branch → ℕ → List Assigned
branches_inside d some line branches x = branch_lines (inside some line (lines_at d x)) branches

abbrev pub arms_inside : Design → Bool → ℕ → List Arm → ℕ → List Assigned
arms_inside d some line arms x = arm_lines (inside some line (lines_at d x)) arms

-- those of the items of an Array, each under a condition where there are several
abbrev pub items_lines : tree.Targets → ℕ → ℕ → List Assigned
items_lines items line x = picked items line (targets_lines items line x)

-- the trees of targets, branches and arms of the design
abbrev pub targets_of : Design → List TargetId → tree.Targets
targets_of d ids = targets_at (design.target d) ids

abbrev pub branches_of : Design → List Branch → tree.Branches
branches_of d branches = branches_at (design.term d) (design.stmt d) branches

-- an expression of the design, lowered
abbrev pub lowered_at : Design → ℕ → Term
lowered_at d k = lower_term (shapes d) (design.term d k)

-- ---- targets: the value at v of the draft is assigned, from a line

abbrev pub PutTarget : Read → Design → Design → List Own → List Own → (k v line : ℕ) → Type 0
PutTarget r old new a b k v line = Put old new a b (assigns (shapes r.design) (design.target r.design k) (term old v)) (target_lines (design.target r.design k) line)

-- to parts side by side
abbrev pub PutParts : Read → Design → Design → List Own → List Own → List TargetId → (v line : ℕ) → Type 0
PutParts r old new a b ids v line = Put old new a b (parts_assigns (shapes r.design) (targets_of r.design ids) (term old v)) (targets_lines (targets_of r.design ids) line)

-- to the item at an index, a tree
abbrev pub PutItems : Read → Design → Design → List Own → List Own → List TargetId → Term → (v line : ℕ) → Type 0
PutItems r old new a b ids i v line = Put old new a b (items_assigns (shapes r.design) 0 (targets_of r.design ids) i (term old v)) (items_lines (targets_of r.design ids) line)

-- ---- statements of the design

abbrev pub PutStmt : Read → Design → Design → List Own → List Own → ℕ → Type 0
PutStmt r old new a b k = Put old new a b (flat (shapes r.design) (design.stmt r.design k)) (λ x. lines_at r.design x k)

abbrev pub PutStmts : Read → Design → Design → List Own → List Own → List StmtId → Type 0
PutStmts r old new a b ids = Put old new a b (flat_of r.design ids) (lines_for r.design ids)

-- under the condition at c of the draft, from a line
abbrev pub PutWhen : Read → Design → Design → List Own → List Own → (c line : ℕ) → List StmtId → Type 0
PutWhen r old new a b c line ids = Put old new a b (some_when (term old c) (flat_of r.design ids)) (lines_inside r.design true line ids)

-- branches and the rest
abbrev pub PutIf : Read → Design → Design → List Own → List Own → (line : ℕ) → List Branch → List StmtId → Type 0
PutIf r old new a b line branches rest =
    Put old new a b (flat_if (shapes r.design) (branches_of r.design branches) (flat_of r.design rest))
    (both_lines (branches_inside r.design (has_branch branches) line branches) (lines_inside r.design (has_branch branches) line rest))

abbrev pub PutLone : Read → Design → Design → List Own → List Own → (line : ℕ) → Branch → List StmtId → Type 0
PutLone r old new a b line x rest =
    Put old new a b (first_branch (lowered_at r.design x.cond.place) (flat_of r.design x.body) tree.NoBranch tree.Done (flat_of r.design rest))
    (both_lines (lines_inside r.design true line x.body) (lines_inside r.design true line rest))

-- further branches, where the condition at none of the draft says that none was taken
abbrev pub PutChain : Read → Design → Design → List Own → List Own → (none line : ℕ) → List Branch → List StmtId → Type 0
PutChain r old new a b none line branches rest =
    Put old new a b (flat_chain (shapes r.design) (term old none) (branches_of r.design branches) (flat_of r.design rest))
    (both_lines (branches_inside r.design true line branches) (lines_inside r.design true line rest))

-- arms and the rest, by the expression at on of the design
abbrev pub PutCase : Read → Design → Design → List Own → List Own → (on line : ℕ) → List Arm → List StmtId → Type 0
PutCase r old new a b on line arms rest =
    Put old new a b (flat_arms (shapes r.design) (lowered_at r.design on) [] None (arms_at (design.stmt r.design) arms) (flat_of r.design rest))
    (both_lines (arms_inside r.design true line arms) (lines_inside r.design (has_key (expr_shape r.design on) arms) line rest))

-- the arms alone, and the rest alone, by the expression at on of the design
abbrev pub PutArms : Read → Design → Design → List Own → List Own → (on line : ℕ) → List Arm → Type 0
PutArms r old new a b on line arms = Put old new a b (arms_block (shapes r.design) (design.stmt r.design) (lowered_at r.design on) [] arms) (arms_inside r.design true line arms)

abbrev pub PutOtherwise : Read → Design → Design → List Own → List Own → (on line : ℕ) → List Arm → List StmtId → Type 0
PutOtherwise r old new a b on line arms rest =
    Put old new a b (otherwise (none_after (shapes r.design) (lowered_at r.design on) [] None arms) (flat_of r.design rest))
    (lines_inside r.design (has_key (expr_shape r.design on) arms) line rest)
