-- What can be assigned to, and assignments.
use Rattle.std.specs.Prelude.{ℕ, zero, suc, ◌-◌, max, nat_le, nat_lt, ◌&&◌, if◌then◌else◌, List, [], ◌∷◌, ◌++◌, slice_get, Option, Some}
use Rattle.lx_text.specs.declared.faults.LimitKind.TheVariants as limit
use Rattle.lx_text.specs.declared.faults.Kind.TheVariants as kind
use Rattle.lx_fhdl.specs.Below.{ExprId}
use Rattle.lx_fhdl.specs.declared.exprs.Expr.{Expr}
use Rattle.lx_fhdl.specs.declared.exprs.Expr.TheVariants as expr
use Rattle.lx_fhdl.specs.declared.stmts.Target.{Target}
use Rattle.lx_fhdl.specs.declared.stmts.Target.TheVariants as target
use Rattle.lx_state.specs.declared.values.Value.{Value}
use Rattle.lx_state.specs.Lists.{deeper}
use Rattle.lx_objects.specs.Statements.{assign_made, next_value_made, node_sum}
use Rattle.lx_state.specs.Step.{Step, give, fault, or_fault, ◌>>=◌}
use Rattle.lx_objects.specs.Exprs.{put_target}
use Rattle.lx_ops.specs.Exprs.{expr_of, expression}
use Rattle.lx_ops.specs.declared.targets.Aim.{Aim}
use Rattle.lx_ops.specs.declared.targets.Aims.{Aims}
use Rattle.lx_ops.specs.declared.targets.Reach.{Reach}
use Rattle.lx_ops.specs.declared.targets.Reach.TheVariants as reach

-- bits of a signal, which has fewer than 256
abbrev pub part_reach : Option Expr → ℕ → ℕ → Reach
part_reach (Some (expr.Sig x)) low high =
    if nat_le low high && nat_lt high 256 then reach.Plain (target.Part x low (high - low)) else reach.Nothing
part_reach _ low high = reach.Nothing

-- what an expression is as a target
abbrev pub reach_of : List Expr → Option Expr → Reach
reach_of xs (Some (expr.Sig x)) = reach.Plain (target.Whole x)
reach_of xs (Some (expr.Slice of low high)) = part_reach (slice_get xs of.place) low high
reach_of xs (Some (expr.Cat parts)) = reach.Cat parts
reach_of xs (Some (expr.Pick items index)) = reach.Pick items index
reach_of xs _ = reach.Nothing

unfoldable pub aim_made : ℕ → Target → (inside depth : ℕ) → Step Aim
aim_made line t inside depth = do
  id ← put_target line t
  give (record { target = id; inside = inside; depth = depth })

-- a further target beside others
unfoldable pub aim_added : ℕ → Aims → Aim → Step Aims
aim_added line so_far aim = do
  inside ← node_sum line so_far.inside aim.inside
  more ← node_sum line inside 1
  give (record { targets = so_far.targets ++ aim.target ∷ []; inside = more; depth = max so_far.depth aim.depth })

-- the target that an expression is, beside others
unfoldable pub aim_after : ℕ → (ExprId → Step Aim) → Aims → ExprId → Step Aims
aim_after line below so_far e = do
  aim ← below e
  aim_added line so_far aim

unfoldable pub aims_after : ℕ → (ExprId → Step Aim) → Aims → List ExprId → Step Aims
aims_after line below so_far [] = give so_far
aims_after line below so_far (e ∷ es) = do
  next ← aim_after line below so_far e
  aims_after line below next es

-- the targets that expressions are, a level deeper
unfoldable pub aims_of : ℕ → (ExprId → Step Aim) → List ExprId → Step Aims
aims_of line below es = do
  aims ← aims_after line below (record { targets = []; inside = 0; depth = 0 }) es
  depth ← deeper line aims.depth
  give (record { targets = aims.targets; inside = aims.inside; depth = depth })

abbrev pub cat_aimed : ℕ → Aims → Step Aim
cat_aimed line aims = aim_made line (target.Cat aims.targets) aims.inside aims.depth

abbrev pub pick_aimed : ℕ → ExprId → Aims → Step Aim
pick_aimed line index aims = aim_made line (target.Pick aims.targets index) aims.inside aims.depth

abbrev pub aim_reached : ℕ → (ExprId → Step Aim) → Reach → Step Aim
aim_reached line below reach.Nothing m = fault line kind.WrongKind m
aim_reached line below (reach.Plain t) m = aim_made line t 0 0 m
aim_reached line below (reach.Cat parts) m = (aims_of line below parts >>= cat_aimed line) m
aim_reached line below (reach.Pick items index) m = (aims_of line below items >>= pick_aimed line index) m

-- what stands at the expression's place, as a target
abbrev pub aim_there : ℕ → (ExprId → Step Aim) → ExprId → Step Aim
aim_there line below e m = aim_reached line below (reach_of m.shaped.exprs (slice_get m.shaped.exprs e.place)) m

-- the target that an expression is, within so many levels of Cats and Arrays
unfoldable pub aim_within : ℕ → ℕ → ExprId → Step Aim
aim_within zero line e m = fault line (kind.Limit limit.Depth) m
aim_within (suc levels) line e m = aim_there line (aim_within levels line) e m

-- the target that a value is
unfoldable pub target_of : ℕ → Value → Step Aim
target_of line v = do
  e ← or_fault (expression v) line kind.WrongKind
  aim_within 64 line e

-- `target.eq(v)`; it counts itself and each target inside its target
unfoldable pub assign : ℕ → Value → Value → Step Value
assign line t v = do
  aim ← target_of line t
  e ← expr_of line v
  assign_made line aim.target e aim.inside aim.depth

-- `NextValue(t, v)`, which counts as an assignment does
unfoldable pub assign_next : ℕ → Value → Value → Step Value
assign_next line t v = do
  aim ← target_of line t
  e ← expr_of line v
  next_value_made line aim.target e aim.inside aim.depth
