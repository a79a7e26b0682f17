-- The nodes of an arena mean what their trees mean.
use Rattle.std.specs.Prelude.{◌≡◌, ℕ, ℤ, true, List, Some, None, ◌<◌, length, slice_get}
use Rattle.lx_num.specs.declared.Shape.{Shape}
use Rattle.lx_num.specs.Ints.{Fits}
use Rattle.lx_arena.specs.Lower.{EachLower}
use Rattle.lx_circuit.specs.Shapes.{Shapes, shape_of, fault_of}
use Rattle.lx_circuit.specs.Places.{Values}
use Rattle.lx_circuit.specs.Values.{value_of}
use Rattle.lx_circuit.specs.Circuit.{Step, IsView}
use Rattle.lx_circuit.specs.Fitting.{StepsFit, InputsFit, ValuesFit}
use Rattle.lx_circuit.specs.Terms.{Term}
use Rattle.lx_circuit.specs.Statements as tree
use Rattle.lx_fhdl.specs.Below.{expr_below, target_below, stmt_below}
use Rattle.lx_fhdl.specs.Designs as design
use Rattle.lx_fhdl.specs.Keeping.{Keeps}
use Rattle.lx_fhdl.specs.Kept.{is_kept}
use Rattle.lx_fhdl.specs.Nodes.{IsSmall, IsShaped, IsValued, shape_at, value_at, listed}
use Rattle.lx_fhdl.specs.Stmts.{node_target, target_at, node_stmt, stmt_at}
use Rattle.lx_fhdl.specs.Trees.{node_term, term_at}
use Rattle.lx_fhdl.specs.declared.exprs.SigId.{SigId}
use Rattle.lx_fhdl.specs.declared.design.Domain.{Domain}
use Rattle.lx_fhdl.specs.declared.design.Design.{Design}
use Rattle.lx_fhdl.specs.declared.stmts.Target.{Target}
use Rattle.lx_fhdl.specs.declared.stmts.Stmt.{Stmt}
use Rattle.lx_fhdl.specs.declared.exprs.Expr.{Expr}
use Rattle.lx_fhdl.specs.declared.exprs.Expr.TheVariants.{Sig}

-- the tree at a place is made of the trees of its node's children
abbrev pub TreesStand : Type 0
TreesStand = (xs : List Expr) → EachLower expr_below xs → (k : ℕ) (x : Expr) → slice_get xs k ≡ Some x → term_at xs k ≡ node_term (term_at xs) x

abbrev pub OfSignal : Shapes → Shape → Expr → Type 0
OfSignal s a (Sig y) = a ≡ s y.0
OfSignal s a _ = Unit {0}

-- nodes that name a signal have the signal's shape
abbrev pub GivesShapes : Shapes → List Expr → List Shape → Type 0
GivesShapes s xs hs = (k : ℕ) (x : Expr) → slice_get xs k ≡ Some x → OfSignal s (shape_at hs k) x

-- what stands for a node is the shape and the value of its tree, which has no fault
pub record MeansTree (s : Shapes) (xs : List Expr) (hs : List Shape) (vals known : List ℤ) (k : ℕ) : Type 0 where
  pub shape : shape_of s (term_at xs k) ≡ shape_at hs k
  pub fault : fault_of s (term_at xs k) ≡ None
  pub value : value_of s (listed vals) (term_at xs k) ≡ value_at known k

abbrev pub ValuesStand : Type 0
ValuesStand =
    (s : Shapes) (xs : List Expr) (hs : List Shape) (vals known : List ℤ)
    → EachLower expr_below xs → IsShaped xs hs vals → GivesShapes s xs hs
    → ((k : ℕ) → k < length xs → IsValued xs hs vals known k)
    → (k : ℕ) → k < length xs → MeansTree s xs hs vals known k

-- the target and the statement at a place are made of those of their nodes' parts
abbrev pub TargetsStand : Type 0
TargetsStand = (t : ℕ → Term) (xs : List Target) → EachLower target_below xs → (k : ℕ) (x : Target) → slice_get xs k ≡ Some x → target_at t xs k ≡ node_target t (target_at t xs) x

abbrev pub StmtsStand : Type 0
StmtsStand = (t : ℕ → Term) (g : ℕ → tree.Target) (xs : List Stmt) → EachLower stmt_below xs → (k : ℕ) (x : Stmt) → slice_get xs k ≡ Some x → stmt_at t g xs k ≡ node_stmt t g (stmt_at t g xs) x

-- signals fit their shapes, words and what ports show their memories; every expression has 1 to 127 bits, which its
-- value fits
pub record AllFit (d : Design) (v : Values) : Type 0 where
  pub places : ValuesFit (design.circuit_of d) v
  pub small : (k : ℕ) → k < length d.exprs → IsSmall (shape_of (design.shapes d) (design.term d k))
  pub exprs : (k : ℕ) → k < length d.exprs → Fits (shape_of (design.shapes d) (design.term d k)) (value_of (design.shapes d) v (design.term d k))

-- In each view of a design all values fit.
abbrev pub DesignsFit : Type 0
DesignsFit =
    (d : Design) → Keeps d → (steps : List Step) (inputs : Values)
    → StepsFit (design.circuit_of d) steps → InputsFit (design.circuit_of d) inputs
    → (v : Values) → IsView (design.circuit_of d) steps inputs v → AllFit d v

-- The test of what a design keeps is never true of another design.
abbrev pub TestHolds : Type 0
TestHolds = (d : Design) → is_kept d ≡ true → Keeps d

-- No signal is the reset of two domains.
abbrev pub ResetsDiffer : Type 0
ResetsDiffer =
    (d : Design) → Keeps d → (j k : ℕ) (x y : Domain) (r : SigId)
    → slice_get d.domains j ≡ Some x → slice_get d.domains k ≡ Some y
    → x.reset ≡ Some r → y.reset ≡ Some r → j ≡ k
