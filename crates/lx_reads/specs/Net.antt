-- What signals read through expressions, conditions and assignments, as rows of numbers: below the number n of signals
-- a number is a signal, and from n on it is the row at this place, which reads signals and lower rows.
use Rattle.std.specs.Prelude.{◌≡◌, ℕ, Bool, false, ◌+◌, ◌-◌, ◌<◌, ◌≤◌, ◌^◌, ◌&&◌, ◌||◌, List, [], ◌∷◌, ◌++◌, Option, Some, None, length, map, nat_eq, nat_lt, slice_get, if◌then◌else◌}
use Rattle.std.specs.List.{list_all, list_any}
use Rattle.lx_arena.specs.Folds.{fold_at}
use Rattle.lx_arena.specs.Lower.{EachLower}
use Rattle.lx_circuit.specs.Places.{At}
use Rattle.lx_circuit.specs.Reads.{names}
use Rattle.lx_fhdl.specs.Below.{ExprId}
use Rattle.lx_fhdl.specs.Designs.{term}
use Rattle.lx_fhdl.specs.Keeping.{Keeps}
use Rattle.lx_fhdl.specs.declared.design.Design.{Design}
use Rattle.lx_fhdl.specs.declared.exprs.Expr.{Expr}
use Rattle.lx_fhdl.specs.declared.exprs.Expr.TheVariants.{Const, Sig, Unary, Binary, Mux, Cat, Pick, Replicate, Slice, Fetch}
use Rattle.lx_reads.specs.Drivings.{Driving}
use Rattle.lx_reads.specs.declared.net.Driven.{Driven}
use Rattle.lx_reads.specs.declared.net.Net.{Net}

-- ---- rows

-- number j names signal y: it is y, or a row that does
abbrev pub link_hits : ℕ → ℕ → (ℕ → Bool) → ℕ → Bool
link_hits n y f j = if nat_lt j n then nat_eq j y else f (j - n)

abbrev pub row_hits : ℕ → ℕ → (ℕ → Bool) → List ℕ → Bool
row_hits n y f row = list_any (link_hits n y f) row

-- the row at a place names signal y, itself or through lower rows
unfoldable pub hits : ℕ → List (List ℕ) → ℕ → ℕ → Bool
hits n rows y k = fold_at false (row_hits n y) rows k

-- a number of a signal or of a row names signal y
abbrev pub reaches : ℕ → List (List ℕ) → ℕ → ℕ → Bool
reaches n rows y j = link_hits n y (hits n rows y) j

-- a row reads signals and rows below k alone
abbrev pub row_below : ℕ → List ℕ → ℕ → Bool
row_below n row k = list_all (λ j. nat_lt j (n + k)) row

-- ---- expressions

abbrev pub inner : ℕ → ExprId → ℕ
inner n id = n + id.place

-- the row of an expression
abbrev pub expr_row : ℕ → Expr → List ℕ
expr_row n (Const value bits signed) = []
expr_row n (Sig x) = x.0 ∷ []
expr_row n (Unary op of) = inner n of ∷ []
expr_row n (Binary op left right) = inner n left ∷ inner n right ∷ []
expr_row n (Mux cond then_ else_) = inner n cond ∷ inner n then_ ∷ inner n else_ ∷ []
expr_row n (Cat parts) = map (inner n) parts
expr_row n (Pick items index) = map (inner n) items ++ inner n index ∷ []
expr_row n (Replicate of count) = inner n of ∷ []
expr_row n (Slice of low high) = inner n of ∷ []
expr_row n (Fetch memory width at) = inner n at ∷ []

-- the rows of the first k expressions
pub record AreExprRows (d : Design) (k : ℕ) (rows : List (List ℕ)) : Type 0 where
  pub long : length rows ≡ k
  pub lower : EachLower (row_below (length d.signals)) rows
  pub names : (y j : ℕ) → j < k → hits (length d.signals) rows y j ≡ names (At y) (term d j)

-- ---- the net of a design

abbrev pub signals_of : Design → ℕ
signals_of d = length d.signals

-- what is read through the number of a net
abbrev pub net_reaches : Design → Net → ℕ → ℕ → Bool
net_reaches d net y j = reaches (signals_of d) net.rows y j

-- a signal that is driven reads y
abbrev pub driven_reads : Design → Net → ℕ → ℕ → Driven → Bool
driven_reads d net x y a = nat_eq a.signal x && net_reaches d net y a.node

-- signal x reads signal y in what the net has
unfoldable pub net_reads : Design → Net → ℕ → ℕ → Bool
net_reads d net x y = list_any (driven_reads d net x y) net.driven

abbrev pub driving_of : Driven → Driving
driving_of a = record { signal = a.signal; driver = a.driver; line = a.line }

abbrev pub net_drivings : Net → List Driving
net_drivings net = map driving_of net.driven

-- a number of a signal or of one of the rows
abbrev pub IsNumber : Design → Net → ℕ → Type 0
IsNumber d net j = j < signals_of d + length net.rows

-- the rows of all expressions come first; what is driven has its row
pub record IsNet (d : Design) (net : Net) : Type 0 where
  pub keeps : Keeps d
  pub lower : EachLower (row_below (signals_of d)) net.rows
  pub fits : signals_of d + length net.rows ≤ 2 ^ 64
  pub exprs : length d.exprs ≤ length net.rows
  pub names : (y k : ℕ) → k < length d.exprs → hits (signals_of d) net.rows y k ≡ names (At y) (term d k)
  pub nodes : (k : ℕ) (a : Driven) → slice_get net.driven k ≡ Some a → IsNumber d net a.node
  pub there : (k : ℕ) (a : Driven) → slice_get net.driven k ≡ Some a → a.signal < signals_of d

-- the condition under which statements stand, where there is one
abbrev pub above : Design → Net → Option ℕ → ℕ → Bool
above d net None y = false
above d net (Some j) y = net_reaches d net y j

abbrev pub IsAround : Design → Net → Option ℕ → Type 0
IsAround d net None = Unit {0}
IsAround d net (Some j) = IsNumber d net j

-- ---- growth

-- what was there names the same signals
pub record NetGrows (d : Design) (old new : Net) : Type 0 where
  pub longer : length old.rows ≤ length new.rows
  pub same : (y j : ℕ) → IsNumber d old j → net_reaches d new y j ≡ net_reaches d old y j

-- what is still to be added: what is driven, and what is read
pub record Todo : Type 0 where
  pub drivings : List Driving
  pub reads : ℕ → ℕ → Bool

abbrev pub nothing : Todo
nothing = record { drivings = []; reads = λ x y. false }

-- of what was to be added before, this is left
pub record Goes (d : Design) (old new : Net) (before after : Todo) : Type 0 where
  pub net : IsNet d new
  pub grows : NetGrows d old new
  pub drivings : net_drivings new ++ after.drivings ≡ net_drivings old ++ before.drivings
  pub reads : (x y : ℕ) → (net_reads d new x y || after.reads x y) ≡ (net_reads d old x y || before.reads x y)

-- all of it is there
abbrev pub Adds : Design → Net → Net → Todo → Type 0
Adds d old new todo = Goes d old new todo nothing
