-- Which places a signal reads in the same moment, and an order of these reads.
use Rattle.std.specs.Prelude.{◌≡◌, ℕ, Bool, true, false, ◌<◌, ◌&&◌, ◌||◌}
use Rattle.lx_circuit.specs.Places.{Place, At, Word, Kept, is_at, is_word, is_kept}
use Rattle.lx_circuit.specs.Terms.{Term, Terms, Constant, Signal, Unary, Binary, Mux, Cat, Replicate, Slice, Pick, Fetch, NoTerm, MoreTerms}
use Rattle.lx_circuit.specs.Statements.{Target, Targets, Whole, Part, CatTarget, PickTarget, NoTarget, MoreTargets, Stmt, Assign, If, Case, Branches, NoBranch, Branch, Arms, NoArm, Arm, Block, Done, Then, is_target, drives_block, drives_branch, drives_arm}
use Rattle.lx_circuit.specs.Memories.{Mode, Async, WriteFirst, Port}
use Rattle.lx_circuit.specs.Circuit.{Circuit, Role, Read, role, port_at}

-- an expression names a place: a signal, or a word of a memory, whatever its index is
abbrev mutual
  pub names : Place → Term → Bool
  names y (Constant value shape) = false
  names y (Signal x) = is_at x y
  names y (Unary op a) = names y a
  names y (Binary op a b) = names y a || names y b
  names y (Mux c a b) = names y c || (names y a || names y b)
  names y (Cat parts) = some_names y parts
  names y (Replicate a count) = names y a
  names y (Slice a low high) = names y a
  names y (Pick items index) = some_names y items || names y index
  names y (Fetch m width at) = is_word m y || names y at

  pub some_names : Place → Terms → Bool
  some_names y NoTerm = false
  some_names y (MoreTerms t ts) = names y t || some_names y ts

-- an index that stands anywhere in a target names a place
abbrev mutual
  pub target_names : Place → Target → Bool
  target_names y (Whole x) = false
  target_names y (Part x low len) = false
  target_names y (CatTarget parts) = targets_name y parts
  target_names y (PickTarget items index) = targets_name y items || names y index

  pub targets_name : Place → Targets → Bool
  targets_name y NoTarget = false
  targets_name y (MoreTargets t ts) = target_names y t || targets_name y ts

-- Signal x reads y: an assignment to any bit of x has y in its right side, in an index of its target,
-- or in a condition that decides whether it is taken.
abbrev mutual
  pub reads : ℕ → Place → Stmt → Bool
  reads x y (Assign t e) = is_target x t && (names y e || target_names y t)
  reads x y (If bs rest) = reads_branch x y bs (drives_block x rest) (reads_block x y rest)
  reads x y (Case on arms rest) = (names y on && (drives_arm x arms || drives_block x rest)) || (reads_arm x y arms || reads_block x y rest)

  -- whether the rest drives x, and whether x reads y there
  pub reads_branch : ℕ → Place → Branches → Bool → Bool → Bool
  reads_branch x y NoBranch driven read = read
  reads_branch x y (Branch c b more) driven read =
      (names y c && (drives_block x b || (drives_branch x more || driven))) || (reads_block x y b || reads_branch x y more driven read)

  pub reads_arm : ℕ → Place → Arms → Bool
  reads_arm x y NoArm = false
  reads_arm x y (Arm key b more) = reads_block x y b || reads_arm x y more

  pub reads_block : ℕ → Place → Block → Bool
  reads_block x y Done = false
  reads_block x y (Then s ss) = reads x y s || reads_block x y ss

-- what dat_r of a port shows in the same moment
abbrev pub shown_reads : ℕ → Place → Port → Mode → Bool
shown_reads j y q Async = is_at q.adr y || is_word q.memory y
shown_reads j y q WriteFirst = is_kept j y || is_word q.memory y
shown_reads j y q _ = is_kept j y

abbrev pub role_reads : Circuit → Place → Role → Bool
role_reads c y (Read j) = shown_reads j y (port_at c j) (port_at c j).mode
role_reads c y _ = false

-- Signal x reads y in a circuit: in an assignment, or as dat_r of a port.
abbrev pub reads_in : Circuit → ℕ → Place → Bool
reads_in c x y = reads_block x y c.comb || role_reads c y (role c x)

-- words and what ports keep read nothing
abbrev pub reads_at : Circuit → Place → Place → Bool
reads_at c (At x) y = reads_in c x y
reads_at c (Word m k) y = false
reads_at c (Kept j) y = false

-- An order in which each signal stands after what it reads: no signal reads itself through others.
pub record HasOrder (c : Circuit) : Type 0 where
  pub rank : Place → ℕ
  pub after : (x : ℕ) (y : Place) → reads_in c x y ≡ true → rank y < rank (At x)
